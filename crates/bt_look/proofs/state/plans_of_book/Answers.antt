use Rattle.std.proofs.Common.{◌<◌, ◌≤◌, ◌++◌, [], ap, ◌∙◌, length, arith}
use Rattle.bt_words.proofs.Extending.{all_of, one_more}
use Rattle.bt_history.specs.Changes.{plans}
use Rattle.bt_demand.specs.declared.plan.Plan.{Plan}
use Rattle.bt_look.specs.State.{plan_line}
use Rattle.bt_look.proofs.state.plans_of_book.Goals as goal

-- the line of one plan more
pub loop-place-preserved : goal.loop-place-preserved
loop-place-preserved g c =
    let all = plans c.args.book.now.state.changes in
    let within : c.loop-place.place < length all = omega arith in
    one_more plan_line all c.loop-place.place _ [] _ _ within c.loop-place.invariant
    (c.in_ok-add_plan.ensures ∙ ap (λ (p : Plan). c.loop-place.text.items ++ plan_line p) c.plan.ensures.plan)

-- of all
pub returns : goal.returns
returns g c =
    let all = plans c.args.book.now.state.changes in
    let past : length all ≤ c.loop-place.place = omega arith in
    record { text = all_of plan_line all c.loop-place.place [] _ past c.loop-place.invariant }

use Rattle.std.proofs.Common.{sym, ap, ◌∙◌, arith, eq-eqb}
use Rattle.bt_demand.specs.declared.plan.Plan.{Plan}
use Rattle.bt_look.specs.Installed.{plan_at}
use Rattle.bt_look.proofs.Places.{asked_at, asked_nowhere}
use Rattle.bt_look.proofs.installed.place_of.Goals as goal

-- the plan at this place is the first of that edition
pub returns-then-plan-number-clause-plan : goal.returns-then-plan-number-clause-plan
returns-then-plan-number-clause-plan g c =
    let changes = c.args.book.now.state.changes in
    let place = c.loop-place.place in
    asked_at changes c.args.number place c.loop-place.invariant.begun (omega arith) c.loop-place.invariant.before (eq-eqb (plan_at changes place).edition.0 c.args.number.0 (ap (λ (plan : Plan). plan.edition.0) (sym c.plan.ensures.plan) ∙ c.if-plan-number.true))

-- none is
pub returns-clause-plan : goal.returns-clause-plan
returns-clause-plan g c =
    let changes = c.args.book.now.state.changes in
    asked_nowhere changes c.args.number (λ k within some. c.loop-place.invariant.before k (omega (arith, within)) some)

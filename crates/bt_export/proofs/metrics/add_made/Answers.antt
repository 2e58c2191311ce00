use Rattle.std.proofs.Common.{◌++◌, List, ℕ, codes, length, ap, ◌∙◌}
use Rattle.bt_demand.specs.declared.plan.Plan.{Plan}
use Rattle.bt_history.specs.Changes.{edition, newest}
use Rattle.bt_words.proofs.Extending.{two_behind}
use Rattle.bt_export.specs.Metrics.{gauge_lines}
use Rattle.bt_export.proofs.Gauges.{behind, same_gauge, same_gauge_ok}
use Rattle.bt_export.proofs.metrics.add_made.Goals as goal

-- one gauge behind the other, of the numbers of the book and of its newest plan
pub returns : goal.returns
returns g c =
    let changes = c.args.book.now.state.changes in
    let plan = newest changes in
    let is = c.newest-plan.ensures.newest in
    let last = c.add_gauge-5.result in
    let o : List ℕ = c.args.out.now.items in
    let n1 : List ℕ = c.add_gauge.new.out.items in
    let n2 : List ℕ = c.add_gauge-2.new.out.items in
    let n3 : List ℕ = c.add_gauge-3.new.out.items in
    let n4 : List ℕ = c.add_gauge-4.new.out.items in
    let end : List ℕ = c.add_gauge-5.new.out.items in
    let name1 : List ℕ = codes "nozgurt_edition" in
    let help1 : List ℕ = codes "Edits of the demand that were made." in
    let name2 : List ℕ = codes "nozgurt_plan_edition" in
    let help2 : List ℕ = codes "Edition of the newest plan." in
    let name3 : List ℕ = codes "nozgurt_plan_slots" in
    let help3 : List ℕ = codes "Slots of a frame that the newest plan takes." in
    let name4 : List ℕ = codes "nozgurt_plan_modes" in
    let help4 : List ℕ = codes "Switching modes of the newest plan." in
    let name5 : List ℕ = codes "nozgurt_plan_bursts" in
    let help5 : List ℕ = codes "Bursts of the newest plan." in
    let modes = ap length c.as_slice.ensures.same ∙ ap (λ (p : Plan). length p.schedule.modes) is in
    let bursts = ap length c.as_slice-bursts.ensures.same ∙ ap (λ (p : Plan). length p.bursts) is in
    let g1 : List ℕ = gauge_lines name1 help1 (edition changes) in
    let g2 : List ℕ = gauge_lines name2 help2 plan.edition.0 in
    let g3 : List ℕ = gauge_lines name3 help3 plan.schedule.length in
    let g4 : List ℕ = gauge_lines name4 help4 (length plan.schedule.modes) in
    let g5 : List ℕ = gauge_lines name5 help5 (length plan.bursts) in
    let one = same_gauge o n1 name1 help1 c.from.result (edition changes) (c.from.ensures ∙ c.edition.ensures.edition) c.in_ok-add_gauge.ensures in
    let two = two_behind o n1 n2 g1 g2 one (same_gauge n1 n2 name2 help2 c.from-2.result plan.edition.0 (c.from-2.ensures ∙ ap (λ (p : Plan). p.edition.0) is) c.in_ok-add_gauge-2.ensures) in
    let three = two_behind o n2 n3 (g1 ++ g2) g3 two (same_gauge n2 n3 name3 help3 c.from-3.result plan.schedule.length (c.from-3.ensures ∙ ap (λ (p : Plan). p.schedule.length) is) c.in_ok-add_gauge-3.ensures) in
    let four = two_behind o n3 n4 (g1 ++ g2 ++ g3) g4 three (same_gauge n3 n4 name4 help4 (length c.as_slice.result.now) (length plan.schedule.modes) modes c.in_ok-add_gauge-4.ensures) in
    behind last o n4 end (g1 ++ g2 ++ g3 ++ g4) g5 four (same_gauge_ok last n4 end name5 help5 (length c.as_slice-bursts.result.now) (length plan.bursts) bursts c.add_gauge-5.ensures)

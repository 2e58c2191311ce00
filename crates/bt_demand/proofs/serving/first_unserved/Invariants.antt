use Rattle.std.proofs.Common.{◌<◌}
use Rattle.bt_frame.specs.declared.numbers.TermNo.{TermNo}
use Rattle.bt_demand.specs.Rows.{all_links}
use Rattle.bt_demand.specs.PlanVerdict.{IsServed}
use Rattle.bt_demand.proofs.serving.first_unserved.Given as goal

-- the links from the terminals so far have the slots that they ask for
abbrev pub invariant-loop-from : goal.invariant-loop-from
invariant-loop-from l = (from to : TermNo) → from.0 < l.from → to.0 < l.count → IsServed (all_links l.rows) l.bursts from to

-- and so have those from this one to the terminals so far
abbrev pub invariant-loop-to : goal.invariant-loop-to
invariant-loop-to l = (to : TermNo) → to.0 < l.to → IsServed (all_links l.rows) l.bursts (record { 0 = l.from }) to

use Rattle.std.proofs.Common.{◌≡◌}
use Rattle.bt_machines.specs.Plans.{has_burst, plan_of}
use Rattle.bt_site.proofs.Needs.{those_from}
use Rattle.bt_site.proofs.plans.Plans.needs.Given as goal

-- the set has those of the terminals from the number on
abbrev pub invariant-loop-number : goal.invariant-loop-number
invariant-loop-number l = l.needs ≡ those_from (has_burst (plan_of l.self.all l.edition)) l.self.terminals l.number

use Rattle.std.proofs.Common.{◌≡◌, ◌+◌, ◌-◌, ◌≤◌, ◌++◌, filter, vec_len, vec_capacity}
use Rattle.bt_machines.specs.Terminals.{terminals_of}
use Rattle.bt_machines.specs.Plans.{has_burst, plan_of}
use Rattle.bt_machines.specs.Says.{plans_for}
use Rattle.bt_site.proofs.says.send_needed.Given as goal

-- what was sent so far, and room for the rest
abbrev pub invariant-loop-number : goal.invariant-loop-number
invariant-loop-number l = record {
  said : l.sent.items ≡ l.initial.sent.items ++ plans_for (filter (has_burst (plan_of l.plans.all l.edition)) (terminals_of l.number)) l.load l.edition;
  room : vec_len l.sent + (l.plans.terminals - l.number) ≤ vec_capacity l.sent;
}

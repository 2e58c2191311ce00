use Rattle.std.proofs.Common.{◌≡◌, map, take, All}
use Rattle.bt_demand.specs.declared.plan.Plan.{Plan}
use Rattle.bt_machines.specs.Plans.{IsStored}
use Rattle.bt_site.specs.Shares.{shares_of}
use Rattle.bt_site.proofs.plans.Plans.of.Given as goal

-- the plans so far, each as it is kept
abbrev pub invariant-loop-plan : goal.invariant-loop-plan
invariant-loop-plan l = record {
  editions : l.editions.items ≡ map (λ (plan : Plan). plan.edition) (take l.plan-index l.plans);
  shares : l.shares.items ≡ map (λ (plan : Plan). shares_of l.terminals plan.bursts) (take l.plan-index l.plans);
  told : map (λ (one : Plan × Unit {0}). one.0) l.installed ≡ take l.plan-index l.plans;
  stored : All IsStored (take l.plan-index l.plans);
}

use Rattle.std.proofs.Common.{◌≡◌}
use Rattle.bt_round.specs.Callers.{IsSameCaller, own_of}
use Rattle.bt_round.specs.Done.{PlannerDone}
use Rattle.bt_round.specs.Planned.{HasPosted}
use Rattle.bt_round.proofs.planner.run_planner.Given as goal

-- the lines so far were done
abbrev pub invariant-loop : goal.invariant-loop
invariant-loop g l = record {
  same : IsSameCaller l.fn.caller l.caller;
  board : l.publisher.board ≡ l.fn.publisher.board;
  posted : HasPosted l.caller l.publisher.plans;
  done : PlannerDone l.net l.counter l.fn.publisher.plans l.publisher.plans (own_of l.fn.caller) (own_of l.caller) l.fn.text.items l.text.items;
}

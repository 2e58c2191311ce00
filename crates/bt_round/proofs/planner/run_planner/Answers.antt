-- one line more
use Rattle.std.proofs.Common.{refl, ◌∙◌}
use Rattle.bt_round.specs.Callers.{own_of}
use Rattle.bt_round.proofs.Asking.{same_as_now, same_network, still_same}
use Rattle.bt_round.proofs.PlannerLines.{planner_begins, planner_goes_on}
use Rattle.bt_round.proofs.planner.run_planner.Goals as goal

pub loop-init : goal.loop-init
loop-init g c = record {
  same = same_as_now c.args.caller.now;
  board = refl;
  posted = c.requires.posted;
  done = planner_begins c.args.net.now c.args.publisher.now.plans (own_of c.args.caller.now) c.args.text.now.items;
}

pub plan_once-requires-clause-network : goal.plan_once-requires-clause-network
plan_once-requires-clause-network g c = same_network c.args.caller.now c.loop.caller c.args.net.now c.loop.invariant.same c.requires.network

pub plan_once-requires-clause-number : goal.plan_once-requires-clause-number
plan_once-requires-clause-number g c = c.loop.invariant.same.place.number_is ∙ c.requires.number

pub loop-preserved : goal.loop-preserved
loop-preserved g c = record {
  same = still_same c.args.caller.now c.loop.caller c.plan_once.new.caller c.loop.invariant.same c.plan_once.ensures.same;
  board = c.plan_once.ensures.board ∙ c.loop.invariant.board;
  posted = c.in_ok-plan_once.ensures.posted;
  done = planner_goes_on c.args.net.now c.loop.counter 1 _ _ _ _ _ _ _ _ _ c.loop.invariant.done c.in_ok-plan_once.ensures.done;
}

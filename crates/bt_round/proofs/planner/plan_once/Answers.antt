-- what is seen is the last that the planner has asked, and is planned
use Rattle.std.proofs.Common.{◌∙◌}
use Rattle.bt_round.specs.Callers.{own_of}
use Rattle.bt_round.proofs.Asking.{same_network, still_same}
use Rattle.bt_round.proofs.OnOk.{on_ok}
use Rattle.bt_round.proofs.PlannerLines.{saw_more}
use Rattle.bt_round.proofs.planner.plan_once.Goals as goal

pub plan_seen-requires : goal.plan_seen-requires
plan_seen-requires g c =
    let seen = c.in_ok-seen.ensures in
    record {
      network = same_network c.args.caller.now c.ask.new.self c.args.net.now seen.same c.requires.network;
      number = seen.same.place.number_is ∙ c.requires.number;
      posted = saw_more c.args.caller.now c.ask.new.self c.args.publisher.now.plans c.in_ok-seen.seen seen.same seen.kept seen.call c.requires.posted;
      seen = record { caller = seen.caller ∙ c.requires.number; call = seen.call; asker = c.args.caller.now; answered = seen.answered };
    }

pub returns-clause-same : goal.returns-clause-same
returns-clause-same g c = still_same c.args.caller.now c.ask.new.self c.plan_seen.new.caller c.in_ok-seen.ensures.same c.plan_seen.ensures.same

pub returns-clause-done : goal.returns-clause-done
returns-clause-done g c = on_ok c.plan_seen.result c.plan_seen.ensures.done (λ done. done (own_of c.args.caller.now) c.in_ok-seen.ensures.kept)

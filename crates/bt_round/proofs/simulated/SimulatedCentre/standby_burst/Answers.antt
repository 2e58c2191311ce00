use Rattle.std.proofs.lemmas.Result.{on_ok_weaker}
use Rattle.bt_round.specs.Simulated.{SimulatedAir}
use Rattle.bt_round.proofs.Bridging.{bridges, burst-meets, burst-plays}
use Rattle.bt_round.proofs.simulated.SimulatedCentre.standby_burst.Goals as goal

pub happen-requires-clause-meets : goal.happen-requires-clause-meets
happen-requires-clause-meets g c =
    let inside : SimulatedAir = record { life = c.self.inside.world; waiting = c.self.inside.waiting; back = c.self.inside.back; standby = c.self.inside.standby } in
    burst-meets inside c.args.self.now c.mark.result c.names-in_force.result c.self.view_is c.mark.ensures.mark c.names-in_force.ensures.named c.self.invariant.standby

pub returns-clause-played : goal.returns-clause-played
returns-clause-played g c =
    let inside : SimulatedAir = record { life = c.self.inside.world; waiting = c.self.inside.waiting; back = c.self.inside.back; standby = c.self.inside.standby } in
    on_ok_weaker c.tell_sent.result
    (λ added. burst-plays c.args.net.now c.args.self.now c.happen.new.self c.names-in_force.result c.sent_count-first.result c.args.text.now.items
    c.standby_burst_text.new.out.items c.tell_sent.new.text.items
    (bridges inside c.args.self.now c.mark.result c.names-in_force.result c.self.view_is c.mark.ensures.mark c.names-in_force.ensures.named)
    c.in_ok-happen.ensures.air c.sent_count-first.ensures c.in_ok-standby_burst_text.ensures.added added)
    c.tell_sent.ensures

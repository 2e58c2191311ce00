use Rattle.bt_round.proofs.Running.{Steps, counted-steps, running-now}
use Rattle.bt_round.proofs.simulated.SimulatedCentre.happen.Goals as goal

pub invariant_of-self-2 : goal.invariant_of-self-2
invariant_of-self-2 g c =
    let steps : Steps c.args.self.now c.self.inside.world c.step.new.self c.self.inside.waiting c.add_sent.new.self c.self.inside.back c.self.inside.standby c.args.event =
    counted-steps c.args.self.now c.self.inside.world c.step.new.self c.self.inside.waiting c.add_sent.new.self c.self.inside.back c.self.inside.standby c.args.event c.args.net.now
    c.terminal_count-terminals.result c.sent_count-first.result c.self.view_is c.in_ok-shown.ensures.event c.requires.network c.terminal_count-terminals.ensures.count
    c.sent_count-first.ensures.count c.in_ok-add_sent.ensures.ok in
    running-now c.plans_stay.ensures.stay c.args.self.now c.self.inside.world c.step.new.self c.self.inside.waiting c.add_sent.new.self c.self.inside.back c.self.inside.standby c.args.event steps c.self.invariant c.requires.meets

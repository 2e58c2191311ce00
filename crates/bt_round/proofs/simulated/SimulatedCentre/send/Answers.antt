use Rattle.std.proofs.lemmas.Result.{on_ok_weaker}
use Rattle.bt_round.proofs.Running.{sent-text}
use Rattle.bt_round.proofs.simulated.SimulatedCentre.send.Goals as goal

pub returns-clause-text : goal.returns-clause-text
returns-clause-text g c =
    on_ok_weaker c.tell_sent.result
    (λ added. sent-text c.args.net.now c.args.self.now c.happen.new.self c.args.event c.sent_count-first.result c.args.text.now.items c.tell_sent.new.text.items
    c.in_ok-happen.ensures.air c.sent_count-first.ensures added)
    c.tell_sent.ensures

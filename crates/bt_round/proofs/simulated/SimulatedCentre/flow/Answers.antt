use Rattle.std.proofs.Common.{length, refl}
use Rattle.std.proofs.lemmas.Result.{on_ok_weaker}
use Rattle.bt_round.proofs.Flowing.{flowed}
use Rattle.bt_round.proofs.simulated.SimulatedCentre.flow.Goals as goal

pub returns-clause-played : goal.returns-clause-played
returns-clause-played g c =
    on_ok_weaker c.hear_waiting-2.result
    (λ came. flowed c.args.net.now c.args.self.now c.hear_waiting.new.self c.hear_waiting-2.new.self (length c.args.self.now.waiting) (length c.hear_waiting.new.self.waiting)
    c.args.text.now.items c.flow_text.new.out.items c.hear_waiting.new.text.items c.hear_waiting-2.new.text.items
    c.in_ok-flow_text.ensures.added refl refl c.in_ok-hear_waiting.ensures.came came)
    c.hear_waiting-2.ensures.came

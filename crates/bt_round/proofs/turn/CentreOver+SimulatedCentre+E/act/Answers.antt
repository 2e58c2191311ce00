use Rattle.std.proofs.lemmas.Result.{on_ok_weaker}
use Rattle.bt_round.specs.AirLines.{back_of, mark_of, newest_in, turn_text_by}
use Rattle.bt_round.proofs.Turning.{turn-told}
use Rattle.bt_round.proofs.turn.CentreOver+SimulatedCentre+E.act.Goals as goal

pub returns-clause-text : goal.returns-clause-text
returns-clause-text g c =
    on_ok_weaker c.turn_to.result
    (λ added. turn-told c.args.net.now c.args.self.now c.target-target.result c.args.text.now.items c.tell_turn.new.text.items c.turn_to.new.text.items
    (turn_text_by (mark_of c.args.self.now) (back_of c.args.self.now) (newest_in c.args.self.now)) c.target-target.ensures.target c.in_ok-tell_turn.ensures.added added)
    c.turn_to.ensures.text

use Rattle.std.proofs.lemmas.Result.{on_ok_weaker}
use Rattle.bt_round.specs.Callers.{own_of}
use Rattle.bt_round.proofs.Turning.{turn-marked, turn-unmarked}
use Rattle.bt_round.proofs.turn.CentreOver+SimulatedCentre+E.turn.Goals as goal

pub returns-then-is_marked-clause-played : goal.returns-then-is_marked-clause-played
returns-then-is_marked-clause-played g c =
    on_ok_weaker c.take_turn.result
    (λ turn. turn-marked c.args.net.now c.is_marked.result c.args.self.now c.take_turn.new.self (own_of c.args.caller.now) (own_of c.take_turn.new.caller)
    c.args.text.now.items c.take_turn.new.text.items c.is_marked.ensures c.if-is_marked.true turn)
    c.take_turn.ensures.played

pub returns-else-is_marked-clause-played : goal.returns-else-is_marked-clause-played
returns-else-is_marked-clause-played g c =
    on_ok_weaker c.turn_nomark_text.result
    (λ added. turn-unmarked c.args.net.now c.is_marked.result c.args.self.now (own_of c.args.caller.now) c.args.text.now.items c.turn_nomark_text.new.out.items
    c.is_marked.ensures c.if-is_marked.false added)
    c.turn_nomark_text.ensures.added

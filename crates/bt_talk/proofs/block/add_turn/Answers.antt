-- the round of one line
use Rattle.std.proofs.Common.{[]}
use Rattle.std.proofs.lemmas.List.Elements.{All-cons, All-nil}
use Rattle.bt_script.specs.Said.{IsSaidFor}
use Rattle.bt_talk.proofs.block.add_turn.Goals as goal

pub add_round-requires-clause-round : goal.add_round-requires-clause-round
add_round-requires-clause-round c =
    let net = c.args.net.now in
    c.in_ok-round_in_front.ensures.terminals net (All-cons (IsSaidFor net) c.args.one.now [] c.requires.line (All-nil (IsSaidFor net)))

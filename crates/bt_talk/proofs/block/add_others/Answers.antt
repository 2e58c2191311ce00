-- the round of such lines
use Rattle.bt_talk.proofs.block.add_others.Goals as goal

pub add_round-requires-clause-round : goal.add_round-requires-clause-round
add_round-requires-clause-round c = c.in_ok-round_in_front.ensures.terminals c.args.net.now c.requires.terminals

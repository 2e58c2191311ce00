-- the round of such lines
use Rattle.bt_talk.proofs.block.part_of.Goals as goal

pub returns-clause-terminals : goal.returns-clause-terminals
returns-clause-terminals c = c.in_ok-round.ensures.terminals c.args.net.now c.requires.terminals

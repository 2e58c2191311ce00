use Rattle.bt_talk.proofs.InTurn.{turns_few}
use Rattle.bt_talk.proofs.block.turns_are_few.Goals as goal

pub returns : goal.returns
returns c = record { few = turns_few c.args.said.now }

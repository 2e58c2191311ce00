use Rattle.bt_trans.proofs.OneVerdict.{the_same}
use Rattle.bt_trans.proofs.laws.one_part_verdict.Goals as goal

pub returns : goal.returns
returns c = record { same = the_same }

use Rattle.bt_cut.proofs.Plans.{cutting_good}
use Rattle.bt_cut.proofs.laws.cuttings_are_good.Goals as goal

pub returns : goal.returns
returns c = record { good = cutting_good }

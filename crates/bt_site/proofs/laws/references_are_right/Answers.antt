use Rattle.bt_site.proofs.Standing.{references-announce, references-right}
use Rattle.bt_site.proofs.laws.references_are_right.Goals as goal

pub returns : goal.returns
returns c = record { announced = references-announce; right = references-right }

use Rattle.bt_site.proofs.Told.{second-said}
use Rattle.bt_site.proofs.laws.seconds_are_said.Goals as goal

pub returns : goal.returns
returns c = record { named = second-said }

use Rattle.bt_site.proofs.Sends.{transmits-said}
use Rattle.bt_site.proofs.laws.transmissions_are_said.Goals as goal

pub returns : goal.returns
returns c = record { bursts = transmits-said }

use Rattle.bt_machines.proofs.Ahead.{comes_to_the_front}
use Rattle.bt_machines.proofs.satellite_laws.armed_edition_comes_to_the_front.Goals as goal

pub returns : goal.returns
returns c = record { front = λ mark before events change. comes_to_the_front mark before events change }

use Rattle.bt_history.proofs.Histories.{beams_named}
use Rattle.bt_history.proofs.laws.replies_name_beams_of_the_network.Goals as goal

pub returns : goal.returns
returns c = record { beams = beams_named }

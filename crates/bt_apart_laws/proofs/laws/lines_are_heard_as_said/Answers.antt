use Rattle.bt_station.proofs.Said.{said-on_bus}
use Rattle.bt_apart_laws.proofs.Said.{said-read}
use Rattle.bt_apart_laws.proofs.laws.lines_are_heard_as_said.Goals as goal

pub returns : goal.returns
returns c = record { heard = said-on_bus; read = said-read }

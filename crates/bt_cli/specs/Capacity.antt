-- `capacity NET TRAFFIC`: the network is loaded, then the demand, and where it fits, what it asks of each beam is printed.
use Rattle.std.specs.Prelude.{◌≡◌, List}
use Rattle.bt_net.specs.Network.{Net}
use Rattle.bt_demand.specs.declared.demand.Link.{Link}
use Rattle.bt_demand.specs.Traffic.{matrix_of}
use Rattle.bt_look.specs.Room.{capacity_lines}
use Rattle.bt_report.specs.declared.status.TheConstants.{DONE}
use Rattle.bt_report.specs.Outcome.{Outcome, text_alone}

-- the text of what the demand asks of each beam, what is free there, and the room between each two, and nothing else
abbrev pub TellsCapacity : Net → List Link → Outcome → Type 0
TellsCapacity net links outcome = outcome ≡ text_alone (capacity_lines net (matrix_of net links)) DONE

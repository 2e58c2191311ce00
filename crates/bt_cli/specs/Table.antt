-- `traffic NET CSV`: the network is loaded, and then a table of links as CSV; and the demand that it says is printed as the text of its
-- links. Whether it fits the frame is not asked.
use Rattle.std.specs.Prelude.{◌≡◌, ℕ, List}
use Rattle.bt_net.specs.Network.{Net}
use Rattle.bt_demand.specs.declared.demand.Link.{Link}
use Rattle.bt_plan.specs.Reading.{Fault}
use Rattle.bt_timeline.specs.Replayed.{link_lines}
use Rattle.bt_export.specs.Table.{table_demand}
use Rattle.bt_report.specs.declared.status.TheConstants.{DONE}
use Rattle.bt_report.specs.Outcome.{Outcome, text_alone}
use Rattle.bt_load.specs.Files.{Kind}
use Rattle.bt_load.specs.Kinds.{network_file, text_file}
use Rattle.bt_load.specs.Lines.{code_name}
use Rattle.bt_load.specs.Loaders.{Loader, and_then, file}

-- a table of links on a network, whose faults are those of a traffic text, at the lines of the table
abbrev pub table_file : Net → Kind (List Link) Fault
table_file net = text_file code_name (table_demand net)

-- the network is loaded, and then the table
abbrev pub table_files : List ℕ → List ℕ → Loader (Net × List Link)
table_files net table = and_then (file network_file net) (λ network. file (table_file network) table)

-- the links of the demand, a line each, in the order in which `demand` prints them, and nothing else
abbrev pub PrintsTraffic : Net → List Link → Outcome → Type 0
PrintsTraffic net links outcome = outcome ≡ text_alone (link_lines net links) DONE

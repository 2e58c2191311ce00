-- A stop that names the first fault of a table of links, or of a text that is to be JSON, is one that its load may make.
use Rattle.std.proofs.Common.{ℕ, List, Option, inr}
use Rattle.bt_frame.specs.declared.limits.TheConstants.{MOST_FILE_BYTES, MOST_JOURNAL_BYTES}
use Rattle.bt_net.specs.Network.{Net}
use Rattle.bt_text.specs.Reading.{IsFaultOf}
use Rattle.bt_text.specs.declared.fault.LineFault.{LineFault}
use Rattle.bt_text.specs.declared.fault.LineFault.TheVariants as line_fault
use Rattle.bt_plan.specs.declared.text_fault.TextCode.{TextCode}
use Rattle.bt_export.specs.declared.json.JsonCode.{JsonCode}
use Rattle.bt_export.specs.Json.{json_of}
use Rattle.bt_export.specs.Table.{table_demand}
use Rattle.bt_report.specs.declared.report.Stop.{Stop}
use Rattle.bt_report.specs.declared.report.Stop.TheVariants as stop
use Rattle.bt_report.specs.Report.{StopIs}
use Rattle.bt_load.specs.Files.{IsContent, StopsAtLoad}
use Rattle.bt_load.specs.Lines.{code_name}
use Rattle.bt_load.specs.Stops.{NamesLineFault}
use Rattle.bt_cli.specs.Json.{json_code_name, json_file}
use Rattle.bt_cli.specs.Table.{table_file}

pub table_misspelt : (net : Net) (told : List ℕ → Option (List ℕ)) (failed : Type 0) (name bytes : List ℕ) (fault : LineFault TextCode) (why : Stop)
    → IsContent MOST_FILE_BYTES told name bytes → IsFaultOf (table_demand net bytes) fault → StopIs (NamesLineFault code_name fault) why → StopIs (StopsAtLoad (table_file net) told failed name) why
table_misspelt net told failed name bytes fault stop.OutOfMemory content is names = tt
table_misspelt net told failed name bytes (line_fault.At code line) (stop.Early report) content is names = inr (bytes, (code, line), content, is, names)
table_misspelt net told failed name bytes line_fault.OutOfMemory (stop.Early report) content is names = absurd names

pub json_misspelt : (told : List ℕ → Option (List ℕ)) (failed : Type 0) (name bytes : List ℕ) (fault : LineFault JsonCode) (why : Stop)
    → IsContent MOST_JOURNAL_BYTES told name bytes → IsFaultOf (json_of bytes) fault → StopIs (NamesLineFault json_code_name fault) why → StopIs (StopsAtLoad json_file told failed name) why
json_misspelt told failed name bytes fault stop.OutOfMemory content is names = tt
json_misspelt told failed name bytes (line_fault.At code line) (stop.Early report) content is names = inr (bytes, (code, line), content, is, names)
json_misspelt told failed name bytes line_fault.OutOfMemory (stop.Early report) content is names = absurd names

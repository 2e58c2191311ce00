-- `run` and `ladder NET OUTPUT [all] [FIRST-LAST] [NAME ..]`: the network is loaded, the names are looked up in it, then the output is loaded, and a
-- picture of it is printed.
use Rattle.std.specs.Prelude.{◌≡◌, ℕ, List, Bool, true, false, is_some}
use Rattle.std.specs.List.{list_all}
use Rattle.bt_net.specs.Network.{Net}
use Rattle.bt_net.specs.Terminals.{terminal_of}
use Rattle.bt_picture.specs.Picture.{Picture, picture_text}
use Rattle.bt_run_lines.specs.declared.printed.Printed.{Printed}
use Rattle.bt_run_chart.specs.Titles.{IsLadder, IsOfRun}
use Rattle.bt_report.specs.declared.status.TheConstants.{DONE}
use Rattle.bt_load.specs.Kinds.{network_file, output_file}
use Rattle.bt_load.specs.Loaders.{Loader, and_then, file, tested}
use Rattle.bt_report.specs.Faults.{SaysFaultyWords}
use Rattle.bt_report.specs.Outcome.{Outcome, text_alone}
use Rattle.bt_chart.specs.declared.run.Drawing.{Drawing}
use Rattle.bt_chart.specs.declared.run.Drawing.TheVariants as drawing

-- whether the word is the name of a terminal
abbrev pub is_terminal : Net → List ℕ → Bool
is_terminal net name = is_some (terminal_of net name)

-- each word is the name of a terminal
abbrev pub AreTerminals : List (List ℕ) → Net → Type 0
AreTerminals names net = list_all (is_terminal net) names ≡ true

-- some word is the name of none, and the words are at fault
abbrev pub FindsStranger : List (List ℕ) → Net → Outcome → Type 0
FindsStranger names net outcome = (list_all (is_terminal net) names ≡ false) × SaysFaultyWords outcome

-- a picture of a run that is drawn so
abbrev pub IsDrawnSo : Drawing → Picture → Type 0
IsDrawnSo drawing.Rows picture = IsOfRun picture
IsDrawnSo drawing.Ladder picture = IsLadder picture

-- the text of such a picture, and nothing else
abbrev pub DrawsRun : Drawing → Outcome → Type 0
DrawsRun so outcome = (picture : Picture) × IsDrawnSo so picture × (outcome ≡ text_alone (picture_text picture) DONE)

-- a network is loaded that has terminals of these names
abbrev pub chosen_file : List ℕ → List (List ℕ) → Loader Net
chosen_file net names = tested (AreTerminals names) (FindsStranger names) (file network_file net)

-- the network is loaded, and then the output
abbrev pub output_files : List ℕ → List ℕ → List (List ℕ) → Loader (Net × List Printed)
output_files net output names = and_then (chosen_file net names) (λ network. file (output_file network) output)

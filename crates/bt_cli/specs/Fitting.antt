-- A network and a demand on it: each from its file, and whether the demand fits the slots of the frame, looked at right after.
use Rattle.std.specs.Prelude.{ℕ, ◌<◌, List, [], ◌∷◌, codes, decimal}
use Rattle.bt_frame.specs.declared.schedule.Critical.{Critical}
use Rattle.bt_frame.specs.declared.schedule.Critical.TheVariants.{Row, Column}
use Rattle.bt_net.specs.Network.{Net}
use Rattle.bt_matrix.specs.Traffic.{IsHeaviest}
use Rattle.bt_demand.specs.declared.demand.Link.{Link}
use Rattle.bt_demand.specs.Traffic.{matrix_of, HasSumsTo}
use Rattle.bt_report.specs.declared.status.TheConstants.{FAULTY_TEXT}
use Rattle.bt_report.specs.Outcome.{Outcome, Says}
use Rattle.bt_load.specs.Kinds.{demand_file, network_file}
use Rattle.bt_load.specs.Loaders.{Loader, and_then, file, tested}

-- no line of the demand's matrix asks for more than the slots of a frame
abbrev pub Fits : Net → List Link → Type 0
Fits net links = HasSumsTo net.slots (matrix_of net links)

-- the words of a demand that does not fit: its heaviest line, with what it asks for
abbrev pub overload_words : Critical → ℕ → List (List ℕ)
overload_words (Row up) sum = codes "fault" ∷ codes "T6" ∷ codes "row" ∷ decimal up.0 ∷ decimal sum ∷ []
overload_words (Column down) sum = codes "fault" ∷ codes "T6" ∷ codes "column" ∷ decimal down.0 ∷ decimal sum ∷ []

-- the demand does not fit, and its heaviest line is named
abbrev pub NamesOverload : Net → List Link → Outcome → Type 0
NamesOverload net links outcome = (line : Critical) × (sum : ℕ) × IsHeaviest (matrix_of net links) line sum × (net.slots < sum) × Says (overload_words line sum) FAULTY_TEXT outcome

-- a demand that fits is loaded
abbrev pub fitting_file : Net → List ℕ → Loader (List Link)
fitting_file network traffic = tested (Fits network) (NamesOverload network) (file (demand_file network) traffic)

-- the network is loaded, and then a demand on it that fits
abbrev pub asked_files : List ℕ → List ℕ → Loader (Net × List Link)
asked_files net traffic = and_then (file network_file net) (λ network. fitting_file network traffic)

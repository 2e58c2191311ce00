-- A network and a demand on it, loaded before the rest of the work.
use Rattle.std.proofs.Common.{◌≡◌, ℕ, ◌≤◌, inr, List, Option, sym, ap, ◌∙◌, arith}
use Rattle.bt_outside.specs.Told.{Rose}
use Rattle.bt_frame.specs.declared.schedule.Critical.{Critical}
use Rattle.bt_net.specs.Network.{Net}
use Rattle.bt_matrix.specs.Traffic.{IsHeaviest}
use Rattle.bt_demand.specs.declared.demand.Link.{Link}
use Rattle.bt_demand.specs.Traffic.{matrix_of}
use Rattle.bt_words.specs.Lines.{line_of}
use Rattle.bt_report.specs.declared.report.Stop.{Stop}
use Rattle.bt_report.specs.declared.report.Stop.TheVariants.{Early, OutOfMemory}
use Rattle.bt_report.specs.declared.status.TheConstants.{FAULTY_TEXT}
use Rattle.bt_report.specs.Outcome.{Outcome, text_alone}
use Rattle.bt_report.specs.Report.{StopIs}
use Rattle.bt_load.specs.Files.{IsLoaded}
use Rattle.bt_load.specs.Kinds.{demand_file, network_file}
use Rattle.bt_load.specs.Loaders.{file}
use Rattle.bt_load.proofs.Loads.{StopsSooner, file_sooner, tested_sooner, then_stops}
use Rattle.bt_load.proofs.OneLoad.{IsLawful, file_lawful, tested_lawful, then_lawful}
use Rattle.bt_cli.specs.Fitting.{Fits, NamesOverload, asked_files, fitting_file, overload_words}

-- ---- from call to call

pub fitting_sooner : (network : Net) (traffic : List ℕ) → StopsSooner (fitting_file network traffic)
fitting_sooner network traffic = tested_sooner (Fits network) (NamesOverload network) (file (demand_file network) traffic) (file_sooner (demand_file network) traffic)

-- the demand's load, from an earlier start
pub demand_stops : (told now : List ℕ → Option (List ℕ)) (before between end : ℕ) (net traffic : List ℕ) (network : Net) → now ≡ told → before ≤ between → IsLoaded network_file told net network
    → (stop : Stop) → StopIs ((fitting_file network traffic).stops now (Rose between end)) stop → StopIs ((asked_files net traffic).stops told (Rose before end)) stop
demand_stops told now before between end net traffic network same sooner loaded stop stops =
    then_stops (file network_file net) (λ one. fitting_file one traffic) told now before between end network (fitting_sooner network traffic) same sooner loaded stop stops

-- a demand that was loaded and does not fit
pub overload_stops : (told : List ℕ → Option (List ℕ)) (failed : Type 0) (traffic : List ℕ) (network : Net) (links : List Link) → IsLoaded (demand_file network) told traffic links
    → (stop : Stop) → StopIs (NamesOverload network links) stop → StopIs ((fitting_file network traffic).stops told failed) stop
overload_stops told failed traffic network links loaded OutOfMemory names = tt
overload_stops told failed traffic network links loaded (Early report) names = inr (links, loaded, names)

-- ---- one outcome

-- a matrix has one heaviest line and one greatest sum
pub record Lines : Type 0 where
  pub line : (rows : List (List ℕ)) (a b : Critical) (m n : ℕ) → IsHeaviest rows a m → IsHeaviest rows b n → a ≡ b
  pub sum : (rows : List (List ℕ)) (a b : Critical) (m n : ℕ) → IsHeaviest rows a m → IsHeaviest rows b n → m ≡ n

-- a demand does not fit in one way
pub overload_same : Lines → (net : Net) (links : List Link) (a b : Outcome) → NamesOverload net links a → NamesOverload net links b → a ≡ b
overload_same lines net links a b (line, sum, is, over, says) (line', sum', is', over', says') =
    let rows = matrix_of net links in
    let same_line : line ≡ line' = lines.line rows line line' sum sum' is is' in
    let same_sum : sum ≡ sum' = lines.sum rows line line' sum sum' is is' in
    says ∙ ap (λ (l : Critical). text_alone (line_of (overload_words l sum)) FAULTY_TEXT) same_line ∙ ap (λ (n : ℕ). text_alone (line_of (overload_words line' n)) FAULTY_TEXT) same_sum ∙ sym says'

-- and one that does not fit does not fit
pub never_both : (net : Net) (links : List Link) (a : Outcome) → NamesOverload net links a → Fits net links → ⊥
never_both net links a (line, sum, is, over, says) fits =
    let most = fits line is.on_matrix in
    absurd (omega (arith, most, over, is.reached))

pub fitting_lawful : Lines → (network : Net) (traffic : List ℕ) → IsLawful (fitting_file network traffic)
fitting_lawful lines network traffic =
    tested_lawful (Fits network) (NamesOverload network) (file (demand_file network) traffic) (file_lawful (demand_file network) traffic) (overload_same lines network) (never_both network)

pub asked_lawful : Lines → (net traffic : List ℕ) → IsLawful (asked_files net traffic)
asked_lawful lines net traffic = then_lawful (file network_file net) (λ network. fitting_file network traffic) (file_lawful network_file net) (λ network. fitting_lawful lines network traffic)

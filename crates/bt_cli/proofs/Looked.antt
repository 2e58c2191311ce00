-- The load of a journal after the network, and what a look at it comes to.
use Rattle.std.proofs.Common.{◌≡◌, ℕ, ◌≤◌, List, Option}
use Rattle.bt_outside.specs.Told.{Rose}
use Rattle.bt_net.specs.Network.{Net}
use Rattle.bt_report.specs.declared.report.Stop.{Stop}
use Rattle.bt_report.specs.Report.{StopIs}
use Rattle.bt_load.specs.Files.{IsLoaded}
use Rattle.bt_load.specs.Kinds.{journal_file, network_file}
use Rattle.bt_load.specs.Loaders.{file}
use Rattle.bt_load.proofs.Loads.{file_sooner, then_stops}
use Rattle.bt_cli.specs.Looks.{journal_files}

-- the journal's load, from an earlier start
pub journal_stops : (told now : List ℕ → Option (List ℕ)) (before between end : ℕ) (net journal : List ℕ) (network : Net) → now ≡ told → before ≤ between → IsLoaded network_file told net network
    → (why : Stop) → StopIs ((file journal_file journal).stops now (Rose between end)) why → StopIs ((journal_files net journal).stops told (Rose before end)) why
journal_stops told now before between end net journal network same sooner loaded why stops =
    then_stops (file network_file net) (λ one. file journal_file journal) told now before between end network (file_sooner journal_file journal) same sooner loaded why stops

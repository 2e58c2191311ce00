-- `edits NET JOURNAL TRAFFIC [DESK]`: the network is loaded, then the bytes of the journal, then the demand, where it fits the frame;
-- and the block that brings the demand that the bytes tell to it is printed.
use Rattle.std.specs.Prelude.{ℕ, List}
use Rattle.bt_net.specs.Network.{Net}
use Rattle.bt_demand.specs.declared.demand.Link.{Link}
use Rattle.bt_export.specs.Edits.{TellsEdits}
use Rattle.bt_report.specs.Outcome.{Outcome}
use Rattle.bt_load.specs.Loaders.{Loader, and_then}
use Rattle.bt_cli.specs.Fitting.{fitting_file}
use Rattle.bt_cli.specs.Looks.{Looks, PrintsText, journal_files}

-- the network and the bytes of the journal are loaded, and then a demand that fits
abbrev pub edits_files : List ℕ → List ℕ → List ℕ → Loader ((Net × List ℕ) × List Link)
edits_files net journal traffic = and_then (journal_files net journal) (λ both. fitting_file both.0 traffic)

-- the block in which that desk brings the demand of the journal to the one that is wanted
abbrev pub PrintsEdits : ℕ → Net → List ℕ → List Link → Outcome → Type 0
PrintsEdits desk net bytes want = Looks (PrintsText (TellsEdits net bytes desk want)) net bytes

-- How a station ends that this kept from its start. All of it is for bodies alone.
use Rattle.std.specs.Prelude.{◌≡◌, ◌⊎◌, ℕ, []}
use Rattle.bt_report.specs.declared.report.Stop.{Stop}
use Rattle.bt_report.specs.declared.report.Stop.TheVariants.{Early, OutOfMemory}
use Rattle.bt_report.specs.declared.status.TheConstants.{OUT_OF_MEMORY}
use Rattle.bt_station.specs.Talked.{SaysAlone, Talked, Took}

-- memory ran out, and nothing was said; or the report was said
abbrev pub SaysStop : Talked → Stop → ℕ → Type 0
SaysStop talk (Early report) status =
    ((status ≡ OUT_OF_MEMORY) × Took talk []) ⊎ SaysAlone talk report.text.items report.status status
SaysStop talk OutOfMemory status = (status ≡ OUT_OF_MEMORY) × Took talk []

-- Printing what the work came to.
use Rattle.std.specs.Prelude.{◌≡◌, ℕ, Result, Ok, Err}
use Rattle.bt_report.specs.declared.status.TheConstants.{OUT_OF_MEMORY}
use Rattle.bt_report.specs.declared.report.Report.{Report}
use Rattle.bt_report.specs.declared.report.Stop.{Stop}
use Rattle.bt_report.specs.declared.report.Stop.TheVariants.{Early, OutOfMemory}
use Rattle.bt_report.specs.Report.{ReportIs, StopIs}
use Rattle.bt_report.specs.Output.{Output, PrintsOrNot}
use Rattle.bt_report.specs.Outcome.{Outcome}

-- the work came to one of these outcomes, at its end or before it
abbrev pub CameTo : (Outcome → Type 0) → Result Report Stop → Type 0
CameTo Outcomes (Ok report) = ReportIs Outcomes report
CameTo Outcomes (Err stop) = StopIs Outcomes stop

-- how the program ends after this report was to be printed
abbrev pub EndsAfter : Output → Report → ℕ → Type 0
EndsAfter output report status = PrintsOrNot output report.text.items report.status status

-- how the program ends after the work came to this
abbrev pub EndsWith : Output → Result Report Stop → ℕ → Type 0
EndsWith output (Ok report) status = EndsAfter output report status
EndsWith output (Err (Early report)) status = EndsAfter output report status
EndsWith output (Err OutOfMemory) status = status ≡ OUT_OF_MEMORY

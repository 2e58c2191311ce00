-- Reports and stops of the code, as outcomes.
use Rattle.bt_report.specs.Outcome.{Outcome, text_alone}
use Rattle.bt_report.specs.declared.report.Report.{Report}
use Rattle.bt_report.specs.declared.report.Stop.{Stop}
use Rattle.bt_report.specs.declared.report.Stop.TheVariants.{Early, OutOfMemory}

-- the report is one of these outcomes
abbrev pub ReportIs : (Outcome → Type 0) → Report → Type 0
ReportIs Outcomes report = Outcomes (text_alone report.text.items report.status)

-- the early report is one of these outcomes; want of memory says nothing
abbrev pub StopIs : (Outcome → Type 0) → Stop → Type 0
StopIs Outcomes (Early report) = ReportIs Outcomes report
StopIs Outcomes OutOfMemory = Unit {0}

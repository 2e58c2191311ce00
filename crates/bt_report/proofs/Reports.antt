-- What the work came to, among more outcomes, and printed.
use Rattle.std.proofs.Common.{ℕ, inl, inr, Result, Ok, Err}
use Rattle.bt_report.specs.declared.report.Report.{Report}
use Rattle.bt_report.specs.declared.report.Stop.{Stop}
use Rattle.bt_report.specs.declared.report.Stop.TheVariants.{Early, OutOfMemory}
use Rattle.bt_report.specs.Outcome.{Outcome, PrintsOneOf, text_alone}
use Rattle.bt_report.specs.Output.{Output}
use Rattle.bt_report.specs.Printing.{CameTo, EndsWith}

-- what came to one of these outcomes came to one of those that they all are among
pub CameTo-among : (P Q : Outcome → Type 0) → ((outcome : Outcome) → P outcome → Q outcome) → (result : Result Report Stop) → CameTo P result → CameTo Q result
CameTo-among P Q among (Ok report) came = among _ came
CameTo-among P Q among (Err (Early report)) came = among _ came
CameTo-among P Q among (Err OutOfMemory) came = tt

-- what came to one of these outcomes, and was printed, was one of them
pub came_printed : (output : Output) (Outcomes : Outcome → Type 0) (result : Result Report Stop) (status : ℕ) → CameTo Outcomes result → EndsWith output result status → PrintsOneOf output Outcomes status
came_printed output Outcomes (Ok report) status came (inl none) = inl none
came_printed output Outcomes (Ok report) status came (inr printed) = inr (text_alone report.text.items report.status, came, printed)
came_printed output Outcomes (Err (Early report)) status came (inl none) = inl none
came_printed output Outcomes (Err (Early report)) status came (inr printed) = inr (text_alone report.text.items report.status, came, printed)
came_printed output Outcomes (Err OutOfMemory) status came none = inl none

-- what was printed of one of these outcomes was one of those
pub PrintsOneOf-among : (output : Output) (P Q : Outcome → Type 0) → ((outcome : Outcome) → P outcome → Q outcome) → (status : ℕ) → PrintsOneOf output P status → PrintsOneOf output Q status
PrintsOneOf-among output P Q among status (inl none) = inl none
PrintsOneOf-among output P Q among status (inr (outcome, so, printed)) = inr (outcome, among outcome so, printed)

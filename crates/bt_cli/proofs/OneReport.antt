-- What finishes a command with its value has one outcome.
use Rattle.std.proofs.Common.{◌≡◌, ℕ, inl, inr, List, Option, Some, None, sym, ap, ◌∙◌, arith}
use Rattle.bt_frame.specs.declared.schedule.Schedule.{Schedule}
use Rattle.bt_demand.specs.declared.verdict.Verdict.{Verdict}
use Rattle.bt_net.specs.Network.{Net}
use Rattle.bt_demand.specs.declared.demand.Link.{Link}
use Rattle.bt_demand.specs.declared.plan.Plan.{Plan}
use Rattle.bt_demand.specs.Verdict.{IsVerdict}
use Rattle.bt_cli.specs.CheckPlan.{JudgesPlan}
use Rattle.bt_timing.specs.Times.{Times}
use Rattle.bt_cli.specs.Timing.{NamesVerdict, TellsTimes}
use Rattle.bt_words.specs.Lines.{line_of}
use Rattle.bt_timeline.specs.Verdicts.{verdict_words}
use Rattle.bt_report.specs.declared.status.TheConstants.{NOT_GOOD}
use Rattle.bt_report.specs.Outcome.{Outcome, text_alone}
use Rattle.bt_load.specs.Kinds.{matrix_file}
use Rattle.bt_load.specs.Loaders.{file}
use Rattle.bt_load.proofs.OneLoad.{IsLawful, file_lawful, tested_lawful}
use Rattle.bt_cli.specs.Check.{Judges, verdict_status}
use Rattle.bt_cli.specs.Trans.{NamesSize, Suits, suited_file}
use Rattle.bt_cli.proofs.Timed.{OnePlanVerdict}

-- a schedule has at most one verdict for a matrix
abbrev pub OneVerdict : Type 0
OneVerdict = (rows : List (List ℕ)) (schedule : Schedule) (a b : Verdict) → IsVerdict rows schedule a → IsVerdict rows schedule b → a ≡ b

-- so it has one outcome
pub Judges-same : OneVerdict → (rows : List (List ℕ)) (schedule : Schedule) (a b : Outcome) → Judges rows schedule a → Judges rows schedule b → a ≡ b
Judges-same law rows schedule a b (verdict, holds, says) (verdict', holds', says') =
    let one : verdict ≡ verdict' = law rows schedule verdict verdict' holds holds' in
    says ∙ ap (λ v. text_alone (line_of (verdict_words None v)) (verdict_status v)) one ∙ sym says'

-- so it has one outcome
pub JudgesPlan-same : OnePlanVerdict → (net : Net) (links : List Link) (plan : Plan) → (a b : Outcome) → JudgesPlan net links plan a → JudgesPlan net links plan b → a ≡ b
JudgesPlan-same law net links plan a b one other =
    let same : one.verdict ≡ other.verdict = law net links plan one.verdict other.verdict one.demand one.is other.is in
    one.says ∙ ap (λ v. text_alone (line_of (verdict_words (Some net) v)) (verdict_status v)) same ∙ sym other.says

-- a plan is not good in one way
verdict_same : OnePlanVerdict → (net : Net) (links : List Link) (plan : Plan) (a b : Outcome) → NamesVerdict net links plan a → NamesVerdict net links plan b → a ≡ b
verdict_same law net links plan a b one other =
    let same : one.verdict ≡ other.verdict = law net links plan one.verdict other.verdict one.demand one.is other.is in
    one.says ∙ ap (λ v. text_alone (line_of (verdict_words (Some net) v)) NOT_GOOD) same ∙ sym other.says

-- and by the same delays its times are printed in one way
pub TellsTimes-same : OnePlanVerdict → (net : Net) (links : List Link) (plan : Plan) (times : Option Times) (a b : Outcome) → TellsTimes net links plan times a → TellsTimes net links plan times b → a ≡ b
TellsTimes-same law net links plan None a b one other = verdict_same law net links plan a b one other
TellsTimes-same law net links plan (Some times) a b one other = one.printed ∙ sym other.printed

-- transponders do not suit a matrix whose size is at fault
pub never_suits : (transponders : ℕ) (rows : List (List ℕ)) (outcome : Outcome) → NamesSize transponders rows outcome → Suits transponders rows → ⊥
never_suits transponders rows outcome (inl many, says) suits = absurd (omega (arith, many, suits.1))
never_suits transponders rows outcome (inr few, says) suits = absurd (omega (arith, few, suits.0))

suits_same : (transponders : ℕ) (rows : List (List ℕ)) (a b : Outcome) → NamesSize transponders rows a → NamesSize transponders rows b → a ≡ b
suits_same transponders rows a b one other = one.1 ∙ sym other.1

pub suited_lawful : (transponders : ℕ) (matrix : List ℕ) → IsLawful (suited_file transponders matrix)
suited_lawful transponders matrix =
    tested_lawful (Suits transponders) (NamesSize transponders) (file matrix_file matrix) (file_lawful matrix_file matrix) (suits_same transponders) (never_suits transponders)

-- `make N NUMBER`: a demand is drawn on a network of so many beams, and what it and a good plan for it come to is printed.
use Rattle.std.specs.Prelude.{◌≡◌, ◌≢◌, ℕ, ◌++◌, List, [], ◌∷◌, length, sum_by, codes, decimal, Option, Some, None}
use Rattle.bt_frame.specs.declared.schedule.Critical.{Critical}
use Rattle.bt_frame.specs.declared.schedule.Critical.TheVariants.{Row, Column}
use Rattle.bt_net.specs.Numbered.{numbered_network}
use Rattle.bt_matrix.specs.Traffic.{IsHeaviest}
use Rattle.bt_modes.specs.Few.{HasFewModes}
use Rattle.bt_demand.specs.declared.demand.Link.{Link}
use Rattle.bt_demand.specs.declared.plan.Plan.{Plan}
use Rattle.bt_demand.specs.Plan.{IsGoodPlan}
use Rattle.bt_demand.specs.Traffic.{matrix_of}
use Rattle.bt_cut.specs.Cutting.{IsCutting}
use Rattle.bt_cut.specs.Made.{IsMade}
use Rattle.bt_words.specs.Lines.{line_of}
use Rattle.bt_report.specs.declared.status.TheConstants.{DONE}
use Rattle.bt_report.specs.Output.{Output}
use Rattle.bt_report.specs.Outcome.{Outcome, text_alone, PrintsOneOf}
use Rattle.bt_cli.specs.Request.{Request, PlanDrawn}

-- the slots that all links ask for together
abbrev pub units_in_all : List Link → ℕ
units_in_all links = sum_by (λ link. link.units) links

-- the words that were asked
abbrev pub make_words : ℕ → ℕ → List (List ℕ)
make_words beams seed = codes "make" ∷ decimal beams ∷ decimal seed ∷ []

-- how many links were drawn, and what they ask for together
abbrev pub links_words : List Link → List (List ℕ)
links_words links = codes "links" ∷ decimal (length links) ∷ codes "units" ∷ decimal (units_in_all links) ∷ []

-- the length of the plan, and the line that asks for so many slots
abbrev pub length_words : ℕ → Critical → List (List ℕ)
length_words slots (Row up) = codes "length" ∷ decimal slots ∷ codes "critical" ∷ codes "row" ∷ decimal up.0 ∷ []
length_words slots (Column down) = codes "length" ∷ decimal slots ∷ codes "critical" ∷ codes "column" ∷ decimal down.0 ∷ []

-- how many modes and bursts the plan has
abbrev pub counts_words : Plan → List (List ℕ)
counts_words plan = codes "modes" ∷ decimal (length plan.schedule.modes) ∷ codes "bursts" ∷ decimal (length plan.bursts) ∷ []

-- these four lines
abbrev pub summary : ℕ → ℕ → List Link → Plan → List ℕ
summary beams seed links plan =
    line_of (make_words beams seed) ++ line_of (links_words links)
    ++ line_of (length_words plan.schedule.length plan.schedule.critical) ++ line_of (counts_words plan)

-- the summary of this plan, which is a good one of edition 1 for the demand that is drawn, with few modes, the bursts that these are
-- cut into, and the first of the heaviest lines
pub record Summarizes (beams seed : ℕ) (plan : Plan) (outcome : Outcome) : Type 0 where
  pub links : List Link
  pub drawn : IsMade (numbered_network beams) seed links
  pub edition : plan.edition.0 ≡ 1
  pub good : IsGoodPlan (numbered_network beams) links plan
  pub cut : IsCutting (numbered_network beams) links plan.schedule.modes plan.bursts
  pub heaviest : IsHeaviest (matrix_of (numbered_network beams) links) plan.schedule.critical plan.schedule.length
  pub few : HasFewModes (matrix_of (numbered_network beams) links) plan.schedule
  pub printed : outcome ≡ text_alone (summary beams seed links plan) DONE

-- the summary of such a plan
abbrev pub PrintsSummary : ℕ → ℕ → Outcome → Type 0
PrintsSummary beams seed outcome = (plan : Plan) × Summarizes beams seed plan outcome

-- the summary of this plan, where that is what is asked
abbrev pub SummarizesFor : Request → Plan → Outcome → Type 0
SummarizesFor (PlanDrawn beams seed) plan = Summarizes beams seed plan
SummarizesFor _ plan = λ _. ⊥

-- the plan is answered whose summary was printed, with status 0; and none with any other status
abbrev pub AnswersPlan : Output → Request → ℕ → Option Plan → Type 0
AnswersPlan output request status (Some plan) = (status ≡ DONE) × PrintsOneOf output (SummarizesFor request plan) status
AnswersPlan output request status None = status ≢ DONE

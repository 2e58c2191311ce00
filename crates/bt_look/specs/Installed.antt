-- Which installed plan of a journal is told: that of an edition, or the newest.
use Rattle.std.specs.Prelude.{◌≡◌, ℕ, ◌-◌, ◌==◌, List, length, slice_get, slice_index_or, find, Option, Some, None, option_map}
use Rattle.bt_frame.specs.declared.numbers.EditionNo.{EditionNo}
use Rattle.bt_net.specs.Network.{Net}
use Rattle.bt_demand.specs.declared.plan.Plan.{Plan}
use Rattle.bt_demand.specs.Plan.{empty_plan}
use Rattle.bt_plan.specs.PlanSpelling.{plan_spelling}
use Rattle.bt_journal.specs.declared.call.Change.{Change}
use Rattle.bt_history.specs.Changes.{installs, plans}
use Rattle.bt_history.specs.Recovery.{Recovered}

-- Of the plans that the changes installed the one of the edition that is asked for, and the newest where none is. The empty plan,
-- which edition 0 has from the start, is not among them.
abbrev pub plan_asked : List Change → Option EditionNo → Option Plan
plan_asked changes None = slice_get (installs changes) (length (installs changes) - 1)
plan_asked changes (Some number) = find (λ plan. plan.edition.0 == number.0) (installs changes)

-- The text is that plan of the changes that the bytes tell, spelled as its file would be. There is none exactly where there is no
-- such plan.
pub record TellsInstalled (net : Net) (bytes : List ℕ) (asked : Option EditionNo) (text : Option (List ℕ)) : Type 0 where
  pub changes : List Change
  pub told : Recovered net bytes changes
  pub spelled : text ≡ option_map (plan_spelling net) (plan_asked changes asked)

-- for bodies: the plan at a place among all plans, the empty one of which stands at place 0
abbrev pub plan_at : List Change → ℕ → Plan
plan_at changes place = slice_index_or (plans changes) place empty_plan

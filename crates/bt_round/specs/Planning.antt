-- The lines `plan` of a round: what the planner asks of the book, and what is printed of it.
use Rattle.std.specs.Prelude.{◌≡◌, ◌≢◌, ℕ, ◌==◌, if◌then◌else◌, List, [], ◌∷◌, length, All, None}
use Rattle.std.specs.List.{flat_map}
use Rattle.bt_frame.specs.declared.numbers.EditionNo.{EditionNo}
use Rattle.bt_net.specs.Network.{Net}
use Rattle.bt_demand.specs.declared.demand.Link.{Link}
use Rattle.bt_demand.specs.declared.plan.Plan.{Plan}
use Rattle.bt_demand.specs.Plan.{IsGoodPlan}
use Rattle.bt_journal.specs.declared.call.Call.TheVariants as call
use Rattle.bt_journal.specs.declared.entry.Entry.{Entry}
use Rattle.bt_journal.specs.declared.reply.Reply.{Reply}
use Rattle.bt_journal.specs.declared.reply.Reply.TheVariants as reply
use Rattle.bt_timeline.specs.Timeline.{entry_line}

-- A good plan of the demand that was seen is installed, where that edition has none; else there is nothing to plan.
abbrev pub PlansEdition : Net → EditionNo → EditionNo → List Link → List Entry → Type 0
PlansEdition net edition newest links [] = edition.0 ≡ newest.0
PlansEdition net edition newest links (entry ∷ []) =
    (edition.0 ≢ newest.0) × ((plan : Plan) × (entry.call ≡ call.Install plan) × (plan.edition ≡ edition) × IsGoodPlan net links plan)
PlansEdition net edition newest links _ = ⊥

-- a line `plan`: the planner sees the last edition and its demand, and plans it
pub record PlansOnce (net : Net) (entries : List Entry) : Type 0 where
  pub seen : Entry
  pub others : List Entry
  pub all : entries ≡ seen ∷ others
  pub edition : EditionNo
  pub newest : EditionNo
  pub links : List Link
  pub call : seen.call ≡ call.Snapshot
  pub reply : seen.reply ≡ reply.Demand edition newest links
  pub planned : PlansEdition net edition newest links others

-- so many lines `plan`, each with its entries
pub record PlaysPlans (net : Net) (count : ℕ) (entries : List Entry) : Type 0 where
  pub parts : List (List Entry)
  pub counted : length parts ≡ count
  pub each : All (PlansOnce net) parts
  pub whole : entries ≡ flat_map (λ part. part) parts

-- the line of an entry of the planner; that it saw an edition without a plan is not printed
abbrev pub planner_line : Net → Reply → List ℕ → List ℕ
planner_line net (reply.Demand edition newest links) line = if edition.0 == newest.0 then line else []
planner_line net _ line = line

-- the lines of the planner
abbrev pub planner_text : Net → List Entry → List ℕ
planner_text net entries = flat_map (λ (entry : Entry). planner_line net entry.reply (entry_line net None entry)) entries

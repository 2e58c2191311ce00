-- What the lines of a worker come to: its entries, what it was shown or has posted, and its text.
use Rattle.std.specs.Prelude.{◌≡◌, ℕ, ◌+◌, ◌++◌, List, length, map, All, AllPairs}
use Rattle.std.specs.List.{flat_map}
use Rattle.bt_net.specs.Network.{Net}
use Rattle.bt_demand.specs.declared.plan.Plan.{Plan}
use Rattle.bt_journal.specs.declared.entry.Entry.{Entry}
use Rattle.bt_journal.specs.Journal.{changes_of}
use Rattle.bt_history.specs.Changes.{installs}
use Rattle.bt_script.specs.declared.script.DeskLine.{DeskLine}
use Rattle.bt_round.specs.Lent.{IsLent, IsNoNewer, Rises}
use Rattle.bt_round.specs.Desks.{asked_by_line, desk_text, shown_by_line}
use Rattle.bt_round.specs.Planning.{PlaysPlans, planner_text}

-- Lines of a desk were done: its entries stand behind those before, and what is printed of them behind the text. Each show gave
-- a plan that the desk's reader lent, none older than those shown before.
pub record DeskDone (net : Net) (desk : ℕ) (lines : List DeskLine) (seen over : List Plan) (before after : List Entry) (text written : List ℕ) : Type 0 where
  pub own : List Entry
  pub shown : List Plan
  pub calls : map (λ entry. entry.call) own ≡ flat_map asked_by_line lines
  pub callers : All (λ (entry : Entry). entry.caller ≡ desk + 1) own
  pub counted : length shown ≡ length (flat_map shown_by_line lines)
  pub lent : All (IsLent seen over) shown
  pub ascend : AllPairs IsNoNewer shown
  pub begins : Rises seen over
  pub kept : after ≡ before ++ own
  pub printed : written ≡ text ++ desk_text net desk lines own shown

-- so many lines of the planner were done, and each plan that they installed was posted
pub record PlannerDone (net : Net) (count : ℕ) (posted over : List Plan) (history after : List Entry) (text written : List ℕ) : Type 0 where
  pub own : List Entry
  pub planned : PlaysPlans net count own
  pub callers : All (λ (entry : Entry). entry.caller ≡ 1) own
  pub posts : over ≡ posted ++ installs (changes_of own)
  pub kept : after ≡ history ++ own
  pub printed : written ≡ text ++ planner_text net own

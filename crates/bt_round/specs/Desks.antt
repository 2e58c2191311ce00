-- The lines of desks in a round: what each asks of the book, what it is shown, and what is printed of it.
use Rattle.std.specs.Prelude.{◌≡◌, ℕ, ◌+◌, ◌≤◌, ◌==◌, ◌++◌, if◌then◌else◌, List, [], ◌∷◌, length, Some}
use Rattle.std.specs.List.{flat_map}
use Rattle.bt_frame.specs.declared.numbers.TermNo.{TermNo}
use Rattle.bt_net.specs.Network.{Net}
use Rattle.bt_demand.specs.declared.plan.Plan.{Plan}
use Rattle.bt_journal.specs.declared.call.Call.{Call}
use Rattle.bt_journal.specs.declared.call.Call.TheVariants as call
use Rattle.bt_journal.specs.declared.entry.Entry.{Entry}
use Rattle.bt_journal.specs.Journal.{calls_of}
use Rattle.bt_script.specs.declared.script.DeskLine.{DeskLine}
use Rattle.bt_script.specs.declared.script.DeskLine.TheVariants as desk_line
use Rattle.bt_timeline.specs.Timeline.{entry_line, show_lines}

-- what a line of a desk asks of the book; a show asks nothing of it
abbrev pub asked_by_line : DeskLine → List Call
asked_by_line (desk_line.Edit edit) = call.Edit edit ∷ []
asked_by_line (desk_line.Show terminal) = []

-- What a caller asks in a round, in order: desk `d` is caller `d + 1`.
abbrev pub asked_by : ℕ → List (ℕ × List DeskLine) → List Call
asked_by caller desks = flat_map (λ (desk : ℕ × List DeskLine). if desk.0 + 1 == caller then flat_map asked_by_line desk.1 else []) desks

-- the terminal of a line that shows its bursts, if it does
abbrev pub shown_by_line : DeskLine → List TermNo
shown_by_line (desk_line.Edit edit) = []
shown_by_line (desk_line.Show terminal) = terminal ∷ []

-- the terminals whose bursts a desk is shown in a round, in order
abbrev pub shows_of : ℕ → List (ℕ × List DeskLine) → List TermNo
shows_of number desks = flat_map (λ (desk : ℕ × List DeskLine). if desk.0 == number then flat_map shown_by_line desk.1 else []) desks

-- what a desk is shown of a plan, of the bursts of a terminal
abbrev pub plan_shown : Net → ℕ → Plan → TermNo → List ℕ
plan_shown net desk plan terminal = show_lines net desk terminal plan.edition plan.schedule.length (length plan.schedule.modes) plan.bursts

-- the lines of a desk, with the entry of each edit and the plan of each show in their order
abbrev pub desk_text : Net → ℕ → List DeskLine → List Entry → List Plan → List ℕ
desk_text net desk [] entries shown = []
desk_text net desk (desk_line.Edit edit ∷ lines) [] shown = []
desk_text net desk (desk_line.Edit edit ∷ lines) (entry ∷ entries) shown = entry_line net (Some desk) entry ++ desk_text net desk lines entries shown
desk_text net desk (desk_line.Show terminal ∷ lines) entries [] = []
desk_text net desk (desk_line.Show terminal ∷ lines) entries (plan ∷ shown) = plan_shown net desk plan terminal ++ desk_text net desk lines entries shown

-- A plan that a desk was shown.
pub record Sight : Type 0 where
  pub desk : ℕ
  pub plan : Plan

-- the plans that a desk was shown, in order
abbrev pub shown_to : ℕ → List Sight → List Plan
shown_to desk sights = flat_map (λ (sight : Sight). if sight.desk == desk then sight.plan ∷ [] else []) sights

-- the desks of a round by number, with their entries and what they were shown among those of the round
abbrev pub desks_text : Net → List (ℕ × List DeskLine) → List Entry → List Sight → List ℕ
desks_text net desks entries sights =
    flat_map (λ (desk : ℕ × List DeskLine). desk_text net desk.0 desk.1 (calls_of entries (desk.0 + 1)) (shown_to desk.0 sights)) desks

-- what a desk was shown is not older than what it was shown before
abbrev pub IsNotOlder : Sight → Sight → Type 0
IsNotOlder before sight = before.desk ≡ sight.desk → before.plan.edition.0 ≤ sight.plan.edition.0

-- What a list of changes made: an edition of the demand, plans and orders. Each sum is taken afresh from the list.
use Rattle.std.specs.Prelude.{◌≡◌, ℕ, zero, suc, ◌-◌, ◌==◌, ◌&&◌, if◌then◌else◌, Bool, List, ◌∷◌, ◌++◌, length, sum_by, Option, Some, None, option_map, unwrap_or, slice_get, slice_index_or}
use Rattle.std.specs.List.{filter_map, list_any}
use Rattle.bt_frame.specs.declared.numbers.Command.{Command}
use Rattle.bt_frame.specs.declared.numbers.EditionNo.{EditionNo}
use Rattle.bt_frame.specs.declared.numbers.TermNo.{TermNo}
use Rattle.bt_net.specs.Network.{Net}
use Rattle.bt_net.specs.Terminals.{is_in_beam}
use Rattle.bt_demand.specs.declared.demand.Link.{Link}
use Rattle.bt_demand.specs.declared.plan.Plan.{Plan}
use Rattle.bt_demand.specs.Demand.{units_where, IsDemand}
use Rattle.bt_demand.specs.Plan.{empty_plan}
use Rattle.bt_demand.specs.Traffic.{table_of}
use Rattle.bt_air.specs.declared.order.Order.{Order}
use Rattle.bt_air.specs.Orders.{command_of}
use Rattle.bt_journal.specs.declared.call.Edit.{Edit}
use Rattle.bt_journal.specs.declared.call.Edit.TheVariants.{Add, Drop, Move}
use Rattle.bt_journal.specs.declared.call.Change.{Change}
use Rattle.bt_journal.specs.declared.call.Change.TheVariants as change
pub use Rattle.bt_journal.specs.JournalLines.{edits_in}

-- the edition after these changes: how many edits are among them
abbrev pub edition : List Change → ℕ
edition changes = sum_by edits_in changes

-- the slots that a change gives to the links whose ends pass a test
abbrev pub given : (TermNo → TermNo → Bool) → Change → ℕ
given test (change.Edit (Add from to units)) = if test from to then units else 0
given test (change.Edit (Drop _ _ _)) = 0
given test (change.Edit (Move _ _ new_from new_to units)) = if test new_from new_to then units else 0
given test _ = 0

-- the slots that a change takes from the links whose ends pass a test
abbrev pub taken_from : (TermNo → TermNo → Bool) → Change → ℕ
taken_from test (change.Edit (Add _ _ _)) = 0
taken_from test (change.Edit (Drop from to units)) = if test from to then units else 0
taken_from test (change.Edit (Move from to _ _ units)) = if test from to then units else 0
taken_from test _ = 0

-- the slots that the links whose ends pass a test have after these changes
abbrev pub slots_after : (TermNo → TermNo → Bool) → List Change → ℕ
slots_after test changes = sum_by (given test) changes - sum_by (taken_from test) changes

-- the slots of one link after these changes
abbrev pub held_after : List Change → TermNo → TermNo → ℕ
held_after changes from to = slots_after (λ a b. a.0 == from.0 && b.0 == to.0) changes

-- the slots after these changes from the terminals of one beam to those of another, or of the same
abbrev pub slots_between : Net → List Change → ℕ → ℕ → ℕ
slots_between net changes up down = slots_after (λ from to. is_in_beam net up from && is_in_beam net down to) changes

-- the traffic matrix after these changes
abbrev pub matrix_after : Net → List Change → List (List ℕ)
matrix_after net changes = table_of (length net.beams) (slots_between net changes)

-- the links are the demand after these changes, whichever of them are added up
pub record IsDemandAfter (changes : List Change) (links : List Link) : Type 0 where
  pub demand : IsDemand links
  pub slots : (test : TermNo → TermNo → Bool) → units_where test links ≡ slots_after test changes

-- the links are the demand of an edition: the demand after first changes that have so many edits among them
pub record IsDemandAt (changes : List Change) (number : ℕ) (links : List Link) : Type 0 where
  pub before : List Change
  pub after : List Change
  pub parts : changes ≡ before ++ after
  pub counted : edition before ≡ number
  pub demand : IsDemandAfter before links

-- the edit that a change is, if it is one
abbrev pub edit_in : Change → Option Edit
edit_in (change.Edit edit) = Some edit
edit_in _ = None

-- the edits among these changes, in order
abbrev pub edits_among : List Change → List Edit
edits_among changes = filter_map edit_in changes

-- the edit that made the edition of this number, if one did
abbrev pub edit_at : List Change → ℕ → Option Edit
edit_at changes zero = None
edit_at changes (suc before) = slice_get (edits_among changes) before

-- the plan that a change installs, if any
abbrev pub plan_in : Change → Option Plan
plan_in (change.Install plan) = Some plan
plan_in _ = None

-- the plans that the changes installed, in order
abbrev pub installs : List Change → List Plan
installs changes = filter_map plan_in changes

-- the installed plans: the empty one, and then those that the changes installed, in order
abbrev pub plans : List Change → List Plan
plans changes = empty_plan ∷ installs changes

-- the newest plan: the last that is installed
abbrev pub newest : List Change → Plan
newest changes = slice_index_or (plans changes) (length (plans changes) - 1) empty_plan

-- a plan of this edition is installed
abbrev pub is_installed : List Change → EditionNo → Bool
is_installed changes edition = list_any (λ plan. plan.edition.0 == edition.0) (plans changes)

-- the order that a change places, if any
abbrev pub order_in : Change → Option Order
order_in (change.Order order) = Some order
order_in _ = None

-- the orders that were placed, in order
abbrev pub orders : List Change → List Order
orders changes = filter_map order_in changes

-- the command of the last order, 0 where there is none
abbrev pub last_command : List Change → Command
last_command changes = unwrap_or (option_map command_of (slice_get (orders changes) (length (orders changes) - 1))) (record { 0 = 0 })

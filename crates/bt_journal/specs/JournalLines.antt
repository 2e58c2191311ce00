-- The lines of a journal, one for each change.
use Rattle.std.specs.Prelude.{ℕ, ◌+◌, ◌≤◌, codes, decimal, List, [], ◌∷◌, ◌++◌}
use Rattle.bt_text.specs.Text.{spaced}
use Rattle.bt_frame.specs.declared.limits.TheConstants.{MOST_UNITS, LAST_COMMAND, LAST_EDITION}
use Rattle.bt_frame.specs.declared.numbers.EditionNo.{EditionNo}
use Rattle.bt_net.specs.Network.{Net}
use Rattle.bt_net.specs.Terminals.{name_at}
use Rattle.bt_plan.specs.PlanSpelling.{plan_lines, IsPlanInRange}
use Rattle.bt_air.specs.declared.order.Order.{Order}
use Rattle.bt_air.specs.declared.order.Order.TheVariants.{Load, Arm}
use Rattle.bt_air.specs.Range.{IsDue}
use Rattle.bt_journal.specs.declared.call.Change.{Change}
use Rattle.bt_journal.specs.declared.call.Change.TheVariants as change
use Rattle.bt_journal.specs.declared.call.Edit.{Edit}
use Rattle.bt_journal.specs.declared.call.Edit.TheVariants.{Add, Drop, Move}
use Rattle.bt_journal.specs.Journal.{NamesTerminals}

-- `add FROM TO UNITS`, `drop FROM TO UNITS` or `move FROM TO NEWFROM NEWTO UNITS`
abbrev pub edit_words : Net → Edit → List (List ℕ)
edit_words net (Add from to units) = codes "add" ∷ name_at net from ∷ name_at net to ∷ decimal units ∷ []
edit_words net (Drop from to units) = codes "drop" ∷ name_at net from ∷ name_at net to ∷ decimal units ∷ []
edit_words net (Move from to new_from new_to units) = codes "move" ∷ name_at net from ∷ name_at net to ∷ name_at net new_from ∷ name_at net new_to ∷ decimal units ∷ []

-- `load C E` or `arm C E DUE`
abbrev pub order_words : Order → List (List ℕ)
order_words (Load command edition) = codes "load" ∷ decimal command.0 ∷ decimal edition.0 ∷ []
order_words (Arm command edition due) = codes "arm" ∷ decimal command.0 ∷ decimal edition.0 ∷ decimal due.0 ∷ []

-- What stands in the line of a change, with a space between each two: `edit K` and the edit, the edition that it makes being
-- K; the lines of a plan's text; or an order.
abbrev pub change_parts : Net → ℕ → Change → List (List ℕ)
change_parts net number (change.Edit edit) = codes "edit" ∷ decimal number ∷ edit_words net edit
change_parts net number (change.Install plan) = plan_lines net plan
change_parts net number (change.Order order) = order_words order

-- the line of a change, its newline included; the number is the edition that an edit makes, and is not looked at for others
abbrev pub change_line : Net → ℕ → Change → List ℕ
change_line net number change = spaced (change_parts net number change) ++ 10 ∷ []

-- the units of the edit
abbrev pub units_in : Edit → ℕ
units_in (Add _ _ units) = units
units_in (Drop _ _ units) = units
units_in (Move _ _ _ _ units) = units

-- an edit of this edition that a line can spell for the network
pub record IsEditInRange (net : Net) (made : ℕ) (edit : Edit) : Type 0 where
  pub some : 1 ≤ made
  pub number : made ≤ LAST_EDITION
  pub terminals : NamesTerminals net edit
  pub units : 1 ≤ units_in edit
  pub few : units_in edit ≤ MOST_UNITS

-- an order that a line can spell
abbrev pub IsOrderInRange : Order → Type 0
IsOrderInRange (Load command edition) = (1 ≤ command.0) × (command.0 ≤ LAST_COMMAND) × (edition.0 ≤ LAST_EDITION)
IsOrderInRange (Arm command edition due) = (1 ≤ command.0) × (command.0 ≤ LAST_COMMAND) × (edition.0 ≤ LAST_EDITION) × IsDue due

-- a change, with the edition that it makes where it is an edit, that a line can spell for the network
abbrev pub IsChangeInRange : Net → ℕ → Change → Type 0
IsChangeInRange net number (change.Edit edit) = IsEditInRange net number edit
IsChangeInRange net number (change.Install plan) = IsPlanInRange net plan
IsChangeInRange net number (change.Order order) = IsOrderInRange order

-- the edition that the line of a change says: the one that an edit makes, and that of the plan or of the order
abbrev pub edition_said : ℕ → Change → EditionNo
edition_said number (change.Edit _) = record { 0 = number }
edition_said number (change.Install plan) = plan.edition
edition_said number (change.Order (Load _ edition)) = edition
edition_said number (change.Order (Arm _ edition _)) = edition

-- how many edits a change is
abbrev pub edits_in : Change → ℕ
edits_in (change.Edit _) = 1
edits_in _ = 0

-- the lines of changes, one behind the other, where so many edits were made before: each edit carries its own number
abbrev pub lines_from : Net → ℕ → List Change → List ℕ
lines_from net edits [] = []
lines_from net edits (first ∷ changes) = change_line net (edits + edits_in first) first ++ lines_from net (edits + edits_in first) changes

-- the lines of changes, from no changes on
abbrev pub journal_lines : Net → List Change → List ℕ
journal_lines net changes = lines_from net 0 changes

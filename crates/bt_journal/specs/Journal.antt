-- Edits, and histories: lists of entries, in the order in which the calls were made.
use Rattle.std.specs.Prelude.{ℕ, ◌==◌, ◌&&◌, Bool, true, false, if◌then◌else◌, Option, Some, None, List, filter}
use Rattle.std.specs.List.{filter_map}
use Rattle.bt_net.specs.Network.{Net}
use Rattle.bt_net.specs.Terminals.{IsBetweenTerminals}
use Rattle.bt_journal.specs.declared.call.Call.{Call}
use Rattle.bt_journal.specs.declared.call.Call.TheVariants as call
use Rattle.bt_journal.specs.declared.call.Change.{Change}
use Rattle.bt_journal.specs.declared.call.Change.TheVariants as change
use Rattle.bt_journal.specs.declared.call.Edit.{Edit}
use Rattle.bt_journal.specs.declared.call.Edit.TheVariants.{Add, Drop, Move}
use Rattle.bt_journal.specs.declared.entry.Entry.{Entry}
use Rattle.bt_journal.specs.declared.reply.Reply.{Reply}
use Rattle.bt_journal.specs.declared.reply.Reply.TheVariants.{Done, SameTerminal, NotThere, RowFull, ColumnFull, BookFull, NotNewer, NoSuchEdition, NotGood, OutOfTurn, NotInstalled, Installed, Placed, StoreFault, Stopped}

-- each terminal that the edit names is one of the network's
abbrev pub NamesTerminals : Net → Edit → Type 0
NamesTerminals net (Add from to _) = IsBetweenTerminals net from to
NamesTerminals net (Drop from to _) = IsBetweenTerminals net from to
NamesTerminals net (Move from to new_from new_to _) = IsBetweenTerminals net from to × IsBetweenTerminals net new_from new_to

-- the change that a call asks for, if any
abbrev pub change_asked : Call → Option Change
change_asked (call.Edit edit) = Some (change.Edit edit)
change_asked (call.Install plan) = Some (change.Install plan)
change_asked (call.Place order) = Some (change.Order order)
change_asked _ = None

-- the reply says that the change was made
abbrev pub is_made : Reply → Bool
is_made (Done _ _) = true
is_made (Installed _) = true
is_made Placed = true
is_made _ = false

-- the reply refuses a change for a cause of its own
abbrev pub is_refusal : Reply → Bool
is_refusal SameTerminal = true
is_refusal (NotThere _) = true
is_refusal (RowFull _ _) = true
is_refusal (ColumnFull _ _) = true
is_refusal (BookFull _) = true
is_refusal (NotNewer _) = true
is_refusal (NoSuchEdition _) = true
is_refusal (NotGood _) = true
is_refusal (OutOfTurn _) = true
is_refusal (NotInstalled _) = true
is_refusal _ = false

-- the reply tells of a fault of the store, now or before
abbrev pub is_fault : Reply → Bool
is_fault StoreFault = true
is_fault Stopped = true
is_fault _ = false

-- the call asks for an edit
abbrev pub asks_edit : Call → Bool
asks_edit (call.Edit _) = true
asks_edit _ = false

-- the change that a call with this reply made, if any
abbrev pub change_made : Call → Reply → Option Change
change_made asked reply = if is_made reply then change_asked asked else None

-- the changes that the calls of a history made, in order
abbrev pub changes_of : List Entry → List Change
changes_of history = filter_map (λ entry. change_made entry.call entry.reply) history

-- the entries of one caller, in order
abbrev pub calls_of : List Entry → ℕ → List Entry
calls_of history caller = filter (λ entry. entry.caller == caller) history

-- the entries of edits that were refused, in order
abbrev pub refused_of : List Entry → List Entry
refused_of history = filter (λ entry. asks_edit entry.call && is_refusal entry.reply) history

-- the entries of edits that a fault of the store kept from being made, in order
abbrev pub failed_of : List Entry → List Entry
failed_of history = filter (λ entry. asks_edit entry.call && is_fault entry.reply) history

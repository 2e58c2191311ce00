-- The satellite: its state, its table, and which mode its switch takes in a slot.
use Rattle.std.specs.Prelude.{ℕ, ◌+◌, ◌==◌, nat_le, not, if◌then◌else◌, Bool, true, false, List, [], Option, Some, None}
use Rattle.bt_frame.specs.declared.mode.Mode.{Mode}
use Rattle.bt_frame.specs.declared.numbers.Command.{Command}
use Rattle.bt_frame.specs.declared.numbers.EditionNo.{EditionNo}
use Rattle.bt_frame.specs.declared.numbers.Mark.{Mark}
use Rattle.bt_air.specs.declared.message.Message.{Message}
use Rattle.bt_air.specs.declared.message.Message.TheVariants.{Load, Arm}
use Rattle.bt_air.specs.declared.order.Armed.{Armed}
use Rattle.bt_air.specs.declared.order.Status.{Status}
use Rattle.bt_air.specs.declared.sent.Taken.{Taken}
use Rattle.bt_air.specs.declared.sent.Taken.TheVariants.{Accepted, Stale, Busy, NotLoaded, TooLate, NotForMe}
use Rattle.bt_machines.specs.declared.mode_bank.Bank.{Bank}

-- the present superframe, the bank in the foreground and the one in the background, the change that is to come, and
-- the last command accepted
pub record State : Type 0 where
  pub mark : Mark
  pub fore : Bank
  pub back : Bank
  pub armed : Option Armed
  pub last : Command

-- a bank of edition 0, without modes
abbrev pub empty_bank : Bank
empty_bank = record { edition = record { 0 = 0 }; modes = [] }

-- the satellite before its first command
abbrev pub new_at : Mark → State
new_at mark = record { mark = mark; fore = empty_bank; back = empty_bank; armed = None; last = record { 0 = 0 } }

-- the command is no later than the last one accepted
abbrev pub is_stale : State → Command → Bool
is_stale s command = nat_le command.0 s.last.0

-- a change is armed
abbrev pub is_armed : Option Armed → Bool
is_armed None = false
is_armed (Some _) = true

-- the edition is not the one in the background
abbrev pub is_not_loaded : State → EditionNo → Bool
is_not_loaded s edition = not (s.back.edition.0 == edition.0)

-- the superframe has begun
abbrev pub is_too_late : State → Mark → Bool
is_too_late s due = nat_le due.0 s.mark.0

-- with these modes in the background
abbrev pub loaded : State → Command → EditionNo → List Mode → State
loaded s command edition modes = record s { back = record { edition = edition; modes = modes }; last = command }

-- with this change armed
abbrev pub with_armed : State → Command → EditionNo → Mark → State
with_armed s command edition due = record s { armed = Some (record { edition = edition; due = due }); last = command }

-- The table: the answer to a message, and the state after it.
abbrev pub step_of : State → Message → Taken × State
step_of s (Load command edition modes) =
    if is_stale s command then (Stale, s)
    else (if is_armed s.armed then (Busy, s)
    else (Accepted, loaded s command edition modes))
step_of s (Arm command edition due) =
    if is_stale s command then (Stale, s)
    else (if is_armed s.armed then (Busy, s)
    else (if is_not_loaded s edition then (NotLoaded, s)
    else (if is_too_late s due then (TooLate, s)
    else (Accepted, with_armed s command edition due))))
step_of s _ = (NotForMe, s)

-- the change is due with this superframe
abbrev pub is_due : Option Armed → ℕ → Bool
is_due None mark = false
is_due (Some armed) mark = armed.due.0 == mark

-- with the background in front, and nothing armed
abbrev pub changed : State → State
changed s = record s { fore = s.back; back = s.fore; armed = None }

-- with the next superframe begun
abbrev pub begun : State → State
begun s = record s { mark = record { 0 = s.mark.0 + 1 } }

-- the state once the next superframe has begun: the banks change places where that is due
abbrev pub ticked : State → State
ticked s = if is_due s.armed (s.mark.0 + 1) then changed (begun s) else begun s

-- what the satellite says of itself
abbrev pub status_of : State → Status
status_of s = record { mark = s.mark; fore = s.fore.edition; back = s.back.edition; armed = s.armed; last = s.last }

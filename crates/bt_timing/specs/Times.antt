-- The numbers of a delay file, in ticks, and when a burst is sent by them.
use Rattle.std.specs.Prelude.{ℕ, ◌+◌, ◌-◌, ◌*◌, ◌<◌, ◌≤◌, pos, ◌-ℤ◌, List, slice_index, All}
use Rattle.bt_frame.specs.Range.{IsWithin}
use Rattle.bt_frame.specs.declared.limits.TheConstants.{LAST_SLOT, MOST_SLOTS}
use Rattle.bt_frame.specs.declared.numbers.TermNo.{TermNo}
use Rattle.bt_demand.specs.declared.burst.Burst.{Burst}
use Rattle.bt_timing.specs.declared.limits.TheConstants.{LEAST_SLOT_TICKS, MOST_SLOT_TICKS, MOST_DELAY}
use Rattle.bt_timing.specs.declared.timing.SendTime.{SendTime}

-- How long a slot is, the guard at each end of what is sent, and how far each terminal is from the satellite by its
-- estimate, in the order of the terminals.
pub record Times : Type 0 where
  pub slot : ℕ
  pub half : ℕ
  pub delays : List ℕ

-- the delay is one that a delay file may have
abbrev pub IsDelay : ℕ → Type 0
IsDelay delay = delay ≤ MOST_DELAY

-- what holds of every delay file: two guards leave something of a slot
pub record AreTimes (times : Times) : Type 0 where
  pub slot : IsWithin LEAST_SLOT_TICKS MOST_SLOT_TICKS times.slot
  pub half : 2 * times.half < times.slot
  pub delays : All IsDelay times.delays

-- the estimated delay of a terminal
abbrev pub delay_of : Times → TermNo → ℕ
delay_of times terminal = slice_index times.delays terminal.0

-- A burst is sent so much earlier than its first slot begins as the terminal is away, a guard later than that, and for
-- its slots without a guard at each end.
abbrev pub send_of : Times → Burst → SendTime
send_of times burst = record { at = pos (burst.start * times.slot + times.half) -ℤ pos (delay_of times burst.from); ticks = burst.length * times.slot - 2 * times.half }

-- the burst lies among the slots that a frame may have
pub record IsSendable (burst : Burst) : Type 0 where
  pub start : burst.start ≤ LAST_SLOT
  pub slots : IsWithin 1 MOST_SLOTS burst.length

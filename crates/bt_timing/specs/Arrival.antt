-- When bursts are sent and when they arrive at the satellite, in ticks from the begin of the frame there, whatever the
-- true delays are.
use Rattle.std.specs.Prelude.{◌≡◌, ℕ, ◌+◌, ◌*◌, ℤ, pos, ◌+ℤ◌, ◌≤ℤ◌, ◌<ℤ◌, List}
use Rattle.std.specs.List.{HoldsAt}
use Rattle.bt_frame.specs.declared.mode.Mode.{Mode}
use Rattle.bt_frame.specs.declared.numbers.TermNo.{TermNo}
use Rattle.bt_net.specs.Network.{Net}
use Rattle.bt_net.specs.Terminals.{IsTerminal}
use Rattle.bt_demand.specs.declared.burst.Burst.{Burst}
use Rattle.bt_demand.specs.Plan.{Connects, ShareABeam, begin_of}
use Rattle.bt_timing.specs.Times.{Times, delay_of, send_of}

-- how far each terminal is from the satellite in truth: whole ticks that nobody knows
abbrev pub TrueDelays : Type 0
TrueDelays = TermNo → ℤ

-- a true delay differs from the estimate by the guard at most
pub record IsWithinGuard (times : Times) (delays : TrueDelays) (terminal : TermNo) : Type 0 where
  pub least : pos (delay_of times terminal) ≤ℤ (delays terminal +ℤ pos times.half)
  pub most : delays terminal ≤ℤ pos (delay_of times terminal + times.half)

-- so do those of all terminals of the network
abbrev pub AreWithinGuard : Net → Times → TrueDelays → Type 0
AreWithinGuard net times delays = (terminal : TermNo) → IsTerminal net terminal → IsWithinGuard times delays terminal

-- the tick is one of so many, the first of which is this one
pub record IsAmong (first : ℤ) (ticks : ℕ) (tick : ℤ) : Type 0 where
  pub from_first : first ≤ℤ tick
  pub before_end : tick <ℤ (first +ℤ pos ticks)

-- the burst leaves its terminal in this tick
abbrev pub Leaves : Times → Burst → ℤ → Type 0
Leaves times burst tick = IsAmong (send_of times burst).at (send_of times burst).ticks tick

-- the burst arrives at the satellite in this tick
abbrev pub Arrives : Times → TrueDelays → Burst → ℤ → Type 0
Arrives times delays burst tick = IsAmong ((send_of times burst).at +ℤ delays burst.from) (send_of times burst).ticks tick

-- the tick is one of so many slots, the first of which is this one
abbrev pub IsInSlots : Times → ℕ → ℕ → ℤ → Type 0
IsInSlots times first slots tick = (pos (first * times.slot) ≤ℤ tick) × (tick <ℤ pos ((first + slots) * times.slot))

-- the burst arrives in its slots alone
abbrev pub KeepsToItsSlots : Times → TrueDelays → Burst → Type 0
KeepsToItsSlots times delays burst = (tick : ℤ) → Arrives times delays burst tick → IsInSlots times burst.start burst.length tick

-- the burst arrives in the slots of one mode alone, which makes its connection
pub record KeepsToItsMode (net : Net) (modes : List Mode) (times : Times) (delays : TrueDelays) (burst : Burst) : Type 0 where
  pub place : ℕ
  pub within : HoldsAt (λ mode. Connects net mode burst.from burst.to × ((tick : ℤ) → Arrives times delays burst tick → IsInSlots times (begin_of modes place) mode.duration tick)) modes place

-- two bursts that have their uplinks in one beam, or their downlinks, arrive in no tick both
abbrev pub ArriveApart : Net → Times → TrueDelays → Burst → Burst → Type 0
ArriveApart net times delays a b = ShareABeam net a.from a.to b.from b.to → (tick : ℤ) → Arrives times delays a tick → Arrives times delays b tick → ⊥

-- two bursts of one terminal leave it in no tick both
abbrev pub LeaveApart : Times → Burst → Burst → Type 0
LeaveApart times a b = a.from ≡ b.from → (tick : ℤ) → Leaves times a tick → Leaves times b tick → ⊥

-- The numbers of the orders that a satellite accepts ascend.
use Rattle.std.proofs.Common.{◌≡◌, ℕ, ◌+◌, ◌<◌, if◌then◌else◌, Bool, true, false, ap, List, [], ◌∷◌, ◌++◌, All, AllPairs, arith, refl, subst}
use Rattle.std.proofs.lemmas.List.Elements.{All-cons, All-nil, All-weaker}
use Rattle.std.proofs.lemmas.List.Kept.{AllPairs-cons}
use Rattle.bt_air.specs.declared.order.Order.{Order}
use Rattle.bt_air.specs.declared.order.Order.TheVariants.{Load, Arm}
use Rattle.bt_frame.specs.declared.numbers.Command.{Command}
use Rattle.bt_machines.specs.Satellite.{State, step_of, ticked, changed, begun, is_due}
use Rattle.bt_air.specs.Orders.{command_of}
use Rattle.bt_machines.specs.SatelliteRun.{SatelliteEvent, Begins, Hears, accepted, accepted_with, after_event}
use Rattle.bt_machines.proofs.SatelliteRows.{Nothing, Loads, Arms, does}

-- one order comes before another by its number
abbrev IsBefore : Order → Order → Type 0
IsBefore a b = (command_of a).0 < (command_of b).0

-- orders that ascend from behind a number
record AscendFrom (least : ℕ) (orders : List Order) : Type 0 where
  later : All (λ order. least < (command_of order).0) orders
  ascend : AllPairs IsBefore orders

one_more : (least : ℕ) (order : Order) (orders : List Order) → least < (command_of order).0
    → AscendFrom (command_of order).0 orders → AscendFrom least (order ∷ orders)
one_more least order orders before rest = record {
  later = All-cons (λ o. least < (command_of o).0) order orders before (All-weaker (λ o. (command_of order).0 < (command_of o).0) (λ o. least < (command_of o).0) (λ o after. omega arith) orders rest.later);
  ascend = AllPairs-cons IsBefore order orders rest.later rest.ascend;
}

-- the last command, whether or not the banks change places
last_either : (s : State) (due : Bool) → (if due then changed (begun s) else begun s).last ≡ s.last
last_either s true = refl
last_either s false = refl

-- the next superframe keeps the last command
last_ticked : (s : State) → (ticked s).last ≡ s.last
last_ticked s = last_either s (is_due s.armed (s.mark.0 + 1))

-- behind an event that accepts nothing and keeps the last command
same_from : (s next : State) (orders : List Order) → next.last ≡ s.last → AscendFrom next.last.0 orders → AscendFrom s.last.0 orders
same_from s next orders e rest = subst (λ (last : Command). AscendFrom last.0 orders) e rest

-- an event, and the orders that are accepted after it
ascend_after : (s : State) (event : SatelliteEvent) (orders : List Order) → AscendFrom (after_event s event).last.0 orders → AscendFrom s.last.0 (accepted_with s event ++ orders)
ascend_after s Begins orders rest = same_from s (ticked s) orders (last_ticked s) rest
ascend_after s (Hears message) orders rest = elim (does s message) [
  | Nothing none same ↦ rw none (same_from s (step_of s message).1 orders (ap (λ (t : State). t.last) same) rest)
  | Loads command edition modes one after later free ↦
      rw one (one_more s.last.0 (Load command edition) orders later (let P : State → Type 0 = λ t. AscendFrom t.last.0 orders in subst P after rest))
  | Arms command edition due one after later free ready ahead ↦
      rw one (one_more s.last.0 (Arm command edition due) orders later (let P : State → Type 0 = λ t. AscendFrom t.last.0 orders in subst P after rest))
]

-- the orders accepted in a run ascend from behind the last command
ascend_from : (s : State) (events : List SatelliteEvent) → AscendFrom s.last.0 (accepted s events)
ascend_from s [] = record { later = All-nil (λ o. s.last.0 < (command_of o).0); ascend = λ i j d a b. absurd (omega arith) }
ascend_from s (event ∷ events) = ascend_after s event (accepted (after_event s event) events) (ascend_from (after_event s event) events)

-- the orders accepted in a run ascend
pub accepted_ascend : (s : State) (events : List SatelliteEvent) → AllPairs (λ a b. (command_of a).0 < (command_of b).0) (accepted s events)
accepted_ascend s events = (ascend_from s events).ascend

-- How a satellite stands after the orders that it accepted: idle, or armed by the last of them.
use Rattle.std.proofs.Common.{◌≡◌, ◌⊎◌, inl, inr, ℕ, ◌+◌, ◌<◌, ◌≤◌, List, [], ◌∷◌, ◌++◌, reverse, Option, Some, None, refl, sym, arith, subst, append_assoc}
use Rattle.std.proofs.lemmas.List.{append-nil, reverse-append}
use Rattle.bt_frame.specs.declared.mode.Mode.{Mode}
use Rattle.bt_frame.specs.declared.numbers.Command.{Command}
use Rattle.bt_frame.specs.declared.numbers.EditionNo.{EditionNo}
use Rattle.bt_frame.specs.declared.numbers.Mark.{Mark}
use Rattle.bt_air.specs.declared.order.Armed.{Armed}
use Rattle.bt_air.specs.declared.order.Order.{Order}
use Rattle.bt_air.specs.declared.order.Order.TheVariants.{Load, Arm}
use Rattle.bt_machines.specs.Satellite.{State, new_at, ticked, changed, begun, loaded, with_armed}
use Rattle.bt_machines.specs.SatelliteRun.{SatelliteEvent, Begins, Hears, accepted, accepted_with, after_event, state_after}
use Rattle.bt_air.specs.Orders.{last_command, last_arm}
use Rattle.bt_machines.specs.Orders.{edition_of, ready_after}
use Rattle.bt_machines.proofs.Past.{ArePast, past-later}
use Rattle.bt_machines.proofs.SatelliteRows.{Nothing, Loads, Arms, does, ticked-idle, ticked-early, ticked-due}

-- a satellite with nothing armed
pub record IsIdle (orders : List Order) (s : State) : Type 0 where
  pub armed : s.armed ≡ None
  pub past : ArePast orders s.mark.0
  pub fore : s.fore.edition ≡ edition_of (last_arm orders)
  pub back : s.back.edition ≡ ready_after orders
  pub last : s.last ≡ last_command orders

-- a satellite that is armed, by the last of its orders
pub record Waits (orders : List Order) (s : State) : Type 0 where
  pub command : Command
  pub change : Armed
  pub earlier : List Order
  pub by_last : orders ≡ Arm command change.edition change.due ∷ earlier
  pub armed : s.armed ≡ Some change
  pub ahead : s.mark.0 < change.due.0
  pub past : ArePast earlier s.mark.0
  pub fore : s.fore.edition ≡ edition_of (last_arm earlier)
  pub back : s.back.edition ≡ change.edition
  pub last : s.last ≡ command

-- one or the other
abbrev pub Stands : List Order → State → Type 0
Stands orders s = IsIdle orders s ⊎ Waits orders s

-- the next superframe, with nothing armed
tick-idle : (orders : List Order) (s : State) → IsIdle orders s → Stands orders (ticked s)
tick-idle orders s idle = rw (ticked-idle s idle.armed) (inl (record {
  armed = idle.armed;
  past = past-later orders s.mark.0 (s.mark.0 + 1) (omega arith) idle.past;
  fore = idle.fore;
  back = idle.back;
  last = idle.last;
}))

-- the next superframe, with which a change is due
tick-due : (orders : List Order) (s : State) (waits : Waits orders s) → waits.change.due.0 ≡ s.mark.0 + 1 → Stands orders (ticked s)
tick-due orders s waits due = rw (ticked-due s waits.change waits.armed due) (inl (
    let P : List Order → Type 0 = λ list. IsIdle list (changed (begun s)) in
    let here : waits.change.due.0 ≤ s.mark.0 + 1 = omega arith in
    subst P (sym waits.by_last) (record {
      armed = refl;
      past = (here, past-later waits.earlier s.mark.0 (s.mark.0 + 1) (omega arith) waits.past);
      fore = waits.back;
      back = waits.fore;
      last = waits.last;
    })))

-- the next superframe, before that with which a change is due
tick-early : (orders : List Order) (s : State) (waits : Waits orders s) → s.mark.0 + 1 < waits.change.due.0 → Stands orders (ticked s)
tick-early orders s waits early = rw (ticked-early s waits.change waits.armed early) (inr (record {
  command = waits.command;
  change = waits.change;
  earlier = waits.earlier;
  by_last = waits.by_last;
  armed = waits.armed;
  ahead = early;
  past = past-later waits.earlier s.mark.0 (s.mark.0 + 1) (omega arith) waits.past;
  fore = waits.fore;
  back = waits.back;
  last = waits.last;
}))

-- a change is due with the next superframe, or later
pub due_or_later : (mark due : ℕ) → mark < due → (due ≡ mark + 1) ⊎ (mark + 1 < due)
due_or_later mark due h = grind arith

-- the next superframe
tick_stands : (orders : List Order) (s : State) → Stands orders s → Stands orders (ticked s)
tick_stands orders s (inl idle) = tick-idle orders s idle
tick_stands orders s (inr waits) = elim (due_or_later s.mark.0 waits.change.due.0 waits.ahead) [
  | inl due ↦ tick-due orders s waits due
  | inr early ↦ tick-early orders s waits early
]

-- no change is both armed and not
pub some_is_armed : (armed : Option Armed) (change : Armed) → armed ≡ Some change → armed ≡ None → ⊥
some_is_armed armed change some none = cc

-- a Load that is accepted, which comes where nothing is armed
load_stands : (orders : List Order) (s : State) (command : Command) (edition : EditionNo) (modes : List Mode) → s.armed ≡ None
    → Stands orders s → Stands (Load command edition ∷ orders) (loaded s command edition modes)
load_stands orders s command edition modes free (inl idle) = inl (record {
  armed = idle.armed;
  past = idle.past;
  fore = idle.fore;
  back = refl;
  last = refl;
})
load_stands orders s command edition modes free (inr waits) = absurd (some_is_armed s.armed waits.change waits.armed free)

-- an Arm that is accepted
arm_stands : (orders : List Order) (s : State) (command : Command) (edition : EditionNo) (due : Mark) → s.armed ≡ None → s.back.edition ≡ edition
    → s.mark.0 < due.0 → Stands orders s → Stands (Arm command edition due ∷ orders) (with_armed s command edition due)
arm_stands orders s command edition due free ready ahead (inl idle) = inr (record {
  command = command;
  change = record { edition = edition; due = due };
  earlier = orders;
  by_last = refl;
  armed = refl;
  ahead = ahead;
  past = idle.past;
  fore = idle.fore;
  back = ready;
  last = refl;
})
arm_stands orders s command edition due free ready ahead (inr waits) = absurd (some_is_armed s.armed waits.change waits.armed free)

-- what was accepted with an event comes last
event_stands : (orders : List Order) (s : State) (event : SatelliteEvent) → Stands orders s → Stands (reverse (accepted_with s event) ++ orders) (after_event s event)
event_stands orders s Begins stands = tick_stands orders s stands
event_stands orders s (Hears message) stands = elim (does s message) [
  | Nothing none same ↦ rw (none, same) stands
  | Loads command edition modes one after later free ↦ rw (one, after) (load_stands orders s command edition modes free stands)
  | Arms command edition due one after later free ready ahead ↦ rw (one, after) (arm_stands orders s command edition due free ready ahead stands)
]

-- the orders of a first event, and of those after it
orders_joined : (first rest orders : List Order) → reverse (first ++ rest) ++ orders ≡ reverse rest ++ (reverse first ++ orders)
orders_joined first rest orders = rw reverse-append (append_assoc (reverse rest) (reverse first) orders)

-- a run
run_stands : (orders : List Order) (s : State) (events : List SatelliteEvent) → Stands orders s → Stands (reverse (accepted s events) ++ orders) (state_after s events)
run_stands orders s [] stands = stands
run_stands orders s (event ∷ events) stands =
    let P : List Order → Type 0 = λ list. Stands list (state_after (after_event s event) events) in
    subst P (sym (orders_joined (accepted_with s event) (accepted (after_event s event) events) orders))
    (run_stands (reverse (accepted_with s event) ++ orders) (after_event s event) events (event_stands orders s event stands))

-- a new satellite
new_stands : (mark : Mark) → Stands [] (new_at mark)
new_stands mark = inl (record { armed = refl; past = tt; fore = refl; back = refl; last = refl })

-- every run of a new satellite
pub after_stands : (mark : Mark) (events : List SatelliteEvent) → Stands (reverse (accepted (new_at mark) events)) (state_after (new_at mark) events)
after_stands mark events = rw append-nil at (run_stands [] (new_at mark) events (new_stands mark))

-- What holds of the orders of every world: they are numbered, the one that is wanted has the next number, and none is
-- for a superframe past the last mark.
use Rattle.std.proofs.Common.{◌≡◌, ℕ, ◌+◌, ◌≤◌, ◌==◌, ◌&&◌, nat_lt, nat_le, not, if◌then◌else◌, Bool, true, false, List, [], ◌∷◌, length, All, Option, Some, None, IfSome, refl, ap, arith}
use Rattle.std.proofs.lemmas.Bool.Decides.{nat_tests}
use Rattle.std.proofs.lemmas.List.Elements.{All-cons, All-head, All-tail}
use Rattle.bt_frame.specs.declared.numbers.Command.{Command}
use Rattle.bt_frame.specs.declared.numbers.EditionNo.{EditionNo}
use Rattle.bt_net.specs.Network.{IsSound}
use Rattle.bt_air.specs.declared.order.Order.{Order}
use Rattle.bt_air.specs.declared.order.Order.TheVariants.{Load, Arm}
use Rattle.bt_air.specs.declared.order.Status.{Status}
use Rattle.bt_air.specs.declared.sent.Act.TheVariants.{Quiet, RepeatLoad, RepeatArm, Want}
use Rattle.bt_air.specs.Orders.{command_of}
use Rattle.bt_air.specs.Range.{IsDue}
use Rattle.bt_machines.specs.declared.turn.Turn.{Turn as Sight}
use Rattle.bt_machines.specs.Centre.{AreNumbered}
use Rattle.bt_machines.specs.Last.{last_order}
use Rattle.bt_machines.specs.Turn.{attempt, act_of, arm_after, is_before, is_ready, may_arm, wanted_by}
use Rattle.bt_site.specs.Event.{Opening, Event, Tick, Turn, Second, Ordered, Deliver, Frame, ResetTerminal, RestartCentre, Install}
use Rattle.bt_site.specs.Fits.{IsInTime, IsWorld}
use Rattle.bt_site.specs.World.{greatest_due, mark, wanted, orders, kept, sight, log}
use Rattle.bt_machines.specs.CentreSteps.{with_wanted}

-- a message can name the superframe of the Arm
abbrev pub IsTimely : Order → Type 0
IsTimely (Load command edition) = Unit {0}
IsTimely (Arm command edition due) = IsDue due

-- the order has the number after those of these
abbrev pub IsNumbered : List Order → Order → Type 0
IsNumbered placed order = ((command_of order).0 ≡ length placed + 1) × IsTimely order

-- a new change has the number after the last one
attempt-if : (placed : List Order) (last : ℕ) (target : EditionNo) (test : Bool) → last ≡ length placed
    → IfSome (wanted_by (if test then Quiet else Want (Load (record { 0 = last + 1 }) target))) (IsNumbered placed)
attempt-if placed last target true same = tt
attempt-if placed last target false same = (ap (λ (n : ℕ). n + 1) same, tt)

attempt-numbered : (placed : List Order) (found : Option EditionNo) (target : EditionNo) (last : ℕ) → last ≡ length placed
    → IfSome (wanted_by (attempt found target last)) (IsNumbered placed)
attempt-numbered placed None target last same = tt
attempt-numbered placed (Some fore) target last same = attempt-if placed last target (target.0 == fore.0) same

-- the last test of three
last-test : (a b : Bool) (x y : ℕ) → (a && (b && nat_le x y)) ≡ true → x ≤ y
last-test true true x y e = grind (arith, nat_tests)
last-test true false x y e = cc
last-test false b x y e = cc

-- the Arm that follows a Load has the next number
arm-if : (placed : List Order) (turn : Sight) (status : Status) (command : Command) (edition : EditionNo) (load test : Bool) → may_arm turn status command ≡ test
    → command.0 ≡ length placed → 1 ≤ turn.lead
    → IfSome (wanted_by (if test then Want (arm_after turn command edition) else RepeatLoad load)) (IsNumbered placed)
arm-if placed turn status command edition load true e same lead =
    let last : turn.mark.0 + turn.lead ≤ 4000000000 = last-test _ (is_ready turn) (turn.mark.0 + turn.lead) 4000000000 e in
    (ap (λ (n : ℕ). n + 1) same, (omega arith, last))
arm-if placed turn status command edition load false e same lead = tt

-- after an Arm nothing is wanted, or a new change
wait-if : (placed : List Order) (last : ℕ) (found : Option EditionNo) (target : EditionNo) (repeats waits : Bool) → last ≡ length placed
    → IfSome (wanted_by (if repeats then RepeatArm else (if waits then Quiet else attempt found target last))) (IsNumbered placed)
wait-if placed last found target true waits same = tt
wait-if placed last found target false true same = tt
wait-if placed last found target false false same = attempt-numbered placed found target last same

-- the last order has the number of all
last-number : (order : Order) (earlier : List Order) → AreNumbered (order ∷ earlier) → (command_of order).0 ≡ length (order ∷ earlier)
last-number order earlier numbered = omega (arith, numbered.0)

last-numbered : (turn : Sight) (status : Status) (placed : List Order) → 1 ≤ turn.lead → AreNumbered placed
    → IfSome (wanted_by (act_of turn None (Some status) (last_order placed))) (IsNumbered placed)
last-numbered turn status [] lead numbered = attempt-numbered [] turn.in_force turn.target 0 refl
last-numbered turn status (Arm command edition due ∷ earlier) lead numbered =
    wait-if (Arm command edition due ∷ earlier) command.0 turn.in_force turn.target (is_before status due.0 && nat_lt turn.mark.0 due.0) (is_before status due.0)
    (last-number (Arm command edition due) earlier numbered)
last-numbered turn status (Load command edition ∷ earlier) lead numbered =
    arm-if (Load command edition ∷ earlier) turn status command edition (not (status.last.0 == command.0)) (may_arm turn status command) refl
    (last-number (Load command edition) earlier numbered) lead

-- what a turn wants has the next number
pub act-numbered : (turn : Sight) (next : Option Order) (status : Option Status) (placed : List Order) → 1 ≤ turn.lead → AreNumbered placed
    → IfSome next (IsNumbered placed) → IfSome (wanted_by (act_of turn next status (last_order placed))) (IsNumbered placed)
act-numbered turn (Some order) status placed lead numbered one = one
act-numbered turn None None placed lead numbered one = tt
act-numbered turn None (Some status) placed lead numbered one = last-numbered turn status placed lead numbered

-- the orders are numbered and in time, and so is the one that is wanted
pub record Counted (placed : List Order) (first : Option Order) (now : ℕ) : Type 0 where
  pub numbered : AreNumbered placed
  pub in_time : All IsInTime placed
  pub next : IfSome first (IsNumbered placed)
  pub begun : now ≤ 4000000000

timely-in_time : (order : Order) → IsTimely order → IsInTime order
timely-in_time (Load command edition) timely = tt
timely-in_time (Arm command edition due) timely = timely.1

pub joined : (placed : List Order) (next : Option Order) (now : ℕ) → Counted placed next now → Counted (with_wanted next placed) None now
joined placed None now counted = record { numbered = counted.numbered; in_time = counted.in_time; next = tt; begun = counted.begun }
joined placed (Some order) now counted = record {
  numbered = (counted.next.0, counted.numbered);
  in_time = All-cons IsInTime order placed (timely-in_time order counted.next.1) counted.in_time;
  next = tt;
  begun = counted.begun;
}

-- no superframe of the orders is past the last mark
pub due-in_time : (placed : List Order) → All IsInTime placed → greatest_due placed ≤ 4000000000
due-in_time [] in_time = omega arith
due-in_time (Load command edition ∷ earlier) in_time = due-in_time earlier (All-tail IsInTime (Load command edition) earlier in_time)
due-in_time (Arm command edition due ∷ earlier) in_time =
    let one : due.0 ≤ 4000000000 = All-head IsInTime (Arm command edition due) earlier in_time in
    let more = due-in_time earlier (All-tail IsInTime (Arm command edition due) earlier in_time) in
    grind (arith, nat_tests)

pub world-counted : (o : Opening) (events : List Event) → IsSound o.net → IsWorld o events
    → Counted (orders o (log o events)) (wanted (log o events)) (mark o (log o events))
world-counted o [] sound opening = record { numbered = opening.numbered; in_time = opening.in_time; next = tt; begun = due-in_time o.orders opening.in_time }
world-counted o (Tick ∷ earlier) sound world =
    let c = world-counted o earlier sound world.1 in
    record { numbered = c.numbered; in_time = c.in_time; next = c.next; begun = omega (arith, world.0) }
world-counted o (Turn target ∷ earlier) sound world =
    let past = log o earlier in
    let c = world-counted o earlier sound world.1 in
    record {
      numbered = c.numbered;
      in_time = c.in_time;
      next = act-numbered (sight o past target) (wanted past) (kept past) (orders o past) (omega (arith, sound.lead.0)) c.numbered c.next;
      begun = c.begun;
    }
world-counted o (Second in_force ∷ earlier) sound world =
    let c = world-counted o earlier sound world.1 in record { numbered = c.numbered; in_time = c.in_time; next = c.next; begun = c.begun }
world-counted o (Ordered ∷ earlier) sound world = let past = log o earlier in joined (orders o past) (wanted past) (mark o past) (world-counted o earlier sound world.1)
world-counted o (Deliver number place ∷ earlier) sound world =
    let c = world-counted o earlier sound world.1 in record { numbered = c.numbered; in_time = c.in_time; next = c.next; begun = c.begun }
world-counted o (Frame ∷ earlier) sound world =
    let c = world-counted o earlier sound world.1 in record { numbered = c.numbered; in_time = c.in_time; next = c.next; begun = c.begun }
world-counted o (ResetTerminal terminal ∷ earlier) sound world =
    let c = world-counted o earlier sound world.1 in record { numbered = c.numbered; in_time = c.in_time; next = c.next; begun = c.begun }
world-counted o (RestartCentre true ∷ earlier) sound world =
    let past = log o earlier in joined (orders o past) (wanted past) (mark o past) (world-counted o earlier sound world.1)
world-counted o (RestartCentre false ∷ earlier) sound world =
    let c = world-counted o earlier sound world.1 in record { numbered = c.numbered; in_time = c.in_time; next = tt; begun = c.begun }
world-counted o (Install plan ∷ earlier) sound world =
    let c = world-counted o earlier sound world.1 in record { numbered = c.numbered; in_time = c.in_time; next = c.next; begun = c.begun }

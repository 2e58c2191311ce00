-- The orders of a world are few. Each that joins costs a Reference, that of the turn that wanted it; and from one Arm to the next at least
-- two superframes begin, each with a Status. So about half as many orders join as messages are sent, at most.
use Rattle.std.proofs.Common.{◌≡◌, ℕ, suc, ◌+◌, ◌≤◌, ◌==◌, ◌&&◌, nat_lt, not, if◌then◌else◌, Bool, true, false, List, [], ◌∷◌, ◌++◌, length, Option, Some, None, IfSome, refl, arith}
use Rattle.std.proofs.lemmas.Bool.Decides.{nat_tests}
use Rattle.std.proofs.lemmas.List.{length-append}
use Rattle.bt_frame.specs.declared.limits.TheConstants.{LAST_COMMAND}
use Rattle.bt_frame.specs.declared.numbers.Command.{Command}
use Rattle.bt_frame.specs.declared.numbers.EditionNo.{EditionNo}
use Rattle.bt_net.specs.Network.{IsSound}
use Rattle.bt_air.specs.declared.order.Order.{Order}
use Rattle.bt_air.specs.declared.order.Order.TheVariants.{Load, Arm}
use Rattle.bt_air.specs.declared.order.Status.{Status}
use Rattle.bt_air.specs.declared.sent.Act.TheVariants.{Quiet, RepeatLoad, RepeatArm, Want}
use Rattle.bt_air.specs.declared.sent.Aired.{Aired}
use Rattle.bt_machines.specs.declared.turn.Turn.{Turn as Seen}
use Rattle.bt_machines.specs.Last.{last_order}
use Rattle.bt_machines.specs.Turn.{act_of, arm_after, attempt, is_before, may_arm, wanted_by}
use Rattle.bt_site.specs.Event.{Opening, Event, Tick, Turn, Second, Ordered, Deliver, Frame, ResetTerminal, RestartCentre, Install, Happening}
use Rattle.bt_site.specs.Fits.{IsWorld}
use Rattle.bt_site.specs.World.{comes_to, greatest_due, kept, log, mark, orders, sent, sent_with, sight, wanted}
use Rattle.bt_machines.specs.CentreSteps.{with_wanted}
use Rattle.bt_site.proofs.Standing.{KeepsSound, world-holds}
use Rattle.bt_centre.specs.World.{IsSpelledWorld}

-- Orders, the latest first, of a world that opened with `opened` of them in the superframe `first`. Where a Load is the last, at most one
-- more joined than superframes began since. Where an Arm is, at most as many joined as will have begun in the superframe for which it
-- arms, and that is no more than 32 ahead.
abbrev IsPaced : (opened first now : ℕ) → List Order → Type 0
IsPaced opened first now [] = Unit {0}
IsPaced opened first now (Load command edition ∷ earlier) = length (Load command edition ∷ earlier) + first ≤ opened + now + 1
IsPaced opened first now (Arm command edition due ∷ earlier) =
    (due.0 ≤ now + 32) × ((later : ℕ) → due.0 ≤ later → first ≤ later → length (Arm command edition due ∷ earlier) + first ≤ opened + later)

-- at the opening
opens_paced : (placed : List Order) → IsPaced (length placed) (greatest_due placed) (greatest_due placed) placed
opens_paced [] = tt
opens_paced (Load command edition ∷ earlier) = omega arith
opens_paced (Arm command edition due ∷ earlier) = (grind (arith, nat_tests), λ later from begun. omega (arith, begun))

-- in the next superframe
paced_later : (opened first now : ℕ) (placed : List Order) → IsPaced opened first now placed → IsPaced opened first (now + 1) placed
paced_later opened first now [] paced = tt
paced_later opened first now (Load command edition ∷ earlier) paced = omega (arith, paced)
paced_later opened first now (Arm command edition due ∷ earlier) paced = (omega (arith, paced.0), paced.1)

-- at most so many
paced_few : (opened first now : ℕ) (placed : List Order) → first ≤ now → IsPaced opened first now placed → length placed + first ≤ opened + now + 32
paced_few opened first now [] begun paced = omega (arith, begun)
paced_few opened first now (Load command edition ∷ earlier) begun paced = omega (arith, paced)
paced_few opened first now (Arm command edition due ∷ earlier) begun paced =
    let few = paced.1 (now + 32) paced.0 (omega (arith, begun)) in omega (arith, few)

-- a status is of no superframe to come
abbrev HasBegun : ℕ → Option Status → Type 0
HasBegun now status = IfSome status (λ one. one.mark.0 ≤ now)

-- what a turn wants behind these orders
module _ (opened first : ℕ) (turn : Seen) (begun : first ≤ turn.mark.0) (least : 2 ≤ turn.lead) (most : turn.lead ≤ 32) where
  -- a new change, where the orders are no more than the superframes
  attempt_if : (placed : List Order) (last : ℕ) (test : Bool) → IsPaced opened first turn.mark.0 placed → length placed + first ≤ opened + turn.mark.0
      → IsPaced opened first turn.mark.0 (with_wanted (wanted_by (if test then Quiet else Want (Load (record { 0 = last + 1 }) turn.target))) placed)
  attempt_if placed last true paced room = paced
  attempt_if placed last false paced room =
      let goal : suc (length placed) + first ≤ opened + turn.mark.0 + 1 = omega (arith, room) in goal

  attempt_paced : (placed : List Order) (found : Option EditionNo) (last : ℕ) → IsPaced opened first turn.mark.0 placed → length placed + first ≤ opened + turn.mark.0
      → IsPaced opened first turn.mark.0 (with_wanted (wanted_by (attempt found turn.target last)) placed)
  attempt_paced placed None last paced room = paced
  attempt_paced placed (Some fore) last paced room = attempt_if placed last (turn.target.0 == fore.0) paced room

  -- the Arm behind a Load
  arm_paced : (command : Command) (edition : EditionNo) (earlier : List Order) (load test : Bool) → IsPaced opened first turn.mark.0 (Load command edition ∷ earlier)
      → IsPaced opened first turn.mark.0 (with_wanted (wanted_by (if test then Want (arm_after turn command edition) else RepeatLoad load)) (Load command edition ∷ earlier))
  arm_paced command edition earlier load false paced = paced
  arm_paced command edition earlier load true paced =
      let before : suc (length earlier) + first ≤ opened + turn.mark.0 + 1 = paced in
      (omega (arith, most), λ later from reached. omega (arith, before, from, least))

  -- nothing behind an Arm until its superframe, and then a new change
  wait_paced : (status : Status) (placed : List Order) (due last : ℕ) (late waits : Bool) → is_before status due ≡ waits → status.mark.0 ≤ turn.mark.0
      → IsPaced opened first turn.mark.0 placed → (due ≤ turn.mark.0 → length placed + first ≤ opened + turn.mark.0)
      → IsPaced opened first turn.mark.0 (with_wanted (wanted_by (if waits && late then RepeatArm else (if waits then Quiet else attempt turn.in_force turn.target last))) placed)
  wait_paced status placed due last true true is told paced room = paced
  wait_paced status placed due last false true is told paced room = paced
  wait_paced status placed due last late false is told paced room =
      let came : due ≤ status.mark.0 = grind (arith, nat_tests) in attempt_paced placed turn.in_force last paced (room (omega (arith, came, told)))

  turn_paced : (next : Option Order) (status : Option Status) (placed : List Order) → HasBegun turn.mark.0 status → IsPaced opened first turn.mark.0 placed
      → IsPaced opened first turn.mark.0 (with_wanted next placed) → IsPaced opened first turn.mark.0 (with_wanted (wanted_by (act_of turn next status (last_order placed))) placed)
  turn_paced (Some order) status placed told paced with = with
  turn_paced None None placed told paced with = paced
  turn_paced None (Some status) [] told paced with = attempt_paced [] turn.in_force 0 tt (omega (arith, begun))
  turn_paced None (Some status) (Load command edition ∷ earlier) told paced with =
      arm_paced command edition earlier (not (status.last.0 == command.0)) (may_arm turn status command) paced
  turn_paced None (Some status) (Arm command edition due ∷ earlier) told paced with =
      wait_paced status (Arm command edition due ∷ earlier) due.0 command.0 (nat_lt turn.mark.0 due.0) (is_before status due.0) refl told paced (λ came. paced.1 turn.mark.0 came begun)

-- at most one order is wanted
wanted_one : (order : Option Order) (placed : List Order) → length (with_wanted order placed) ≤ length placed + 1
wanted_one None placed = omega arith
wanted_one (Some order) placed = let goal : suc (length placed) ≤ length placed + 1 = omega arith in goal

with_more : (order : Option Order) (placed : List Order) → length placed ≤ length (with_wanted order placed)
with_more None placed = omega arith
with_more (Some order) placed = let goal : length placed ≤ suc (length placed) = omega arith in goal

-- what holds of the orders of a world: they and the superframes cost messages, and the orders are paced
record ArePaced (o : Opening) (past : List Happening) : Type 0 where
  pub begun : greatest_due o.orders ≤ mark o past
  pub paid : length (with_wanted (wanted past) (orders o past)) + mark o past ≤ length o.orders + greatest_due o.orders + length (sent o past)
  pub placed : IsPaced (length o.orders) (greatest_due o.orders) (mark o past) (orders o past)
  pub next : IsPaced (length o.orders) (greatest_due o.orders) (mark o past) (with_wanted (wanted past) (orders o past))

-- a status that is kept has begun
kept_begun : (placed taken : List Order) (now : ℕ) (status : Option Status) → KeepsSound placed taken now status → HasBegun now status
kept_begun placed taken now None keeps = tt
kept_begun placed taken now (Some status) keeps = keeps.shows.begun

-- no event takes back what was sent
more_sent : (sent more : List Aired) → length sent ≤ length (sent ++ more)
more_sent sent more = omega (arith, length-append sent more)

world_paced : (o : Opening) (events : List Event) → IsSound o.net → ArePaced o (log o events)
world_paced o [] sound = record { begun = omega arith; paid = omega arith; placed = opens_paced o.orders; next = opens_paced o.orders }
world_paced o (Tick ∷ earlier) sound =
    let past = log o earlier in
    let so = world_paced o earlier sound in
    record {
      begun = omega (arith, so.begun);
      paid = omega (arith, so.paid, length-append (sent o past) (sent_with o past (comes_to o past Tick)));
      placed = paced_later (length o.orders) (greatest_due o.orders) (mark o past) (orders o past) so.placed;
      next = paced_later (length o.orders) (greatest_due o.orders) (mark o past) (with_wanted (wanted past) (orders o past)) so.next;
    }
world_paced o (Turn target ∷ earlier) sound =
    let past = log o earlier in
    let so = world_paced o earlier sound in
    let turn = sight o past target in
    let want = wanted_by (act_of turn (wanted past) (kept past) (last_order (orders o past))) in
    record {
      begun = so.begun;
      paid = omega (arith, so.paid, length-append (sent o past) (sent_with o past (comes_to o past (Turn target))), wanted_one want (orders o past), with_more (wanted past) (orders o past));
      placed = so.placed;
      next = turn_paced (length o.orders) (greatest_due o.orders) turn so.begun sound.lead.0 sound.lead.1 (wanted past) (kept past) (orders o past)
          (kept_begun (orders o past) _ (mark o past) (kept past) (world-holds o earlier).keeps) so.placed so.next;
    }
world_paced o (Second in_force ∷ earlier) sound =
    let past = log o earlier in
    let so = world_paced o earlier sound in
    record { begun = so.begun; paid = omega (arith, so.paid, more_sent (sent o past) (sent_with o past (comes_to o past (Second in_force)))); placed = so.placed; next = so.next }
world_paced o (Ordered ∷ earlier) sound =
    let past = log o earlier in
    let so = world_paced o earlier sound in
    record { begun = so.begun; paid = omega (arith, so.paid, more_sent (sent o past) (sent_with o past (comes_to o past Ordered))); placed = so.next; next = so.next }
world_paced o (Deliver number place ∷ earlier) sound =
    let past = log o earlier in
    let so = world_paced o earlier sound in
    record { begun = so.begun; paid = omega (arith, so.paid, more_sent (sent o past) (sent_with o past (comes_to o past (Deliver number place)))); placed = so.placed; next = so.next }
world_paced o (Frame ∷ earlier) sound =
    let so = world_paced o earlier sound in
    record { begun = so.begun; paid = omega (arith, so.paid, more_sent (sent o (log o earlier)) []); placed = so.placed; next = so.next }
world_paced o (ResetTerminal terminal ∷ earlier) sound =
    let past = log o earlier in
    let so = world_paced o earlier sound in
    record { begun = so.begun; paid = omega (arith, so.paid, more_sent (sent o past) (sent_with o past (comes_to o past (ResetTerminal terminal)))); placed = so.placed; next = so.next }
world_paced o (RestartCentre true ∷ earlier) sound =
    let so = world_paced o earlier sound in
    record { begun = so.begun; paid = omega (arith, so.paid, more_sent (sent o (log o earlier)) []); placed = so.next; next = so.next }
world_paced o (RestartCentre false ∷ earlier) sound =
    let past = log o earlier in
    let so = world_paced o earlier sound in
    record {
      begun = so.begun;
      paid = omega (arith, so.paid, more_sent (sent o past) [], with_more (wanted past) (orders o past));
      placed = so.placed;
      next = so.placed;
    }
world_paced o (Install plan ∷ earlier) sound =
    let so = world_paced o earlier sound in
    record { begun = so.begun; paid = omega (arith, so.paid, more_sent (sent o (log o earlier)) []); placed = so.placed; next = so.next }

opened_few : (o : Opening) (events : List Event) → IsWorld o events → length o.orders ≤ 2000000000
opened_few o [] world = world.few
opened_few o (event ∷ earlier) world = opened_few o earlier world.1

-- four bytes count the orders, and the one that is wanted with them
pub orders_few : (o : Opening) (events : List Event) → IsSound o.net → IsSpelledWorld o events
    → length (with_wanted (wanted (log o events)) (orders o (log o events))) ≤ LAST_COMMAND
orders_few o events sound so =
    let past = log o events in
    let paced = world_paced o events sound in
    let all = with_wanted (wanted past) (orders o past) in
    let few = paced_few (length o.orders) (greatest_due o.orders) (mark o past) all paced.begun paced.next in
    omega (arith, few, paced.paid, so.few, opened_few o events so.world)

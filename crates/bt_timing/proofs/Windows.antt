-- The ticks of a burst lie in its slots, and so those of two bursts that do not meet are apart.
use Rattle.std.proofs.Common.{◌≡◌, ℕ, ◌+◌, ◌*◌, ◌<◌, ◌≤◌, ℤ, pos, ◌≤ℤ◌, ◌<ℤ◌, List, get_or, refl, ap, sym, arith, inl, inr, add-mul, one-mul, mul-le-mul_right, lt_of_mul-lt-mul_right}
use Rattle.std.proofs.lemmas.Bool.{cases_lt}
use Rattle.std.proofs.lemmas.Int.{ints}
use Rattle.bt_frame.specs.declared.mode.Mode.{Mode}
use Rattle.bt_net.specs.Network.{Net}
use Rattle.bt_net.specs.Terminals.{beam_at}
use Rattle.bt_demand.specs.declared.burst.Burst.{Burst}
use Rattle.bt_demand.specs.Apart.{Collide}
use Rattle.bt_demand.specs.Plan.{ShareABeam, IsHeld, begin_of}
use Rattle.bt_timing.specs.Times.{Times, AreTimes, delay_of}
use Rattle.bt_timing.specs.Arrival.{TrueDelays, IsWithinGuard, Leaves, IsInSlots, KeepsToItsSlots, KeepsToItsMode, ArriveApart, LeaveApart}

-- a burst that has slots has more ticks than its two guards
pub more_than_guards : (times : Times) (slots : ℕ) → AreTimes times → 0 < slots → 2 * times.half < slots * times.slot
more_than_guards times slots are some =
    let one : 1 ≤ slots = omega arith in
    omega (arith, mul-le-mul_right times.slot one, one-mul times.slot, are.half)

-- a burst that has slots arrives in them alone
pub keeps_to_slots : (times : Times) (delays : TrueDelays) (burst : Burst) → AreTimes times → IsWithinGuard times delays burst.from → 0 < burst.length
    → KeepsToItsSlots times delays burst
keeps_to_slots times delays burst are guard some tick arrives =
    let enough = more_than_guards times burst.length are some in
    let whole = add-mul burst.start burst.length times.slot in (
      omega (arith, ints, guard.least, arrives.from_first),
      omega (arith, ints, guard.most, arrives.before_end, enough, whole),
    )

-- slots that begin no sooner and end no later have the tick too
pub in_more_slots : (times : Times) (first slots begin lasts : ℕ) (tick : ℤ) → begin ≤ first → first + slots ≤ begin + lasts → IsInSlots times first slots tick
    → IsInSlots times begin lasts tick
in_more_slots times first slots begin lasts tick no_sooner no_later is =
    let begins = mul-le-mul_right times.slot no_sooner in
    let ends = mul-le-mul_right times.slot no_later in
    (omega (arith, ints, is.0, begins), omega (arith, ints, is.1, ends))

-- a burst that a mode holds arrives in the slots of that mode alone
pub keeps_to_mode : (net : Net) (modes : List Mode) (times : Times) (delays : TrueDelays) (burst : Burst) → IsHeld net modes burst
    → KeepsToItsSlots times delays burst → KeepsToItsMode net modes times delays burst
keeps_to_mode net modes times delays burst held keeps = record {
  place = held.place;
  within = λ d. (
    (held.within.connected d).1,
    λ tick arrives. in_more_slots times burst.start burst.length (begin_of modes held.place) (get_or modes held.place d).duration tick
        held.within.begins (held.within.connected d).0 (keeps tick arrives),
  );
}

-- what begins before the other ends in ticks does so in slots
pub begins_before : (times : Times) (first end : ℕ) (tick : ℤ) → pos (first * times.slot) ≤ℤ tick → tick <ℤ pos (end * times.slot) → first < end
begins_before times first end tick begun ends =
    let less : first * times.slot < end * times.slot = omega (arith, ints) in
    lt_of_mul-lt-mul_right times.slot less

-- two bursts of which each begins before the other ends meet, where they share a beam
pub they_meet : (net : Net) (a b : Burst) → ShareABeam net a.from a.to b.from b.to → a.start < a.start + a.length → b.start < b.start + b.length
    → a.start < b.start + b.length → b.start < a.start + a.length → Collide net a b
they_meet net a b share some_of_a some_of_b before behind = elim (cases_lt a.start b.start) [
  | inl earlier ↦ record {
    slot = b.start;
    first = record { from_start = omega arith; before_end = omega arith };
    second = record { from_start = omega arith; before_end = omega arith };
    beam = share;
  }
  | inr later ↦ record {
    slot = a.start;
    first = record { from_start = omega arith; before_end = omega arith };
    second = record { from_start = omega arith; before_end = omega arith };
    beam = share;
  }
]

-- two bursts that do not meet and keep to their slots arrive apart
pub arrive_apart : (net : Net) (times : Times) (delays : TrueDelays) (a b : Burst) → ¬ (Collide net a b) → KeepsToItsSlots times delays a → KeepsToItsSlots times delays b
    → ArriveApart net times delays a b
arrive_apart net times delays a b apart first second share tick of_a of_b =
    let in_a = first tick of_a in
    let in_b = second tick of_b in
    let before = begins_before times a.start (b.start + b.length) tick in_a.0 in_b.1 in
    let behind = begins_before times b.start (a.start + a.length) tick in_b.0 in_a.1 in
    let some_of_a = begins_before times a.start (a.start + a.length) tick in_a.0 in_a.1 in
    let some_of_b = begins_before times b.start (b.start + b.length) tick in_b.0 in_b.1 in
    apart (they_meet net a b share some_of_a some_of_b before behind)

-- of two bursts of one terminal that leave it in one tick the first begins before the second ends
leaves_before : (times : Times) (a b : Burst) (tick : ℤ) → a.from ≡ b.from → Leaves times a tick → Leaves times b tick → a.start < b.start + b.length
leaves_before times a b tick same of_a of_b =
    let delay : delay_of times a.from ≡ delay_of times b.from = ap (delay_of times) same in
    let whole = add-mul b.start b.length times.slot in
    let less : a.start * times.slot < (b.start + b.length) * times.slot = omega (arith, ints, of_a.from_first, of_b.before_end) in
    lt_of_mul-lt-mul_right times.slot less

-- two bursts of one terminal that do not meet leave it apart
pub leave_apart : (net : Net) (times : Times) (a b : Burst) → ¬ (Collide net a b) → LeaveApart times a b
leave_apart net times a b apart same tick of_a of_b =
    let before = leaves_before times a b tick same of_a of_b in
    let behind = leaves_before times b a tick (sym same) of_b of_a in
    let some_of_a = leaves_before times a a tick refl of_a of_a in
    let some_of_b = leaves_before times b b tick refl of_b of_b in
    apart (they_meet net a b (inl (ap (beam_at net) same)) some_of_a some_of_b before behind)

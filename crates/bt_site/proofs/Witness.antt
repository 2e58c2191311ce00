-- Worlds that are worlds: the example's.
use Rattle.std.proofs.Common.{◌≡◌, ◌≢◌, inl, inr, ℕ, ◌<◌, ◌≤◌, ◌&&◌, nat_lt, is_some, Bool, true, false, List, [], ◌∷◌, length, All, AllPairs, Option, Some, None, refl, sym, ap, arith}
use Rattle.std.proofs.lemmas.Bool.Decides.{nat_tests}
use Rattle.std.proofs.lemmas.List.Elements.{All-nil, All-cons}
use Rattle.std.proofs.lemmas.List.Kept.{AllPairs-cons}
use Rattle.std.proofs.lemmas.List.Sorted.{IsPermutation-refl}
use Rattle.bt_frame.specs.declared.mode.Mode.{Mode}
use Rattle.bt_frame.specs.declared.numbers.BeamNo.{BeamNo}
use Rattle.bt_matrix.specs.Good.{IsPermutation}
use Rattle.bt_net.specs.Name.{is_name, is_terminal_name}
use Rattle.bt_net.specs.Network.{AreNames, IsSound}
use Rattle.bt_net.specs.Terminals.{IsTerminal}
use Rattle.bt_demand.specs.declared.burst.Burst.{Burst}
use Rattle.bt_demand.specs.Apart.{Collide}
use Rattle.bt_demand.specs.Burst.{IsNotAfter}
use Rattle.bt_demand.specs.Flyable.{IsFlyable}
use Rattle.bt_demand.specs.Plan.{Connects, IsHeld, empty_plan}
use Rattle.bt_demand.proofs.Flyable.{empty_flies}
use Rattle.bt_air.specs.declared.order.Order.{Order}
use Rattle.bt_air.specs.declared.sent.Place.{Place}
use Rattle.bt_air.specs.declared.sent.Place.TheVariants.{Satellite, Centre, Terminal}
use Rattle.bt_site.specs.Air.{AreFlyable, IsAir}
use Rattle.bt_site.specs.Event.{Opening, Event, Tick, Turn, Second, Ordered, Deliver, Frame, ResetTerminal, RestartCentre, Install, Happening}
use Rattle.bt_site.specs.Example.{two_beams, a, b, a_burst, b_burst, a_plan, opened, back, calm, lossy, reset, late, started}
use Rattle.bt_machines.specs.Plans.{newest_of, IsStored, plan_of}
use Rattle.bt_site.specs.Fits.{HasPlan, IsInTime, IsOpening, IsPlace, AreStored, IsWorld}
use Rattle.bt_site.specs.World.{mark, frames_shown, plans, wanted, orders, sent, is_told, log}

-- whether the place is one of the network
abbrev pub is_place : Opening → Place → Bool
is_place o Satellite = true
is_place o Centre = true
is_place o (Terminal terminal) = nat_lt terminal.0 (length o.net.terminals)

-- whether the event meets what must hold of it, but for what is said of its plan
abbrev pub meets : Opening → List Happening → Event → Bool
meets o past Tick = nat_lt (mark o past) 4000000000
meets o past (Turn target) = is_some (plan_of (plans o past) target)
meets o past (Second None) = true
meets o past (Second (Some edition)) = is_told (sent o past) (mark o past) edition
meets o past Ordered = is_some (wanted past)
meets o past (Deliver message place) = nat_lt message (length (sent o past)) && is_place o place
meets o past Frame = nat_lt (frames_shown past) o.net.frames
meets o past (ResetTerminal terminal) = nat_lt terminal.0 (length o.net.terminals)
meets o past (RestartCentre true) = is_some (wanted past)
meets o past (RestartCentre false) = true
meets o past (Install plan) = nat_lt (newest_of (plans o past)).0 plan.edition.0

abbrev pub all_meet : Opening → List Event → Bool
all_meet o [] = true
all_meet o (event ∷ earlier) = meets o (log o earlier) event && all_meet o earlier

first-of : (x y : Bool) → (x && y) ≡ true → x ≡ true
first-of true y e = refl
first-of false y e = e

second-of : (x y : Bool) → (x && y) ≡ true → y ≡ true
second-of true y e = e
second-of false y e = cc

below : (x y : ℕ) → nat_lt x y ≡ true → x < y
below x y e = grind (arith, nat_tests)

at-place : (o : Opening) (place : Place) → is_place o place ≡ true → IsPlace o place
at-place o Satellite e = tt
at-place o Centre e = tt
at-place o (Terminal terminal) e = below terminal.0 (length o.net.terminals) e

-- events that pass the test make a world
pub world-by : (o : Opening) (events : List Event) → IsOpening o → AreFlyable o events → all_meet o events ≡ true → IsWorld o events
world-by o [] opening fit passes = opening
world-by o (Tick ∷ earlier) opening fit passes =
    (below (mark o (log o earlier)) 4000000000 (first-of _ (all_meet o earlier) passes), world-by o earlier opening fit (second-of _ (all_meet o earlier) passes))
world-by o (Turn target ∷ earlier) opening fit passes = (first-of _ _ passes, world-by o earlier opening fit (second-of _ (all_meet o earlier) passes))
world-by o (Second None ∷ earlier) opening fit passes = (tt, world-by o earlier opening fit (second-of true (all_meet o earlier) passes))
world-by o (Second (Some edition) ∷ earlier) opening fit passes = (first-of _ _ passes, world-by o earlier opening fit (second-of _ (all_meet o earlier) passes))
world-by o (Ordered ∷ earlier) opening fit passes = (first-of _ _ passes, world-by o earlier opening fit (second-of _ (all_meet o earlier) passes))
world-by o (Deliver message place ∷ earlier) opening fit passes =
    let one = first-of (nat_lt message (length (sent o (log o earlier))) && is_place o place) (all_meet o earlier) passes in (
      (
        below message (length (sent o (log o earlier))) (first-of (nat_lt message (length (sent o (log o earlier)))) (is_place o place) one),
        at-place o place (second-of (nat_lt message (length (sent o (log o earlier)))) (is_place o place) one),
      ),
      world-by o earlier opening fit (second-of (nat_lt message (length (sent o (log o earlier))) && is_place o place) (all_meet o earlier) passes),
    )
world-by o (Frame ∷ earlier) opening fit passes = (below (frames_shown (log o earlier)) o.net.frames (first-of _ (all_meet o earlier) passes), world-by o earlier opening fit (second-of _ (all_meet o earlier) passes))
world-by o (ResetTerminal terminal ∷ earlier) opening fit passes =
    (below terminal.0 (length o.net.terminals) (first-of _ (all_meet o earlier) passes), world-by o earlier opening fit (second-of _ (all_meet o earlier) passes))
world-by o (RestartCentre true ∷ earlier) opening fit passes = (first-of _ _ passes, world-by o earlier opening fit (second-of _ (all_meet o earlier) passes))
world-by o (RestartCentre false ∷ earlier) opening fit passes = (tt, world-by o earlier opening fit (second-of true (all_meet o earlier) passes))
world-by o (Install plan ∷ earlier) opening fit passes =
    ((below (newest_of (plans o (log o earlier))).0 plan.edition.0 (first-of _ (all_meet o earlier) passes), fit.0), world-by o earlier opening fit.1 (second-of _ (all_meet o earlier) passes))

-- the example's network
none-differ : {X : Type 0} (R : X → X → Type 0) → AllPairs R []
none-differ R i j d lt within = absurd (omega arith)

two-names : (is_good : List ℕ → Bool) (x y : List ℕ) → is_good x ≡ true → is_good y ≡ true → x ≢ y → AreNames is_good (x ∷ y ∷ [])
two-names is_good x y p q differ =
    let Good = λ (name : List ℕ). is_good name ≡ true in
    let Differ = λ (s t : List ℕ). s ≢ t in record {
      good = All-cons Good x (y ∷ []) p (All-cons Good y [] q (All-nil Good));
      differ = AllPairs-cons Differ x (y ∷ []) (All-cons (Differ x) y [] differ (All-nil (Differ x))) (AllPairs-cons Differ y [] (All-nil (Differ y)) (none-differ Differ));
    }

abbrev first-byte : List ℕ → ℕ
first-byte [] = 0
first-byte (byte ∷ rest) = byte

other-names : (x y : List ℕ) → first-byte x ≢ first-byte y → x ≢ y
other-names x y differ same = differ (ap first-byte same)

pub network-sound : IsSound two_beams
network-sound =
    let In = λ (terminal : List ℕ × BeamNo). terminal.1.0 < 2 in record {
      beams = record { count = (omega arith, omega arith); names = two-names is_name (78 ∷ []) (83 ∷ []) refl refl (other-names (78 ∷ []) (83 ∷ []) (λ e. omega (arith, e))) };
      terminals = record {
        count = (omega arith, omega arith);
        names = two-names is_terminal_name (65 ∷ []) (66 ∷ []) refl refl (other-names (65 ∷ []) (66 ∷ []) (λ e. omega (arith, e)));
        in_beam = All-cons In ((65 ∷ []), record { 0 = 0 }) (((66 ∷ []), record { 0 = 1 }) ∷ []) (omega arith) (All-cons In ((66 ∷ []), record { 0 = 1 }) [] (omega arith) (All-nil In));
      };
      slots = (omega arith, omega arith);
      frames = (omega arith, omega arith);
      lead = (omega arith, omega arith);
      patience = (omega arith, omega arith);
      journal = (omega arith, omega arith);
    }

-- the example's plans
abbrev beam-number : Option BeamNo → ℕ
beam-number None = 9
beam-number (Some beam) = beam.0

-- a mode that exchanges both beams connects each to the other
abbrev crossed : Mode
crossed = record { duration = 3; perm = 1 ∷ 0 ∷ [] }

a-connects : Connects two_beams crossed a b
a-connects up down from to =
    let p : 0 ≡ up.0 = ap beam-number from in let q : 1 ≡ down.0 = ap beam-number to in rw (sym p, sym q) refl

b-connects : Connects two_beams crossed b a
b-connects up down from to =
    let p : 1 ≡ up.0 = ap beam-number from in let q : 0 ≡ down.0 = ap beam-number to in rw (sym p, sym q) refl

a-held : IsHeld two_beams (crossed ∷ []) a_burst
a-held = record { some = omega arith; place = 0; within = record { begins = omega arith; connected = λ d. (omega arith, a-connects) } }

b-held : IsHeld two_beams (crossed ∷ []) b_burst
b-held = record { some = omega arith; place = 0; within = record { begins = omega arith; connected = λ d. (omega arith, b-connects) } }

apart-beams : ¬ (Collide two_beams a_burst b_burst)
apart-beams meet = elim meet.beam [
  | inl up ↦ let p : 0 ≡ 1 = ap beam-number up in absurd (omega (arith, p))
  | inr down ↦ let p : 1 ≡ 0 = ap beam-number down in absurd (omega (arith, p))
]

pub plan-flies : IsFlyable two_beams a_plan
plan-flies =
    let Permutes = λ (mode : Mode). IsPermutation 2 mode.perm in
    let Lasts = λ (mode : Mode). 0 < mode.duration in
    let Below = λ (down : ℕ). down < 2 in
    let Differ = λ (x y : ℕ). x ≢ y in
    let Between = λ (burst : Burst). IsTerminal two_beams burst.from × IsTerminal two_beams burst.to in
    let Apart = λ (x y : Burst). ¬ (Collide two_beams x y) in
    let Held = IsHeld two_beams (crossed ∷ []) in record {
      permutations = All-cons Permutes crossed [] (record {
        count = refl;
        in_range = All-cons Below 1 (0 ∷ []) (omega arith) (All-cons Below 0 [] (omega arith) (All-nil Below));
        distinct = AllPairs-cons Differ 1 (0 ∷ []) (All-cons (Differ 1) 0 [] (λ e. omega (arith, e)) (All-nil (Differ 1))) (AllPairs-cons Differ 0 [] (All-nil (Differ 0)) (none-differ Differ));
      }) (All-nil Permutes);
      durations = All-cons Lasts crossed [] (omega arith) (All-nil Lasts);
      filled = refl;
      short = omega arith;
      between = All-cons Between a_burst (b_burst ∷ []) (omega arith, omega arith) (All-cons Between b_burst [] (omega arith, omega arith) (All-nil Between));
      apart = AllPairs-cons Apart a_burst (b_burst ∷ []) (All-cons (Apart a_burst) b_burst [] apart-beams (All-nil (Apart a_burst))) (AllPairs-cons Apart b_burst [] (All-nil (Apart b_burst)) (none-differ Apart));
      held = All-cons Held a_burst (b_burst ∷ []) a-held (All-cons Held b_burst [] b-held (All-nil Held));
    }

pub opening-opens : IsOpening opened
opening-opens = record {
  starts = refl;
  fit = All-cons (IsFlyable two_beams) empty_plan [] (empty_flies two_beams) (All-nil (IsFlyable two_beams));
  numbered = tt;
  planned = All-nil (HasPlan (empty_plan ∷ []));
  in_time = All-nil IsInTime;
  few = omega arith;
}

-- and they are stored ones
pub empty-stored : IsStored empty_plan
empty-stored = record { edition = (omega arith, omega arith); ordered = λ i j d lt within. absurd (omega arith) }

burst-order : IsNotAfter a_burst b_burst
burst-order = record { start = omega arith; from = λ e. omega arith; to = λ e f. omega (arith, f) }

pub plan-stored : IsStored a_plan
plan-stored = record {
  edition = (omega arith, omega arith);
  ordered = AllPairs-cons IsNotAfter a_burst (b_burst ∷ []) (All-cons (IsNotAfter a_burst) b_burst [] burst-order (All-nil (IsNotAfter a_burst)))
      (AllPairs-cons IsNotAfter b_burst [] (All-nil (IsNotAfter b_burst)) (none-differ IsNotAfter));
}

-- the worlds of the example
flies : All (IsFlyable two_beams) (empty_plan ∷ [])
flies = All-cons (IsFlyable two_beams) empty_plan [] (empty_flies two_beams) (All-nil (IsFlyable two_beams))

pub reset-world : IsWorld opened reset
reset-world = world-by opened reset opening-opens (plan-flies, flies) refl

pub started-world : IsWorld opened started
started-world = world-by opened started opening-opens (plan-flies, flies) refl

pub lossy-world : IsWorld opened lossy
lossy-world = world-by opened lossy opening-opens (plan-flies, flies) refl

pub late-world : IsWorld opened late
late-world = world-by opened late opening-opens (plan-flies, flies) refl

pub reset-flies : AreFlyable opened reset
reset-flies = (plan-flies, flies)

both-stored : All IsStored (a_plan ∷ empty_plan ∷ [])
both-stored = All-cons IsStored a_plan (empty_plan ∷ []) plan-stored (All-cons IsStored empty_plan [] empty-stored (All-nil IsStored))

two-orders : (placed : List Order) → length placed ≡ 2 → length placed ≤ 4294967295
two-orders placed two = omega (arith, two)

pub reset-stored : AreStored opened (log opened reset)
reset-stored = record { plans = both-stored; orders = (omega arith, two-orders (orders opened (log opened reset)) refl) }

pub started-stored : AreStored opened (log opened started)
started-stored = record { plans = both-stored; orders = (omega arith, two-orders (orders opened (log opened started)) refl) }

pub late-stored : AreStored opened (log opened late)
late-stored = record { plans = both-stored; orders = (omega arith, two-orders (orders opened (log opened late)) refl) }

pub back-world : IsWorld opened back
back-world = world-by opened back opening-opens (plan-flies, flies) refl

-- what is on the air after the calm change
pub calm-air : IsAir opened (log opened calm) (a_burst ∷ b_burst ∷ [])
calm-air = record {
  ordered = plan-stored.ordered;
  of_all = IsPermutation-refl (a_burst ∷ b_burst ∷ []);
}

-- The ends of the latest bursts in each beam, as a walk along the bursts keeps them.
use Rattle.std.proofs.Common.{◌≡◌, ◌⊎◌, ℕ, ◌+◌, ◌<◌, ◌≤◌, List, [], ◌∷◌, ◌++◌, length, All, Option, Some, replicate, get_or, set, slice_index, take, AllPairs, inl, inr, sym, ap, ◌∙◌, subst, arith}
use Rattle.std.specs.List.{Any}
use Rattle.std.proofs.lemmas.Bool.{cases_eq}
use Rattle.std.proofs.lemmas.List.{length-set, get_or-set_same, get_or-set_other, get_or_append_left, length_push, length-replicate, length-take, get_or-replicate, get_or-take, get_or_default, take-take}
use Rattle.std.proofs.lemmas.List.Elements.{All-push, All-weaker}
use Rattle.std.proofs.lemmas.List.Quantifiers.{Any-push, all_pairs_push}
use Rattle.bt_frame.proofs.OneNumber.{same_beam}
use Rattle.bt_frame.specs.declared.numbers.BeamNo.{BeamNo}
use Rattle.bt_net.specs.Network.{Net}
use Rattle.bt_demand.specs.declared.burst.Burst.{Burst}
use Rattle.bt_demand.specs.Burst.{IsNotAfter}
use Rattle.bt_demand.specs.Plan.{ShareABeam}
use Rattle.bt_demand.specs.PlanVerdict.{Collide, AreApart, IsFirstMeeting}
use Rattle.bt_demand.specs.Meeting.{IsOfBeam, AreEnds, IsFirstLate, IsFirstMet, uplink_of, downlink_of}

-- what some item has, some item of a longer list has
Any-more : {X : Type 0} (P : X → Type 0) (xs : List X) (x : X) → Any P xs → Any P (xs ++ x ∷ [])
Any-more P xs x (k, y, within, is, holds) = (k, y, omega (arith, length_push xs x), get_or_append_left xs (x ∷ []) y k within ∙ is, holds)

-- an empty burst changes no end
pub AreEnds-skip : (beam_of : Burst → Option BeamNo) (xs : List Burst) (ends : List ℕ) (b : Burst) → AreEnds beam_of xs ends → b.length ≡ 0
    → AreEnds beam_of (xs ++ b ∷ []) ends
AreEnds-skip beam_of xs ends b are empty = record {
  wide = are.wide;
  none_later = λ beam small. All-push (λ (a : Burst). IsOfBeam beam_of beam a → a.start + a.length ≤ slice_index ends beam.0) xs b (are.none_later beam small) (λ of. absurd (omega (arith, of.some)));
  reached = λ beam small some. Any-more (λ (a : Burst). IsOfBeam beam_of beam a × (a.start + a.length ≡ slice_index ends beam.0)) xs b (are.reached beam small some);
}

-- a burst that begins behind the others of its beam has the latest end there
pub AreEnds-add : (beam_of : Burst → Option BeamNo) (xs : List Burst) (ends : List ℕ) (b : Burst) (beam : BeamNo) (last : ℕ) → AreEnds beam_of xs ends
    → beam_of b ≡ Some beam → beam.0 < 32 → 0 < b.length → slice_index ends beam.0 ≤ b.start → last ≡ b.start + b.length
    → AreEnds beam_of (xs ++ b ∷ []) (set ends beam.0 last)
AreEnds-add beam_of xs ends b beam last are in_beam in_range some behind is = record {
  wide = length-set ends beam.0 last ∙ are.wide;
  none_later = λ other small. elim (cases_eq other.0 beam.0) [
    | inl same ↦
        let here : slice_index (set ends beam.0 last) other.0 ≡ last = rw same (get_or-set_same ends beam.0 last 0 (omega (arith, are.wide))) in
        All-push (λ (a : Burst). IsOfBeam beam_of other a → a.start + a.length ≤ slice_index (set ends beam.0 last) other.0) xs b
        (All-weaker (λ (a : Burst). IsOfBeam beam_of other a → a.start + a.length ≤ slice_index ends other.0) (λ (a : Burst). IsOfBeam beam_of other a → a.start + a.length ≤ slice_index (set ends beam.0 last) other.0)
        (λ a before of. let le = before of in let at : slice_index ends other.0 ≡ slice_index ends beam.0 = ap (slice_index ends) same in omega arith) xs (are.none_later other small))
        (λ of. omega arith)
    | inr apart ↦
        let there : slice_index (set ends beam.0 last) other.0 ≡ slice_index ends other.0 = get_or-set_other ends beam.0 other.0 last 0 apart in
        All-push (λ (a : Burst). IsOfBeam beam_of other a → a.start + a.length ≤ slice_index (set ends beam.0 last) other.0) xs b
        (All-weaker (λ (a : Burst). IsOfBeam beam_of other a → a.start + a.length ≤ slice_index ends other.0) (λ (a : Burst). IsOfBeam beam_of other a → a.start + a.length ≤ slice_index (set ends beam.0 last) other.0)
        (λ a before of. let le = before of in omega arith) xs (are.none_later other small))
        (λ of. let one : other ≡ beam = cc (of.in_beam, in_beam) in absurd (apart (ap (λ (n : BeamNo). n.0) one)))
  ];
  reached = λ other small positive. elim (cases_eq other.0 beam.0) [
    | inl same ↦
        let here : slice_index (set ends beam.0 last) other.0 ≡ last = rw same (get_or-set_same ends beam.0 last 0 (omega (arith, are.wide))) in
        Any-push (λ (a : Burst). IsOfBeam beam_of other a × (a.start + a.length ≡ slice_index (set ends beam.0 last) other.0)) xs b
        (record { some = some; in_beam = in_beam ∙ ap Some (sym (same_beam other beam same)) }, omega arith)
    | inr apart ↦
        let there : slice_index (set ends beam.0 last) other.0 ≡ slice_index ends other.0 = get_or-set_other ends beam.0 other.0 last 0 apart in
        Any-more (λ (a : Burst). IsOfBeam beam_of other a × (a.start + a.length ≡ slice_index (set ends beam.0 last) other.0)) xs b
        (rw there (are.reached other small (omega arith)))
  ];
}

-- an empty burst meets none
pub empty_meets_none : (net : Net) (xs : List Burst) (b : Burst) → b.length ≡ 0 → All (λ a. ¬ (Collide net a b)) xs
empty_meets_none net xs b empty k d within meet = omega (arith, meet.second.from_start, meet.second.before_end)

-- a burst that begins behind the others of its beams meets none of them
pub late_meets_none : (net : Net) (xs : List Burst) (ups downs : List ℕ) (b : Burst) (up down : BeamNo)
    → AreEnds (uplink_of net) xs ups → AreEnds (downlink_of net) xs downs → uplink_of net b ≡ Some up → downlink_of net b ≡ Some down
    → up.0 < 32 → down.0 < 32 → slice_index ups up.0 ≤ b.start → slice_index downs down.0 ≤ b.start → All (λ a. ¬ (Collide net a b)) xs
late_meets_none net xs ups downs b up down are_ups are_downs is_up is_down up_small down_small behind_up behind_down k d within meet =
    let a : Burst = get_or xs k d in
    let some : 0 < (get_or xs k d).length = omega (arith, meet.first.from_start, meet.first.before_end) in
    elim meet.beam [
      | inl same ↦ let end = are_ups.none_later up up_small k d within (record { some = some; in_beam = same ∙ is_up }) in omega (arith, meet.first.before_end, meet.second.from_start, end)
      | inr same ↦ let end = are_downs.none_later down down_small k d within (record { some = some; in_beam = same ∙ is_down }) in omega (arith, meet.first.before_end, meet.second.from_start, end)
    ]

-- a burst that begins before the end of another one of its beam meets that one
pub early_meets_one : (net : Net) (beam_of : Burst → Option BeamNo) (xs : List Burst) (ends : List ℕ) (b : Burst) (beam : BeamNo)
    → ((a : Burst) → beam_of a ≡ beam_of b → ShareABeam net a.from a.to b.from b.to)
    → AreEnds beam_of xs ends → All (λ a. a.start ≤ b.start) xs → beam_of b ≡ Some beam → beam.0 < 32 → 0 < b.length → b.start < slice_index ends beam.0
    → ¬ (All (λ a. ¬ (Collide net a b)) xs)
early_meets_one net beam_of xs ends b beam shares are ordered in_beam small some before none =
    let (k, a, within, is, (of, end)) = are.reached beam small (omega arith) in
    let from : a.start ≤ b.start = subst (λ (x : Burst). x.start ≤ b.start) is (ordered k a within) in
    subst (λ (x : Burst). ¬ (Collide net x b)) is (none k a within) (record {
      slot = b.start;
      first = record { from_start = from; before_end = omega arith };
      second = record { from_start = omega arith; before_end = omega arith };
      beam = shares a (of.in_beam ∙ sym in_beam);
    })

-- the burst at a place is not before the others so far
from_order : (xs : List Burst) (i : ℕ) (d : Burst) → i < length xs → AllPairs IsNotAfter xs → All (λ a. a.start ≤ (get_or xs i d).start) (take i xs)
from_order xs i d within ordered k e below =
    let before : k < i = omega (arith, length-take {A = Burst} i xs) in
    let inside : k < length xs = omega arith in
    let order = ordered k i d before within in
    subst (λ (a : Burst). a.start ≤ (get_or xs i d).start) (get_or_default xs k d e inside ∙ sym (get_or-take i xs k e before)) order.start

-- the bursts so far are apart, and these are their latest ends in each beam
pub record IsWalked (net : Net) (bursts : List Burst) (ups downs : List ℕ) : Type 0 where
  pub uplinks : AreEnds (uplink_of net) bursts ups
  pub downlinks : AreEnds (downlink_of net) bursts downs
  pub apart : AreApart net bursts

-- no burst was looked at yet
AreEnds-none : (beam_of : Burst → Option BeamNo) → AreEnds beam_of [] (replicate 32 0)
AreEnds-none beam_of = record {
  wide = length-replicate {A = ℕ} 32 0;
  none_later = λ beam small k d within. absurd (omega (arith, within));
  reached = λ beam small some. absurd (omega (arith, some, get_or-replicate {A = ℕ} 32 beam.0 0 0 small));
}

pub IsWalked-none : (net : Net) → IsWalked net [] (replicate 32 0) (replicate 32 0)
IsWalked-none net = record {
  uplinks = AreEnds-none (uplink_of net);
  downlinks = AreEnds-none (downlink_of net);
  apart = λ i j d less within. absurd (omega (arith, within));
}

-- one more burst that meets none of those before it
pub apart-push : (net : Net) (xs : List Burst) (b : Burst) → AreApart net xs → All (λ a. ¬ (Collide net a b)) xs → AreApart net (xs ++ b ∷ [])
apart-push net xs b apart none = all_pairs_push (λ (a b : Burst). ¬ (Collide net a b)) xs b apart none

pub IsWalked-skip : (net : Net) (xs : List Burst) (ups downs : List ℕ) (b : Burst) → IsWalked net xs ups downs → b.length ≡ 0 → IsWalked net (xs ++ b ∷ []) ups downs
IsWalked-skip net xs ups downs b walked empty = record {
  uplinks = AreEnds-skip (uplink_of net) xs ups b walked.uplinks empty;
  downlinks = AreEnds-skip (downlink_of net) xs downs b walked.downlinks empty;
  apart = apart-push net xs b walked.apart (empty_meets_none net xs b empty);
}

pub IsWalked-add : (net : Net) (xs : List Burst) (ups downs : List ℕ) (b : Burst) (up down : BeamNo) (last : ℕ) → IsWalked net xs ups downs
    → uplink_of net b ≡ Some up → downlink_of net b ≡ Some down → up.0 < 32 → down.0 < 32 → 0 < b.length
    → slice_index ups up.0 ≤ b.start → slice_index downs down.0 ≤ b.start → last ≡ b.start + b.length
    → IsWalked net (xs ++ b ∷ []) (set ups up.0 last) (set downs down.0 last)
IsWalked-add net xs ups downs b up down last walked is_up is_down up_small down_small some behind_up behind_down is = record {
  uplinks = AreEnds-add (uplink_of net) xs ups b up last walked.uplinks is_up up_small some behind_up is;
  downlinks = AreEnds-add (downlink_of net) xs downs b down last walked.downlinks is_down down_small some behind_down is;
  apart = apart-push net xs b walked.apart (late_meets_none net xs ups downs b up down walked.uplinks walked.downlinks is_up is_down up_small down_small behind_up behind_down);
}

-- what a burst is read as past the end of a list
abbrev pub no_burst : Burst
no_burst = record { from = record { 0 = 0 }; to = record { 0 = 0 }; start = 0; length = 0 }

-- the burst at a place that begins before another one of its beams ends
pub is_first_late : (net : Net) (xs : List Burst) (i : ℕ) (ups downs : List ℕ) (up down : BeamNo) → i < length xs → AllPairs IsNotAfter xs
    → IsWalked net (take i xs) ups downs → uplink_of net (get_or xs i no_burst) ≡ Some up → downlink_of net (get_or xs i no_burst) ≡ Some down
    → up.0 < 32 → down.0 < 32 → 0 < (get_or xs i no_burst).length
    → ((get_or xs i no_burst).start < slice_index ups up.0) ⊎ ((get_or xs i no_burst).start < slice_index downs down.0) → IsFirstLate net xs i
is_first_late net xs i ups downs up down within ordered walked is_up is_down up_small down_small some early =
    let b = get_or xs i no_burst in
    let before = from_order xs i no_burst within ordered in
    let meets : ¬ (All (λ a. ¬ (Collide net a (get_or xs i no_burst))) (take i xs)) = elim early [
      | inl uplink ↦ early_meets_one net (uplink_of net) (take i xs) ups b up (λ a same. inl same) walked.uplinks before is_up up_small some uplink
      | inr downlink ↦ early_meets_one net (downlink_of net) (take i xs) downs b down (λ a same. inr same) walked.downlinks before is_down down_small some downlink
    ] in
    record {
      within = within;
      late = λ d. subst (λ (x : Burst). ¬ (All (λ a. ¬ (Collide net a x)) (take i xs))) (get_or_default xs i no_burst d within) meets;
      apart = walked.apart;
    }

-- the first burst that is late, and the first that it meets
pub is_first_meeting : (net : Net) (xs : List Burst) (first second : ℕ) → IsFirstLate net xs second → IsFirstMet net (take second xs) (get_or xs second no_burst) first
    → IsFirstMeeting net xs first second
is_first_meeting net xs first second late met =
    let before : first < second = omega (arith, met.within, length-take {A = Burst} second xs) in
    let same = λ (d : Burst). get_or_default xs second no_burst d late.within in
    record {
      before = before;
      meet = λ d e. subst (λ (b : Burst). Collide net (get_or xs first e) b) (same d) (subst (λ (a : Burst). Collide net a (get_or xs second no_burst)) (get_or-take second xs first e before) (met.meets e));
      earliest = λ d. subst (λ (b : Burst). All (λ a. ¬ (Collide net a b)) (take first xs)) (same d)
          (subst (All (λ (a : Burst). ¬ (Collide net a (get_or xs second no_burst)))) (take-take first second xs (omega arith)) met.earlier);
      apart = late.apart;
    }

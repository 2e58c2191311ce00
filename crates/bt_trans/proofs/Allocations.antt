-- The allocation of a good schedule: slot by slot, what a matrix still wants of each connection that the slot's mode makes.
use Rattle.std.proofs.Common.{◌≡◌, ◌≢◌, ◌==◌, ◌&&◌, ℕ, zero, suc, ◌+◌, ◌-◌, ◌<◌, ◌≤◌, ltb, min, cond, not, if◌then◌else◌, Bool, true, false, List, [], ◌∷◌, length, get_or, slice_index, sum_by, All, AllPairs, sym, ap, ◌∙◌, refl, inl, inr, arith}
use Rattle.std.proofs.lemmas.Bool.{cases_Bool, cases_lt, cases_eq, eqb-true, eq-eqb, ne_eqb, lt-ltb, ltb-true, false_from_ne_true}
use Rattle.std.proofs.lemmas.List.{get_or_past}
use Rattle.std.proofs.lemmas.List.Elements.{All-head, All-tail, All-cons}
use Rattle.std.proofs.lemmas.List.Kept.{AllPairs-cons}
use Rattle.std.proofs.lemmas.List.Sums.{sum_by-cons}
use Rattle.bt_frame.proofs.Totals.{total, total-le, total-same, total-zero}
use Rattle.bt_matrix.specs.Traffic.{entry, row_of, IsTraffic}
use Rattle.bt_matrix.proofs.Walks.{entry-past}
use Rattle.bt_trans.specs.declared.part.PartMode.{PartMode}
use Rattle.bt_trans.specs.declared.part.PartSchedule.{PartSchedule}
use Rattle.bt_trans.specs.Allocation.{Grant, goes, lies, IsAllocation}
use Rattle.bt_trans.specs.Part.{IsPartSwitching, connections, part_slots_in, part_slots_of, part_duration, IsGoodPart}
use Rattle.bt_trans.proofs.Cells.{total-split}
use Rattle.bt_trans.proofs.Clips.{speaks, connections-total}
use Rattle.bt_trans.proofs.Totals.{total-equal}

-- one where the test passes
abbrev one_if : Bool → ℕ
one_if test = if test then 1 else 0

-- An allocation is made of what is wanted, and of the downlink that each uplink has slot by slot.

-- the slots before this one in which the uplink has the downlink
abbrev before : (ℕ → ℕ → ℕ) → ℕ → ℕ → ℕ → ℕ
before perms slot up down = total slot (λ t. one_if (perms t up == down))

-- is a unit of the uplink given to this slot: does the connection want more than it has had?
abbrev wanted : (ℕ → ℕ → ℕ) → (ℕ → ℕ → ℕ) → ℕ → ℕ → Bool
wanted want perms slot up = ltb (before perms slot up (perms slot up)) (want up (perms slot up))

-- the unit
abbrev unit_at : (ℕ → ℕ → ℕ) → ℕ → ℕ → Grant
unit_at perms slot up = record { slot = slot; up = up; down = perms slot up }

-- the units of a slot from the first uplinks, put before others
abbrev slot_units : (ℕ → ℕ → ℕ) → (ℕ → ℕ → ℕ) → ℕ → ℕ → List Grant → List Grant
slot_units want perms slot zero others = others
slot_units want perms slot (suc up) others =
    cond (wanted want perms slot up) (unit_at perms slot up ∷ slot_units want perms slot up others) (slot_units want perms slot up others)

-- the units of the first slots
abbrev units : (ℕ → ℕ → ℕ) → (ℕ → ℕ → ℕ) → ℕ → ℕ → List Grant
units want perms size zero = []
units want perms size (suc slot) = slot_units want perms slot size (units want perms size slot)

-- a unit of an earlier slot, or of the slot from an earlier uplink; it is to the downlink that the uplink has
record IsEarlier (perms : ℕ → ℕ → ℕ) (slot up : ℕ) (unit : Grant) : Type 0 where
  pub not_later : unit.slot ≤ slot
  pub earlier : unit.slot ≡ slot → unit.up < up
  pub own : unit.down ≡ perms unit.slot unit.up

-- an item that is put before others where a test passes: what holds of all, of each two, and of a sum
All-if : {X : Type 0} (P : X → Type 0) (test : Bool) (x : X) (xs : List X) → (test ≡ true → P x) → All P xs → All P (cond test (x ∷ xs) xs)
All-if P true x xs here all = All-cons P x xs (here refl) all
All-if P false x xs here all = all

AllPairs-if : {X : Type 0} (R : X → X → Type 0) (test : Bool) (x : X) (xs : List X) → (test ≡ true → All (R x) xs) → AllPairs R xs → AllPairs R (cond test (x ∷ xs) xs)
AllPairs-if R true x xs here all = AllPairs-cons R x xs (here refl) all
AllPairs-if R false x xs here all = all

sum_by-if : {X : Type 0} (f : X → ℕ) (test : Bool) (x : X) (xs : List X) → sum_by f (cond test (x ∷ xs) xs) ≡ cond test (f x) 0 + sum_by f xs
sum_by-if f true x xs = sum_by-cons f x xs
sum_by-if f false x xs = omega arith

-- the units of a slot from the first uplinks are earlier than those from the next
slot_earlier : (want perms : ℕ → ℕ → ℕ) (slot up : ℕ) (others : List Grant) → All (IsEarlier perms slot 0) others
    → All (IsEarlier perms slot up) (slot_units want perms slot up others)
slot_earlier want perms slot zero others earlier = earlier
slot_earlier want perms slot (suc up) others earlier =
    let rest = slot_earlier want perms slot up others earlier in
    All-if (IsEarlier perms slot (suc up)) (wanted want perms slot up) (unit_at perms slot up) (slot_units want perms slot up others)
    (λ _. record { not_later = omega arith; earlier = λ _. omega arith; own = refl })
    (λ k d within. let unit = rest k d within in record { not_later = unit.not_later; earlier = λ same. let less = unit.earlier same in omega arith; own = unit.own })

-- and those of the first slots are earlier than those of the next
units_earlier : (want perms : ℕ → ℕ → ℕ) (size slot : ℕ) → All (IsEarlier perms slot 0) (units want perms size slot)
units_earlier want perms size zero = λ k d within. absurd (omega arith)
units_earlier want perms size (suc slot) = λ k d within.
    let unit = slot_earlier want perms slot size (units want perms size slot) (units_earlier want perms size slot) k d within in
    record { not_later = omega (arith, unit.not_later); earlier = λ same. absurd (omega (arith, unit.not_later)); own = unit.own }

-- what an allocation needs of the downlinks and of what is wanted
record AreSwitched (want perms : ℕ → ℕ → ℕ) (size k slots : ℕ) : Type 0 where
  pub apart : (slot up other : ℕ) → slot < slots → up < other → other < size → perms slot up ≡ perms slot other → perms slot up ≡ 255
  pub silent : (up : ℕ) → want up 255 ≡ 0
  pub few : (slot : ℕ) → slot < slots → total size (λ up. speaks (perms slot up)) ≤ k
  pub carried : (up down : ℕ) → want up down ≤ before perms slots up down
  pub inside : (up down : ℕ) → size ≤ up → want up down ≡ 0

-- a connection that wants more is not silent
wanted-loud : (want perms : ℕ → ℕ → ℕ) (slot up : ℕ) → want up 255 ≡ 0 → wanted want perms slot up ≡ true → perms slot up ≢ 255
wanted-loud want perms slot up silent more same =
    let less = ltb-true (before perms slot up (perms slot up)) (want up (perms slot up)) more in
    let none : want up (perms slot up) ≡ 0 = rw same silent in
    omega arith

-- no two units of a slot are from one uplink
slot_up_once : (want perms : ℕ → ℕ → ℕ) (slot up : ℕ) (others : List Grant) → All (IsEarlier perms slot 0) others
    → AllPairs (λ a b. a.slot ≡ b.slot → a.up ≡ b.up → ⊥) others → AllPairs (λ a b. a.slot ≡ b.slot → a.up ≡ b.up → ⊥) (slot_units want perms slot up others)
slot_up_once want perms slot zero others earlier once = once
slot_up_once want perms slot (suc up) others earlier once =
    AllPairs-if (λ (a : Grant) (b : Grant). a.slot ≡ b.slot → a.up ≡ b.up → ⊥) (wanted want perms slot up) (unit_at perms slot up) (slot_units want perms slot up others)
    (λ _ k d within same_slot same_up.
    let unit = slot_earlier want perms slot up others earlier k d within in
    let less = unit.earlier (sym same_slot) in omega arith)
    (slot_up_once want perms slot up others earlier once)

-- nor to one downlink
slot_down_once : (want perms : ℕ → ℕ → ℕ) (size k slots slot up : ℕ) (others : List Grant) → AreSwitched want perms size k slots → slot < slots → up ≤ size
    → All (IsEarlier perms slot 0) others
    → AllPairs (λ a b. a.slot ≡ b.slot → a.down ≡ b.down → ⊥) others → AllPairs (λ a b. a.slot ≡ b.slot → a.down ≡ b.down → ⊥) (slot_units want perms slot up others)
slot_down_once want perms size k slots slot zero others are in_slots within earlier once = once
slot_down_once want perms size k slots slot (suc up) others are in_slots within earlier once =
    AllPairs-if (λ (a : Grant) (b : Grant). a.slot ≡ b.slot → a.down ≡ b.down → ⊥) (wanted want perms slot up) (unit_at perms slot up) (slot_units want perms slot up others)
    (λ more j d inside same_slot same_down.
    let unit = slot_earlier want perms slot up others earlier j d inside in
    let less = unit.earlier (sym same_slot) in
    let there = rw (← same_slot) at unit.own in
    let silent = are.apart slot _ up in_slots less (omega arith) (sym (same_down ∙ there)) in
    wanted-loud want perms slot up (are.silent up) more ((same_down ∙ there) ∙ silent))
    (slot_down_once want perms size k slots slot up others are in_slots (omega arith) earlier once)

-- so in none of the first slots
units_up_once : (want perms : ℕ → ℕ → ℕ) (size slot : ℕ) → AllPairs (λ a b. a.slot ≡ b.slot → a.up ≡ b.up → ⊥) (units want perms size slot)
units_up_once want perms size zero = λ i j d less within. absurd (omega arith)
units_up_once want perms size (suc slot) =
    slot_up_once want perms slot size (units want perms size slot) (units_earlier want perms size slot) (units_up_once want perms size slot)

-- nor to one downlink
units_down_once : (want perms : ℕ → ℕ → ℕ) (size k slots slot : ℕ) → AreSwitched want perms size k slots → slot ≤ slots
    → AllPairs (λ a b. a.slot ≡ b.slot → a.down ≡ b.down → ⊥) (units want perms size slot)
units_down_once want perms size k slots zero are within = λ i j d less inside. absurd (omega arith)
units_down_once want perms size k slots (suc slot) are within =
    slot_down_once want perms size k slots slot size (units want perms size slot) are (omega arith) (omega arith) (units_earlier want perms size slot)
    (units_down_once want perms size k slots slot are (omega arith))

-- how many units lie in a slot: one for each uplink that is given one
slot_lies : (want perms : ℕ → ℕ → ℕ) (slot up : ℕ) (others : List Grant)
    → sum_by (lies slot) (slot_units want perms slot up others) ≡ total up (λ u. one_if (wanted want perms slot u)) + sum_by (lies slot) others
slot_lies want perms slot zero others = omega arith
slot_lies want perms slot (suc up) others =
    let rest = slot_lies want perms slot up others in
    let more = sum_by-if (lies slot) (wanted want perms slot up) (unit_at perms slot up) (slot_units want perms slot up others) in
    let here : lies slot (unit_at perms slot up) ≡ 1 = ap one_if (eq-eqb slot slot refl) in
    let one : cond (wanted want perms slot up) (lies slot (unit_at perms slot up)) 0 ≡ one_if (wanted want perms slot up) =
    elim (cases_Bool (wanted want perms slot up)) [ inl given ↦ rw given here | inr none ↦ rw none refl ] in
    omega (arith, rest, more, one)

-- and none in another
slot_lies_not : (want perms : ℕ → ℕ → ℕ) (slot there up : ℕ) (others : List Grant) → slot ≢ there
    → sum_by (lies there) (slot_units want perms slot up others) ≡ sum_by (lies there) others
slot_lies_not want perms slot there zero others apart = refl
slot_lies_not want perms slot there (suc up) others apart =
    let rest = slot_lies_not want perms slot there up others apart in
    let more = sum_by-if (lies there) (wanted want perms slot up) (unit_at perms slot up) (slot_units want perms slot up others) in
    let none : lies there (unit_at perms slot up) ≡ 0 = ap one_if (ne_eqb slot there apart) in
    let zero_at : cond (wanted want perms slot up) (lies there (unit_at perms slot up)) 0 ≡ 0 =
    elim (cases_Bool (wanted want perms slot up)) [ inl given ↦ rw given none | inr other ↦ rw other refl ] in
    omega (arith, rest, more, zero_at)

-- none lies in a slot that has not come
none_lies : (want perms : ℕ → ℕ → ℕ) (size slot there : ℕ) → slot ≤ there → sum_by (lies there) (units want perms size slot) ≡ 0
none_lies want perms size zero there past = refl
none_lies want perms size (suc slot) there past =
    slot_lies_not want perms slot there size (units want perms size slot) (omega arith) ∙ none_lies want perms size slot there (omega arith)

-- an uplink that is given a unit is not silent
wanted-le : (want perms : ℕ → ℕ → ℕ) (slot up : ℕ) → want up 255 ≡ 0 → one_if (wanted want perms slot up) ≤ speaks (perms slot up)
wanted-le want perms slot up silent =
    elim (cases_Bool (wanted want perms slot up)) [
      | inl given ↦
          let loud : speaks (perms slot up) ≡ 1 = ap (λ (b : Bool). cond (not b) 1 0) (ne_eqb (perms slot up) 255 (wanted-loud want perms slot up silent given)) in
          rw (given, loud) (omega arith)
      | inr none ↦ rw none (omega arith)
    ]

-- k at most in each slot
few_lie : (want perms : ℕ → ℕ → ℕ) (size k slots slot there : ℕ) → AreSwitched want perms size k slots → slot ≤ slots
    → sum_by (lies there) (units want perms size slot) ≤ k
few_lie want perms size k slots zero there are within = omega arith
few_lie want perms size k slots (suc slot) there are within =
    elim (cases_eq slot there) [
      | inl same ↦
          let here = slot_lies want perms slot size (units want perms size slot) in
          let none = none_lies want perms size slot slot (omega arith) in
          let each = total-le size (λ u. one_if (wanted want perms slot u)) (λ u. speaks (perms slot u)) (λ u _. wanted-le want perms slot u (are.silent u)) in
          let most : sum_by (lies slot) (units want perms size (suc slot)) ≤ k = omega (arith, here, none, each, are.few slot (omega arith)) in
          rw (← same) most
      | inr apart ↦
          let rest = few_lie want perms size k slots slot there are (omega arith) in
          omega (arith, rest, slot_lies_not want perms slot there size (units want perms size slot) apart)
    ]

-- the units of a slot for a connection: none from a later uplink
slot_goes_past : (want perms : ℕ → ℕ → ℕ) (slot up from to : ℕ) (others : List Grant) → up ≤ from
    → sum_by (goes from to) (slot_units want perms slot up others) ≡ sum_by (goes from to) others
slot_goes_past want perms slot zero from to others past = refl
slot_goes_past want perms slot (suc up) from to others past =
    let rest = slot_goes_past want perms slot up from to others (omega arith) in
    let more = sum_by-if (goes from to) (wanted want perms slot up) (unit_at perms slot up) (slot_units want perms slot up others) in
    let none : goes from to (unit_at perms slot up) ≡ 0 = ap (λ (b : Bool). one_if (b && perms slot up == to)) (ne_eqb up from (omega arith)) in
    let zero_at : cond (wanted want perms slot up) (goes from to (unit_at perms slot up)) 0 ≡ 0 =
    elim (cases_Bool (wanted want perms slot up)) [ inl given ↦ rw given none | inr other ↦ rw other refl ] in
    omega (arith, rest, more, zero_at)

-- and one for each earlier uplink that has the downlink and wants more
slot_goes : (want perms : ℕ → ℕ → ℕ) (slot up from to : ℕ) (others : List Grant) → from < up
    → sum_by (goes from to) (slot_units want perms slot up others) ≡ one_if (wanted want perms slot from && perms slot from == to) + sum_by (goes from to) others
slot_goes want perms slot zero from to others below = absurd (omega arith)
slot_goes want perms slot (suc up) from to others below =
    let more = sum_by-if (goes from to) (wanted want perms slot up) (unit_at perms slot up) (slot_units want perms slot up others) in
    elim (cases_eq up from) [
      | inl same ↦
          let rest = slot_goes_past want perms slot up from to others (omega arith) in
          let here : goes from to (unit_at perms slot up) ≡ one_if (perms slot up == to) = ap (λ (b : Bool). one_if (b && perms slot up == to)) (eq-eqb up from same) in
          let both : cond (wanted want perms slot up) (goes from to (unit_at perms slot up)) 0 ≡ one_if (wanted want perms slot up && perms slot up == to) =
          elim (cases_Bool (wanted want perms slot up)) [ inl given ↦ rw given here | inr other ↦ rw other refl ] in
          let all : sum_by (goes from to) (slot_units want perms slot (suc up) others) ≡ one_if (wanted want perms slot up && perms slot up == to) + sum_by (goes from to) others
          = omega (arith, rest, more, both) in
          all ∙ ap (λ (u : ℕ). one_if (wanted want perms slot u && perms slot u == to) + sum_by (goes from to) others) same
      | inr apart ↦
          let rest = slot_goes want perms slot up from to others (omega arith) in
          let none : goes from to (unit_at perms slot up) ≡ 0 = ap (λ (b : Bool). one_if (b && perms slot up == to)) (ne_eqb up from apart) in
          let zero_at : cond (wanted want perms slot up) (goes from to (unit_at perms slot up)) 0 ≡ 0 =
          elim (cases_Bool (wanted want perms slot up)) [ inl given ↦ rw given none | inr other ↦ rw other refl ] in
          omega (arith, rest, more, zero_at)
    ]

-- one more of a connection that is made, up to what it wants
given_more : (want perms : ℕ → ℕ → ℕ) (slot from to : ℕ)
    → one_if (wanted want perms slot from && perms slot from == to) + min (before perms slot from to) (want from to) ≡ min (before perms (suc slot) from to) (want from to)
given_more want perms slot from to =
    elim (cases_Bool (perms slot from == to)) [
      | inl made ↦
          let same : perms slot from ≡ to = eqb-true (perms slot from) to made in
          let more : wanted want perms slot from ≡ ltb (before perms slot from to) (want from to) = ap (λ (d : ℕ). ltb (before perms slot from d) (want from d)) same in
          elim (cases_lt (before perms slot from to) (want from to)) [
            | inl less ↦ rw (more, lt-ltb (before perms slot from to) (want from to) less, made) (omega arith)
            | inr enough ↦
                let none : ltb (before perms slot from to) (want from to) ≡ false =
                false_from_ne_true (ltb (before perms slot from to) (want from to)) (λ b. let bad = ltb-true (before perms slot from to) (want from to) b in omega arith) in
                rw (more, none, made) (omega arith)
          ]
      | inr other ↦ elim (cases_Bool (wanted want perms slot from)) [ inl given ↦ rw (given, other) (omega arith) | inr none ↦ rw (none, other) (omega arith) ]
    ]

-- so each connection gets what it was made for, up to what it wants
units_go : (want perms : ℕ → ℕ → ℕ) (size slot from to : ℕ) → from < size
    → sum_by (goes from to) (units want perms size slot) ≡ min (before perms slot from to) (want from to)
units_go want perms size zero from to below = omega arith
units_go want perms size (suc slot) from to below =
    let rest = units_go want perms size slot from to below in
    omega (arith, rest, slot_goes want perms slot size from to (units want perms size slot) below, given_more want perms slot from to)

-- and none from past the matrix
none_go : (want perms : ℕ → ℕ → ℕ) (size slot from to : ℕ) → size ≤ from → sum_by (goes from to) (units want perms size slot) ≡ 0
none_go want perms size zero from to past = refl
none_go want perms size (suc slot) from to past =
    slot_goes_past want perms slot size from to (units want perms size slot) past ∙ none_go want perms size slot from to past

-- these units are an allocation
units_allocate : (rows : List (List ℕ)) (perms : ℕ → ℕ → ℕ) (size k slots : ℕ) → AreSwitched (entry rows) perms size k slots
    → IsAllocation rows k slots (units (entry rows) perms size slots)
units_allocate rows perms size k slots are =
    let want = entry rows in
    record {
      within = λ j d inside.
          let unit = units_earlier want perms size slots j d inside in
          elim (cases_lt (get_or (units want perms size slots) j d).slot slots) [
            | inl less ↦ less
            | inr more ↦ let none = unit.earlier (omega (arith, unit.not_later)) in absurd (omega arith)
          ];
      up_once = units_up_once want perms size slots;
      down_once = units_down_once want perms size k slots slots are (omega arith);
      few = λ there. few_lie want perms size k slots slots there are (omega arith);
      exact = λ up down. elim (cases_lt up size) [
        | inl inside ↦ omega (arith, units_go want perms size slots up down inside, are.carried up down)
        | inr past ↦ omega (arith, none_go want perms size slots up down past, are.inside up down past)
      ];
    }

-- the mode of a slot
abbrev perm_at : List PartMode → ℕ → ℕ → ℕ
perm_at [] slot up = 255
perm_at (mode ∷ modes) slot up = if ltb slot mode.duration then slice_index mode.perm up else perm_at modes (slot - mode.duration) up

-- what holds of a mode: so many connections at once, to downlinks of their own
record IsSwitch (size k : ℕ) (mode : PartMode) : Type 0 where
  pub switching : IsPartSwitching size mode.perm
  pub few : connections mode.perm ≤ k

-- a slot within the modes lies in one of them
in_mode : (size k : ℕ) (modes : List PartMode) (slot : ℕ) → All (IsSwitch size k) modes → slot < part_duration modes
    → (mode : PartMode) × IsSwitch size k mode × ((up : ℕ) → perm_at modes slot up ≡ slice_index mode.perm up)
in_mode size k [] slot all within = absurd (omega arith)
in_mode size k (mode ∷ modes) slot all within =
    elim (cases_lt slot mode.duration) [
      | inl here ↦ (mode, All-head (IsSwitch size k) mode modes all, λ up. rw (lt-ltb slot mode.duration here) refl)
      | inr later ↦
          let sums = sum_by-cons (λ (m : PartMode). m.duration) mode modes in
          let (there, is, same) = in_mode size k modes (slot - mode.duration) (All-tail (IsSwitch size k) mode modes all) (omega (arith, sums, within)) in
          let past : ltb slot mode.duration ≡ false = false_from_ne_true (ltb slot mode.duration) (λ b. let bad = ltb-true slot mode.duration b in omega arith) in
          (there, is, λ up. rw past (same up))
    ]

-- the slots of a mode
mode_slots : (test : Bool) (slots : ℕ) → total slots (λ _. one_if test) ≡ (if test then slots else 0)
mode_slots true slots = omega (arith, total-equal slots 1)
mode_slots false slots = total-zero slots

-- slot by slot each connection is made for as many slots as mode by mode
made_for : (modes : List PartMode) (up down : ℕ) → before (perm_at modes) (part_duration modes) up down ≡ part_slots_of modes up down
made_for [] up down = refl
made_for (mode ∷ modes) up down =
    let d = mode.duration in
    let f = λ (t : ℕ). one_if (perm_at (mode ∷ modes) t up == down) in
    let durations = sum_by-cons (λ (m : PartMode). m.duration) mode modes in
    let parts = sum_by-cons (part_slots_in up down) mode modes in
    let split = total-split d (part_duration modes) f in
    let first = total-same d f (λ _. one_if (slice_index mode.perm up == down)) (λ t inside. rw (lt-ltb t d inside) refl) in
    let slots = mode_slots (slice_index mode.perm up == down) d in
    let rest = total-same (part_duration modes) (λ t. f (d + t)) (λ t. one_if (perm_at modes t up == down))
    (λ t inside.
    let past : ltb (d + t) d ≡ false = false_from_ne_true (ltb (d + t) d) (λ b. let bad = ltb-true (d + t) d b in omega arith) in
    let later : d + t - d ≡ t = omega arith in
    rw (past, later) refl) in
    let all : total (d + part_duration modes) f ≡ part_slots_of (mode ∷ modes) up down = omega (arith, split, first, slots, rest, made_for modes up down, parts) in
    ap (λ (n : ℕ). total n f) durations ∙ all

-- the modes of a good schedule
good_switched : (rows : List (List ℕ)) (k : ℕ) (schedule : PartSchedule) → IsTraffic rows → IsGoodPart rows k schedule
    → AreSwitched (entry rows) (perm_at schedule.modes) (length rows) k schedule.length
good_switched rows k schedule is good =
    let size = length rows in
    let modes = schedule.modes in
    let all : All (IsSwitch size k) modes = λ j d within. record { switching = good.switchings j d within; few = good.few j d within } in
    let outside = λ (up down : ℕ) (past : size ≤ down).
    elim (cases_lt 0 (entry rows up down)) as (λ _. entry rows up down ≡ 0) [
      | inl some ↦ let below = entry-past rows up down is.square some in absurd (omega arith)
      | inr none ↦ omega arith
    ] in
    let beyond = λ (up down : ℕ) (past : size ≤ up). let none : row_of rows up ≡ [] = get_or_past rows up [] past in let e : entry rows up down ≡ 0 = rw none refl in e in
    record {
      apart = λ slot up other in_slots less inside same.
          let (mode, switch, at) = in_mode size k modes slot all (omega (arith, good.filled)) in
          at up ∙ switch.switching.distinct up other 0 less (omega (arith, switch.switching.count)) (sym (at up) ∙ (same ∙ at other));
      silent = λ up. outside up 255 (omega (arith, is.few_beams));
      few = λ slot in_slots.
          let (mode, switch, at) = in_mode size k modes slot all (omega (arith, good.filled)) in
          let same = total-same size (λ up. speaks (perm_at modes slot up)) (λ up. speaks (slice_index mode.perm up)) (λ up _. ap speaks (at up)) in
          let counted = connections-total mode.perm ∙ ap (λ (n : ℕ). total n (λ up. speaks (slice_index mode.perm up))) switch.switching.count in
          omega (arith, same, counted, switch.few);
      carried = λ up down.
          let made = ap (λ (n : ℕ). before (perm_at modes) n up down) (sym good.filled) ∙ made_for modes up down in
          elim (cases_lt up size) [
            | inl in_rows ↦ elim (cases_lt down size) [
              | inl in_columns ↦ omega (arith, made, good.carried up down in_rows in_columns)
              | inr past ↦ omega (arith, outside up down past)
            ]
            | inr past ↦ omega (arith, beyond up down past)
          ];
      inside = λ up down past. beyond up down past;
    }

-- So a good schedule has an allocation in its own length.
pub good_allocates : (rows : List (List ℕ)) (k : ℕ) (schedule : PartSchedule) → IsTraffic rows → IsGoodPart rows k schedule
    → (grants : List Grant) × IsAllocation rows k schedule.length grants
good_allocates rows k schedule is good = (
  units (entry rows) (perm_at schedule.modes) (length rows) schedule.length,
  units_allocate rows (perm_at schedule.modes) (length rows) k schedule.length (good_switched rows k schedule is good),
)

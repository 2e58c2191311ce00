-- The part of a mode that lies in the old part of a bordered matrix.
use Rattle.std.proofs.Common.{◌≡◌, ◌≢◌, ◌==◌, ℕ, ◌+◌, ◌<◌, ◌≤◌, if◌then◌else◌, cond, ltb, not, Bool, true, false, List, length, get_or, map, take, slice_index, sum_by, sym, ap, ◌∙◌, refl, inl, inr, arith}
use Rattle.std.proofs.lemmas.Bool.{cases_lt, lt-ltb, ltb-true, false_from_ne_true, ne_eqb}
use Rattle.std.proofs.lemmas.List.{get_or-map, get_or-take, length-map, length-take-le}
use Rattle.std.proofs.lemmas.List.Recursion.{is_count_by}
use Rattle.std.proofs.lemmas.List.Sums.{sum_by-cons}
use Rattle.bt_frame.specs.declared.mode.Mode.{Mode}
use Rattle.bt_matrix.specs.Good.{IsPermutation, slots_in}
use Rattle.bt_frame.proofs.Totals.{total, total-le, sum_by-total}
use Rattle.bt_trans.specs.Part.{IsPartSwitching, connections, part_slots_in}
use Rattle.bt_trans.specs.Border.{clip_to, clip}
use Rattle.bt_trans.proofs.Places.{in_first, in_first-one, places-le}

-- inside, and outside
pub clip_to-inside : (size down : ℕ) → down < size → clip_to size down ≡ down
clip_to-inside size down below = ap (λ (b : Bool). let x : ℕ = if b then down else 255 in x) (lt-ltb down size below)

pub clip_to-outside : (size down : ℕ) → size ≤ down → clip_to size down ≡ 255
clip_to-outside size down past = ap (λ (b : Bool). let x : ℕ = if b then down else 255 in x) (false_from_ne_true (ltb down size) (λ yes. let less = ltb-true down size yes in omega arith))

-- the place of an uplink
clip-at : (size up d : ℕ) (perm : List ℕ) → up < size → size ≤ length perm
    → get_or (map (clip_to size) (take size perm)) up d ≡ clip_to size (slice_index perm up)
clip-at size up d perm inside long =
    let taken : length (take size perm) ≡ size = length-take-le size perm long in
    get_or-map (clip_to size) (take size perm) up 0 d (omega (arith, taken)) ∙ ap (clip_to size) (get_or-take size perm up 0 inside)

-- the slots of a connection of the old part
pub slots-clip : (size up down : ℕ) (mode : Mode) → size ≤ 32 → up < size → down < size → size ≤ length mode.perm
    → part_slots_in up down (clip size mode) ≡ slots_in up down mode
slots-clip size up down mode few inside below long =
    let at = clip-at size up 0 mode.perm inside long in
    let share = λ (n : ℕ). let x : ℕ = if n == down then mode.duration else 0 in x in
    let silent = λ (n : ℕ) (other : n ≢ down). let e : share n ≡ 0 = ap (λ (b : Bool). let x : ℕ = if b then mode.duration else 0 in x) (ne_eqb n down other) in e in
    ap share at ∙ elim (cases_lt (slice_index mode.perm up) size) [
      | inl old ↦ ap share (clip_to-inside size (slice_index mode.perm up) old)
      | inr new ↦
          let out = clip_to-outside size (slice_index mode.perm up) new in
          ap share out ∙ (silent 255 (λ e. let bad : ⊥ = omega arith in bad) ∙ sym (silent (slice_index mode.perm up) (λ e. let bad : ⊥ = omega arith in bad)))
    ]

-- how many are not silent, by places
abbrev pub speaks : ℕ → ℕ
speaks down = cond (not (down == 255)) 1 0

count_step : (b : Bool) (n : ℕ) → cond b 1 0 + n ≡ cond b (1 + n) n
count_step true n = refl
count_step false n = omega arith

pub connections-total : (perm : List ℕ) → connections perm ≡ total (length perm) (λ up. speaks (get_or perm up 0))
connections-total perm =
    sym (is_count_by (sum_by speaks) (λ down. not (down == 255)) refl (λ x xs. sum_by-cons speaks x xs ∙ count_step (not (x == 255)) (sum_by speaks xs)) perm)
    ∙ sum_by-total speaks perm 0

cond-le : (b : Bool) → cond b 1 0 ≤ 1
cond-le true = omega arith
cond-le false = omega arith

-- no more speak than have a downlink of the old part
speaks-le : (size up : ℕ) (perm : List ℕ) → speaks (clip_to size (slice_index perm up)) ≤ in_first perm size up
speaks-le size up perm = elim (cases_lt (slice_index perm up) size) [
  | inl old ↦ let one = in_first-one size up perm old in let most = cond-le (not (clip_to size (slice_index perm up) == 255)) in omega (arith, one, most)
  | inr new ↦ let out : speaks (clip_to size (slice_index perm up)) ≡ speaks 255 = ap speaks (clip_to-outside size (slice_index perm up) new) in omega (arith, out)
]

-- So k connections at most, where no place lies in the corner.
pub connections-le : (size border : ℕ) (perm : List ℕ) → IsPermutation (size + border) perm
    → ((up : ℕ) → size ≤ up → up < size + border → slice_index perm up < size)
    → connections (map (clip_to size) (take size perm)) + border ≤ size
connections-le size border perm permutes outside =
    let long : size ≤ length perm = omega (arith, permutes.count) in
    let clipped = map (clip_to size) (take size perm) in
    let count : length clipped ≡ size = length-map (take size perm) (clip_to size) ∙ length-take-le size perm long in
    let by_places = connections-total clipped in
    let sized = ap (λ (n : ℕ). total n (λ up. speaks (get_or clipped up 0))) count in
    let each = total-le size (λ up. speaks (get_or clipped up 0)) (in_first perm size) (λ up inside.
    let same : speaks (get_or clipped up 0) ≡ speaks (clip_to size (slice_index perm up)) = ap speaks (clip-at size up 0 perm inside long) in
    omega (arith, same, speaks-le size up perm)) in
    omega (arith, by_places, sized, each, places-le size border perm permutes outside)

-- The clipped mode is a switching of the old part.
pub IsPartSwitching-clip : (size border : ℕ) (perm : List ℕ) → IsPermutation (size + border) perm
    → IsPartSwitching size (map (clip_to size) (take size perm))
IsPartSwitching-clip size border perm permutes =
    let long : size ≤ length perm = omega (arith, permutes.count) in
    let clipped = map (clip_to size) (take size perm) in
    let count : length clipped ≡ size = length-map (take size perm) (clip_to size) ∙ length-take-le size perm long in
    record {
      count = count;
      in_range = λ up d within.
          let at = clip-at size up d perm (omega (arith, count)) long in
          rw at (elim (cases_lt (slice_index perm up) size) [
            | inl old ↦ inr (omega (arith, clip_to-inside size (slice_index perm up) old))
            | inr new ↦ inl (clip_to-outside size (slice_index perm up) new)
          ]);
      distinct = λ i j d less within same.
          let at_i = clip-at size i d perm (omega (arith, count)) long in
          let at_j = clip-at size j d perm (omega (arith, count)) long in
          elim (cases_lt (slice_index perm i) size) [
            | inl old ↦ elim (cases_lt (slice_index perm j) size) [
              | inl old_too ↦
                  let first = clip_to-inside size (slice_index perm i) old in
                  let second = clip_to-inside size (slice_index perm j) old_too in
                  absurd (permutes.distinct i j 0 less (omega (arith, permutes.count, count)) (omega (arith, at_i, at_j, first, second, same)))
              | inr new ↦ same ∙ (at_j ∙ clip_to-outside size (slice_index perm j) new)
            ]
            | inr new ↦ at_i ∙ clip_to-outside size (slice_index perm i) new
          ];
    }

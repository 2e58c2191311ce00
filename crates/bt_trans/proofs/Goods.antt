-- The modes of a bordered matrix, clipped, are a good schedule of the old one.
use Rattle.std.proofs.Common.{◌≡◌, ℕ, ◌+◌, ◌-◌, ◌<◌, ◌≤◌, List, length, get_or, map, slice_index, All, subst, sym, ◌∙◌, refl, inl, inr, arith}
use Rattle.std.proofs.lemmas.Bool.{cases_lt}
use Rattle.std.proofs.lemmas.List.Elements.{All-map}
use Rattle.bt_frame.specs.declared.mode.Mode.{Mode}
use Rattle.bt_matrix.specs.Good.{IsPermutation, slots_in, total_duration}
use Rattle.bt_modes.specs.Decomposition.{DecomposesTo}
use Rattle.bt_frame.proofs.Counts.{sum_by-map, sum_by-le-within}
use Rattle.bt_trans.specs.declared.part.PartMode.{PartMode}
use Rattle.bt_trans.specs.declared.part.PartSchedule.{PartSchedule}
use Rattle.bt_trans.specs.declared.part.Bound.{Bound}
use Rattle.bt_trans.specs.Part.{IsPartSwitching, connections, part_slots_in, IsLeastLength, IsGoodPart}
use Rattle.bt_trans.specs.Border.{clip, IsBordered}
use Rattle.bt_trans.proofs.Places.{not_made}
use Rattle.bt_trans.proofs.Clips.{slots-clip, connections-le, IsPartSwitching-clip}

-- no mode has a place in the corner
outside : (rows new : List (List ℕ)) (k sum border : ℕ) (modes : List Mode) → IsBordered rows new k sum → DecomposesTo new modes
    → length new ≡ length rows + border → All (λ m. (up : ℕ) → length rows ≤ up → up < length rows + border → slice_index m.perm up < length rows) modes
outside rows new k sum border modes bordered whole all = λ j d within up new_row below.
    let m = get_or modes j d in
    let down = slice_index m.perm up in
    let permutes : IsPermutation (length new) m.perm = whole.permutations j d within in
    let in_range : down < length new = permutes.in_range up 0 (omega (arith, permutes.count, all)) in
    elim (cases_lt down (length rows)) [
      | inl old ↦ old
      | inr corner ↦ absurd (not_made modes up down whole.durations
          (whole.exact up down (omega (arith, all)) in_range ∙ bordered.corner up down new_row corner) j d within refl)
    ]

pub IsGoodPart-clips : (rows new : List (List ℕ)) (k sum : ℕ) (bound : Bound) (modes : List Mode) (schedule : PartSchedule) → length rows ≤ 32 → k ≤ length rows
    → IsBordered rows new k sum → DecomposesTo new modes → total_duration modes ≡ sum → IsLeastLength rows k sum bound
    → schedule ≡ (record { length = sum; bound = bound; modes = map (clip (length rows)) modes })
    → IsGoodPart rows k schedule
IsGoodPart-clips rows new k sum bound modes schedule few inside bordered whole filled least is =
    let n = length rows in
    let border = length rows - k in
    let all : length new ≡ n + border = omega (arith, bordered.size) in
    let permutes : All (λ m. IsPermutation (n + border) m.perm) modes = λ j d within. subst (λ (s : ℕ). IsPermutation s (get_or modes j d).perm) all (whole.permutations j d within) in
    let out = outside rows new k sum border modes bordered whole all in
    let good : IsGoodPart rows k (record { length = sum; bound = bound; modes = map (clip n) modes }) = record {
      switchings = All-map (λ (m : PartMode). IsPartSwitching n m.perm) (clip n) modes (λ j d within. IsPartSwitching-clip n border (get_or modes j d).perm (permutes j d within));
      few = All-map (λ (m : PartMode). connections m.perm ≤ k) (clip n) modes (λ j d within.
          let most = connections-le n border (get_or modes j d).perm (permutes j d within) (out j d within) in omega (arith, most));
      durations = All-map (λ (m : PartMode). 0 < m.duration) (clip n) modes whole.durations;
      filled = sum_by-map (λ (m : PartMode). m.duration) (clip n) modes ∙ filled;
      least = least;
      carried = λ up down in_rows in_columns.
          let each = sum_by-le-within (slots_in up down) (λ (m : Mode). part_slots_in up down (clip n m)) modes (λ j d within.
          let permuted = permutes j d within in
          let same = slots-clip n up down (get_or modes j d) few in_rows in_columns (omega (arith, permuted.count)) in omega (arith, same)) in
          let mapped = sum_by-map (part_slots_in up down) (clip n) modes in
          let exact = whole.exact up down (omega (arith, all)) (omega (arith, all)) in
          let raised = bordered.raised up down in_rows in_columns in
          omega (arith, each, mapped, exact, raised);
    } in
    subst (IsGoodPart rows k) (sym is) good

-- A walk along the positive entries of a row, each of which was told at one step.
use Rattle.std.proofs.Common.{◌≡◌, ℕ, ◌+◌, ◌-◌, ◌<◌, ◌≤◌, List, length, Option, Some, None, IfSome, IfNone, set, sym, ◌∙◌, arith, inl, inr, length-set, get_or-set_same, get_or-set_other}
use Rattle.std.specs.List.{slice_index}
use Rattle.std.proofs.lemmas.Bool.{cases_lt, cases_eq}
use Rattle.bt_frame.specs.declared.limits.TheConstants.{MOST_BEAMS}
use Rattle.bt_frame.specs.declared.numbers.BeamNo.{BeamNo}
use Rattle.bt_matrix.specs.Traffic.{entry}
use Rattle.bt_matrix.specs.Walk.{row_entries, IsNextEntry, IsEmptyFrom}
use Rattle.bt_modes.proofs.Told.{told, told-next, told-le}

-- how many columns are still to come
abbrev pub left_of : Option (BeamNo × ℕ) → ℕ → ℕ
left_of None size = 0
left_of (Some found) size = size - found.0.0

-- the walk is past this column
abbrev pub IsPassed : Option (BeamNo × ℕ) → ℕ → Type 0
IsPassed None down = Unit {0}
IsPassed (Some found) down = down < found.0.0

-- the walk is not past this column
abbrev pub IsAhead : Option (BeamNo × ℕ) → ℕ → Type 0
IsAhead None down = ⊥
IsAhead (Some found) down = found.0.0 ≤ down

-- how many entries of the row were told
abbrev pub told_at : List (List ℕ) → ℕ → Option (BeamNo × ℕ) → ℕ
told_at rows row None = row_entries rows row
told_at rows row (Some found) = told rows row (found.0.0 + 1)

-- what the matrix told of the entries from a column on
pub record IsTold (rows : List (List ℕ)) (row from : ℕ) (at : Option (BeamNo × ℕ)) (before after : ℕ) : Type 0 where
  pub next : IfSome at (λ found. IsNextEntry rows row from found.0.0 found.1)
  pub none : IfNone at (IsEmptyFrom rows row from)
  pub step : IfSome at (λ _. after ≡ before + 1)
  pub no_step : IfNone at (after ≡ before)

-- The entries that were told stand at their columns, and nothing in all others.
pub record IsRead (rows : List (List ℕ)) (row : ℕ) (slots : List ℕ) (at : Option (BeamNo × ℕ)) (steps first : ℕ) : Type 0 where
  pub long : length slots ≡ MOST_BEAMS
  pub here : IfSome at (λ found. (found.0.0 < length rows) × (0 < found.1) × (entry rows row found.0.0 ≡ found.1))
  pub passed : (k : ℕ) → IsPassed at k → slice_index slots k ≡ entry rows row k
  pub ahead : (k : ℕ) → IsAhead at k → slice_index slots k ≡ 0
  pub inside : (k : ℕ) → IsPassed at k → 0 < entry rows row k → k < length rows
  pub looks : steps ≤ first + told_at rows row at

-- before the first entry
pub IsRead-first : (rows : List (List ℕ)) (row : ℕ) (slots : List ℕ) (at : Option (BeamNo × ℕ)) (before after : ℕ)
    → length slots ≡ MOST_BEAMS → ((k : ℕ) → slice_index slots k ≡ 0) → IsTold rows row 0 at before after → IsRead rows row slots at after before
IsRead-first rows row slots None before after long zeros is = record {
  long = long;
  here = tt;
  passed = λ k _. zeros k ∙ sym (is.none k (omega arith));
  ahead = λ k _. zeros k;
  inside = λ k _ some. absurd (let none : entry rows row k ≡ 0 = is.none k (omega arith) in omega arith);
  looks = let same : after ≡ before = is.no_step in omega arith;
}
IsRead-first rows row slots (Some found) before after long zeros is =
    let next : IsNextEntry rows row 0 found.0.0 found.1 = is.next in
    record {
      long = long;
      here = (next.inside, next.positive, next.slots);
      passed = λ k early. zeros k ∙ sym (next.none_before k (omega arith) early);
      ahead = λ k _. zeros k;
      inside = λ k early some. absurd (let none : entry rows row k ≡ 0 = next.none_before k (omega arith) early in omega arith);
      looks =
          let one : told rows row (found.0.0 + 1) ≡ told rows row 0 + 1 = told-next rows row 0 found.0.0 found.1 next in
          let same : after ≡ before + 1 = is.step in
          omega arith;
    }

-- what stands at a column once the entry was written that the walk was at
written : (rows : List (List ℕ)) (row : ℕ) (slots : List ℕ) (found : BeamNo × ℕ) (steps first k : ℕ)
    → IsRead rows row slots (Some found) steps first → length rows ≤ MOST_BEAMS → k ≤ found.0.0 → slice_index (set slots found.0.0 found.1) k ≡ entry rows row k
written rows row slots found steps first k read few below =
    let (inside, _, is) = read.here in
    elim (cases_eq k found.0.0) [
      | inl same ↦ rw same (get_or-set_same slots found.0.0 found.1 0 (omega (arith, read.long)) ∙ sym is)
      | inr apart ↦ get_or-set_other slots found.0.0 k found.1 0 apart ∙ read.passed k (omega (arith, apart))
    ]

later : (rows : List (List ℕ)) (row : ℕ) (slots : List ℕ) (found : BeamNo × ℕ) (steps first k : ℕ)
    → IsRead rows row slots (Some found) steps first → found.0.0 < k → slice_index (set slots found.0.0 found.1) k ≡ 0
later rows row slots found steps first k read above = get_or-set_other slots found.0.0 k found.1 0 (λ same. omega (arith, same)) ∙ read.ahead k (omega arith)

-- at the next entry
pub IsRead-next : (rows : List (List ℕ)) (row : ℕ) (slots : List ℕ) (found : BeamNo × ℕ) (at : Option (BeamNo × ℕ)) (steps after first : ℕ)
    → IsRead rows row slots (Some found) steps first → length rows ≤ MOST_BEAMS
    → IsTold rows row (found.0.0 + 1) at steps after
    → IsRead rows row (set slots found.0.0 found.1) at after first
IsRead-next rows row slots found None steps after first read few is =
    let (inside, positive, slots_is) = read.here in
    let some : 0 < entry rows row found.0.0 = omega arith in
    record {
      long = length-set slots found.0.0 found.1 ∙ read.long;
      here = tt;
      passed = λ k _. elim (cases_lt found.0.0 k) [
        | inl late ↦ later rows row slots found steps first k read late ∙ sym (is.none k (omega arith))
        | inr early ↦ written rows row slots found steps first k read few early
      ];
      ahead = λ k never. absurd never;
      inside = λ k _ here. elim (cases_lt found.0.0 k) [
        | inl late ↦ absurd (let none : entry rows row k ≡ 0 = is.none k (omega arith) in omega arith)
        | inr early ↦ omega arith
      ];
      looks =
          let all : told rows row (found.0.0 + 1) ≤ row_entries rows row = told-le rows row found.0.0 some in
          let same : after ≡ steps = is.no_step in
          let before = read.looks in
          omega arith;
    }
IsRead-next rows row slots found (Some more) steps after first read few is =
    let (inside, positive, slots_is) = read.here in
    let next : IsNextEntry rows row (found.0.0 + 1) more.0.0 more.1 = is.next in
    record {
      long = length-set slots found.0.0 found.1 ∙ read.long;
      here = (next.inside, next.positive, next.slots);
      passed = λ k before. elim (cases_lt found.0.0 k) [
        | inl late ↦ later rows row slots found steps first k read late ∙ sym (next.none_before k (omega arith) before)
        | inr early ↦ written rows row slots found steps first k read few early
      ];
      ahead = λ k above. later rows row slots found steps first k read (let from = next.from_there in omega arith);
      inside = λ k before here. elim (cases_lt found.0.0 k) [
        | inl late ↦ absurd (let none : entry rows row k ≡ 0 = next.none_before k (omega arith) before in omega arith)
        | inr early ↦ omega arith
      ];
      looks =
          let one : told rows row (more.0.0 + 1) ≡ told rows row (found.0.0 + 1) + 1 = told-next rows row (found.0.0 + 1) more.0.0 more.1 next in
          let same : after ≡ steps + 1 = is.step in
          let before = read.looks in
          omega arith;
    }

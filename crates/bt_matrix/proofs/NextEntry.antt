-- What the list of the entries to come says of the next one.
use Rattle.std.proofs.Common.{◌≡◌, ℕ, zero, suc, ◌+◌, ◌-◌, ◌<◌, ◌≤◌, List, [], ◌∷◌, Option, None, Some, length, get_or, drop, sym, ap, ◌∙◌, refl, arith}
use Rattle.std.proofs.lemmas.List.{get_or-drop}
use Rattle.std.specs.Option.{IfNone}
use Rattle.bt_frame.specs.declared.numbers.BeamNo.{BeamNo}
use Rattle.bt_matrix.specs.Traffic.{row_of, entry}
use Rattle.bt_matrix.specs.Walk.{IsNextEntry, IsEmptyFrom}
use Rattle.bt_matrix.specs.Cursor.{positives, column_behind, entries_behind}

-- none of these entries is positive
none_positive : (c : ℕ) (xs : List ℕ) → positives c xs ≡ [] → (i : ℕ) → get_or xs i 0 ≡ 0
none_positive c [] is i = refl
none_positive c (zero ∷ xs) is zero = refl
none_positive c (zero ∷ xs) is (suc i) = none_positive (c + 1) xs is i
none_positive c (suc n ∷ xs) is i = cc

-- the first of the positive ones, by its place
record IsFirst (c : ℕ) (xs : List ℕ) (down units : ℕ) : Type 0 where
  i : ℕ
  at : down ≡ c + i
  positive : 0 < units
  there : get_or xs i 0 ≡ units
  none_before : (k : ℕ) → k < i → get_or xs k 0 ≡ 0

none_below : (xs : List ℕ) (i : ℕ) → ((k : ℕ) → k < i → get_or xs k 0 ≡ 0) → (k : ℕ) → k < suc i → get_or (zero ∷ xs) k 0 ≡ 0
none_below xs i before zero below = refl
none_below xs i before (suc k) below = before k (omega arith)

-- the first of some pairs, or else this one
head_or : ℕ × ℕ → List (ℕ × ℕ) → ℕ × ℕ
head_or pair [] = pair
head_or pair (first ∷ rest) = first

first_positive : (c : ℕ) (xs : List ℕ) (down units : ℕ) (rest : List (ℕ × ℕ)) → positives c xs ≡ (down, units) ∷ rest → IsFirst c xs down units
unfolding head_or
first_positive c [] down units rest is = cc
first_positive c (zero ∷ xs) down units rest is =
    let later = first_positive (c + 1) xs down units rest is in
    record {
      i = suc later.i;
      at = omega (arith, later.at);
      positive = later.positive;
      there = later.there;
      none_before = none_below xs later.i later.none_before;
    }
first_positive c (suc n ∷ xs) down units rest is =
    let first : (ℕ × ℕ) = (c, suc n) in
    let same : (c, suc n) ≡ (down, units) = ap (λ (xs : List (ℕ × ℕ)). head_or first xs) is in
    let column : c ≡ down = ap (λ (pair : ℕ × ℕ). pair.0) same in
    let slots : suc n ≡ units = ap (λ (pair : ℕ × ℕ). pair.1) same in
    record {
      i = 0;
      at = omega (arith, column);
      positive = omega (arith, slots);
      there = slots;
      none_before = λ k below. absurd (omega arith);
    }

-- the entry at a place from a column on
entry-behind : (rows : List (List ℕ)) (up c k : ℕ) → c ≤ k → entry rows up k ≡ get_or (drop c (row_of rows up)) (k - c) 0
entry-behind rows up c k from =
    let same : c + (k - c) ≡ k = omega arith in
    sym (ap (λ (m : ℕ). get_or (row_of rows up) m 0) same) ∙ sym (get_or-drop c (row_of rows up) (k - c) 0)

-- no entry is to come: the row is empty behind the last one
IsEmptyFrom-behind : (rows : List (List ℕ)) (up : ℕ) (last : Option BeamNo) → entries_behind rows up last ≡ [] → IsEmptyFrom rows up (column_behind last)
IsEmptyFrom-behind rows up last none k from =
    let c = column_behind last in
    entry-behind rows up c k from ∙ none_positive c (drop c (row_of rows up)) none (k - c)

-- the same of an answer that is none
pub IfNone-behind : {T : Type 0} (found : Option T) (rows : List (List ℕ)) (up : ℕ) (last : Option BeamNo) → entries_behind rows up last ≡ []
    → IfNone found (IsEmptyFrom rows up (column_behind last))
IfNone-behind None rows up last none = IsEmptyFrom-behind rows up last none
IfNone-behind (Some _) rows up last none = tt

-- one is to come: it is the next
pub IsNextEntry-behind : (rows : List (List ℕ)) (up : ℕ) (last : Option BeamNo) (down units : ℕ) (rest : List (ℕ × ℕ)) → down < length rows
    → entries_behind rows up last ≡ (down, units) ∷ rest → IsNextEntry rows up (column_behind last) down units
IsNextEntry-behind rows up last down units rest inside is =
    let c = column_behind last in
    let first = first_positive c (drop c (row_of rows up)) down units rest is in
    let past : down - c ≡ first.i = omega (arith, first.at) in
    record {
      inside = inside;
      from_there = omega (arith, first.at);
      positive = first.positive;
      slots = entry-behind rows up c down (omega (arith, first.at)) ∙ (ap (λ (m : ℕ). get_or (drop c (row_of rows up)) m 0) past ∙ first.there);
      none_before = λ k from below. entry-behind rows up c k from ∙ first.none_before (k - c) (omega (arith, first.at));
    }

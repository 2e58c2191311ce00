-- Partial maps of rows to columns: none has one, all have one, one gives its own up.
use Rattle.std.proofs.Common.{◌≡◌, ℕ, ◌<◌, ◌≤◌, List, [], ◌++◌, length, Option, Some, None, take, map, replicate, set, get_or, sym, ap, ◌∙◌, refl, inl, inr, arith, get_or-set_same, get_or-set_other}
use Rattle.std.proofs.lemmas.Bool.{cases_eq, cases_lt, cases_order}
use Rattle.std.proofs.lemmas.List.{get_or-map, get_or_past, get_or-replicate, length-replicate, length-map, length-set, take-set-le}
use Rattle.std.proofs.Math.Seq.{take-append_seam, take-set-lt}
use Rattle.bt_frame.specs.declared.limits.TheConstants.{MOST_BEAMS}
use Rattle.bt_matrix.specs.Good.{IsPermutation}
use Rattle.bt_modes.specs.Matching.{column_of, IsPartial, IsWhole}

-- a row of the empty map has no column
pub column_of-replicate : (size row : ℕ) → column_of (replicate size None) row ≡ None
column_of-replicate size row =
    elim (cases_lt row size) [
      | inl below ↦ get_or-replicate size row None None below
      | inr above ↦ get_or_past (replicate size None) row None (rw length-replicate above)
    ]

-- no row has a column
pub IsPartial-replicate : (size : ℕ) → 1 ≤ size → size ≤ MOST_BEAMS → IsPartial (replicate size None)
IsPartial-replicate size some few = record {
  some_rows = rw length-replicate some;
  few_rows = rw length-replicate few;
  below_size = λ row down has. absurd (let none : column_of (replicate size None) row ≡ None = column_of-replicate size row in cc);
  own_columns = λ row other down has _. absurd (let none : column_of (replicate size None) row ≡ None = column_of-replicate size row in cc);
}

-- a row that has a column after another gave its own up
pub column_of-set_none : (columns : List (Option ℕ)) (row other down : ℕ) → column_of (set columns row None) other ≡ Some down → column_of columns other ≡ Some down
column_of-set_none columns row other down has =
    elim (cases_eq other row) [
      | inl same ↦ elim (cases_lt row (length columns)) [
        | inl inside ↦ absurd (let none : column_of (set columns row None) other ≡ None = rw same (get_or-set_same columns row None None inside) in cc)
        | inr past ↦ absurd (let none : column_of (set columns row None) other ≡ None = get_or_past (set columns row None) other None (rw length-set (omega arith)) in cc)
      ]
      | inr apart ↦ sym (get_or-set_other columns row other None None apart) ∙ has
    ]

-- a row gives its column up
pub IsPartial-set_none : (columns : List (Option ℕ)) (row : ℕ) → IsPartial columns → IsPartial (set columns row None)
IsPartial-set_none columns row partial = record {
  some_rows = rw length-set partial.some_rows;
  few_rows = rw length-set partial.few_rows;
  below_size = λ other down has. rw length-set (partial.below_size other down (column_of-set_none columns row other down has));
  own_columns = λ first second down one two. partial.own_columns first second down (column_of-set_none columns row first down one) (column_of-set_none columns row second down two);
}

-- the same of the first places of a longer list
pub IsPartial-take_set : (size : ℕ) (columns : List (Option ℕ)) (row : ℕ) → IsPartial (take size columns) → IsPartial (take size (set columns row None))
IsPartial-take_set size columns row partial =
    elim (cases_lt row size) [
      | inl inside ↦ rw (take-set-lt size columns row None inside) (IsPartial-set_none (take size columns) row partial)
      | inr past ↦ rw (take-set-le size columns row None past) partial
    ]

-- the column of a row of a permutation
pub column_of-map : (perm : List ℕ) (row : ℕ) (other : ℕ) → row < length perm → column_of (map Some perm) row ≡ Some (get_or perm row other)
column_of-map perm row other inside = get_or-map Some perm row other None inside

-- what a row of a permutation has
column_of-map_is : (perm : List ℕ) (row down : ℕ) → column_of (map Some perm) row ≡ Some down → (row < length perm) × (get_or perm row 0 ≡ down)
column_of-map_is perm row down has =
    elim (cases_lt row (length perm)) [
      | inl inside ↦ (inside, let is : column_of (map Some perm) row ≡ Some (get_or perm row 0) = column_of-map perm row 0 inside in cc)
      | inr past ↦ absurd (let none : column_of (map Some perm) row ≡ None = get_or_past (map Some perm) row None (rw length-map past) in cc)
    ]

-- every row has the column of the permutation
pub IsPartial-map : (size : ℕ) (perm : List ℕ) → 1 ≤ size → size ≤ MOST_BEAMS → IsPermutation size perm → IsPartial (map Some perm)
IsPartial-map size perm some few permutes =
    let count : length (map Some perm) ≡ size = length-map perm Some ∙ permutes.count in
    record {
      some_rows = omega arith;
      few_rows = omega arith;
      below_size = λ row down has.
          let (inside, is) = column_of-map_is perm row down has in
          let small : get_or perm row 0 < size = permutes.in_range row 0 inside in
          omega arith;
      own_columns = λ row other down one two.
          let (inside, is) = column_of-map_is perm row down one in
          let (within, same) = column_of-map_is perm other down two in
          elim (cases_order row other) [
            | inl equal ↦ equal
            | inr (inl before) ↦ absurd (permutes.distinct row other 0 before within (is ∙ sym same))
            | inr (inr after) ↦ absurd (permutes.distinct other row 0 after inside (same ∙ sym is))
          ];
    }

-- a partial map in which every row has a column is a permutation
pub IsPermutation-whole : (columns : List (Option ℕ)) (perm : List ℕ) → map Some perm ≡ columns → IsPartial columns → IsPermutation (length columns) perm
IsPermutation-whole columns perm same partial =
    let has : (row other : ℕ) → row < length perm → column_of columns row ≡ Some (get_or perm row other) =
    λ row other inside. rw (← same) (column_of-map perm row other inside) in
    record {
      count = sym (length-map perm Some) ∙ ap length same;
      in_range = λ row other inside. partial.below_size row (get_or perm row other) (has row other inside);
      distinct = λ row second other before inside equal.
          let one : column_of columns row ≡ Some (get_or perm row other) = has row other (omega arith) in
          let two : column_of columns second ≡ Some (get_or perm row other) = rw equal (has second other inside) in
          let wrong : row ≡ second = partial.own_columns row second (get_or perm row other) one two in
          omega arith;
    }

-- the first places of a longer list
take_front : {X : Type 0} (size : ℕ) (front rest : List X) → length front ≡ size → take size (front ++ rest) ≡ front
take_front size front rest same = rw (← same) (take-append_seam front rest)

pub IsPartial-front : (size : ℕ) (columns rest : List (Option ℕ)) → length columns ≡ size → IsPartial columns → IsPartial (take size (columns ++ rest))
IsPartial-front size columns rest same partial = rw (take_front size columns rest same) partial

pub IsPermutation-front : (size : ℕ) (perm rest : List ℕ) → IsPermutation size perm → IsPermutation size (take size (perm ++ rest))
IsPermutation-front size perm rest permutes = rw (take_front size perm rest permutes.count) permutes

-- in the map of a permutation every row has a column
pub IsWhole-front : (size : ℕ) (columns rest : List (Option ℕ)) (perm : List ℕ) → length columns ≡ size → columns ≡ map Some perm → IsWhole (take size (columns ++ rest))
IsWhole-front size columns rest perm same is =
    rw (take_front size columns rest same)
    (rw is (λ row inside.
    let within : row < length perm = omega (arith, length-map perm Some) in
    let has : column_of (map Some perm) row ≡ Some (get_or perm row 0) = column_of-map perm row 0 within in
    rw has refl))

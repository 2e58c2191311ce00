-- Tables of what items amount to at each two numbers, and the first link in which two of them differ.
use Rattle.std.proofs.Common.{◌≡◌, ◌≢◌, ℕ, ◌+◌, ◌*◌, ◌<◌, ◌≤◌, ◌==◌, ◌&&◌, if◌then◌else◌, List, [], length, replicate, take, get_or, slice_index, slice_set, refl, inl, inr, sym, ap, ◌∙◌, subst, arith}
use Rattle.std.proofs.lemmas.Bool.{cases_eq, cases_lt}
use Rattle.std.proofs.lemmas.Bool.Decides.{nat_tests}
use Rattle.std.proofs.lemmas.List.{length-set, get_or-set_same, get_or-set_other, length-replicate, get_or-replicate}
use Rattle.std.proofs.lemmas.List.Elements.{All-set, All-replicate}
use Rattle.std.proofs.lemmas.List.Sums.{sum_by_more, sum_by-le}
use Rattle.bt_frame.specs.declared.numbers.TermNo.{TermNo}
use Rattle.bt_matrix.specs.Traffic.{row_of, entry, with_entry}
use Rattle.bt_net.specs.Network.{Net}
use Rattle.bt_demand.specs.declared.burst.Burst.{Burst}
use Rattle.bt_demand.specs.declared.demand.Link.{Link}
use Rattle.bt_demand.specs.Apart.{AreBetweenTerminals}
use Rattle.bt_demand.specs.Traffic.{AreOfNetwork}
use Rattle.bt_demand.specs.PlanVerdict.{IsServed, IsFirstUnserved}
use Rattle.bt_demand.specs.Unserved.{IsForTerminals, AreSumsAt, AreSlotsSent, AreUnitsAsked}

-- a row of the table
length-row : (table : List (List ℕ)) (from : ℕ) → IsForTerminals table → from < 64 → length (row_of table from) ≡ 64
length-row table from shape small = shape.columns from [] (omega (arith, shape.rows))

-- the written entry, and the others
entry-written : (table : List (List ℕ)) (from to n : ℕ) → IsForTerminals table → from < 64 → to < 64 → entry (with_entry table from to n) from to ≡ n
entry-written table from to n shape from_small to_small =
    ap (λ (row : List ℕ). slice_index row to) (get_or-set_same table from (slice_set (row_of table from) to n) [] (omega (arith, shape.rows)))
    ∙ get_or-set_same (row_of table from) to n 0 (omega (arith, length-row table from shape from_small))

entry-other_row : (table : List (List ℕ)) (from to n i j : ℕ) → i ≢ from → entry (with_entry table from to n) i j ≡ entry table i j
entry-other_row table from to n i j other = ap (λ (row : List ℕ). slice_index row j) (get_or-set_other table from i (slice_set (row_of table from) to n) [] other)

entry-other_column : (table : List (List ℕ)) (from to n j : ℕ) → IsForTerminals table → from < 64 → j ≢ to → entry (with_entry table from to n) from j ≡ entry table from j
entry-other_column table from to n j shape from_small other =
    ap (λ (row : List ℕ). slice_index row j) (get_or-set_same table from (slice_set (row_of table from) to n) [] (omega (arith, shape.rows)))
    ∙ get_or-set_other (row_of table from) to j n 0 other

-- the table stays as large
IsForTerminals-written : (table : List (List ℕ)) (from to n : ℕ) → IsForTerminals table → from < 64 → IsForTerminals (with_entry table from to n)
IsForTerminals-written table from to n shape from_small =
    let row = slice_set (row_of table from) to n in
    record {
      rows = length-set table from row ∙ shape.rows;
      columns = All-set (λ (r : List ℕ). length r ≡ 64) table from row (length-set (row_of table from) to n ∙ length-row table from shape from_small) shape.columns;
    }

-- what an item adds
added-here : (a x b y n : ℕ) → x ≡ a → y ≡ b → (if a == x && b == y then n else 0) ≡ n
added-here a x b y n from to = grind (arith, nat_tests)

added-other_from : (a x b y n : ℕ) → x ≢ a → (if a == x && b == y then n else 0) ≡ 0
added-other_from a x b y n from = grind (arith, nat_tests)

added-other_to : (a x b y n : ℕ) → y ≢ b → (if a == x && b == y then n else 0) ≡ 0
added-other_to a x b y n to = grind (arith, nat_tests)

-- one more item
one_more : {X : Type 0} (from to amount : X → ℕ) (xs : List X) (k : ℕ) (d : X) (table : List (List ℕ)) (n : ℕ) → k < length xs
    → AreSumsAt from to amount (take k xs) table → from (get_or xs k d) < 64 → to (get_or xs k d) < 64
    → n ≡ entry table (from (get_or xs k d)) (to (get_or xs k d)) + amount (get_or xs k d)
    → AreSumsAt from to amount (take (k + 1) xs) (with_entry table (from (get_or xs k d)) (to (get_or xs k d)) n)
one_more from to amount xs k d table n within so_far from_small to_small is =
    let x = get_or xs k d in
    let a = from x in
    let b = to x in
    record {
      shape = IsForTerminals-written table a b n so_far.shape from_small;
      each = λ i j i_small j_small.
          let more = sum_by_more (λ y. if from y == i && to y == j then amount y else 0) xs k d within in
          let was = so_far.each i j i_small j_small in
          elim (cases_eq i a) [
            | inl same_from ↦ elim (cases_eq j b) [
              | inl same_to ↦
                  let old : entry table a b ≡ entry table i j = rw (same_from, same_to) refl in
                  let new : entry (with_entry table a b n) i j ≡ n = rw (same_from, same_to) (entry-written table a b n so_far.shape from_small to_small) in
                  omega (arith, more, was, old, new, is, added-here a i b j (amount x) same_from same_to)
              | inr other_to ↦
                  let old : entry table a j ≡ entry table i j = rw same_from refl in
                  let new : entry (with_entry table a b n) i j ≡ entry table a j = rw same_from (entry-other_column table a b n j so_far.shape from_small other_to) in
                  omega (arith, more, was, old, new, added-other_to a i b j (amount x) other_to)
            ]
            | inr other_from ↦ omega (arith, more, was, entry-other_row table a b n i j other_from, added-other_from a i b j (amount x) other_from)
          ];
    }

-- the entries stay small
one_more_small : (table : List (List ℕ)) (from to n most more : ℕ) → IsForTerminals table → from < 64 → to < 64
    → ((i j : ℕ) → i < 64 → j < 64 → entry table i j ≤ most) → n ≡ entry table from to + more
    → (i j : ℕ) → i < 64 → j < 64 → entry (with_entry table from to n) i j ≤ most + more
one_more_small table from to n most more shape from_small to_small small is i j i_small j_small =
    let old = small i j i_small j_small in
    elim (cases_eq i from) [
      | inl same_from ↦ elim (cases_eq j to) [
        | inl same_to ↦
            let new : entry (with_entry table from to n) i j ≡ n = rw (same_from, same_to) (entry-written table from to n shape from_small to_small) in
            omega (arith, small from to from_small to_small)
        | inr other_to ↦
            let new : entry (with_entry table from to n) i j ≡ entry table i j = rw same_from (entry-other_column table from to n j shape from_small other_to) in
            omega arith
      ]
      | inr other_from ↦ omega (arith, entry-other_row table from to n i j other_from)
    ]

-- a table of zeros, for no burst
no_entry : (i j : ℕ) → i < 64 → j < 64 → entry (replicate 64 (replicate 64 0)) i j ≡ 0
no_entry i j i_small j_small =
    ap (λ (row : List ℕ). slice_index row j) (get_or-replicate {A = List ℕ} 64 i (replicate 64 0) [] i_small) ∙ get_or-replicate {A = ℕ} 64 j 0 0 j_small

no_items : {X : Type 0} (from to amount : X → ℕ) → AreSumsAt from to amount [] (replicate 64 (replicate 64 0))
no_items from to amount = record {
  shape = record {
    rows = length-replicate {A = List ℕ} 64 (replicate 64 0);
    columns = All-replicate (λ (row : List ℕ). length row ≡ 64) 64 (replicate 64 0) (length-replicate {A = ℕ} 64 0);
  };
  each = λ i j i_small j_small. no_entry i j i_small j_small;
}

-- the table of so many of the items, each of which amounts to less than 2 ^ 32
pub record AreAdded {X : Type 0} (from to amount : X → ℕ) (items : List X) (k : ℕ) (table : List (List ℕ)) : Type 0 where
  pub so_far : AreSumsAt from to amount (take k items) table
  pub small : (i j : ℕ) → i < 64 → j < 64 → entry table i j ≤ 4294967295 * k

-- no item was looked at yet
pub none_added : {X : Type 0} (from to amount : X → ℕ) (items : List X) → AreAdded from to amount items 0 (replicate 64 (replicate 64 0))
none_added from to amount items = record {
  so_far = no_items from to amount;
  small = λ i j i_small j_small. omega (arith, no_entry i j i_small j_small);
}

-- one more item was added
pub one_added : {X : Type 0} (from to amount : X → ℕ) (items : List X) (k : ℕ) (d : X) (table : List (List ℕ)) (units : ℕ) → k < length items
    → AreAdded from to amount items k table → from (get_or items k d) < 64 → to (get_or items k d) < 64 → units ≡ amount (get_or items k d) → units ≤ 4294967295
    → AreAdded from to amount items (k + 1) (with_entry table (from (get_or items k d)) (to (get_or items k d)) (entry table (from (get_or items k d)) (to (get_or items k d)) + units))
one_added from to amount items k d table units within before from_small to_small is few =
    let a = from (get_or items k d) in
    let b = to (get_or items k d) in
    record {
      so_far = one_more from to amount items k d table (entry table a b + units) within before.so_far from_small to_small (ap (λ (n : ℕ). entry table a b + n) is);
      small = λ i j i_small j_small.
          let one = one_more_small table a b (entry table a b + units) (4294967295 * k) units before.so_far.shape from_small to_small before.small refl i j i_small j_small in
          omega (arith, one, few);
    }

-- the same for an item that was read at another place
pub one_in_row : {X : Type 0} (from to amount : X → ℕ) (items : List X) (k : ℕ) (d item : X) (table : List (List ℕ)) (units : ℕ) → get_or items k d ≡ item → k < length items
    → AreAdded from to amount items k table → from item < 64 → to item < 64 → units ≡ amount item → units ≤ 4294967295
    → AreAdded from to amount items (k + 1) (with_entry table (from item) (to item) (entry table (from item) (to item) + units))
one_in_row {X} from to amount items k d item table units same within before from_small to_small is few =
    subst (λ (x : X). AreAdded from to amount items (k + 1) (with_entry table (from x) (to x) (entry table (from x) (to x) + units))) same
    (one_added from to amount items k d table units within before (subst (λ (x : X). from x < 64) (sym same) from_small) (subst (λ (x : X). to x < 64) (sym same) to_small)
    (subst (λ (x : X). units ≡ amount x) (sym same) is) few)

-- the slots at a place that is counted otherwise
pub AreAdded-at : {X : Type 0} (from to amount : X → ℕ) (items : List X) (k n : ℕ) (table : List (List ℕ)) → k ≡ n → AreAdded from to amount items k table
    → AreAdded from to amount items n table
AreAdded-at from to amount items k n table same before = subst (λ (m : ℕ). AreAdded from to amount items m table) same before

-- nothing is asked of terminals that the network has not, nor sent
pub outside : (net : Net) (links : List Link) (bursts : List Burst) (from to : TermNo) → AreOfNetwork net links → AreBetweenTerminals net bursts
    → length net.terminals ≤ to.0 → IsServed links bursts from to
outside net links bursts from to of_network between past =
    let sent = sum_by-le (λ (b : Burst). if b.from.0 == from.0 && b.to.0 == to.0 then b.length else 0) 0 bursts
    (λ k d within. let there = (between k d within).1 in omega (arith, added-other_to (get_or bursts k d).from.0 from.0 (get_or bursts k d).to.0 to.0 (get_or bursts k d).length (λ same. omega arith))) in
    let asked = sum_by-le (λ (l : Link). if l.from.0 == from.0 && l.to.0 == to.0 then l.units else 0) 0 links
    (λ k d within. let there = (of_network k d within).1 in omega (arith, added-other_to (get_or links k d).from.0 from.0 (get_or links k d).to.0 to.0 (get_or links k d).units (λ same. omega arith))) in
    omega (arith, sent, asked)

-- a link is the first unserved one, where those before it are served and the two tables differ there
pub is_first_unserved : (net : Net) (links : List Link) (bursts : List Burst) (asked sent : List (List ℕ)) (count : ℕ) (from to : TermNo)
    → AreOfNetwork net links → AreBetweenTerminals net bursts → AreUnitsAsked links asked → AreSlotsSent bursts sent
    → count ≡ length net.terminals → count ≤ 64 → from.0 < count → to.0 < count
    → ((a b : TermNo) → a.0 < from.0 → b.0 < count → IsServed links bursts a b) → ((b : TermNo) → b.0 < to.0 → IsServed links bursts from b)
    → entry asked from.0 to.0 ≢ entry sent from.0 to.0
    → IsFirstUnserved net links bursts from to (entry asked from.0 to.0) (entry sent from.0 to.0)
is_first_unserved net links bursts asked sent count from to of_network between of_links of_bursts all few sends receives above before differ = record {
  sends = omega arith;
  receives = omega arith;
  wanted = of_links.each from.0 to.0 (omega arith) (omega arith);
  sent = of_bursts.each from.0 to.0 (omega arith) (omega arith);
  differ = differ;
  earlier = λ a b order. elim (cases_lt b.0 count) [
    | inr past ↦ outside net links bursts a b of_network between (omega arith)
    | inl inside ↦ elim (cases_lt a.0 from.0) [
      | inl lower ↦ above a b lower inside
      | inr level ↦
          let here : a.0 ≡ from.0 = omega (arith, order.from) in
          let one : a ≡ from = ap (λ (n : ℕ). let terminal : TermNo = record { 0 = n } in terminal) here in
          subst (λ (t : TermNo). IsServed links bursts t b) (sym one) (before b (order.to here))
    ]
  ];
}

-- An entry that becomes positive, and one that becomes zero: nodes, table, free list and matrix at once.
use Rattle.std.proofs.Common.{◌≡◌, ◌≢◌, ℕ, zero, suc, ◌+◌, ◌<◌, ◌≤◌, List, [], ◌∷◌, ◌++◌, Option, None, Some, Vec, Global, length, length-set, map, get_or, take, drop, sym, ap, ◌∙◌, refl, arith, subst, ⊎_elim, length-append, slice_index, slice_set}
use Rattle.bt_frame.specs.declared.limits.TheConstants.{MOST_BEAMS, MOST_SUM}
use Rattle.bt_matrix.specs.Traffic.{row_of, entry, with_entry}
use Rattle.bt_matrix.proofs.Writes.{KeepsSums-with_entry}
use Rattle.std.proofs.lemmas.List.{get_or_read, length-map}
use Rattle.bt_matrix.specs.declared.node.Node.{Node}
use Rattle.bt_matrix.specs.declared.node.Entry.{Entry}
use Rattle.bt_matrix.specs.Links.{node, no_node, nodes_of, in_row, in_column, IsRevalued, IsPut, IsLinkedIn, IsLinkedOut, NamesNeighbours, IsLinkable}
use Rattle.bt_matrix.specs.Pool.{IsPopped, IsGrown, CameFrom}
use Rattle.bt_matrix.specs.Table.{line_of, column_of, place, with_place, units_in, rows_of, new_node}
use Rattle.bt_matrix.specs.Crosslinked.{KeepsLinks, InUse, IsFree, KeepsFree, IsCrosslinked}
use Rattle.bt_matrix.proofs.Keeps.{gap_holds, node_holds, length-line, KeepsLinks-in, KeepsLinks-out}
use Rattle.bt_matrix.proofs.Free.{KeepsFree-popped, KeepsFree-grown, KeepsFree-out, is_new}
use Rattle.bt_matrix.proofs.Tables.{entry-rows_of, length-rows_of, rows_of-same, rows_of-with_place, rows_of-valued}
use Rattle.bt_matrix.proofs.Runs.{Runs-equal}
use Rattle.std.proofs.lemmas.Bool.{cases_eq}

-- a list of which a slice of its whole length was written
pub take-all : {X : Type 0} (n : ℕ) (xs ys : List X) → length xs ≡ length ys → n ≡ length ys → take n (xs ++ drop (length xs) ys) ≡ xs
take-all zero [] ys same is = refl
take-all (suc n) [] ys same is = absurd (omega arith)
take-all n (x ∷ xs) [] same is = absurd (omega arith)
take-all zero (x ∷ xs) (y ∷ ys) same is = absurd (omega arith)
take-all (suc n) (x ∷ xs) (y ∷ ys) same is = ap (λ (zs : List _). x ∷ zs) (take-all n xs ys (omega arith) (omega arith))

-- the node that was written can be linked
pub linkable : (old mid : List Node) (table : List (List (Option ℕ))) (free free' : List ℕ) (up down k units : ℕ) → KeepsLinks old table
    → KeepsFree old table free → up < length table → down < length table → CameFrom old mid free free' k → IsPut old mid k (new_node table up down units)
    → IsLinkable mid k
linkable old mid table free free' up down k units links keeps in_rows in_columns came put =
    let new = is_new old mid table free free' k links keeps came in
    let within = gap_holds (λ j. j < length mid) old table up down links in_rows in_columns
    (λ b below. omega (arith, links.heads, put.longer)) (λ u d j is. omega (arith, (links.named u d j is).within, put.longer)) in
    let others = gap_holds (λ j. j ≢ k) old table up down links in_rows in_columns
    (λ b below same. omega (arith, new.0)) (λ u d j is same. new.1 u d (is ∙ ap Some same)) in
    let row = ap (λ (n : Node). n.row) put.there in
    let column = ap (λ (n : Node). n.column) put.there in
    record {
      there = record {
        here = put.within;
        left = rw row within.0.0;
        right = rw row within.0.1;
        above = rw column within.1.0;
        below = rw column within.1.1;
      };
      left = rw row others.0.0;
      right = rw row others.0.1;
      above = rw column others.1.0;
      below = rw column others.1.1;
    }

-- an entry that was zero has become positive
pub record IsEntered (old new : List Node) (table : List (List (Option ℕ))) (free free' : List ℕ) (up down k units : ℕ) : Type 0 where
  pub links : KeepsLinks new (with_place table up down (Some k))
  pub listed : KeepsFree new (with_place table up down (Some k)) free'
  pub rows : rows_of new (with_place table up down (Some k)) ≡ with_entry (rows_of old table) up down units
  pub came : length new + length free ≡ length old + length free' + 1

pub entered : (old mid new : List Node) (table : List (List (Option ℕ))) (free free' : List ℕ) (up down k units : ℕ) → KeepsLinks old table
    → KeepsFree old table free → up < length table → down < length table → place table up down ≡ None → 0 < units → CameFrom old mid free free' k
    → IsPut old mid k (new_node table up down units) → IsLinkedIn mid new k → IsEntered old new table free free' up down k units
entered old mid new table free free' up down k units links keeps in_rows in_columns empty positive came put linked =
    let is_k = is_new old mid table free free' k links keeps came in
    let in_line : down < length (line_of table up) = omega (arith, length-line table up links.square in_rows) in
    let kept : (j : ℕ) → j ≢ k → (node new j).entry ≡ (node old j).entry =
    λ j other. linked.entries j ∙ ap (λ (n : Node). n.entry) (put.others j other) in
    let there : (node new k).entry ≡ record { up = up; down = down; units = units } = linked.entries k ∙ ap (λ (n : Node). n.entry) put.there in
    let same = rows_of-same old new table (λ u d j is. ap (λ (e : Entry). e.units) (kept j (λ now. is_k.1 u d (is ∙ ap Some now)))) in
    record {
      links = KeepsLinks-in old mid new table up down k units links in_rows in_columns empty is_k.0 is_k.1 positive put linked;
      listed = ⊎_elim
          (λ (was : IsPopped old mid free free' k). KeepsFree-popped old new table up down k free' in_rows in_line empty (omega (arith, was.same, linked.count)) kept
          (ap (λ (e : Entry). e.up) there) (ap (λ (e : Entry). e.down) there) (subst (KeepsFree old table) was.popped keeps))
          (λ (grown : IsGrown old mid free free' k). subst (KeepsFree new (with_place table up down (Some k))) (sym grown.still)
          (KeepsFree-grown old new table up down k in_rows in_line empty grown.last (omega (arith, grown.grown, linked.count)) kept
          (ap (λ (e : Entry). e.up) there) (ap (λ (e : Entry). e.down) there) (subst (KeepsFree old table) grown.empty keeps)))
          came;
      rows = rows_of-with_place new table up down (Some k)
          ∙ (ap (λ (n : ℕ). with_entry (rows_of new table) up down n) (ap (λ (e : Entry). e.units) there) ∙ ap (λ (m : List (List ℕ)). with_entry m up down units) same);
      came = ⊎_elim
          (λ (was : IsPopped old mid free free' k). omega (arith, was.same, linked.count, ap length was.popped, length-append free' (k ∷ [])))
          (λ (grown : IsGrown old mid free free' k). omega (arith, grown.grown, linked.count, ap length grown.empty, ap length grown.still))
          came;
    }

-- the node of a place that has one, and its neighbours, are there
pub unlinkable : (nodes : List Node) (table : List (List (Option ℕ))) (up down k : ℕ) → KeepsLinks nodes table
    → up < length table → down < length table → place table up down ≡ Some k → NamesNeighbours nodes k
unlinkable nodes table up down k links in_rows in_columns full =
    let within = node_holds (λ j. j < length nodes) nodes table up down k links in_rows in_columns full
    (λ b below. omega (arith, links.heads)) (λ u d j is. (links.named u d j is).within) in
    record {
      here = (links.named up down k full).within;
      left = within.0.0;
      right = within.0.1;
      above = within.1.0;
      below = within.1.1;
    }

-- an entry that was positive has become zero
pub record IsLeft (old new : List Node) (table : List (List (Option ℕ))) (free : List ℕ) (up down k : ℕ) : Type 0 where
  pub links : KeepsLinks new (with_place table up down None)
  pub listed : KeepsFree new (with_place table up down None) (free ++ k ∷ [])
  pub rows : rows_of new (with_place table up down None) ≡ with_entry (rows_of old table) up down 0

pub left : (old new : List Node) (table : List (List (Option ℕ))) (free : List ℕ) (up down k : ℕ) → KeepsLinks old table
    → KeepsFree old table free → up < length table → down < length table → place table up down ≡ Some k → IsLinkedOut old new k
    → IsLeft old new table free up down k
left old new table free up down k links keeps in_rows in_columns full linked =
    let in_line : down < length (line_of table up) = omega (arith, length-line table up links.square in_rows) in
    let is = links.named up down k full in
    let same = rows_of-same old new table (λ u d j _. ap (λ (e : Entry). e.units) (linked.entries j)) in
    record {
      links = KeepsLinks-out old new table up down k links in_rows in_columns full linked;
      listed = KeepsFree-out old new table up down k free in_rows in_line full is.past_heads is.within linked.count linked.entries is.at_up is.at_down keeps;
      rows = rows_of-with_place new table up down None ∙ ap (λ (m : List (List ℕ)). with_entry m up down 0) same;
    }

-- the slots of a positive entry were written
pub record IsChanged (old new : List Node) (table : List (List (Option ℕ))) (free : List ℕ) (up down units : ℕ) : Type 0 where
  pub links : KeepsLinks new table
  pub listed : KeepsFree new table free
  pub rows : rows_of new table ≡ with_entry (rows_of old table) up down units

InUse-valued : (old new : List Node) (table : List (List (Option ℕ))) (k units j : ℕ) → IsRevalued old new k units → InUse new table j → InUse old table j
InUse-valued old new table k units j valued is = rw (← valued.ups j) (rw (← valued.downs j) is)

IsFree-valued : (old new : List Node) (table : List (List (Option ℕ))) (k units j : ℕ) → IsRevalued old new k units → IsFree old table j → IsFree new table j
IsFree-valued old new table k units j valued is = record {
  past_heads = is.past_heads;
  within = omega (arith, is.within, valued.count);
  unused = λ used. is.unused (InUse-valued old new table k units j valued used);
}

IsFree-was : (old new : List Node) (table : List (List (Option ℕ))) (k units j : ℕ) → IsRevalued old new k units → IsFree new table j → IsFree old table j
IsFree-was old new table k units j valued is = record {
  past_heads = is.past_heads;
  within = omega (arith, is.within, valued.count);
  unused = λ used. is.unused (rw (valued.ups j) (rw (valued.downs j) used));
}

pub changed : (old new : List Node) (table : List (List (Option ℕ))) (free : List ℕ) (up down k units : ℕ) → KeepsLinks old table
    → KeepsFree old table free → place table up down ≡ Some k → 0 < units → IsRevalued old new k units → IsChanged old new table free up down units
changed old new table free up down k units links keeps full positive valued = record {
  links = record {
    square = links.square;
    heads = omega (arith, links.heads, valued.count);
    head_up = λ b below. valued.ups b ∙ links.head_up b below;
    head_down = λ b below. valued.downs b ∙ links.head_down b below;
    named = λ u d j is. record {
      past_heads = (links.named u d j is).past_heads;
      within = omega (arith, (links.named u d j is).within, valued.count);
      at_up = valued.ups j ∙ (links.named u d j is).at_up;
      at_down = valued.downs j ∙ (links.named u d j is).at_down;
      positive = ⊎_elim
          (λ (same : j ≡ k). rw same (rw valued.there positive))
          (λ (other : j ≡ k → ⊥). rw (valued.others j other) (links.named u d j is).positive)
          (cases_eq j k);
    };
    rows = λ u below. Runs-equal (in_row old) (in_row new) u (nodes_of (line_of table u)) u valued.rows (links.rows u below);
    columns = λ d below. Runs-equal (in_column old) (in_column new) d (nodes_of (column_of table d)) d valued.columns (links.columns d below);
  };
  listed = record {
    unused = λ i d below. IsFree-valued old new table k units (get_or free i d) valued (keeps.unused i d below);
    once = keeps.once;
    each = λ j is. keeps.each j (IsFree-was old new table k units j valued is);
    count = omega (arith, keeps.count, valued.count);
  };
  rows = rows_of-valued old new k units table up down valued.there valued.others full
      (λ u d is.
      let here = links.named up down k full in
      let there = links.named u d k is in
      (sym there.at_up ∙ here.at_up, sym there.at_down ∙ here.at_down));
}

-- an entry is what its node holds
pub entry-held : (nodes : List Node) (table : List (List (Option ℕ))) (up down k : ℕ) (n : Node) → KeepsLinks nodes table → place table up down ≡ Some k
    → n ≡ get_or nodes k n → entry (rows_of nodes table) up down ≡ n.entry.units
entry-held nodes table up down k n links full read =
    entry-rows_of nodes table up down
    ∙ (ap (units_in nodes) full ∙ ap (λ (m : Node). m.entry.units) (sym (get_or_read nodes k n (links.named up down k full).within read no_node)))

-- the sums are kept by a write that gives its row and its column their new sums
pub sums-kept : (old new : List Node) (table table' : List (List (Option ℕ))) (free free' row_sums column_sums : List ℕ) (up down n row column : ℕ)
    → IsCrosslinked old table free row_sums column_sums → KeepsLinks new table' → KeepsFree new table' free'
    → rows_of new table' ≡ with_entry (rows_of old table) up down n → up < length table → down < length table
    → length row_sums ≡ MOST_BEAMS → length column_sums ≡ MOST_BEAMS
    → row + entry (rows_of old table) up down ≡ slice_index row_sums up + n → column + entry (rows_of old table) up down ≡ slice_index column_sums down + n
    → row ≤ MOST_SUM → column ≤ MOST_SUM → IsCrosslinked new table' free' (slice_set row_sums up row) (slice_set column_sums down column)
sums-kept old new table table' free free' row_sums column_sums up down n row column is links listed rows in_rows in_columns long_rows long_columns row_gives column_gives row_fits column_fits =
    let size = length-rows_of old table in
    let up_in : up < length (rows_of old table) = omega (arith, size) in
    let down_in : down < length (rows_of old table) = omega (arith, size) in
    record {
      links = links;
      listed = listed;
      sums = rw rows (KeepsSums-with_entry (rows_of old table) row_sums column_sums up down n row column is.sums up_in down_in long_rows long_columns
          (omega (arith, row_gives, is.sums.of_rows up up_in)) (omega (arith, column_gives, is.sums.of_columns down down_in)) row_fits column_fits);
    }

-- a slice of the table that an operation has gone over is all of it
pub whole_table : (nodes old : List Node) (table table' : List (Vec (Option ℕ) Global)) (up down n len : ℕ)
    → rows_of nodes (map (λ line. line.items) table') ≡ with_entry (rows_of old (map (λ line. line.items) table)) up down n → len ≡ length table
    → take len (table' ++ drop (length table') table) ≡ table'
whole_table nodes old table table' up down n len rows is =
    let size = ap (λ (m : List (List ℕ)). length m) rows in
    let kept = length-set (rows_of old (map (λ (line : Vec (Option ℕ) Global). line.items) table)) up
    (slice_set (row_of (rows_of old (map (λ (line : Vec (Option ℕ) Global). line.items) table)) up) down n) in
    let before = length-rows_of old (map (λ (line : Vec (Option ℕ) Global). line.items) table) in
    let after = length-rows_of nodes (map (λ (line : Vec (Option ℕ) Global). line.items) table') in
    let lists_before = length-map table (λ (line : Vec (Option ℕ) Global). line.items) in
    let lists_after = length-map table' (λ (line : Vec (Option ℕ) Global). line.items) in
    take-all len table' table (omega (arith, size, kept, before, after, lists_before, lists_after)) is

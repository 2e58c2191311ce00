-- Nodes and table stay linked when a node comes in, and when one goes out.
use Rattle.std.proofs.Common.{◌≡◌, ◌≢◌, ℕ, suc, ◌<◌, ◌≤◌, List, [], Option, None, Some, length, get_or, set, take, drop, All, sym, ap, ◌∙◌, arith, subst, ⊎_elim, length-set}
use Rattle.std.proofs.lemmas.Bool.{cases_eq}
use Rattle.std.proofs.lemmas.List.{length-map, get_or-set_same, get_or-set_other}
use Rattle.std.proofs.lemmas.List.Elements.{All-set}
use Rattle.std.proofs.lemmas.Option.{none-some, same_Some}
use Rattle.bt_matrix.specs.declared.node.Node.{Node}
use Rattle.bt_matrix.specs.declared.node.Entry.{Entry}
use Rattle.bt_matrix.specs.declared.node.Neighbours.{Neighbours}
use Rattle.bt_matrix.specs.Links.{node, nodes_of, in_row, in_column, Runs, IsInserted, IsLinkedIn, IsLinkedOut, IsPut}
use Rattle.bt_matrix.specs.Table.{before_place, after_place, new_node, line_of, column_of, place, with_place}
use Rattle.bt_matrix.specs.Crosslinked.{IsNamed, KeepsLinks}
use Rattle.bt_matrix.proofs.Runs.{Runs-gap, Runs-node}
use Rattle.bt_matrix.proofs.LinkedLines.{AreLines, around, Each-nodes, nodes_of-split, Runs-lines-in, Runs-lines-out}
use Rattle.bt_matrix.proofs.Tables.{get_or-column, place-with_place_same, place-with_place_other, column_of-with_place_same, column_of-with_place_other}

-- a line is as long as the table
pub length-line : (table : List (List (Option ℕ))) (up : ℕ) → All (λ line. length line ≡ length table) table → up < length table
    → length (line_of table up) ≡ length table
length-line table up square within = square up [] within

pub length-column : (table : List (List (Option ℕ))) (down : ℕ) → length (column_of table down) ≡ length table
length-column table down = length-map table (λ (line : List (Option ℕ)). get_or line down None)

-- rows and columns are lines
pub rows_are : (nodes : List Node) (table : List (List (Option ℕ))) → KeepsLinks nodes table
    → AreLines (length table) (line_of table) (in_row nodes) (λ k. (node nodes k).entry.up) (λ k. (node nodes k).entry.down)
rows_are nodes table keeps = record {
  runs = keeps.rows;
  heads = keeps.head_up;
  past_heads = λ u i k is. (keeps.named u i k is).past_heads;
  numbers = λ u i k is. (keeps.named u i k is).at_up;
  positions = λ u i k is. (keeps.named u i k is).at_down;
}

pub columns_are : (nodes : List Node) (table : List (List (Option ℕ))) → KeepsLinks nodes table
    → AreLines (length table) (column_of table) (in_column nodes) (λ k. (node nodes k).entry.down) (λ k. (node nodes k).entry.up)
columns_are nodes table keeps = record {
  runs = keeps.columns;
  heads = keeps.head_down;
  past_heads = λ u i k is. (keeps.named i u k (sym (get_or-column table i u) ∙ is)).past_heads;
  numbers = λ u i k is. (keeps.named i u k (sym (get_or-column table i u) ∙ is)).at_down;
  positions = λ u i k is. (keeps.named i u k (sym (get_or-column table i u) ∙ is)).at_up;
}

-- a node between two of the nodes as they were before it was written
inserted : (old mid new : ℕ → Neighbours) (a k b : ℕ) → ((j : ℕ) → j ≢ k → mid j ≡ old j) → IsInserted mid new a k b → IsInserted old new a k b
inserted old mid new a k b others came = record {
  first = came.first;
  second = came.second;
  other_after = λ j not_a not_k. came.other_after j not_a not_k ∙ ap (λ (n : Neighbours). n.after) (others j not_k);
  other_before = λ j not_b not_k. came.other_before j not_b not_k ∙ ap (λ (n : Neighbours). n.before) (others j not_k);
}

-- a node whose entry stands as it was is named as it was
IsNamed-kept : (old new : List Node) (size u d j : ℕ) → length old ≤ length new → (node new j).entry ≡ (node old j).entry
    → IsNamed old size u d j → IsNamed new size u d j
IsNamed-kept old new size u d j longer same is = record {
  past_heads = is.past_heads;
  within = omega (arith, is.within);
  at_up = ap (λ (e : Entry). e.up) same ∙ is.at_up;
  at_down = ap (λ (e : Entry). e.down) same ∙ is.at_down;
  positive = omega (arith, is.positive, ap (λ (e : Entry). e.units) same);
}

-- each place names its node when a node has come in
named_in : (old new : List Node) (table : List (List (Option ℕ))) (up down k units : ℕ) → KeepsLinks old table
    → up < length table → down < length (line_of table up) → length table ≤ k → k < length new → ((u d : ℕ) → place table u d ≢ Some k)
    → 0 < units → length old ≤ length new → ((j : ℕ) → j ≢ k → (node new j).entry ≡ (node old j).entry)
    → (node new k).entry ≡ record { up = up; down = down; units = units }
    → (u d j : ℕ) → place (with_place table up down (Some k)) u d ≡ Some j → IsNamed new (length table) u d j
named_in old new table up down k units keeps in_rows in_line past within news positive longer kept there u d j is =
    let elsewhere : (u ≡ up → d ≡ down → ⊥) → IsNamed new (length table) u d j = λ other.
    let was = sym (place-with_place_other table up down u d (Some k) in_rows other) ∙ is in
    let not_k : j ≢ k = λ same. news u d (was ∙ ap Some same) in
    IsNamed-kept old new (length table) u d j longer (kept j not_k) (keeps.named u d j was) in
    ⊎_elim
    (λ (at_up : u ≡ up). ⊎_elim
    (λ (at_down : d ≡ down).
    let here = place-with_place_same table up down (Some k) in_rows in_line in
    let at = ap (λ (v : ℕ). place (with_place table up down (Some k)) v d) at_up ∙ ap (λ (v : ℕ). place (with_place table up down (Some k)) up v) at_down in
    let j_is : j ≡ k = same_Some j k (sym is ∙ (at ∙ here)) in
    let is_k : (node new j).entry ≡ record { up = up; down = down; units = units } = ap (λ (m : ℕ). (node new m).entry) j_is ∙ there in
    record {
      past_heads = omega (arith, j_is);
      within = omega (arith, j_is);
      at_up = ap (λ (e : Entry). e.up) is_k ∙ sym at_up;
      at_down = ap (λ (e : Entry). e.down) is_k ∙ sym at_down;
      positive = omega (arith, ap (λ (e : Entry). e.units) is_k);
    })
    (λ (other : d ≡ down → ⊥). elsewhere (λ _ same. other same))
    (cases_eq d down))
    (λ (other : u ≡ up → ⊥). elsewhere (λ same _. other same))
    (cases_eq u up)

-- a node comes in
pub KeepsLinks-in : (old mid new : List Node) (table : List (List (Option ℕ))) (up down k units : ℕ) → KeepsLinks old table
    → up < length table → down < length table → place table up down ≡ None → length table ≤ k → ((u d : ℕ) → place table u d ≢ Some k)
    → 0 < units → IsPut old mid k (new_node table up down units) → IsLinkedIn mid new k → KeepsLinks new (with_place table up down (Some k))
KeepsLinks-in old mid new table up down k units keeps in_rows in_columns empty past news positive put linked =
    let table' = with_place table up down (Some k) in
    let size : length table' ≡ length table = length-set table up (set (line_of table up) down (Some k)) in
    let long = length-line table up keeps.square in_rows in
    let in_line : down < length (line_of table up) = omega (arith, long) in
    let in_places : up < length (column_of table down) = omega (arith, length-column table down) in
    let kept : (j : ℕ) → j ≢ k → (node new j).entry ≡ (node old j).entry =
    λ j other. linked.entries j ∙ ap (λ (n : Node). n.entry) (put.others j other) in
    let there : (node new k).entry ≡ record { up = up; down = down; units = units } = linked.entries k ∙ ap (λ (n : Node). n.entry) put.there in
    let row_gap : IsInserted (in_row mid) (in_row new) (before_place (line_of table up) down up) k (after_place (line_of table up) down up) =
    subst (λ (n : Node). IsInserted (in_row mid) (in_row new) n.row.before k n.row.after) put.there linked.rows in
    let column_gap : IsInserted (in_column mid) (in_column new) (before_place (column_of table down) up down) k (after_place (column_of table down) up down) =
    subst (λ (n : Node). IsInserted (in_column mid) (in_column new) n.column.before k n.column.after) put.there linked.columns in
    record {
      square = λ i d within.
          let square = All-set (λ (line : List (Option ℕ)). length line ≡ length table) table up (set (line_of table up) down (Some k))
          (length-set (line_of table up) down (Some k) ∙ long) keeps.square in
          square i d within ∙ sym size;
      heads = omega (arith, size, keeps.heads, put.longer, linked.count);
      head_up = λ b within. ap (λ (e : Entry). e.up) (kept b (λ same. omega (arith, size, same))) ∙ keeps.head_up b (omega (arith, size));
      head_down = λ b within. ap (λ (e : Entry). e.down) (kept b (λ same. omega (arith, size, same))) ∙ keeps.head_down b (omega (arith, size));
      named = rw size (named_in old new table up down k units keeps in_rows in_line past (omega (arith, put.within, linked.count)) news positive
          (omega (arith, put.longer, linked.count)) kept there);
      rows = rw size (Runs-lines-in (length table) (line_of table) (line_of table') (in_row old) (in_row new)
          (λ j. (node old j).entry.up) (λ j. (node old j).entry.down) up down k (rows_are old table keeps) in_rows in_line empty past news
          (inserted (in_row old) (in_row mid) (in_row new) (before_place (line_of table up) down up) k (after_place (line_of table up) down up)
          (λ j other. ap (λ (n : Node). n.row) (put.others j other)) row_gap)
          (get_or-set_same table up (set (line_of table up) down (Some k)) [] in_rows)
          (λ u other. get_or-set_other table up u (set (line_of table up) down (Some k)) [] other));
      columns = rw size (Runs-lines-in (length table) (column_of table) (column_of table') (in_column old) (in_column new)
          (λ j. (node old j).entry.down) (λ j. (node old j).entry.up) down up k (columns_are old table keeps) in_columns in_places
          (get_or-column table up down ∙ empty) past (λ u j is. news j u (sym (get_or-column table j u) ∙ is))
          (inserted (in_column old) (in_column mid) (in_column new) (before_place (column_of table down) up down) k (after_place (column_of table down) up down)
          (λ j other. ap (λ (n : Node). n.column) (put.others j other)) column_gap)
          (column_of-with_place_same table up down (Some k) in_line)
          (λ u other. column_of-with_place_other table up down u (Some k) other));
    }

-- each place names its node when a node has gone out
named_out : (old new : List Node) (table : List (List (Option ℕ))) (up down : ℕ) → KeepsLinks old table
    → up < length table → down < length (line_of table up) → length old ≤ length new → ((j : ℕ) → (node new j).entry ≡ (node old j).entry)
    → (u d j : ℕ) → place (with_place table up down None) u d ≡ Some j → IsNamed new (length table) u d j
named_out old new table up down keeps in_rows in_line longer kept u d j is =
    let elsewhere : (u ≡ up → d ≡ down → ⊥) → IsNamed new (length table) u d j = λ other.
    let was = sym (place-with_place_other table up down u d None in_rows other) ∙ is in
    IsNamed-kept old new (length table) u d j longer (kept j) (keeps.named u d j was) in
    ⊎_elim
    (λ (at_up : u ≡ up). ⊎_elim
    (λ (at_down : d ≡ down).
    let here = place-with_place_same table up down None in_rows in_line in
    let at = ap (λ (v : ℕ). place (with_place table up down None) v d) at_up ∙ ap (λ (v : ℕ). place (with_place table up down None) up v) at_down in
    absurd (none-some j (sym here ∙ (sym at ∙ is))))
    (λ (other : d ≡ down → ⊥). elsewhere (λ _ same. other same))
    (cases_eq d down))
    (λ (other : u ≡ up → ⊥). elsewhere (λ same _. other same))
    (cases_eq u up)

-- a node goes out
pub KeepsLinks-out : (old new : List Node) (table : List (List (Option ℕ))) (up down k : ℕ) → KeepsLinks old table
    → up < length table → down < length table → place table up down ≡ Some k → IsLinkedOut old new k → KeepsLinks new (with_place table up down None)
KeepsLinks-out old new table up down k keeps in_rows in_columns full linked =
    let table' = with_place table up down None in
    let size : length table' ≡ length table = length-set table up (set (line_of table up) down None) in
    let long = length-line table up keeps.square in_rows in
    let in_line : down < length (line_of table up) = omega (arith, long) in
    let in_places : up < length (column_of table down) = omega (arith, length-column table down) in
    record {
      square = λ i d within.
          let square = All-set (λ (line : List (Option ℕ)). length line ≡ length table) table up (set (line_of table up) down None)
          (length-set (line_of table up) down None ∙ long) keeps.square in
          square i d within ∙ sym size;
      heads = omega (arith, size, keeps.heads, linked.count);
      head_up = λ b within. ap (λ (e : Entry). e.up) (linked.entries b) ∙ keeps.head_up b (omega (arith, size));
      head_down = λ b within. ap (λ (e : Entry). e.down) (linked.entries b) ∙ keeps.head_down b (omega (arith, size));
      named = rw size (named_out old new table up down keeps in_rows in_line (omega (arith, linked.count)) linked.entries);
      rows = rw size (Runs-lines-out (length table) (line_of table) (line_of table') (in_row old) (in_row new)
          (λ j. (node old j).entry.up) (λ j. (node old j).entry.down) up down k (rows_are old table keeps) in_rows in_line full linked.rows
          (get_or-set_same table up (set (line_of table up) down None) [] in_rows)
          (λ u other. get_or-set_other table up u (set (line_of table up) down None) [] other));
      columns = rw size (Runs-lines-out (length table) (column_of table) (column_of table') (in_column old) (in_column new)
          (λ j. (node old j).entry.down) (λ j. (node old j).entry.up) down up k (columns_are old table keeps) in_columns in_places
          (get_or-column table up down ∙ full) linked.columns
          (column_of-with_place_same table up down None in_line)
          (λ u other. column_of-with_place_other table up down u None other));
    }

-- what holds of heads and of named nodes holds of the neighbours that a node will have at a place
pub gap_holds : (P : ℕ → Type 0) (nodes : List Node) (table : List (List (Option ℕ))) (up down : ℕ) → KeepsLinks nodes table
    → up < length table → down < length table → ((b : ℕ) → b < length table → P b) → ((u d j : ℕ) → place table u d ≡ Some j → P j)
    → (P (before_place (line_of table up) down up) × P (after_place (line_of table up) down up))
    × (P (before_place (column_of table down) up down) × P (after_place (column_of table down) up down))
gap_holds P nodes table up down keeps in_rows in_columns of_heads of_named = (
  around P (line_of table up) down up (omega (arith, length-line table up keeps.square in_rows)) (of_heads up in_rows)
      (Each-nodes P (line_of table up) (λ i j is. of_named up i j is)),
  around P (column_of table down) up down (omega (arith, length-column table down)) (of_heads down in_columns)
      (Each-nodes P (column_of table down) (λ i j is. of_named i down j (sym (get_or-column table i down) ∙ is))),
)

-- the neighbours around a place that has none
pub gap_after : (nodes : List Node) (table : List (List (Option ℕ))) (up down : ℕ) → KeepsLinks nodes table
    → up < length table → down < length table → place table up down ≡ None
    → ((node nodes (before_place (line_of table up) down up)).row.after ≡ after_place (line_of table up) down up)
    × ((node nodes (before_place (column_of table down) up down)).column.after ≡ after_place (column_of table down) up down)
gap_after nodes table up down keeps in_rows in_columns empty =
    let row = rw empty at (nodes_of-split (line_of table up) down (omega (arith, length-line table up keeps.square in_rows))) in
    let column = rw (get_or-column table up down ∙ empty) at (nodes_of-split (column_of table down) up (omega (arith, length-column table down))) in
    let across = Runs-gap (in_row nodes) up (nodes_of (take down (line_of table up))) (nodes_of (drop (suc down) (line_of table up))) up
    (subst (λ (ks : List ℕ). Runs (in_row nodes) up ks up) row (keeps.rows up in_rows)) in
    let along = Runs-gap (in_column nodes) down (nodes_of (take up (column_of table down))) (nodes_of (drop (suc up) (column_of table down))) down
    (subst (λ (ks : List ℕ). Runs (in_column nodes) down ks down) column (keeps.columns down in_columns)) in
    (across.0, along.0)

-- and those of a node
pub node_holds : (P : ℕ → Type 0) (nodes : List Node) (table : List (List (Option ℕ))) (up down k : ℕ) → KeepsLinks nodes table
    → up < length table → down < length table → place table up down ≡ Some k → ((b : ℕ) → b < length table → P b)
    → ((u d j : ℕ) → place table u d ≡ Some j → P j)
    → (P (node nodes k).row.before × P (node nodes k).row.after) × (P (node nodes k).column.before × P (node nodes k).column.after)
node_holds P nodes table up down k keeps in_rows in_columns full of_heads of_named =
    let gap = gap_holds P nodes table up down keeps in_rows in_columns of_heads of_named in
    let row = rw full at (nodes_of-split (line_of table up) down (omega (arith, length-line table up keeps.square in_rows))) in
    let column = rw (get_or-column table up down ∙ full) at (nodes_of-split (column_of table down) up (omega (arith, length-column table down))) in
    let across = Runs-node (in_row nodes) up (nodes_of (take down (line_of table up))) k (nodes_of (drop (suc down) (line_of table up))) up
    (subst (λ (ks : List ℕ). Runs (in_row nodes) up ks up) row (keeps.rows up in_rows)) in
    let along = Runs-node (in_column nodes) down (nodes_of (take up (column_of table down))) k (nodes_of (drop (suc up) (column_of table down))) down
    (subst (λ (ks : List ℕ). Runs (in_column nodes) down ks down) column (keeps.columns down in_columns)) in
    ((subst P (sym across.0) gap.0.0, subst P (sym across.1) gap.0.1), (subst P (sym along.0) gap.1.0, subst P (sym along.1) gap.1.1))

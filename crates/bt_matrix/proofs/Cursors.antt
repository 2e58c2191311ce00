-- The right links against the row of the matrix: behind an entry comes the next positive one.
use Rattle.std.proofs.Common.{◌≡◌, ℕ, zero, suc, ◌+◌, ◌<◌, ◌≤◌, List, [], ◌∷◌, Option, None, Some, Vec, Global, length, map, get_or, take, drop, sym, ap, ◌∙◌, refl, arith, rules, subst, add-one}
use Rattle.std.proofs.lemmas.List.{length-map, get_or_read, get_or-drop, drop-map, drop-drop}
use Rattle.std.specs.Option.{unwrap_or, IfSome}
use Rattle.bt_frame.specs.declared.numbers.BeamNo.{BeamNo}
use Rattle.bt_matrix.specs.Traffic.{row_of}
use Rattle.bt_matrix.specs.declared.node.Node.{Node}
use Rattle.bt_matrix.specs.Links.{node, no_node, nodes_of, first_or, in_row, Runs}
use Rattle.bt_matrix.specs.Table.{line_of, place, units_in, rows_of}
use Rattle.bt_matrix.specs.Crosslinked.{KeepsLinks}
use Rattle.bt_matrix.specs.Cursor.{positives, column_behind, entries_behind, HasEntry, start_of}
use Rattle.bt_matrix.proofs.Runs.{Each, Runs-gap, Runs-node}
use Rattle.bt_matrix.proofs.LinkedLines.{Each-nodes, Each-first, nodes_of-split}
use Rattle.bt_matrix.proofs.Keeps.{length-line}
use Rattle.bt_matrix.proofs.Tables.{get_or-map_default, entry-rows_of, length-rows_of, within_line}

-- a positive entry comes first
positives-cons : (f n : ℕ) (rest : List ℕ) → 0 < n → positives f (n ∷ rest) ≡ (f, n) ∷ positives (f + 1) rest
positives-cons f zero rest positive = absurd (omega arith)
positives-cons f (suc n) rest positive = refl

-- places without nodes have no positive entries
positives-none : (nodes : List Node) (f : ℕ) (line : List (Option ℕ)) → nodes_of line ≡ [] → positives f (map (units_in nodes) line) ≡ []
positives-none nodes f [] is = refl
positives-none nodes f (None ∷ line) is = positives-none nodes (f + 1) line is
positives-none nodes f (Some k ∷ line) is = cc

-- the first positive entry of these places is their first node's
record IsNext (nodes : List Node) (f : ℕ) (line : List (Option ℕ)) (k : ℕ) : Type 0 where
  i : ℕ
  there : get_or line i None ≡ Some k
  first : positives f (map (units_in nodes) line) ≡ (f + i, (node nodes k).entry.units) ∷ positives (f + i + 1) (drop (suc i) (map (units_in nodes) line))

positives-some : (nodes : List Node) (f : ℕ) (line : List (Option ℕ)) (k : ℕ) (ks : List ℕ) → nodes_of line ≡ k ∷ ks
    → ((i j : ℕ) → get_or line i None ≡ Some j → 0 < (node nodes j).entry.units) → IsNext nodes f line k
positives-some nodes f [] k ks is positive = cc
positives-some nodes f (Some m ∷ line) k ks is positive =
    let same : m ≡ k = cc in
    let units = (node nodes m).entry.units in
    let first = positives-cons f units (map (units_in nodes) line) (positive 0 m refl) in
    let plus : f ≡ f + 0 = omega arith in
    record {
      i = 0;
      there = ap Some same;
      first = subst (λ (g : ℕ). positives f (units ∷ map (units_in nodes) line) ≡ (g, (node nodes k).entry.units) ∷ positives (g + 1) (map (units_in nodes) line)) plus
          (subst (λ (j : ℕ). positives f (units ∷ map (units_in nodes) line) ≡ (f, (node nodes j).entry.units) ∷ positives (f + 1) (map (units_in nodes) line)) same first);
    }
positives-some nodes f (None ∷ line) k ks is positive =
    let rest = positives-some nodes (f + 1) line k ks is (λ i j at. positive (suc i) j at) in
    let plus : f + 1 + rest.i ≡ f + suc rest.i = omega arith in
    record {
      i = suc rest.i;
      there = rest.there;
      first = subst (λ (g : ℕ). positives (f + 1) (map (units_in nodes) line)
          ≡ (g, (node nodes k).entry.units) ∷ positives (g + 1) (drop (suc rest.i) (map (units_in nodes) line))) plus rest.first;
    }

-- an entry of which the slots are positive has a node
has_node : (nodes : List Node) (at : Option ℕ) → 0 < units_in nodes at → (k : ℕ) × (at ≡ Some k)
has_node nodes None positive = absurd (omega arith)
has_node nodes (Some k) positive = (k, refl)

-- the node of which the right link leads on
pub start_after : (nodes : List Node) (table : List (List (Option ℕ))) (up : ℕ) (last : Option BeamNo) → KeepsLinks nodes table → up < length table
    → HasEntry (rows_of nodes table) up last
    → (start_of table up last < length nodes)
    × ((node nodes (start_of table up last)).row.after ≡ first_or (nodes_of (drop (column_behind last) (line_of table up))) up)
start_after nodes table up None links in_rows has =
    (omega (arith, links.heads), (Runs-gap (in_row nodes) up [] (nodes_of (line_of table up)) up (links.rows up in_rows)).0)
start_after nodes table up (Some down) links in_rows has =
    let d = down.0 in
    let line = line_of table up in
    let some = has_node nodes (place table up d) (rw (← entry-rows_of nodes table up d) has.1) in
    let k = some.0 in
    let full = some.1 in
    let split = rw full at (nodes_of-split line d (omega (arith, has.0, length-rows_of nodes table, length-line table up links.square in_rows))) in
    let after = (Runs-node (in_row nodes) up (nodes_of (take d line)) k (nodes_of (drop (suc d) line)) up
    (subst (λ (ks : List ℕ). Runs (in_row nodes) up ks up) split (links.rows up in_rows))).1 in
    let start : start_of table up (Some down) ≡ k = ap (λ (p : Option ℕ). unwrap_or p up) full in
    (rw start (links.named up d k full).within, rw start (rw (add-one d) after))

first_small : (size e : ℕ) (ks : List ℕ) → Each (λ k. size ≤ k) ks → first_or ks e < size → ks ≡ []
first_small size e [] each below = refl
first_small size e (k ∷ ks) each below = absurd (omega (arith, each.0))

first_large : (size e : ℕ) (ks : List ℕ) → e < size → size ≤ first_or ks e → (js : List ℕ) × (ks ≡ first_or ks e ∷ js)
first_large size e [] below past = absurd (omega arith)
first_large size e (k ∷ ks) below past = (ks, refl)

-- what the link from an entry, or from the head, says of the row
pub record IsBehind (nodes : List Node) (size : ℕ) (rows : List (List ℕ)) (up : ℕ) (last : Option BeamNo) (k : ℕ) : Type 0 where
  pub within : k < length nodes
  pub none : k < size → entries_behind rows up last ≡ []
  pub some : (next : BeamNo) → size ≤ k → next.0 ≡ (node nodes k).entry.down → entries_behind rows up last
      ≡ (next.0, (node nodes k).entry.units) ∷ entries_behind rows up (Some next)
  pub positive : (next : BeamNo) → size ≤ k → next.0 ≡ (node nodes k).entry.down → HasEntry rows up (Some next)

pub behind : (nodes : List Node) (table : List (List (Option ℕ))) (up : ℕ) (last : Option BeamNo) (k : ℕ) → KeepsLinks nodes table → up < length table
    → k ≡ first_or (nodes_of (drop (column_behind last) (line_of table up))) up → IsBehind nodes (length table) (rows_of nodes table) up last k
behind nodes table up last k links in_rows is =
    let c = column_behind last in
    let line = line_of table up in
    let places = drop c line in
    let row : row_of (rows_of nodes table) up ≡ map (units_in nodes) line = get_or-map_default (λ (l : List (Option ℕ)). map (units_in nodes) l) table up [] in
    let rest : drop c (row_of (rows_of nodes table) up) ≡ map (units_in nodes) places = ap (drop c) row ∙ drop-map (units_in nodes) c line in
    let at : (i j : ℕ) → get_or places i None ≡ Some j → place table up (c + i) ≡ Some j = λ i j there. sym (get_or-drop c line i None) ∙ there in
    let past = Each-nodes (λ j. length table ≤ j) places (λ i j there. (links.named up (c + i) j (at i j there)).past_heads) in
    let inside = Each-nodes (λ j. j < length nodes) places (λ i j there. (links.named up (c + i) j (at i j there)).within) in
    let next : length table ≤ k → IsNext nodes c places k = λ large.
    let found = first_large (length table) up (nodes_of places) in_rows (omega (arith, is)) in
    positives-some nodes c places k found.0 (found.1 ∙ ap (λ (j : ℕ). j ∷ found.0) (sym is))
    (λ i j there. (links.named up (c + i) j (at i j there)).positive) in
    record {
      within = rw is (Each-first (λ j. j < length nodes) (nodes_of places) up inside (omega (arith, links.heads)));
      none = λ small. ap (positives c) rest ∙ positives-none nodes c places (first_small (length table) up (nodes_of places) past (omega (arith, is)));
      some = λ beam large down.
          let n = next large in
          let here = links.named up (c + n.i) k (at n.i k n.there) in
          let column : c + n.i ≡ beam.0 = sym here.at_down ∙ sym down in
          let tail : drop (suc n.i) (map (units_in nodes) places) ≡ drop (c + suc n.i) (row_of (rows_of nodes table) up) =
          ap (drop (suc n.i)) (sym rest) ∙ drop-drop (suc n.i) c (row_of (rows_of nodes table) up) in
          let ends : c + suc n.i ≡ beam.0 + 1 = omega (arith, column) in
          let tail_is = tail ∙ ap (λ (m : ℕ). drop m (row_of (rows_of nodes table) up)) ends in
          ap (positives c) rest ∙ (n.first
          ∙ (ap (λ (m : ℕ). (m, (node nodes k).entry.units) ∷ positives (m + 1) (drop (suc n.i) (map (units_in nodes) places))) column
          ∙ ap (λ (xs : List ℕ). (beam.0, (node nodes k).entry.units) ∷ positives (beam.0 + 1) xs) tail_is));
      positive = λ beam large down.
          let n = next large in
          let here = links.named up (c + n.i) k (at n.i k n.there) in
          let column : c + n.i ≡ beam.0 = sym here.at_down ∙ sym down in
          let full = ap (λ (m : ℕ). place table up m) (sym column) ∙ at n.i k n.there in
          let long = length-line table up links.square in_rows in
          (omega (arith, within_line line (c + n.i) k (at n.i k n.there), column, long, length-rows_of nodes table), rw (entry-rows_of nodes table up beam.0) (rw full here.positive));
    }

abbrev lists : List (Vec (Option ℕ) Global) → List (List (Option ℕ))
lists table = map (λ (line : Vec (Option ℕ) Global). line.items) table

place_of : (last : Option BeamNo) (rows : List (List ℕ)) (long up : ℕ) → length rows ≡ long → HasEntry rows up last → IfSome last (λ down. down.0 < long)
place_of None rows long up same has = search rules
place_of (Some down) rows long up same has = omega (arith, has.0)

-- the same from the node that the start names, by a slice of the table and the rows that callers see
pub behind_start : (nodes : List Node) (table slice : List (Vec (Option ℕ) Global)) (rows : List (List ℕ)) (up : ℕ) (last : Option BeamNo) (start : ℕ) (n : Node)
    → KeepsLinks nodes (lists table) → rows_of nodes (lists table) ≡ rows → slice ≡ table → up < length rows → HasEntry rows up last
    → start ≡ start_of (lists slice) up last → n ≡ get_or nodes start n → IsBehind nodes (length table) rows up last n.row.after
behind_start nodes table slice rows up last start n links seen same in_rows has is read =
    let places = lists table in
    let size = length-rows_of nodes places in
    let count = length-map table (λ (line : Vec (Option ℕ) Global). line.items) in
    let there : up < length places = omega (arith, size, ap (λ (m : List (List ℕ)). length m) seen) in
    let after = start_after nodes places up last links there (subst (λ (m : List (List ℕ)). HasEntry m up last) (sym seen) has) in
    let start_is : start ≡ start_of places up last = is ∙ ap (λ (t : List (Vec (Option ℕ) Global)). start_of (lists t) up last) same in
    let within : start < length nodes = rw start_is after.0 in
    let read_is = get_or_read nodes start n within read no_node in
    let done = behind nodes places up last n.row.after links there
    (ap (λ (m : Node). m.row.after) read_is ∙ (ap (λ (m : ℕ). (node nodes m).row.after) start_is ∙ after.1)) in
    subst (λ (m : List (List ℕ)). IsBehind nodes (length table) m up last n.row.after) seen
    (subst (λ (s : ℕ). IsBehind nodes s (rows_of nodes places) up last n.row.after) count done)

pub start_within : (nodes : List Node) (table slice : List (Vec (Option ℕ) Global)) (rows : List (List ℕ)) (up : ℕ) (last : Option BeamNo) (start : ℕ)
    → KeepsLinks nodes (lists table) → rows_of nodes (lists table) ≡ rows → slice ≡ table → up < length rows → HasEntry rows up last
    → start ≡ start_of (lists slice) up last → start < length nodes
start_within nodes table slice rows up last start links seen same in_rows has is =
    let places = lists table in
    let size = length-rows_of nodes places in
    let there : up < length places = omega (arith, size, ap (λ (m : List (List ℕ)). length m) seen) in
    let after = start_after nodes places up last links there (subst (λ (m : List (List ℕ)). HasEntry m up last) (sym seen) has) in
    let start_is : start ≡ start_of places up last = is ∙ ap (λ (t : List (Vec (Option ℕ) Global)). start_of (lists t) up last) same in
    rw start_is after.0

-- the place of the last entry is one of the table
pub start_place : (nodes : List Node) (table slice : List (Vec (Option ℕ) Global)) (rows : List (List ℕ)) (up : ℕ) (last : Option BeamNo)
    → KeepsLinks nodes (lists table) → rows_of nodes (lists table) ≡ rows → slice ≡ table → up < length rows → HasEntry rows up last
    → (up < length slice) × IfSome last (λ down. down.0 < length (line_of (lists slice) up))
start_place nodes table slice rows up last links seen same in_rows has =
    let places = lists table in
    let size = length-rows_of nodes places in
    let count = length-map table (λ (line : Vec (Option ℕ) Global). line.items) in
    let seen_size = ap (λ (m : List (List ℕ)). length m) seen in
    let there : up < length places = omega (arith, size, seen_size) in
    let long = length-line places up links.square there in
    let up_in : up < length table = omega (arith, there, count) in
    rw same (up_in, place_of last rows (length (line_of places up)) up (omega (arith, long, size, seen_size)) has)

-- what was read of the node that the link names
pub found : (nodes : List Node) (size : ℕ) (rows : List (List ℕ)) (up : ℕ) (last : Option BeamNo) (k : ℕ) (n : Node) (next : BeamNo)
    → IsBehind nodes size rows up last k → size ≤ k → n ≡ get_or nodes k n → next.0 ≡ n.entry.down
    → (entries_behind rows up last ≡ (next.0, n.entry.units) ∷ entries_behind rows up (Some next)) × HasEntry rows up (Some next)
found nodes size rows up last k n next is past read down =
    let read_is : n ≡ node nodes k = get_or_read nodes k n is.within read no_node in
    let down_is = down ∙ ap (λ (m : Node). m.entry.down) read_is in (
      is.some next past down_is ∙ ap (λ (units : ℕ). (next.0, units) ∷ entries_behind rows up (Some next)) (sym (ap (λ (m : Node). m.entry.units) read_is)),
      is.positive next past down_is,
    )

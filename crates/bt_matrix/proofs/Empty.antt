-- A matrix that asks for nothing.
use Rattle.std.proofs.Common.{◌≡◌, ℕ, zero, suc, ◌<◌, ◌≤◌, List, [], ◌∷◌, Option, None, Some, length, map, get_or, replicate, sym, ap, ◌∙◌, refl, arith}
use Rattle.std.proofs.lemmas.List.{get_or-replicate, length-replicate}
use Rattle.std.proofs.lemmas.List.Elements.{All-replicate, All-nil}
use Rattle.std.proofs.lemmas.List.Folds.{sum_by-replicate}
use Rattle.std.proofs.lemmas.Option.{none-some}
use Rattle.bt_frame.specs.declared.limits.TheConstants.{MOST_BEAMS}
use Rattle.bt_matrix.specs.Traffic.{row_of}
use Rattle.bt_matrix.proofs.Lines.{IsTraffic-replicate}
use Rattle.bt_matrix.specs.declared.node.Node.{Node}
use Rattle.bt_matrix.specs.Links.{nodes_of, AreHeads}
use Rattle.bt_matrix.specs.Table.{line_of, column_of, place, units_in, rows_of, used}
use Rattle.bt_matrix.specs.Crosslinked.{IsFree, IsCrosslinked}
use Rattle.bt_matrix.proofs.Tables.{get_or-column}

abbrev nobody : Option ℕ
nobody = None

get_or-none : (m i : ℕ) → get_or (replicate m nobody) i None ≡ None
get_or-none zero i = refl
get_or-none (suc m) zero = refl
get_or-none (suc m) (suc i) = get_or-none m i

-- no place names a node
place-none : (n m up down : ℕ) → place (replicate n (replicate m None)) up down ≡ None
place-none zero m up down = refl
place-none (suc n) m zero down = get_or-none m down
place-none (suc n) m (suc up) down = place-none n m up down

-- a line without nodes
nodes_of-none : (line : List (Option ℕ)) → ((i k : ℕ) → get_or line i None ≡ Some k → ⊥) → nodes_of line ≡ []
nodes_of-none [] none = refl
nodes_of-none (None ∷ line) none = nodes_of-none line (λ i k is. none (suc i) k is)
nodes_of-none (Some k ∷ line) none = absurd (none 0 k refl)

map-replicate : {X Y : Type 0} (f : X → Y) (n : ℕ) (x : X) → map f (replicate n x) ≡ replicate n (f x)
map-replicate f zero x = refl
map-replicate f (suc n) x = ap (λ (ys : List _). f x ∷ ys) (map-replicate f n x)

-- the matrix of zeros
pub rows_of-none : (nodes : List Node) (size : ℕ) → rows_of nodes (replicate size (replicate size None)) ≡ replicate size (replicate size 0)
rows_of-none nodes size =
    map-replicate (λ (line : List (Option ℕ)). map (units_in nodes) line) size (replicate size None)
    ∙ ap (replicate size) (map-replicate (units_in nodes) size None)

-- nothing is used
used-none : (size : ℕ) → used (replicate size (replicate size None)) ≡ 0
used-none size =
    let none = nodes_of-none (replicate size None) (λ i k is. none-some k (sym (get_or-none size i) ∙ is)) in
    let nothing : length (nodes_of (replicate size None)) ≡ 0 = ap (λ (ks : List ℕ). length ks) none in
    sum_by-replicate (λ (line : List (Option ℕ)). length (nodes_of line)) size (replicate size None) ∙ (rw nothing (omega arith))

-- what heads and an empty table keep
pub IsCrosslinked-empty : (nodes : List Node) (size : ℕ) → AreHeads nodes size → 1 ≤ size → size ≤ MOST_BEAMS
    → IsCrosslinked nodes (replicate size (replicate size None)) [] (replicate MOST_BEAMS 0) (replicate MOST_BEAMS 0)
IsCrosslinked-empty nodes size heads some few =
    let table = replicate size (replicate size nobody) in
    let size_is : length table ≡ size = length-replicate size (replicate size None) in
    let zeros : List ℕ = replicate size 0 in
    let sums_size : length (replicate size zeros) ≡ size = length-replicate size zeros in
    let traffic = IsTraffic-replicate size some few in
    record {
      links = record {
        square = All-replicate (λ (line : List (Option ℕ)). length line ≡ length table) size (replicate size None) (length-replicate {A = Option ℕ} size None ∙ sym size_is);
        heads = omega (arith, size_is, heads.count);
        head_up = λ b below. ap (λ (n : Node). n.entry.up) (heads.each b (omega (arith, size_is)));
        head_down = λ b below. ap (λ (n : Node). n.entry.down) (heads.each b (omega (arith, size_is)));
        named = λ up down k is. absurd (none-some k (sym (place-none size size up down) ∙ is));
        rows = λ up below.
            let head = heads.each up (omega (arith, size_is)) in
            rw (nodes_of-none (line_of table up) (λ i k is. none-some k (sym (place-none size size up i) ∙ is)))
            (ap (λ (n : Node). n.row.after) head, ap (λ (n : Node). n.row.before) head);
        columns = λ down below.
            let head = heads.each down (omega (arith, size_is)) in
            rw (nodes_of-none (column_of table down) (λ i k is. none-some k (sym (get_or-column table i down ∙ place-none size size i down) ∙ is)))
            (ap (λ (n : Node). n.column.after) head, ap (λ (n : Node). n.column.before) head);
      };
      listed = record {
        unused = All-nil (IsFree nodes table);
        once = λ i j d less below. absurd (omega arith);
        each = λ k is. absurd (omega (arith, is.past_heads, is.within, heads.count, size_is));
        count = omega (arith, size_is, heads.count, used-none size);
      };
      sums = rw (rows_of-none nodes size) (record {
        traffic = traffic;
        of_rows = λ up within.
            let there : up < size = omega (arith, sums_size) in
            let row : row_of (replicate size zeros) up ≡ zeros = get_or-replicate size up zeros [] there in
            get_or-replicate MOST_BEAMS up 0 0 (omega arith) ∙ (rw row (omega (arith, sum_by-replicate (λ (x : ℕ). x) size 0)));
        of_columns = λ down within.
            let there : down < size = omega (arith, sums_size) in
            let nothing : get_or zeros down 0 ≡ 0 = get_or-replicate size down 0 0 there in
            get_or-replicate MOST_BEAMS down 0 0 (omega arith) ∙ (rw (sum_by-replicate (λ (row : List ℕ). get_or row down 0) size zeros, nothing) (omega arith));
      });
    }

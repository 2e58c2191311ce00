-- A table after one place was written, its columns, and the matrix that it is.
use Rattle.std.proofs.Common.{◌≡◌, ◌≢◌, ℕ, zero, suc, ◌<◌, List, [], ◌∷◌, Option, None, Some, Vec, Global, length, map, get_or, set, take, All, sym, ap, ◌∙◌, refl, arith, subst, ⊎_elim, get_or-set_same, get_or-set_other}
use Rattle.std.proofs.lemmas.Bool.{cases_eq}
use Rattle.std.proofs.lemmas.List.{map-set, set-get_or, get_or-map, length-map}
use Rattle.std.proofs.lemmas.Option.{none-some}
use Rattle.bt_matrix.specs.Traffic.{entry, with_entry}
use Rattle.bt_matrix.specs.declared.node.Node.{Node}
use Rattle.bt_matrix.specs.Links.{node}
use Rattle.bt_matrix.specs.Table.{line_of, column_of, place, with_place, units_in, rows_of}

-- a place of a mapped list, also past its end
pub get_or-map_default : {X Y : Type 0} (f : X → Y) (xs : List X) (i : ℕ) (d : X) → get_or (map f xs) i (f d) ≡ f (get_or xs i d)
get_or-map_default f [] i d = refl
get_or-map_default f (x ∷ xs) zero d = refl
get_or-map_default f (x ∷ xs) (suc i) d = get_or-map_default f xs i d

-- a place of a column
pub get_or-column : (table : List (List (Option ℕ))) (up down : ℕ) → get_or (column_of table down) up None ≡ place table up down
get_or-column table up down = get_or-map_default (λ (line : List (Option ℕ)). get_or line down None) table up []

-- the place that was written
pub place-with_place_same : (table : List (List (Option ℕ))) (up down : ℕ) (at : Option ℕ) → up < length table → down < length (line_of table up)
    → place (with_place table up down at) up down ≡ at
place-with_place_same table up down at within in_line =
    ap (λ (line : List (Option ℕ)). get_or line down None) (get_or-set_same table up (set (line_of table up) down at) [] within)
    ∙ get_or-set_same (line_of table up) down at None in_line

-- another place
pub place-with_place_other : (table : List (List (Option ℕ))) (up down u d : ℕ) (at : Option ℕ) → up < length table → (u ≡ up → d ≡ down → ⊥)
    → place (with_place table up down at) u d ≡ place table u d
place-with_place_other table up down u d at within other = ⊎_elim
    (λ (here : u ≡ up).
    let line = get_or-set_same table up (set (line_of table up) down at) [] within in
    let kept = get_or-set_other (line_of table up) down d at None (other here) in
    subst (λ (v : ℕ). place (with_place table up down at) v d ≡ place table v d) (sym here)
    (ap (λ (line : List (Option ℕ)). get_or line d None) line ∙ kept))
    (λ (else : u ≡ up → ⊥). ap (λ (line : List (Option ℕ)). get_or line d None) (get_or-set_other table up u (set (line_of table up) down at) [] else))
    (cases_eq u up)

-- the column that was written in
pub column_of-with_place_same : (table : List (List (Option ℕ))) (up down : ℕ) (at : Option ℕ) → down < length (line_of table up)
    → column_of (with_place table up down at) down ≡ set (column_of table down) up at
column_of-with_place_same table up down at in_line =
    map-set (λ (line : List (Option ℕ)). get_or line down None) table up (set (line_of table up) down at)
    ∙ ap (set (column_of table down) up) (get_or-set_same (line_of table up) down at None in_line)

-- another column
pub column_of-with_place_other : (table : List (List (Option ℕ))) (up down d : ℕ) (at : Option ℕ) → d ≢ down
    → column_of (with_place table up down at) d ≡ column_of table d
column_of-with_place_other table up down d at other =
    map-set (λ (line : List (Option ℕ)). get_or line d None) table up (set (line_of table up) down at)
    ∙ (ap (set (column_of table d) up) (get_or-set_other (line_of table up) down d at None other ∙ sym (get_or-column table up d))
    ∙ set-get_or (column_of table d) up None)

-- an entry of the matrix
pub entry-rows_of : (nodes : List Node) (table : List (List (Option ℕ))) (up down : ℕ) → entry (rows_of nodes table) up down ≡ units_in nodes (place table up down)
entry-rows_of nodes table up down =
    ap (λ (row : List ℕ). get_or row down 0) (get_or-map_default (λ (line : List (Option ℕ)). map (units_in nodes) line) table up [])
    ∙ get_or-map_default (units_in nodes) (line_of table up) down None

-- a line of the matrix, by nodes whose slots did not change
line-same : (old new : List Node) (line : List (Option ℕ)) → ((i k : ℕ) → get_or line i None ≡ Some k → (node new k).entry.units ≡ (node old k).entry.units)
    → map (units_in new) line ≡ map (units_in old) line
line-same old new [] same = refl
line-same old new (None ∷ line) same = ap (λ (row : List ℕ). 0 ∷ row) (line-same old new line (λ i k is. same (suc i) k is))
line-same old new (Some k ∷ line) same =
    let rest = line-same old new line (λ i k is. same (suc i) k is) in
    let first = same 0 k refl in
    cc

-- the matrix by nodes whose slots did not change
pub rows_of-same : (old new : List Node) (table : List (List (Option ℕ)))
    → ((up down k : ℕ) → place table up down ≡ Some k → (node new k).entry.units ≡ (node old k).entry.units) → rows_of new table ≡ rows_of old table
rows_of-same old new [] same = refl
rows_of-same old new (line ∷ table) same =
    let first = line-same old new line (λ i k is. same 0 i k is) in
    let rest = rows_of-same old new table (λ up down k is. same (suc up) down k is) in
    cc

-- the matrix after a place was written
pub rows_of-with_place : (nodes : List Node) (table : List (List (Option ℕ))) (up down : ℕ) (at : Option ℕ)
    → rows_of nodes (with_place table up down at) ≡ with_entry (rows_of nodes table) up down (units_in nodes at)
rows_of-with_place nodes table up down at =
    let outer = map-set (λ (line : List (Option ℕ)). map (units_in nodes) line) table up (set (line_of table up) down at) in
    let inner = map-set (units_in nodes) (line_of table up) down at in
    let row = get_or-map_default (λ (line : List (Option ℕ)). map (units_in nodes) line) table up [] in
    outer ∙ ap (set (rows_of nodes table) up) (inner ∙ ap (λ (r : List ℕ). set r down (units_in nodes at)) (sym row))

-- the matrix is as long as the table
pub length-rows_of : (nodes : List Node) (table : List (List (Option ℕ))) → length (rows_of nodes table) ≡ length table
length-rows_of nodes table = length-map table (λ (line : List (Option ℕ)). map (units_in nodes) line)

-- the line at a place is the list of the vector there
pub line_of-lists : (table : List (Vec (Option ℕ) Global)) (up : ℕ) (line : Vec (Option ℕ) Global) → up < length table → line ≡ get_or table up line
    → line_of (map (λ (l : Vec (Option ℕ) Global). l.items) table) up ≡ line.items
line_of-lists table up line within is =
    get_or-map (λ (l : Vec (Option ℕ) Global). l.items) table up line [] within ∙ sym (ap (λ (l : Vec (Option ℕ) Global). l.items) is)

-- the table of the vectors, with one place of one vector written
pub lists-set_place : (table : List (Vec (Option ℕ) Global)) (up down : ℕ) (at : Option ℕ) (line : Vec (Option ℕ) Global) (new : Vec (Option ℕ) Global)
    → up < length table → line ≡ get_or table up line → new.items ≡ set line.items down at
    → map (λ (l : Vec (Option ℕ) Global). l.items) (set table up new) ≡ with_place (map (λ (l : Vec (Option ℕ) Global). l.items) table) up down at
lists-set_place table up down at line new within is written =
    let here = line_of-lists table up line within is in
    map-set (λ (l : Vec (Option ℕ) Global). l.items) table up new
    ∙ ap (set (map (λ (l : Vec (Option ℕ) Global). l.items) table) up) (written ∙ ap (λ (xs : List (Option ℕ)). set xs down at) (sym here))

-- the column of the first lines is the first part of the column
pub column-take : (table : List (Vec (Option ℕ) Global)) (i down : ℕ)
    → column_of (map (λ (l : Vec (Option ℕ) Global). l.items) (take i table)) down ≡ take i (column_of (map (λ (l : Vec (Option ℕ) Global). l.items) table) down)
column-take table zero down = refl
column-take [] (suc i) down = refl
column-take (line ∷ table) (suc i) down = ap (λ (xs : List (Option ℕ)). get_or line.items down None ∷ xs) (column-take table i down)

-- each vector of a square table is as long as the table
pub length-vec : (table : List (Vec (Option ℕ) Global)) (k : ℕ) (d : Vec (Option ℕ) Global)
    → All (λ line. length line ≡ length (map (λ (l : Vec (Option ℕ) Global). l.items) table)) (map (λ (l : Vec (Option ℕ) Global). l.items) table)
    → k < length table → length (get_or table k d).items ≡ length table
length-vec table k d square within =
    let size = length-map table (λ (l : Vec (Option ℕ) Global). l.items) in
    let long = square k [] (omega (arith, size)) in
    let line = get_or-map (λ (l : Vec (Option ℕ) Global). l.items) table k d [] within in
    sym (ap length line) ∙ (long ∙ size)

-- the matrix when the slots of one node were written
line-valued : (old new : List Node) (k units : ℕ) (line : List (Option ℕ)) (down : ℕ) → (node new k).entry.units ≡ units
    → ((j : ℕ) → j ≢ k → (node new j).entry.units ≡ (node old j).entry.units) → get_or line down None ≡ Some k
    → ((i : ℕ) → get_or line i None ≡ Some k → i ≡ down) → map (units_in new) line ≡ set (map (units_in old) line) down units
line-valued old new k units [] down there others is once = absurd (none-some k is)
line-valued old new k units (p ∷ line) zero there others is once =
    let first = ap (units_in new) is ∙ there in
    let rest = line-same old new line (λ i j at. others j (λ same. absurd (omega (arith, once (suc i) (at ∙ ap Some same))))) in
    cc
line-valued old new k units (None ∷ line) (suc down) there others is once =
    ap (λ (row : List ℕ). 0 ∷ row) (line-valued old new k units line down there others is (λ i at. omega (arith, once (suc i) at)))
line-valued old new k units (Some j ∷ line) (suc down) there others is once =
    let first = others j (λ same. absurd (omega (arith, once 0 (ap Some same)))) in
    let rest = line-valued old new k units line down there others is (λ i at. omega (arith, once (suc i) at)) in
    cc

pub rows_of-valued : (old new : List Node) (k units : ℕ) (table : List (List (Option ℕ))) (up down : ℕ) → (node new k).entry.units ≡ units
    → ((j : ℕ) → j ≢ k → (node new j).entry.units ≡ (node old j).entry.units) → place table up down ≡ Some k
    → ((u d : ℕ) → place table u d ≡ Some k → (u ≡ up) × (d ≡ down)) → rows_of new table ≡ with_entry (rows_of old table) up down units
rows_of-valued old new k units [] up down there others is once = absurd (none-some k is)
rows_of-valued old new k units (line ∷ table) zero down there others is once =
    let first = line-valued old new k units line down there others is (λ i at. (once 0 i at).1) in
    let rest = rows_of-same old new table (λ u d j at. others j (λ same. absurd (omega (arith, (once (suc u) d (at ∙ ap Some same)).0)))) in
    cc
rows_of-valued old new k units (line ∷ table) (suc up) down there others is once =
    let first = line-same old new line (λ i j at. others j (λ same. absurd (omega (arith, (once 0 i (at ∙ ap Some same)).0)))) in
    let rest = rows_of-valued old new k units table up down there others is (λ u d at. (omega (arith, (once (suc u) d at).0), (once (suc u) d at).1)) in
    cc

-- a place that names a node lies within its line
pub within_line : (line : List (Option ℕ)) (i k : ℕ) → get_or line i None ≡ Some k → i < length line
within_line [] i k is = absurd (none-some k is)
within_line (p ∷ line) zero k is = omega arith
within_line (p ∷ line) (suc i) k is = omega (arith, within_line line i k is)

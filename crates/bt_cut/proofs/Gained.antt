-- What an attempt that is taken leaves: a demand on the network that fits the frame.
use Rattle.std.proofs.Common.{◌≡◌, ◌≢◌, ℕ, suc, ◌+◌, ◌-◌, ◌<◌, ◌≤◌, ◌==◌, ◌&&◌, if◌then◌else◌, Bool, true, false, List, [], ◌∷◌, length, replicate, slice_index, get_or, sym, ap, ◌∙◌, subst, arith, ⊎_elim, refl}
use Rattle.std.proofs.lemmas.Bool.{cases_eq}
use Rattle.std.proofs.lemmas.Bool.Decides.{nat_tests}
use Rattle.std.proofs.lemmas.List.{get_or-replicate, length-replicate}
use Rattle.std.proofs.lemmas.List.Folds.{sum_by-replicate}
use Rattle.std.proofs.lemmas.List.Sums.{sum_by-cons, get_or-le-sum_by}
use Rattle.bt_frame.specs.declared.numbers.BeamNo.{BeamNo}
use Rattle.bt_frame.specs.declared.numbers.TermNo.{TermNo}
use Rattle.bt_frame.specs.declared.schedule.Critical.TheVariants.{Row, Column}
use Rattle.bt_net.specs.Network.{Net}
use Rattle.bt_net.specs.Terminals.{is_in_beam, IsBetweenTerminals, IsInBeam}
use Rattle.bt_matrix.specs.Traffic.{row_sum, column_sum, entry, with_entry}
use Rattle.bt_demand.specs.declared.demand.Link.{Link}
use Rattle.bt_demand.specs.Demand.{units_where, units_of, Gains, IsDemand}
use Rattle.bt_demand.specs.Traffic.{units_between, matrix_of, AreOfNetwork, HasSumsTo}
use Rattle.bt_demand.proofs.Matrices.{length-matrix_of, matrix_of-Gains, matrix_of-none}
use Rattle.bt_demand.proofs.Tables.{LinesExceed, table-LinesExceed}
use Rattle.bt_cut.proofs.Shares.{units_of-in-beams}

-- ---- the network

-- the test of one link
abbrev is_link : TermNo → TermNo → TermNo → TermNo → Bool
is_link from to a b = a.0 == from.0 && b.0 == to.0

same_link : (net : Net) (from to a b : TermNo) (units : ℕ) (same : Bool) → same ≡ is_link from to a b → IsBetweenTerminals net a b → 0 < (if same then units else 0) → IsBetweenTerminals net from to
same_link net from to a b units false is between some = absurd (omega (arith, some))
same_link net from to a b units true is between some =
    let from_is : a.0 ≡ from.0 = grind (arith, nat_tests, is) in
    let to_is : b.0 ≡ to.0 = grind (arith, nat_tests, is) in
    (omega (arith, from_is, between.0), omega (arith, to_is, between.1))

-- a link with slots among these is between terminals
has_between : (net : Net) (from to : TermNo) (links : List Link) → AreOfNetwork net links → 0 < units_where (is_link from to) links → IsBetweenTerminals net from to
has_between net from to [] are some = absurd (omega (arith, some))
has_between net from to (link ∷ rest) are some = ⊎_elim
    (λ (none : (if is_link from to link.from link.to then link.units else 0) ≡ 0).
    has_between net from to rest (λ k d within. are (suc k) d (omega (arith, within)))
    (omega (arith, some, none, sum_by-cons (λ (l : Link). if is_link from to l.from l.to then l.units else 0) link rest)))
    (λ (gives : (if is_link from to link.from link.to then link.units else 0) ≡ 0 → ⊥).
    same_link net from to link.from link.to link.units _ refl (are 0 link (omega arith)) (omega (arith, gives)))
    (cases_eq (if is_link from to link.from link.to then link.units else 0) 0)

its_own : (link : Link) → (if is_link link.from link.to link.from link.to then link.units else 0) ≡ link.units
its_own link = grind (arith, nat_tests)

-- so are all links where one between terminals gained
pub are_gained : (net : Net) (old new : List Link) (from to : TermNo) (units : ℕ) → AreOfNetwork net old → IsBetweenTerminals net from to → IsDemand new → Gains old new from to units → AreOfNetwork net new
are_gained net old new from to units are between is gains = λ i d within.
    let link = get_or new i d in
    let test = is_link link.from link.to in
    let some = (is.each i d within).some in
    let among = get_or-le-sum_by (λ (l : Link). if test l.from l.to then l.units else 0) new i d within in
    ⊎_elim
    (λ (none : units_where test old ≡ 0).
    same_link net link.from link.to from to units _ refl between (omega (arith, some, among, its_own link, gains test, none)))
    (λ (held : units_where test old ≡ 0 → ⊥). has_between net link.from link.to old are (omega (arith, held)))
    (cases_eq (units_where test old) 0)

-- ---- the frame

-- all lines are within a number, if two are and the others are
fit_lines : (rows : List (List ℕ)) (up down most : ℕ) → row_sum rows up ≤ most → column_sum rows down ≤ most
    → ((k : ℕ) → k < length rows → k ≢ up → row_sum rows k ≤ most) → ((k : ℕ) → k < length rows → k ≢ down → column_sum rows k ≤ most) → HasSumsTo most rows
fit_lines rows up down most row column rows_fit columns_fit (Row k) within = ⊎_elim
    (λ (e : k.0 ≡ up). subst (λ (i : ℕ). row_sum rows i ≤ most) (sym e) row)
    (λ (other : k.0 ≡ up → ⊥). rows_fit k.0 within other)
    (cases_eq k.0 up)
fit_lines rows up down most row column rows_fit columns_fit (Column k) within = ⊎_elim
    (λ (e : k.0 ≡ down). subst (λ (i : ℕ). column_sum rows i ≤ most) (sym e) column)
    (λ (other : k.0 ≡ down → ⊥). columns_fit k.0 within other)
    (cases_eq k.0 down)

same_length : (net : Net) (old new : List Link) (k : ℕ) → k < length (matrix_of net new) → k < length (matrix_of net old)
same_length net old new k within = omega (arith, within, length-matrix_of net old, length-matrix_of net new)

-- where a link gained, and its two lines had room, each line is within the frame
pub gained_fits : (net : Net) (old new : List Link) (from to : TermNo) (units : ℕ) (up down : BeamNo) → Gains old new from to units → IsInBeam net from up → IsInBeam net to down
    → up.0 < length net.beams → down.0 < length net.beams → HasSumsTo net.slots (matrix_of net old)
    → row_sum (matrix_of net old) up.0 + units ≤ net.slots → column_sum (matrix_of net old) down.0 + units ≤ net.slots → HasSumsTo net.slots (matrix_of net new)
gained_fits net old new from to units up down gains ups downs in_rows in_columns fits row column =
    let more : LinesExceed (matrix_of net new) (matrix_of net old) up.0 down.0 units =
    table-LinesExceed net (length net.beams) (units_between net old) (units_between net new) from to units up down
    (λ i j. gains (λ a b. is_in_beam net i a && is_in_beam net j b)) ups downs in_rows in_columns in
    fit_lines (matrix_of net new) up.0 down.0 net.slots
    (omega (arith, row, more.row)) (omega (arith, column, more.column))
    (λ k within other. omega (arith, more.other_rows k other, fits (Row (record { 0 = k })) (same_length net old new k within)))
    (λ k within other. omega (arith, more.other_columns k other, fits (Column (record { 0 = k })) (same_length net old new k within)))

-- a line of the network asks for no more than the frame has
pub row_within : (net : Net) (links : List Link) (up : BeamNo) → HasSumsTo net.slots (matrix_of net links) → up.0 < length net.beams → row_sum (matrix_of net links) up.0 ≤ net.slots
row_within net links up fits in_rows = fits (Row up) (omega (arith, in_rows, length-matrix_of net links))

pub column_within : (net : Net) (links : List Link) (down : BeamNo) → HasSumsTo net.slots (matrix_of net links) → down.0 < length net.beams → column_sum (matrix_of net links) down.0 ≤ net.slots
column_within net links down fits in_columns = fits (Column down) (omega (arith, in_columns, length-matrix_of net links))

-- ---- the matrix that is kept

-- a beam of the network is one of the matrix
pub in_matrix : (net : Net) (links : List Link) (rows : List (List ℕ)) (beam : ℕ) → rows ≡ matrix_of net links → beam < length net.beams → beam < length rows
in_matrix net links rows beam is below = omega (arith, ap length is, length-matrix_of net links, below)

-- a line of the matrix asks for no more than the frame has
pub row_kept : (net : Net) (links : List Link) (rows : List (List ℕ)) (up : BeamNo) → rows ≡ matrix_of net links → HasSumsTo net.slots (matrix_of net links) → up.0 < length net.beams → row_sum rows up.0 ≤ net.slots
row_kept net links rows up is fits in_rows = omega (arith, ap (λ (m : List (List ℕ)). row_sum m up.0) is, row_within net links up fits in_rows)

pub column_kept : (net : Net) (links : List Link) (rows : List (List ℕ)) (down : BeamNo) → rows ≡ matrix_of net links → HasSumsTo net.slots (matrix_of net links) → down.0 < length net.beams → column_sum rows down.0 ≤ net.slots
column_kept net links rows down is fits in_columns = omega (arith, ap (λ (m : List (List ℕ)). column_sum m down.0) is, column_within net links down fits in_columns)

-- neither does a link
pub link_within : (net : Net) (links : List Link) (from to : TermNo) (up down : BeamNo) → HasSumsTo net.slots (matrix_of net links) → IsInBeam net from up → IsInBeam net to down
    → up.0 < length net.beams → down.0 < length net.beams → units_of links from to ≤ net.slots
link_within net links from to up down fits ups downs in_rows in_columns =
    let held = units_of links from to in
    let mid : ℕ → ℕ → ℕ = λ i j. units_between net links i j - (if is_in_beam net i from && is_in_beam net j to then held else 0) in
    let within : held ≤ held = omega arith in
    let lost = table-LinesExceed net (length net.beams) mid (units_between net links) from to held up down
    (λ i j. omega (arith, units_of-in-beams net links from to held i j within)) ups downs in_rows in_columns in
    omega (arith, lost.row, row_within net links up fits in_rows)

-- the matrix after the entry gained
pub matrix_gained : (net : Net) (old new : List Link) (rows next : List (List ℕ)) (from to : TermNo) (units : ℕ) (up down : BeamNo) → rows ≡ matrix_of net old → Gains old new from to units
    → IsInBeam net from up → IsInBeam net to down → up.0 < length net.beams → down.0 < length net.beams
    → next ≡ with_entry rows up.0 down.0 (entry rows up.0 down.0 + units) → next ≡ matrix_of net new
matrix_gained net old new rows next from to units up down is gains ups downs in_rows in_columns next_is =
    next_is ∙ (ap (λ (m : List (List ℕ)). with_entry m up.0 down.0 (entry m up.0 down.0 + units)) is
    ∙ sym (matrix_of-Gains net old new from to units up down gains ups downs in_rows in_columns))

-- ---- the beginning

-- the lines of a matrix of zeros ask for nothing
zeros_fit : (size most : ℕ) → HasSumsTo most (replicate size (replicate size 0))
zeros_fit size most (Row up) within =
    let zeros : List ℕ = replicate size 0 in
    let there : up.0 < size = omega (arith, length-replicate size zeros) in
    rw (get_or-replicate size up.0 zeros [] there) (omega (arith, sum_by-replicate (λ (x : ℕ). x) size 0))
zeros_fit size most (Column down) within =
    let zeros : List ℕ = replicate size 0 in
    let there : down.0 < size = omega (arith, length-replicate size zeros) in
    let nothing : slice_index zeros down.0 ≡ 0 = get_or-replicate size down.0 0 0 there in
    rw (sum_by-replicate (λ (row : List ℕ). slice_index row down.0) size zeros, nothing) (omega arith)

-- so that no link asks for more than the frame has
pub none_fits : (net : Net) → HasSumsTo net.slots (matrix_of net [])
none_fits net = subst (HasSumsTo net.slots) (sym (matrix_of-none net)) (zeros_fit (length net.beams) net.slots)

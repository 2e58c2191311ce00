-- The traffic matrix kept beside a demand, where a link gains or loses.
use Rattle.std.proofs.Common.{◌≡◌, ℕ, zero, suc, ◌+◌, ◌-◌, ◌<◌, ◌≤◌, ◌&&◌, if◌then◌else◌, List, [], ◌∷◌, length, replicate, slice_set, refl, sym, ap, ◌∙◌, subst, arith, get_or-set_same}
use Rattle.std.proofs.lemmas.List.{set-get_or}
use Rattle.bt_frame.specs.declared.numbers.BeamNo.{BeamNo}
use Rattle.bt_frame.specs.declared.numbers.TermNo.{TermNo}
use Rattle.bt_frame.specs.declared.limits.TheConstants.{MOST_SLOTS, MOST_UNITS, MOST_SUM}
use Rattle.bt_frame.specs.declared.schedule.Critical.{Critical}
use Rattle.bt_frame.specs.declared.schedule.Critical.TheVariants.{Row, Column}
use Rattle.bt_net.specs.Network.{Net}
use Rattle.bt_matrix.specs.Traffic.{row_of, entry, row_sum, column_sum, with_entry, IsHeaviest}
use Rattle.bt_matrix.proofs.Writes.{entry-with_entry_same}
use Rattle.bt_demand.specs.declared.demand.Link.{Link}
use Rattle.bt_demand.specs.Demand.{units_of, Gains}
use Rattle.bt_demand.specs.Traffic.{units_between, matrix_of, HasSumsTo}
use Rattle.bt_net.specs.Terminals.{is_in_beam, IsInBeam}
use Rattle.bt_demand.proofs.Matrices.{length-matrix_of, matrix_of-none, matrix_of-Gains}
use Rattle.bt_history.specs.Occupancy.{Occupied}
use Rattle.bt_demand.proofs.Tables.{length-row-table, table-LinesExceed}
use Rattle.bt_history.proofs.Shares.{units_of-in-beams}

-- a matrix of zeros is that of no link
pub matrix_of-start : (net : Net) (links : List Link) (matrix : List (List ℕ)) (size : ℕ) → links ≡ []
    → size ≡ length net.beams → matrix ≡ replicate size (replicate size 0) → matrix ≡ matrix_of net links
matrix_of-start net links matrix size no_link size_is matrix_is =
    rw (no_link, matrix_of-none net, ← size_is) matrix_is

-- a beam of the network is one of the matrix
pub in_matrix : (net : Net) (links : List Link) (matrix : List (List ℕ)) (beam : ℕ) → matrix ≡ matrix_of net links
    → beam < length net.beams → beam < length matrix
in_matrix net links matrix beam is below = omega (arith, ap length is, length-matrix_of net links, below)

-- and has a place in each row
pub in_row_of : (net : Net) (links : List Link) (matrix : List (List ℕ)) (up down : ℕ) → matrix ≡ matrix_of net links
    → up < length net.beams → down < length net.beams → down < length (row_of matrix up)
in_row_of net links matrix up down is in_rows in_columns =
    subst (λ (m : List (List ℕ)). down < length (row_of m up)) (sym is) (omega (arith, length-row-table (length net.beams) (units_between net links) up in_rows, in_columns))

-- a write over a write
set_again : {A : Type 0} (xs : List A) (i : ℕ) (x y : A) → slice_set (slice_set xs i x) i y ≡ slice_set xs i y
set_again [] i x y = refl
set_again (z ∷ zs) zero x y = refl
set_again (z ∷ zs) (suc i) x y = ap (λ (rest : List _). z ∷ rest) (set_again zs i x y)

-- a write of what stood there takes back a write
with_entry-back : (rows : List (List ℕ)) (up down n : ℕ) → up < length rows → with_entry (with_entry rows up down n) up down (entry rows up down) ≡ rows
with_entry-back rows up down n in_rows =
    let row = row_of rows up in
    let written = slice_set row down n in
    let back : slice_set (row_of (slice_set rows up written) up) down (entry rows up down) ≡ row =
    ap (λ (xs : List ℕ). slice_set xs down (entry rows up down)) (get_or-set_same rows up written [] in_rows)
    ∙ (set_again row down n (entry rows up down) ∙ set-get_or row down 0) in
    set_again rows up written _ ∙ (ap (slice_set rows up) back ∙ set-get_or rows up [])

-- What a matrix has where a link lost units.
pub record Loses (matrix less : List (List ℕ)) (up down units : ℕ) : Type 0 where
  pub held : units ≤ entry matrix up down
  pub next : with_entry matrix up down (entry matrix up down - units) ≡ less

loses-by : (matrix less : List (List ℕ)) (up down units : ℕ) → up < length less → down < length (row_of less up)
    → matrix ≡ with_entry less up down (entry less up down + units) → Loses matrix less up down units
loses-by matrix less up down units in_rows in_row is =
    let n = entry less up down + units in
    let there : entry matrix up down ≡ n = ap (λ (m : List (List ℕ)). entry m up down) is ∙ entry-with_entry_same less up down n in_rows in_row in
    let left : entry matrix up down - units ≡ entry less up down = omega (arith, there) in
    record {
      held = omega (arith, there);
      next = ap (λ (x : ℕ). with_entry matrix up down x) left
          ∙ (ap (λ (m : List (List ℕ)). with_entry m up down (entry less up down)) is ∙ with_entry-back less up down n in_rows);
    }

pub matrix-Loses : (net : Net) (old new : List Link) (matrix : List (List ℕ)) (from to : TermNo) (units : ℕ) (up down : BeamNo) → matrix ≡ matrix_of net old
    → Gains new old from to units → IsInBeam net from up → IsInBeam net to down → up.0 < length net.beams → down.0 < length net.beams
    → Loses matrix (matrix_of net new) up.0 down.0 units
matrix-Loses net old new matrix from to units up down is loses up_is down_is in_rows in_columns =
    loses-by matrix (matrix_of net new) up.0 down.0 units (omega (arith, length-matrix_of net new, in_rows))
    (omega (arith, length-row-table (length net.beams) (units_between net new) up.0 in_rows, in_columns))
    (is ∙ matrix_of-Gains net new old from to units up down loses up_is down_is in_rows in_columns)

-- the matrix after the entry lost the units
pub matrix-less : (matrix next less : List (List ℕ)) (up down units : ℕ) → Loses matrix less up down units
    → next ≡ with_entry matrix up down (entry matrix up down - units) → next ≡ less
matrix-less matrix next less up down units loses is = is ∙ loses.next

-- the matrix after the entry gained the units
pub matrix-more : (net : Net) (old new : List Link) (matrix next : List (List ℕ)) (from to : TermNo) (units : ℕ) (up down : BeamNo)
    → matrix ≡ matrix_of net old → Gains old new from to units → IsInBeam net from up → IsInBeam net to down
    → up.0 < length net.beams → down.0 < length net.beams
    → next ≡ with_entry matrix up.0 down.0 (entry matrix up.0 down.0 + units) → next ≡ matrix_of net new
matrix-more net old new matrix next from to units up down is gains up_is down_is in_rows in_columns next_is =
    next_is ∙ (ap (λ (m : List (List ℕ)). with_entry m up.0 down.0 (entry m up.0 down.0 + units)) is
    ∙ sym (matrix_of-Gains net old new from to units up down gains up_is down_is in_rows in_columns))

-- a link and the lines of its beams have room for units
pub record HasRoom (net : Net) (links : List Link) (matrix : List (List ℕ)) (from to : TermNo) (units up down : ℕ) : Type 0 where
  pub link : units_of links from to + units ≤ MOST_SUM
  pub row : row_sum matrix up + units ≤ MOST_SUM
  pub column : column_sum matrix down + units ≤ MOST_SUM

pub has_room : (net : Net) (links : List Link) (matrix : List (List ℕ)) (from to : TermNo) (units : ℕ) (up down : BeamNo) → matrix ≡ matrix_of net links
    → HasSumsTo MOST_SLOTS (matrix_of net links) → units ≤ MOST_UNITS → IsInBeam net from up → IsInBeam net to down
    → up.0 < length net.beams → down.0 < length net.beams → HasRoom net links matrix from to units up.0 down.0
has_room net links matrix from to units up down is sums few up_is down_is in_rows in_columns =
    let held = units_of links from to in
    let mid : ℕ → ℕ → ℕ = λ i j. units_between net links i j - (if is_in_beam net i from && is_in_beam net j to then held else 0) in
    let within : held ≤ held = omega arith in
    let lost = table-LinesExceed net (length net.beams) mid (units_between net links) from to held up down
    (λ i j. omega (arith, units_of-in-beams net links from to held i j within)) up_is down_is in_rows in_columns in
    let row = sums (Row up) (omega (arith, length-matrix_of net links, in_rows)) in
    let column = sums (Column down) (omega (arith, length-matrix_of net links, in_columns)) in
    record {
      link = omega (arith, lost.row, row, few);
      row = rw is (omega (arith, row, few));
      column = rw is (omega (arith, column, few));
    }

-- the same of a load and of what it holds inside
pub small_inside : (inside load : Occupied) → inside ≡ load → HasSumsTo MOST_SLOTS (matrix_of load.net load.links) → HasSumsTo MOST_SLOTS (matrix_of inside.net inside.links)
small_inside inside load is small = subst (λ (l : Occupied). HasSumsTo MOST_SLOTS (matrix_of l.net l.links)) (sym is) small

-- the heaviest line, by the matrix that is kept
pub heaviest-kept : (matrix : List (List ℕ)) (inside load : Occupied) (line : Critical) (most : ℕ) → inside ≡ load → matrix ≡ matrix_of inside.net inside.links
    → IsHeaviest matrix line most → (x : Critical) × IsHeaviest (matrix_of load.net load.links) x most
heaviest-kept matrix inside load line most view is heaviest =
    let rows = is ∙ (ap (λ (l : Occupied). matrix_of l.net l.links) view) in
    (line, subst (λ (m : List (List ℕ)). IsHeaviest m line most) rows heaviest)

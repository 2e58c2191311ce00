-- The traffic matrix of a demand: of no link, after a link gained, and as a walk along the links makes it.
use Rattle.std.proofs.Common.{◌≡◌, ℕ, ◌+◌, ◌<◌, ◌≤◌, ◌&&◌, if◌then◌else◌, List, [], Some, length, map, replicate, take, get_or, slice_get, option_map, sym, subst, ap, ◌∙◌, arith}
use Rattle.std.proofs.lemmas.List.Sums.{sum_by-take-le, sum_by_more}
use Rattle.bt_frame.proofs.Images.{numbers_below, images-replicate}
use Rattle.bt_frame.specs.declared.limits.TheConstants.{MOST_SUM}
use Rattle.bt_frame.specs.declared.numbers.BeamNo.{BeamNo}
use Rattle.bt_frame.specs.declared.numbers.TermNo.{TermNo}
use Rattle.bt_frame.specs.declared.schedule.Critical.TheVariants.{Row, Column}
use Rattle.bt_net.specs.Network.{Net}
use Rattle.bt_net.specs.Terminals.{is_in_beam, IsInBeam}
use Rattle.bt_matrix.specs.Traffic.{row_of, entry, row_sum, column_sum, with_entry}
use Rattle.bt_demand.specs.declared.demand.Link.{Link}
use Rattle.bt_demand.specs.Demand.{Gains}
use Rattle.bt_demand.specs.Traffic.{units_between, matrix_of, HasSumsTo}
pub use Rattle.bt_demand.proofs.Tables.{row_sum-gained, column_sum-gained}
use Rattle.bt_demand.proofs.FlatPlaces.{flat_place, IsFlat}
use Rattle.bt_demand.proofs.Tables.{length-table, length-row-table, table-Exceeds, row_sum-le, column_sum-le}

-- a row for each beam
pub length-matrix_of : (net : Net) (links : List Link) → length (matrix_of net links) ≡ length net.beams
length-matrix_of net links = length-table (length net.beams) (units_between net links)

-- the matrix of no link is of zeros
pub matrix_of-none : (net : Net) → matrix_of net [] ≡ replicate (length net.beams) (replicate (length net.beams) 0)
matrix_of-none net =
    let n = length net.beams in
    images-replicate (map (λ (i : ℕ). 0) (numbers_below n)) 0 n ∙ ap (replicate n) (images-replicate 0 0 n)

-- Where a link gains, so does the entry of its beams, and all other entries stay.
pub matrix_of-Gains : (net : Net) (old new : List Link) (from to : TermNo) (units : ℕ) (up down : BeamNo) → Gains old new from to units
    → IsInBeam net from up → IsInBeam net to down → up.0 < length net.beams → down.0 < length net.beams
    → matrix_of net new ≡ with_entry (matrix_of net old) up.0 down.0 (entry (matrix_of net old) up.0 down.0 + units)
matrix_of-Gains net old new from to units up down gains =
    table-Exceeds net (length net.beams) (units_between net old) (units_between net new) from to units up down
    (λ i j. gains (λ a b. is_in_beam net i a && is_in_beam net j b))

-- the link at a place is what is gained there
pub Gains-more : (links : List Link) (k : ℕ) (d : Link) → k < length links
    → Gains (take k links) (take (k + 1) links) (get_or links k d).from (get_or links k d).to (get_or links k d).units
Gains-more links k d within test = sum_by_more (λ (link : Link). if test link.from link.to then link.units else 0) links k d within

-- What one more link asks of the matrix of the links before it.
pub record IsStep (net : Net) (links : List Link) (k up down units : ℕ) : Type 0 where
  pub row : row_sum (matrix_of net (take k links)) up + units ≤ MOST_SUM
  pub column : column_sum (matrix_of net (take k links)) down + units ≤ MOST_SUM
  pub next : matrix_of net (take (k + 1) links)
      ≡ with_entry (matrix_of net (take k links)) up down (entry (matrix_of net (take k links)) up down + units)

pub step : (net : Net) (links : List Link) (k : ℕ) (d : Link) (up down : BeamNo) → HasSumsTo MOST_SUM (matrix_of net links) → k < length links
    → option_map (λ t. t.1) (slice_get net.terminals (get_or links k d).from.0) ≡ Some up
    → option_map (λ t. t.1) (slice_get net.terminals (get_or links k d).to.0) ≡ Some down
    → up.0 < length net.beams → down.0 < length net.beams → IsStep net links k up.0 down.0 (get_or links k d).units
step net links k d up down sums within up_is down_is in_rows in_columns =
    let n = length net.beams in
    let link = get_or links k d in
    let rows = matrix_of net (take k links) in
    let f = units_between net (take (k + 1) links) in
    let g = units_between net links in
    let next = matrix_of-Gains net (take k links) (take (k + 1) links) link.from link.to link.units up down (Gains-more links k d within) up_is down_is in_rows in_columns in
    let le : (i j : ℕ) → f i j ≤ g i j = λ i j. sum_by-take-le (λ (l : Link). if is_in_beam net i l.from && is_in_beam net j l.to then l.units else 0) links (k + 1) in
    let size = length-matrix_of net (take k links) in
    let wide : length (row_of rows up.0) ≡ n = length-row-table n (units_between net (take k links)) up.0 in_rows in
    let whole = length-matrix_of net links in
    let row = row_sum-gained rows up.0 down.0 link.units (omega (arith, size)) (omega (arith, wide)) in
    let column = column_sum-gained rows up.0 down.0 link.units (omega (arith, size)) (omega (arith, wide)) in
    record {
      row = omega (arith, row, ap (λ (m : List (List ℕ)). row_sum m up.0) next, row_sum-le n f g up.0 in_rows le, sums (Row up) (omega (arith, whole)));
      column = omega (arith, column, ap (λ (m : List (List ℕ)). column_sum m down.0) next, column_sum-le n f g down.0 in_columns le, sums (Column down) (omega (arith, whole)));
      next = next;
    }

-- The same for the link of a row, whose place among all links is behind those of the rows before it.
pub step_in_row : (net : Net) (rows : List (List Link)) (links : List Link) (i j : ℕ) (row : List Link) (d : Link) (up down : BeamNo) → IsFlat rows links i j row
    → HasSumsTo MOST_SUM (matrix_of net links)
    → option_map (λ t. t.1) (slice_get net.terminals (get_or row j d).from.0) ≡ Some up
    → option_map (λ t. t.1) (slice_get net.terminals (get_or row j d).to.0) ≡ Some down
    → up.0 < length net.beams → down.0 < length net.beams → IsStep net links (flat_place rows i j) up.0 down.0 (get_or row j d).units
step_in_row net rows links i j row d up down flat sums up_is down_is in_rows in_columns =
    let same = flat.link d in
    subst (λ (l : Link). IsStep net links (flat_place rows i j) up.0 down.0 l.units) same
    (step net links (flat_place rows i j) d up down sums flat.within
    (subst (λ (l : Link). option_map (λ t. t.1) (slice_get net.terminals l.from.0) ≡ Some up) (sym same) up_is)
    (subst (λ (l : Link). option_map (λ t. t.1) (slice_get net.terminals l.to.0) ≡ Some down) (sym same) down_is) in_rows in_columns)

-- a matrix to which the link was added is the next one
pub added : (matrix new before after : List (List ℕ)) (up down units : ℕ) → matrix ≡ before
    → new ≡ with_entry matrix up down (entry matrix up down + units) → after ≡ with_entry before up down (entry before up down + units) → new ≡ after
added matrix new before after up down units was gives next =
    gives ∙ (ap (λ (rows : List (List ℕ)). with_entry rows up down (entry rows up down + units)) was ∙ sym next)

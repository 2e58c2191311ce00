-- The sums of the lines of a demand's matrix, as a walk along its links keeps them.
use Rattle.std.proofs.Common.{◌≡◌, ◌≢◌, ◌⊎◌, ℕ, ◌+◌, ◌<◌, ◌≤◌, List, [], length, replicate, take, slice_index, slice_set, inl, inr, sym, ◌∙◌, arith, length-set, subst}
use Rattle.std.proofs.lemmas.List.{length-replicate, get_or-replicate, length-take, get_or-take}
use Rattle.std.proofs.lemmas.List.Folds.{sum_by-replicate}
use Rattle.bt_frame.specs.declared.schedule.Critical.{Critical}
use Rattle.bt_frame.specs.declared.schedule.Critical.TheVariants.{Row, Column}
use Rattle.bt_frame.specs.declared.schedule.Schedule.{Schedule}
use Rattle.bt_net.specs.Network.{Net}
use Rattle.bt_matrix.specs.Dense.{KeepsSums, AreLineSums}
use Rattle.bt_matrix.specs.Traffic.{entry, line_sum, IsLine, IsHeaviest}
use Rattle.bt_matrix.specs.Good.{IsLeast}
use Rattle.bt_matrix.proofs.Lines.{IsTraffic-replicate}
use Rattle.bt_matrix.proofs.Writes.{KeepsSums-with_entry}
use Rattle.bt_demand.specs.declared.demand.Link.{Link}
use Rattle.bt_frame.specs.Critical.{IsOfBeams}
use Rattle.bt_demand.specs.Traffic.{matrix_of}
use Rattle.bt_demand.proofs.Matrices.{IsStep, length-matrix_of, matrix_of-none}

-- sixteen places for the sums of rows, and as many for those of columns
pub record HasSums (matrix : List (List ℕ)) (row_sums column_sums : List ℕ) : Type 0 where
  pub row_places : length row_sums ≡ 32
  pub column_places : length column_sums ≡ 32
  pub keeps : KeepsSums matrix row_sums column_sums

-- the sums of a matrix of zeros
no_sums : (n : ℕ) → 1 ≤ n → n ≤ 32 → KeepsSums (replicate n (replicate n 0)) (replicate 32 0) (replicate 32 0)
no_sums n some few = record {
  traffic = IsTraffic-replicate n some few;
  of_rows = λ up within.
      let below : up < n = omega (arith, length-replicate n (replicate {A = ℕ} n 0)) in
      let none = get_or-replicate {A = ℕ} 32 up 0 0 (omega arith) in
      none ∙ sym (rw (get_or-replicate n up (replicate {A = ℕ} n 0) [] below) (omega (arith, sum_by-replicate (λ (x : ℕ). x) n 0)));
  of_columns = λ down within.
      let below : down < n = omega (arith, length-replicate n (replicate {A = ℕ} n 0)) in
      let none = get_or-replicate {A = ℕ} 32 down 0 0 (omega arith) in
      let nothing : slice_index (replicate {A = ℕ} n 0) down ≡ 0 = get_or-replicate {A = ℕ} n down 0 0 below in
      none ∙ sym (rw (sum_by-replicate (λ (row : List ℕ). slice_index row down) n (replicate {A = ℕ} n 0), nothing) (omega arith));
}

-- no link was looked at yet
pub HasSums-none : (net : Net) → 1 ≤ length net.beams → length net.beams ≤ 32 → HasSums (matrix_of net []) (replicate 32 0) (replicate 32 0)
HasSums-none net some few = record {
  row_places = length-replicate {A = ℕ} 32 0;
  column_places = length-replicate {A = ℕ} 32 0;
  keeps = rw (matrix_of-none net) (no_sums (length net.beams) some few);
}

-- one more link
pub HasSums-add : (net : Net) (links : List Link) (k : ℕ) (up down units : ℕ) (row_sums column_sums : List ℕ) → IsStep net links k up down units
    → up < length net.beams → down < length net.beams → HasSums (matrix_of net (take k links)) row_sums column_sums
    → HasSums (matrix_of net (take (k + 1) links)) (slice_set row_sums up (slice_index row_sums up + units)) (slice_set column_sums down (slice_index column_sums down + units))
HasSums-add net links k up down units row_sums column_sums step in_rows in_columns so_far =
    let matrix = matrix_of net (take k links) in
    let size = length-matrix_of net (take k links) in
    let row_is = so_far.keeps.of_rows up (omega (arith, size)) in
    let column_is = so_far.keeps.of_columns down (omega (arith, size)) in
    record {
      row_places = length-set row_sums up (slice_index row_sums up + units) ∙ so_far.row_places;
      column_places = length-set column_sums down (slice_index column_sums down + units) ∙ so_far.column_places;
      keeps = rw step.next (KeepsSums-with_entry matrix row_sums column_sums up down (entry matrix up down + units) (slice_index row_sums up + units) (slice_index column_sums down + units)
          so_far.keeps (omega (arith, size)) (omega (arith, size)) so_far.row_places so_far.column_places
          (omega (arith, row_is)) (omega (arith, column_is)) (omega (arith, row_is, step.row)) (omega (arith, column_is, step.column)));
    }

-- what a link is read as past the end of a list
abbrev pub no_link : Link
no_link = record { from = record { 0 = 0 }; to = record { 0 = 0 }; units = 0 }

-- the sums with a further link are within the limit
pub row_fits : (net : Net) (links : List Link) (k up down units : ℕ) (row_sums column_sums : List ℕ) → IsStep net links k up down units → up < length net.beams
    → HasSums (matrix_of net (take k links)) row_sums column_sums → slice_index row_sums up + units ≤ 1048576
row_fits net links k up down units row_sums column_sums step in_rows so_far =
    omega (arith, so_far.keeps.of_rows up (omega (arith, length-matrix_of net (take k links))), step.row)

pub column_fits : (net : Net) (links : List Link) (k up down units : ℕ) (row_sums column_sums : List ℕ) → IsStep net links k up down units → down < length net.beams
    → HasSums (matrix_of net (take k links)) row_sums column_sums → slice_index column_sums down + units ≤ 1048576
column_fits net links k up down units row_sums column_sums step in_columns so_far =
    omega (arith, so_far.keeps.of_columns down (omega (arith, length-matrix_of net (take k links))), step.column)

-- the sums of all lines, without the places behind them
pub AreLineSums-take : (rows : List (List ℕ)) (row_sums column_sums : List ℕ) (n : ℕ) → KeepsSums rows row_sums column_sums → length row_sums ≡ 32 → length column_sums ≡ 32
    → n ≡ length rows → AreLineSums rows (take n row_sums) (take n column_sums)
AreLineSums-take rows row_sums column_sums n keeps row_places column_places count = record {
  each_row = omega (arith, length-take {A = ℕ} n row_sums, keeps.traffic.few_beams);
  each_column = omega (arith, length-take {A = ℕ} n column_sums, keeps.traffic.few_beams);
  of_rows = λ up within. get_or-take n row_sums up 0 (omega arith) ∙ keeps.of_rows up within;
  of_columns = λ down within. get_or-take n column_sums down 0 (omega arith) ∙ keeps.of_columns down within;
}

-- a line of so many beams
pub line_of_beams : (rows : List (List ℕ)) (n : ℕ) (line : Critical) → n ≡ length rows → IsOfBeams n line → IsLine rows line
line_of_beams rows n (Row up) count below = omega arith
line_of_beams rows n (Column down) count below = omega arith

pub few_beams : (n : ℕ) (line : Critical) → n ≤ 32 → IsOfBeams n line → IsOfBeams 32 line
few_beams n (Row up) few below = omega arith
few_beams n (Column down) few below = omega arith

-- the length is the greatest sum, and the critical line has it
pub is_least : (rows : List (List ℕ)) (schedule : Schedule) (line : Critical) (most : ℕ) → IsHeaviest rows line most → IsLine rows schedule.critical
    → schedule.length ≡ most → line_sum rows schedule.critical ≡ most → IsLeast rows schedule
is_least rows schedule line most heaviest on_matrix length_is sum_is = record {
  on_matrix = on_matrix;
  reached = omega arith;
  greatest = λ other is. omega (arith, heaviest.greatest other is);
}

-- one of the two is not so
pub not_least : (rows : List (List ℕ)) (schedule : Schedule) (line : Critical) (most : ℕ) → IsHeaviest rows line most
    → (schedule.length ≢ most) ⊎ (line_sum rows schedule.critical ≢ most) → ¬ (IsLeast rows schedule)
not_least rows schedule line most heaviest other least =
    let low : line_sum rows schedule.critical ≤ most = heaviest.greatest schedule.critical least.on_matrix in
    let high : line_sum rows line ≤ schedule.length = least.greatest line heaviest.on_matrix in
    elim other [ inl length_is ↦ length_is (omega (arith, heaviest.reached, least.reached)) | inr sum_is ↦ sum_is (omega (arith, heaviest.reached, least.reached)) ]

-- the sums at a place that is counted otherwise
pub HasSums-at : (net : Net) (links : List Link) (k n : ℕ) (row_sums column_sums : List ℕ) → k ≡ n → HasSums (matrix_of net (take k links)) row_sums column_sums
    → HasSums (matrix_of net (take n links)) row_sums column_sums
HasSums-at net links k n row_sums column_sums same sums = subst (λ (m : ℕ). HasSums (matrix_of net (take m links)) row_sums column_sums) same sums

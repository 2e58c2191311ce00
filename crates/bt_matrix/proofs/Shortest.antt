-- No modes that carry a matrix are shorter than one of its lines.
use Rattle.std.proofs.Common.{◌==◌, ℕ, ◌+◌, ◌<◌, ◌≤◌, List, [], ◌∷◌, length, get_or, slice_index, sum_by, All, sym, ◌∙◌, arith, ⊎_elim}
use Rattle.std.proofs.lemmas.Bool.{cases_lt, eqb-true}
use Rattle.std.proofs.lemmas.List.{get_or_past}
use Rattle.std.proofs.lemmas.List.Elements.{All-head, All-tail}
use Rattle.std.proofs.lemmas.List.Sums.{sum_by-cons}
use Rattle.bt_frame.specs.declared.mode.Mode.{Mode}
use Rattle.bt_frame.specs.declared.schedule.Critical.{Critical}
use Rattle.bt_frame.specs.declared.schedule.Critical.TheVariants.{Row, Column}
use Rattle.bt_frame.specs.declared.schedule.Schedule.{Schedule}
use Rattle.bt_matrix.specs.Traffic.{row_of, entry, row_sum, column_sum, line_sum, IsTraffic}
use Rattle.bt_matrix.specs.Good.{IsPermutation, slots_in, slots_of, total_duration, HasPermutations, CarriesAll, IsGood}
use Rattle.bt_frame.proofs.Totals.{total, total-le, total-zero, total-add, total-once, sum_by-total}

-- one mode gives the connections of an uplink its duration once at most
mode_in_row : (size up : ℕ) (mode : Mode) → total size (λ down. slots_in up down mode) ≤ mode.duration
mode_in_row size up mode = total-once size mode.duration (λ down. slice_index mode.perm up == down)
    (λ j k less below first second.
    let at_j = eqb-true (slice_index mode.perm up) j first in
    let at_k = eqb-true (slice_index mode.perm up) k second in
    omega arith)

-- and those of a downlink, since no two uplinks are sent there at once
pub mode_in_column : (size down : ℕ) (mode : Mode) → IsPermutation size mode.perm → total size (λ up. slots_in up down mode) ≤ mode.duration
mode_in_column size down mode is = total-once size mode.duration (λ up. slice_index mode.perm up == down)
    (λ j k less below first second.
    let at_j = eqb-true (slice_index mode.perm j) down first in
    let at_k = eqb-true (slice_index mode.perm k) down second in
    is.distinct j k 0 less (omega (arith, is.count)) (at_j ∙ sym at_k))

-- parts of which no mode has more than its duration: all modes have no more of them than theirs
parts_of_modes : (part : ℕ → Mode → ℕ) (size : ℕ) (modes : List Mode) → All (λ mode. total size (λ k. part k mode) ≤ mode.duration) modes
    → total size (λ k. sum_by (part k) modes) ≤ total_duration modes
parts_of_modes part size [] each = omega (arith, total-zero size)
parts_of_modes part size (mode ∷ modes) each =
    let IsWithin = λ (m : Mode). total size (λ k. part k m) ≤ m.duration in
    let first : total size (λ k. part k mode) ≤ mode.duration = All-head IsWithin mode modes each in
    let rest = parts_of_modes part size modes (All-tail IsWithin mode modes each) in
    let split = total-le size (λ k. sum_by (part k) (mode ∷ modes)) (λ k. part k mode + sum_by (part k) modes)
    (λ k below. omega (arith, sum_by-cons (part k) mode modes)) in
    let added = total-add size (λ k. part k mode) (λ k. sum_by (part k) modes) in
    omega (arith, first, rest, split, added, sum_by-cons (λ (m : Mode). m.duration) mode modes)

-- a row of the matrix is no longer than the modes that carry it
row-le-modes : (rows : List (List ℕ)) (other : Schedule) (up : ℕ) → IsTraffic rows → CarriesAll rows other
    → row_sum rows up ≤ total_duration other.modes
row-le-modes rows other up is carried = ⊎_elim
    (λ (within : up < length rows).
    let long = is.square up [] within in
    let places = sum_by-total (λ (x : ℕ). x) (row_of rows up) 0 in
    let less = total-le (length rows) (λ down. entry rows up down) (λ down. slots_of other.modes up down)
    (λ down below. carried up down within below) in
    let share = parts_of_modes (λ down mode. slots_in up down mode) (length rows) other.modes (λ k d below. mode_in_row (length rows) up (get_or other.modes k d)) in
    omega (arith, rw long at places, less, share))
    (λ (past : length rows ≤ up). rw (get_or_past rows up [] past) (omega arith))
    (cases_lt up (length rows))

-- and so is a column
column-le-modes : (rows : List (List ℕ)) (other : Schedule) (down : ℕ) → IsTraffic rows → HasPermutations rows other → CarriesAll rows other
    → column_sum rows down ≤ total_duration other.modes
column-le-modes rows other down is permutations carried =
    let places = sum_by-total (λ (row : List ℕ). slice_index row down) rows [] in
    ⊎_elim
    (λ (within : down < length rows).
    let less = total-le (length rows) (λ up. entry rows up down) (λ up. slots_of other.modes up down)
    (λ up below. carried up down below within) in
    let share = parts_of_modes (λ up mode. slots_in up down mode) (length rows) other.modes
    (λ k d below. mode_in_column (length rows) down (get_or other.modes k d) (permutations k d below)) in
    omega (arith, places, less, share))
    (λ (past : length rows ≤ down).
    let nothing = total-le (length rows) (λ up. entry rows up down) (λ up. 0)
    (λ up below. omega (arith, get_or_past (row_of rows up) down 0 (omega (arith, is.square up [] below)))) in
    omega (arith, places, nothing, total-zero (length rows)))
    (cases_lt down (length rows))

-- So no line is longer than the modes that carry the matrix.
line-le-modes : (rows : List (List ℕ)) (other : Schedule) (line : Critical) → IsTraffic rows → HasPermutations rows other → CarriesAll rows other
    → line_sum rows line ≤ total_duration other.modes
line-le-modes rows other (Row up) is permutations carried = row-le-modes rows other up.0 is carried
line-le-modes rows other (Column down) is permutations carried = column-le-modes rows other down.0 is permutations carried

pub good-le-modes : (rows : List (List ℕ)) (schedule other : Schedule) → IsTraffic rows → IsGood rows schedule
    → HasPermutations rows other → CarriesAll rows other → schedule.length ≤ total_duration other.modes
good-le-modes rows schedule other is good permutations carried =
    rw (← good.least.reached) (line-le-modes rows other schedule.critical is permutations carried)

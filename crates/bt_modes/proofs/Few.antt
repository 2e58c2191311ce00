-- How many modes there are: each ends a connection or fills a line, but for the last one.
use Rattle.std.proofs.Common.{◌≡◌, ℕ, ◌+◌, ◌-◌, ◌*◌, ◌<◌, ◌≤◌, ◌⊎◌, List, [], ◌∷◌, ◌++◌, length, inl, inr, arith, length-append}
use Rattle.bt_frame.specs.declared.mode.Mode.{Mode}
use Rattle.bt_frame.specs.declared.schedule.Critical.{Critical}
use Rattle.bt_frame.specs.declared.schedule.Critical.TheVariants.{Row, Column}
use Rattle.bt_frame.proofs.Totals.{total, total-le}
use Rattle.bt_matrix.specs.Traffic.{entry, row_sum, column_sum, line_sum, IsLine}
use Rattle.bt_matrix.specs.Walk.{positive_entries}
use Rattle.bt_modes.specs.Padding.{IsGreatestSum}
use Rattle.bt_modes.specs.Serving.{EndsEntry, FillsLine, ServesPart}
use Rattle.bt_modes.proofs.Positive.{one, one-le, positive_entries-less, positive_entries-total, total-ones}
use Rattle.bt_modes.proofs.Sums.{total-less, IsSquare, IsSquare-traffic}

-- how many of so many rows have slack, and of so many columns
abbrev pub open_rows : ℕ → List (List ℕ) → ℕ → ℕ
open_rows size rows left = total size (λ up. one (left - row_sum rows up))

abbrev pub open_columns : ℕ → List (List ℕ) → ℕ → ℕ
open_columns size rows left = total size (λ down. one (left - column_sum rows down))

-- the connections that have slots, and the lines that have slack
abbrev pub budget : ℕ → List (List ℕ) → ℕ → ℕ
budget size rows left = positive_entries rows + open_rows size rows left + open_columns size rows left

one_less : (a b : ℕ) → a ≡ 0 → 0 < b → one a < one b
one_less a b none some = grind arith

-- no more rows have slack after a mode, no more columns, and no more connections have slots
record IsNoMore (size : ℕ) (old new : List (List ℕ)) (left later : ℕ) : Type 0 where
  pub entries : positive_entries new ≤ positive_entries old
  pub rows : open_rows size new later ≤ open_rows size old left
  pub columns : open_columns size new later ≤ open_columns size old left

record IsSquares (size : ℕ) (old new : List (List ℕ)) : Type 0 where
  pub was : IsSquare old size
  pub is : IsSquare new size

squares : (old new : List (List ℕ)) (mode : Mode) (left : ℕ) → ServesPart old left mode new → IsSquares (length old) old new
squares old new mode left part = record {
  was = IsSquare-traffic old part.traffic;
  is = record { count = part.size; long = part.square };
}

slack_row : (old new : List (List ℕ)) (mode : Mode) (left up : ℕ) → ServesPart old left mode new → up < length old
    → left - mode.duration - row_sum new up ≤ left - row_sum old up
slack_row old new mode left up part inside = let more : row_sum old up ≤ row_sum new up + mode.duration = part.fuller (Row (record { 0 = up })) inside in omega arith

slack_column : (old new : List (List ℕ)) (mode : Mode) (left down : ℕ) → ServesPart old left mode new → down < length old
    → left - mode.duration - column_sum new down ≤ left - column_sum old down
slack_column old new mode left down part inside =
    let more : column_sum old down ≤ column_sum new down + mode.duration = part.fuller (Column (record { 0 = down })) inside in omega arith

no_more : (old new : List (List ℕ)) (mode : Mode) (left : ℕ) → ServesPart old left mode new → IsNoMore (length old) old new left (left - mode.duration)
no_more old new mode left part =
    let size = length old in
    let both = squares old new mode left part in
    record {
      entries =
          let each = total-le size (λ up. total size (λ down. one (entry new up down))) (λ up. total size (λ down. one (entry old up down)))
          (λ up inside. total-le size (λ down. one (entry new up down)) (λ down. one (entry old up down))
          (λ down within. one-le (entry new up down) (entry old up down) (part.smaller up down inside within))) in
          omega (arith, each, positive_entries-total old size both.was, positive_entries-total new size both.is);
      rows = total-le size (λ up. one (left - mode.duration - row_sum new up)) (λ up. one (left - row_sum old up))
          (λ up inside. one-le (left - mode.duration - row_sum new up) (left - row_sum old up) (slack_row old new mode left up part inside));
      columns = total-le size (λ down. one (left - mode.duration - column_sum new down)) (λ down. one (left - column_sum old down))
          (λ down inside. one-le (left - mode.duration - column_sum new down) (left - column_sum old down) (slack_column old new mode left down part inside));
    }

-- a line that is filled has slack no more
line_falls : (old new : List (List ℕ)) (mode : Mode) (left : ℕ) (line : Critical) → ServesPart old left mode new → IsLine old line
    → line_sum old line < left → line_sum new line + mode.duration ≡ left
    → budget (length old) new (left - mode.duration) < budget (length old) old left
line_falls old new mode left (Row up) part inside slack full =
    let size = length old in
    let less = no_more old new mode left part in
    let ones = one_less (left - mode.duration - row_sum new up.0) (left - row_sum old up.0) (omega arith) (omega arith) in
    let fewer = total-less size (λ k. one (left - mode.duration - row_sum new k)) (λ k. one (left - row_sum old k))
    (λ k within. one-le (left - mode.duration - row_sum new k) (left - row_sum old k) (slack_row old new mode left k part within)) up.0 inside ones in
    omega (arith, less.entries, less.columns, fewer)
line_falls old new mode left (Column down) part inside slack full =
    let size = length old in
    let less = no_more old new mode left part in
    let ones = one_less (left - mode.duration - column_sum new down.0) (left - column_sum old down.0) (omega arith) (omega arith) in
    let fewer = total-less size (λ k. one (left - mode.duration - column_sum new k)) (λ k. one (left - column_sum old k))
    (λ k within. one-le (left - mode.duration - column_sum new k) (left - column_sum old k) (slack_column old new mode left k part within)) down.0 inside ones in
    omega (arith, less.entries, less.rows, fewer)

-- what a mode that leaves slots does
falls_by : (old new : List (List ℕ)) (mode : Mode) (left : ℕ) → ServesPart old left mode new → mode.duration < left
    → (mode.duration ≡ left) ⊎ (EndsEntry old new ⊎ FillsLine old left mode.duration new)
    → budget (length old) new (left - mode.duration) < budget (length old) old left
falls_by old new mode left part some (inl all) = absurd (omega arith)
falls_by old new mode left part some (inr (inl (up, down, in_rows, in_columns, positive, none))) =
    let both = squares old new mode left part in
    let less = no_more old new mode left part in
    let fewer = positive_entries-less old new (length old) up down both.was both.is part.smaller in_rows in_columns none positive in
    omega (arith, less.rows, less.columns, fewer)
falls_by old new mode left part some (inr (inr (line, inside, slack, full))) = line_falls old new mode left line part inside slack full

-- So many modes at most: those so far and those to come, while slots are left, and one more.
pub record IsFewTo (rows now : List (List ℕ)) (modes : List Mode) (left slots : ℕ) : Type 0 where
  pub to_come : 0 < left → length modes + budget (length rows) now left ≤ budget (length rows) rows slots
  pub so_far : length modes ≤ budget (length rows) rows slots + 1

pub IsFewTo-mode : (rows now new : List (List ℕ)) (modes : List Mode) (mode : Mode) (left slots : ℕ) → IsFewTo rows now modes left slots → length now ≡ length rows
    → 0 < left → ServesPart now left mode new → IsFewTo rows new (modes ++ mode ∷ []) (left - mode.duration) slots
IsFewTo-mode rows now new modes mode left slots few size some part =
    let count : length (modes ++ mode ∷ []) ≡ length modes + 1 = length-append modes (mode ∷ []) in
    let before = few.to_come some in
    record {
      to_come = λ more.
          let falls = falls_by now new mode left part (omega arith) part.ends in
          omega (arith, before, count, rw size at falls);
      so_far = omega (arith, before, count);
    }

-- the heaviest line has no slack
ones_one : (n : ℕ) → one n ≤ 1
ones_one n = grind arith

ones_most : (size : ℕ) (f : ℕ → ℕ) → total size (λ k. one (f k)) ≤ size
ones_most size f = omega (arith, total-ones size, total-le size (λ k. one (f k)) (λ _. 1) (λ k _. ones_one (f k)))

ones_less : (size : ℕ) (f : ℕ → ℕ) (k : ℕ) → k < size → f k ≡ 0 → total size (λ k. one (f k)) < size
ones_less size f k inside none =
    let here : one (f k) < 1 = grind arith in
    omega (arith, total-ones size, total-less size (λ k. one (f k)) (λ _. 1) (λ k _. ones_one (f k)) k inside here)

open_most : (rows : List (List ℕ)) (slots : ℕ) → IsGreatestSum rows slots → open_rows (length rows) rows slots + open_columns (length rows) rows slots < 2 * length rows
open_most rows slots ((Row up), is) =
    omega (arith, ones_less (length rows) (λ k. slots - row_sum rows k) up.0 is.on_matrix (omega (arith, is.reached)), ones_most (length rows) (λ k. slots - column_sum rows k))
open_most rows slots ((Column down), is) =
    omega (arith, ones_less (length rows) (λ k. slots - column_sum rows k) down.0 is.on_matrix (omega (arith, is.reached)), ones_most (length rows) (λ k. slots - row_sum rows k))

-- there are no more modes than connections that have slots, and lines
pub few_modes : (rows now : List (List ℕ)) (modes : List Mode) (left slots : ℕ) → IsFewTo rows now modes left slots → IsGreatestSum rows slots
    → length modes ≤ positive_entries rows + 2 * length rows
few_modes rows now modes left slots few greatest = omega (arith, few.so_far, open_most rows slots greatest)

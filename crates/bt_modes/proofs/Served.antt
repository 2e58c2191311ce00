-- A matrix that was served by some modes, and what is left of it.
use Rattle.std.proofs.Common.{◌≡◌, ℕ, ◌+◌, ◌-◌, ◌<◌, ◌≤◌, max, List, [], ◌∷◌, ◌++◌, length, All, slice_index, sym, ◌∙◌, refl, arith}
use Rattle.std.proofs.lemmas.List.Elements.{All-push}
use Rattle.std.proofs.lemmas.List.Sums.{sum_by_push}
use Rattle.bt_frame.specs.declared.mode.Mode.{Mode}
use Rattle.bt_frame.specs.declared.schedule.Critical.{Critical}
use Rattle.bt_frame.specs.declared.schedule.Critical.TheVariants.{Column}
use Rattle.bt_matrix.specs.Good.{IsPermutation, slots_in, slots_of, total_duration}
use Rattle.bt_matrix.specs.Traffic.{row_of, entry, row_sum, column_sum, line_sum, IsLine, IsTraffic}
use Rattle.bt_matrix.proofs.Lines.{entry-le-column_sum}
use Rattle.bt_modes.specs.Padding.{IsRaised, HasLinesWithin, IsPartPadding}
use Rattle.bt_modes.specs.Serving.{IsReached, MayHold, ServesMatrix, ServesPart}
use Rattle.bt_modes.proofs.Fillings.{IsLine-size}
use Rattle.bt_modes.proofs.Ends.{left_of, lines_raised, ends_one}
use Rattle.bt_modes.proofs.Takes.{slots_in-served}
use Rattle.bt_modes.proofs.Sums.{total-less, IsSquare, row_sum-total, column_sum-total}

-- The modes so far serve the matrix but for what is left, whose lines fit into the slots that are left.
pub record IsServedTo (rows now : List (List ℕ)) (modes : List Mode) (left slots : ℕ) : Type 0 where
  pub size : length now ≡ length rows
  pub lines : HasLinesWithin now left
  pub within : left ≤ slots
  pub permutations : All (λ mode. IsPermutation (length rows) mode.perm) modes
  pub durations : All (λ mode. 0 < mode.duration) modes
  pub filled : total_duration modes + left ≡ slots
  pub carried : (up down : ℕ) → up < length rows → down < length rows → entry rows up down ≤ slots_of modes up down + entry now up down

-- one mode more
pub IsServedTo-mode : (rows now new : List (List ℕ)) (modes : List Mode) (mode : Mode) (left slots : ℕ) → IsServedTo rows now modes left slots
    → ServesPart now left mode new → IsServedTo rows new (modes ++ mode ∷ []) (left - mode.duration) slots
IsServedTo-mode rows now new modes mode left slots so_far part =
    let size : length now ≡ length rows = so_far.size in
    record {
      size = part.size ∙ size;
      lines = λ line inside. omega (arith, part.lines line inside);
      within = omega (arith, so_far.within);
      permutations = All-push (λ (m : Mode). IsPermutation (length rows) m.perm) modes mode so_far.permutations (rw (← size) part.permutation);
      durations = All-push (λ (m : Mode). 0 < m.duration) modes mode so_far.durations part.lasts;
      filled = omega (arith, so_far.filled, part.fits, sum_by_push (λ (m : Mode). m.duration) modes mode);
      carried = λ up down in_rows in_columns.
          let before = so_far.carried up down in_rows in_columns in
          let here = part.carried up down (omega arith) (omega arith) in
          omega (arith, before, here, sum_by_push (slots_in up down) modes mode);
    }

-- no slots are left: the modes serve the matrix
pub ServesMatrix-all : (rows now : List (List ℕ)) (modes : List Mode) (left slots : ℕ) → IsServedTo rows now modes left slots → left ≤ 0 → ServesMatrix rows modes slots
ServesMatrix-all rows now modes left slots so_far none = record {
  permutations = so_far.permutations;
  durations = so_far.durations;
  filled = omega (arith, so_far.filled);
  carried = λ up down in_rows in_columns.
      let in_now : up < length now = omega (arith, so_far.size) in
      let in_line : down < length now = omega (arith, so_far.size) in
      omega (arith, so_far.carried up down in_rows in_columns, entry-le-column_sum now up down in_now, so_far.lines (Column (record { 0 = down })) in_line);
}

-- the connections of a permutation were raised, and lost the slots of the mode
pub ServesPart-taken : (old raised new : List (List ℕ)) (perm : List ℕ) (slots left : ℕ) → IsPermutation (length old) perm → MayHold old left perm slots → 0 < slots
    → IsReached old left perm slots → IsTraffic old → HasLinesWithin old left
    → ((up : ℕ) → up < length old → slots ≤ entry raised up (slice_index perm up))
    → ((up down : ℕ) → up < length old → down < length old → entry raised up down ≤ max (entry old up down) (slots_in up down (record { duration = slots; perm = perm })))
    → IsPartPadding old raised left → length new ≡ length raised → ((up : ℕ) → up < length raised → length (row_of new up) ≡ length raised)
    → ((up down : ℕ) → up < length raised → down < length raised
    → entry raised up down ≡ entry new up down + slots_in up down (record { duration = slots; perm = perm }))
    → ((line : Critical) → IsLine raised line → line_sum raised line ≡ line_sum new line + slots)
    → ServesPart old left (record { duration = slots; perm = perm }) new
ServesPart-taken old raised new perm slots left permutes held lasts reached traffic within least most part size square entries lines =
    let same : length raised ≡ length old = part.size in
    let mode : Mode = record { duration = slots; perm = perm } in
    let left_at = λ (up down : ℕ) (in_rows : up < length old) (in_columns : down < length old).
    left_of (entry old up down) (entry raised up down) (entry new up down) (slots_in up down mode) (entries up down (omega arith) (omega arith)) (most up down in_rows in_columns) in
    record {
      traffic = traffic;
      size = size ∙ same;
      square = λ up inside. square up (omega arith) ∙ same;
      permutation = permutes;
      lasts = lasts;
      fits = held.within;
      lines = λ line inside.
          let there : IsLine raised line = IsLine-size raised new line size inside in
          omega (arith, lines line there, part.within line there);
      carried = λ up down in_rows in_columns.
          omega (arith, part.raised up down in_rows in_columns, entries up down (omega arith) (omega arith));
      smaller = λ up down in_rows in_columns. (left_at up down in_rows in_columns).0;
      fuller = λ line inside.
          let there : IsLine raised line = IsLine-size raised old line (sym same) inside in
          omega (arith, lines line there, lines_raised old raised left traffic part line inside);
      ends = ends_one old raised new perm slots left traffic permutes lasts within part least
          (λ up in_rows small.
          let down = slice_index perm up in
          let in_columns : down < length old = permutes.in_range up 0 (omega (arith, permutes.count)) in
          let served : slots_in up down mode ≡ slots = slots_in-served mode up down refl in
          (left_at up down in_rows in_columns).1 (omega arith))
          lines reached;
    }

-- Where an entry of a row was zero and is positive in a padding, the row is shorter than in the padding, and so is the column.
pub raised_row : (old new : List (List ℕ)) (size up down : ℕ) → IsSquare old size → IsSquare new size → IsRaised old new → length old ≡ size → up < size → down < size
    → entry old up down < entry new up down → row_sum old up < row_sum new up
raised_row old new size up down was is raised count in_rows in_columns more =
    let less = total-less size (entry old up) (entry new up) (λ k inside. raised up k (omega arith) (omega arith)) down in_columns more in
    omega (arith, less, row_sum-total old size up was in_rows, row_sum-total new size up is in_rows)

pub raised_column : (old new : List (List ℕ)) (size up down : ℕ) → IsSquare old size → IsSquare new size → IsRaised old new → length old ≡ size → up < size → down < size
    → entry old up down < entry new up down → column_sum old down < column_sum new down
raised_column old new size up down was is raised count in_rows in_columns more =
    let less = total-less size (λ k. entry old k down) (λ k. entry new k down) (λ k inside. raised k down (omega arith) (omega arith)) up in_rows more in
    omega (arith, less, column_sum-total old size down was, column_sum-total new size down is)

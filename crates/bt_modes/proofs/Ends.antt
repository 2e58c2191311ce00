-- Each mode takes all slots that are left, or ends a connection, or fills a line.
use Rattle.std.proofs.Common.{◌≡◌, ℕ, ◌+◌, ◌-◌, ◌<◌, ◌≤◌, ◌⊎◌, min, max, List, length, slice_index, inl, inr, arith}
use Rattle.std.proofs.lemmas.Bool.{cases_lt}
use Rattle.bt_frame.specs.declared.schedule.Critical.{Critical}
use Rattle.bt_frame.specs.declared.schedule.Critical.TheVariants.{Row, Column}
use Rattle.bt_frame.proofs.Totals.{total-more}
use Rattle.bt_matrix.specs.Good.{IsPermutation}
use Rattle.bt_matrix.specs.Traffic.{entry, row_sum, column_sum, line_sum, IsLine, IsTraffic}
use Rattle.bt_modes.specs.Padding.{IsRaised, HasLinesWithin, IsPartPadding}
use Rattle.bt_modes.specs.Serving.{EndsEntry, FillsLine, IsReached}
use Rattle.bt_modes.proofs.Sums.{IsSquare, IsSquare-traffic, row_sum-total, column_sum-total}

-- the fewest slots of one connection more are reached
pub reached_more : (rows : List (List ℕ)) (perm : List ℕ) (left up slots here fewest : ℕ) → fewest ≡ min slots here
    → ((slots ≡ left) ⊎ ((k : ℕ) × (k < up) × ((slots + row_sum rows k ≡ left + entry rows k (slice_index perm k))
    ⊎ (slots + column_sum rows (slice_index perm k) ≡ left + entry rows k (slice_index perm k)))))
    → ((here + row_sum rows up ≡ left + entry rows up (slice_index perm up)) ⊎ (here + column_sum rows (slice_index perm up) ≡ left + entry rows up (slice_index perm up)))
    → ((fewest ≡ left) ⊎ ((k : ℕ) × (k < up + 1) × ((fewest + row_sum rows k ≡ left + entry rows k (slice_index perm k))
    ⊎ (fewest + column_sum rows (slice_index perm k) ≡ left + entry rows k (slice_index perm k)))))
reached_more rows perm left up slots here fewest is before now =
    elim (cases_lt here slots) [
      | inl less ↦ let same : here ≡ fewest = omega arith in inr (up, omega arith, rw same at now)
      | inr more ↦
          let same : slots ≡ fewest = omega arith in
          elim (rw same at before) [
            | inl all ↦ inl all
            | inr one ↦ let (k, below, there) = one in inr (k, omega arith, there)
          ]
    ]

-- what a mode leaves of a connection
pub left_of : (own raised new slots : ℕ) → raised ≡ new + slots → raised ≤ max own slots → (new ≤ own) × (own ≤ slots → new ≡ 0)
left_of own raised new slots is most = (omega arith, λ small. omega arith)

-- a padding, by columns and rows of the first matrix
record IsPair (old raised : List (List ℕ)) : Type 0 where
  pub was : IsSquare old (length old)
  pub is : IsSquare raised (length old)
  pub more : IsRaised old raised

is_pair : (old raised : List (List ℕ)) (left : ℕ) → IsTraffic old → IsPartPadding old raised left → IsPair old raised
is_pair old raised left traffic part = record {
  was = IsSquare-traffic old traffic;
  is = rw part.size at (IsSquare-traffic raised part.traffic);
  more = part.raised;
}

-- a row with an entry that is greater by so much, and none that is smaller, is longer by so much, and so is a column
row_more : (old raised : List (List ℕ)) (up down more : ℕ) → IsPair old raised → up < length old → down < length old
    → entry old up down + more ≤ entry raised up down → row_sum old up + more ≤ row_sum raised up
row_more old raised up down more both in_rows in_columns there =
    let longer = total-more (length old) (entry old up) (entry raised up) down more (λ k inside. both.more up k in_rows inside) in_columns there in
    omega (arith, longer, row_sum-total old (length old) up both.was in_rows, row_sum-total raised (length old) up both.is in_rows)

column_more : (old raised : List (List ℕ)) (up down more : ℕ) → IsPair old raised → up < length old → down < length old
    → entry old up down + more ≤ entry raised up down → column_sum old down + more ≤ column_sum raised down
column_more old raised up down more both in_rows in_columns there =
    let longer = total-more (length old) (λ k. entry old k down) (λ k. entry raised k down) up more (λ k inside. both.more k down inside in_columns) in_rows there in
    omega (arith, longer, column_sum-total old (length old) down both.was, column_sum-total raised (length old) down both.is)

-- no line of a padding is shorter
pub lines_raised : (old raised : List (List ℕ)) (left : ℕ) → IsTraffic old → IsPartPadding old raised left → (line : Critical) → IsLine old line → line_sum old line ≤ line_sum raised line
lines_raised old raised left traffic part (Row up) inside =
    let both = is_pair old raised left traffic part in
    let some = traffic.some_beams in
    let longer = row_more old raised up.0 0 0 both inside (omega arith) (omega (arith, both.more up.0 0 inside (omega arith))) in
    omega (arith, longer)
lines_raised old raised left traffic part (Column down) inside =
    let both = is_pair old raised left traffic part in
    let some = traffic.some_beams in
    let longer = column_more old raised 0 down.0 0 both (omega arith) inside (omega (arith, both.more 0 down.0 (omega arith) inside)) in
    omega (arith, longer)

-- a line that grows by no less than it lacks is full, where none passes what is left
grows : (old raised left slots own : ℕ) → slots + old ≡ left + own → own ≤ slots → old + (slots - own) ≤ raised → raised ≤ left → raised ≡ left
grows old raised left slots own is less more within = omega arith

-- A connection whose row's slack, or whose column's, is used up: it ends, or the line is filled.
pub ends_one : (old raised new : List (List ℕ)) (perm : List ℕ) (slots left : ℕ) → IsTraffic old → IsPermutation (length old) perm → 0 < slots → HasLinesWithin old left
    → IsPartPadding old raised left
    → ((up : ℕ) → up < length old → slots ≤ entry raised up (slice_index perm up))
    → ((up : ℕ) → up < length old → entry old up (slice_index perm up) ≤ slots → entry new up (slice_index perm up) ≡ 0)
    → ((line : Critical) → IsLine raised line → line_sum raised line ≡ line_sum new line + slots)
    → IsReached old left perm slots
    → (slots ≡ left) ⊎ (EndsEntry old new ⊎ FillsLine old left slots new)
ends_one old raised new perm slots left traffic permutes some within part least ended lines (inl all) = inl all
ends_one old raised new perm slots left traffic permutes some within part least ended lines (inr reached) =
    let (up, inside, by) = reached in
    let down = slice_index perm up in
    let same : length raised ≡ length old = part.size in
    let in_columns : down < length old = permutes.in_range up 0 (omega (arith, permutes.count)) in
    let both = is_pair old raised left traffic part in
    let row_fits : row_sum old up ≤ left = within (Row (record { 0 = up })) inside in
    let column_fits : column_sum old down ≤ left = within (Column (record { 0 = down })) in_columns in
    let enough : slots ≤ entry raised up down = least up inside in
    let own : entry old up down ≤ entry raised up down = part.raised up down inside in_columns in
    let in_raised : up < length raised = omega arith in
    let down_raised : down < length raised = omega arith in
    let row_line : row_sum raised up ≡ row_sum new up + slots = lines (Row (record { 0 = up })) in_raised in
    let column_line : column_sum raised down ≡ column_sum new down + slots = lines (Column (record { 0 = down })) down_raised in
    let row_most : row_sum raised up ≤ left = part.within (Row (record { 0 = up })) in_raised in
    let column_most : column_sum raised down ≤ left = part.within (Column (record { 0 = down })) down_raised in
    elim by [
      | inl row ↦ elim (cases_lt (row_sum old up) left) [
        | inl slack ↦
            let longer = row_more old raised up down (slots - entry old up down) both inside in_columns (omega arith) in
            let full : row_sum raised up ≡ left = grows (row_sum old up) (row_sum raised up) left slots (entry old up down) row (omega arith) longer row_most in
            inr (inr (Row (record { 0 = up }), inside, slack, omega arith))
        | inr none ↦
            let small : entry old up down ≤ slots = omega arith in
            inr (inl (up, down, inside, in_columns, omega arith, ended up inside small))
      ]
      | inr column ↦ elim (cases_lt (column_sum old down) left) [
        | inl slack ↦
            let longer = column_more old raised up down (slots - entry old up down) both inside in_columns (omega arith) in
            let full : column_sum raised down ≡ left = grows (column_sum old down) (column_sum raised down) left slots (entry old up down) column (omega arith) longer column_most in
            inr (inr (Column (record { 0 = down }), in_columns, slack, omega arith))
        | inr none ↦
            let small : entry old up down ≤ slots = omega arith in
            inr (inl (up, down, inside, in_columns, omega arith, ended up inside small))
      ]
    ]

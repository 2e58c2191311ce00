-- How large the numbers of changes that follow one another are: their edition, their commands, and the lines of their matrix.
use Rattle.std.proofs.Common.{◌≡◌, ◌⊎◌, ℕ, ◌+◌, ◌-◌, ◌*◌, ◌<◌, ◌≤◌, ◌==◌, ◌&&◌, if◌then◌else◌, Bool, true, false, List, [], ◌∷◌, ◌++◌, length, map, sum, sum_by, Option, Some, None, option_map, unwrap_or, refl, sym, ap, ◌∙◌, subst, append_assoc, length-append, arith, ⊎_elim, inl, inr}
use Rattle.std.specs.Prelude.{slice_get, slice_index}
use Rattle.std.specs.List.{filter_map}
use Rattle.std.proofs.Math.Seq.{get_or-append_seam}
use Rattle.std.proofs.lemmas.Bool.{cases_eq}
use Rattle.std.proofs.lemmas.Bool.Decides.{nat_tests}
use Rattle.std.proofs.lemmas.List.{append-nil}
use Rattle.std.proofs.lemmas.List.Elements.{filter_map-append}
use Rattle.std.proofs.lemmas.List.FromFn.{length-range_with_len}
use Rattle.std.proofs.lemmas.List.Sums.{sum_by-append, sum_by-cons, sum-map}
use Rattle.std.proofs.lemmas.Option.{slice_get-get_or}
use Rattle.bt_text.specs.Text.{spaced}
use Rattle.bt_frame.specs.declared.numbers.BeamNo.{BeamNo}
use Rattle.bt_frame.specs.declared.numbers.Command.{Command}
use Rattle.bt_frame.specs.declared.numbers.TermNo.{TermNo}
use Rattle.bt_frame.specs.declared.schedule.Critical.TheVariants.{Row, Column}
use Rattle.bt_frame.proofs.Counts.{sum_by-map, sum_by-same, sum_by-zeros}
use Rattle.bt_frame.proofs.Images.{image_at, numbers_below}
use Rattle.bt_frame.proofs.OneNumber.{same_beam}
use Rattle.bt_net.specs.Network.{Net}
use Rattle.bt_net.specs.Terminals.{is_in_beam, IsInBeam}
use Rattle.bt_matrix.specs.Traffic.{column_sum, row_sum}
use Rattle.bt_demand.specs.declared.plan.Plan.{Plan}
use Rattle.bt_demand.specs.Traffic.{HasSumsTo, table_of}
use Rattle.bt_demand.proofs.Tables.{length-table, row_of-table}
use Rattle.bt_air.specs.declared.order.Order.{Order}
use Rattle.bt_air.specs.Orders.{command_of}
use Rattle.bt_journal.specs.declared.call.Change.{Change}
use Rattle.bt_journal.specs.declared.call.Change.TheVariants as change
use Rattle.bt_journal.specs.declared.call.Edit.{Edit}
use Rattle.bt_journal.specs.declared.call.Edit.TheVariants.{Add, Drop, Move}
use Rattle.bt_journal.specs.JournalLines.{change_line, change_parts, edits_in, lines_from, units_in}
use Rattle.bt_history.specs.Causes.{FollowFrom, Follows, IsGood}
use Rattle.bt_history.specs.Changes.{edition, given, last_command, matrix_after, newest, order_in, orders, slots_after, slots_between, taken_from}
use Rattle.bt_history.specs.EditCauses.{GainsFrom, GainsTo, with_edit}
use Rattle.bt_history.specs.Machine.{bytes_of}
use Rattle.bt_history.proofs.Entries.{edition-more, edition-other}
use Rattle.bt_history.proofs.OneMore.{ended_length}
use Rattle.bt_round.proofs.Installed.{newest-install, newest-other}

-- each change has a line, and each line a newline
lines-behind : (net : Net) (edits : ℕ) (changes : List Change) → length changes ≤ length (lines_from net edits changes)
lines-behind net edits [] = omega arith
lines-behind net edits (first ∷ rest) =
    let number = edits + edits_in first in
    let line = change_line net number first in
    omega (arith, length-append line (lines_from net number rest), ended_length (spaced (change_parts net number first)), lines-behind net number rest)

pub changes-le-bytes : (net : Net) (changes : List Change) → length changes ≤ bytes_of net changes
changes-le-bytes net changes = lines-behind net 0 changes

one_edit : (one : Change) → edits_in one ≤ 1
one_edit (change.Edit _) = omega arith
one_edit (change.Install _) = omega arith
one_edit (change.Order _) = omega arith

-- an edition is made by an edit
pub edition-le-changes : (changes : List Change) → edition changes ≤ length changes
edition-le-changes [] = omega arith
edition-le-changes (first ∷ rest) = omega (arith, sum_by-cons edits_in first rest, one_edit first, edition-le-changes rest)

at_most : (passes : Bool) (units : ℕ) → (if passes then units else 0) ≤ units
at_most true units = omega arith
at_most false units = omega arith

-- an edit gives no more than its units to any links
given-le : (test : TermNo → TermNo → Bool) (edit : Edit) → given test (change.Edit edit) ≤ units_in edit
given-le test (Add from to units) = at_most (test from to) units
given-le test (Drop from to units) = omega arith
given-le test (Move from to new_from new_to units) = at_most (test new_from new_to) units

-- with one change more the links have no more than it gives them
slots-more : (test : TermNo → TermNo → Bool) (changes : List Change) (one : Change) → slots_after test (changes ++ one ∷ []) ≤ slots_after test changes + given test one
slots-more test changes one = omega (
  arith,
  sum_by-append (given test) changes (one ∷ []),
  sum_by-cons (given test) one [],
  sum_by-append (taken_from test) changes (one ∷ []),
  sum_by-cons (taken_from test) one [],
)

-- terms that are no greater but for so much each
sums-le : (f g : ℕ → ℕ) (much : ℕ) (xs : List ℕ) → ((x : ℕ) → f x ≤ g x + much) → sum_by f xs ≤ sum_by g xs + length xs * much
sums-le f g much [] le = omega arith
sums-le f g much (x ∷ xs) le = omega (arith, sum_by-cons f x xs, sum_by-cons g x xs, le x, sums-le f g much xs le)

below-le : (n : ℕ) (f g : ℕ → ℕ) (much : ℕ) → ((x : ℕ) → f x ≤ g x + much) → sum_by f (numbers_below n) ≤ sum_by g (numbers_below n) + n * much
below-le n f g much le =
    subst (λ (l : ℕ). sum_by f (numbers_below n) ≤ sum_by g (numbers_below n) + l * much) (length-range_with_len 0 n) (sums-le f g much (numbers_below n) le)

row_sum-table : (n : ℕ) (f : ℕ → ℕ → ℕ) (up : ℕ) → up < n → row_sum (table_of n f) up ≡ sum_by (f up) (numbers_below n)
row_sum-table n f up below = ap sum (row_of-table n f up below) ∙ sum-map (f up) (numbers_below n)

column_sum-table : (n : ℕ) (f : ℕ → ℕ → ℕ) (down : ℕ) → down < n → column_sum (table_of n f) down ≡ sum_by (λ i. f i down) (numbers_below n)
column_sum-table n f down below =
    let at = λ (row : List ℕ). slice_index row down in
    sum_by-map at (λ (i : ℕ). map (f i) (numbers_below n)) (numbers_below n)
    ∙ sum_by-same (λ (i : ℕ). at (map (f i) (numbers_below n))) (λ (i : ℕ). f i down) (numbers_below n) (λ i. image_at (f i) n down 0 below)

-- a link is from a terminal of one beam to a terminal of another
abbrev between : Net → ℕ → ℕ → TermNo → TermNo → Bool
between net up down from to = is_in_beam net up from && is_in_beam net down to

-- with one change more a row has no more than it gives to each of its entries
row-more : (net : Net) (changes : List Change) (one : Change) (up much : ℕ) → up < length net.beams → ((down : ℕ) → given (between net up down) one ≤ much)
    → row_sum (matrix_after net (changes ++ one ∷ [])) up ≤ row_sum (matrix_after net changes) up + length net.beams * much
row-more net changes one up much below gives =
    let n = length net.beams in
    let old = slots_between net changes in
    let new = slots_between net (changes ++ one ∷ []) in
    omega (
      arith,
      row_sum-table n old up below,
      row_sum-table n new up below,
      below-le n (new up) (old up) much (λ down. omega (arith, slots-more (between net up down) changes one, gives down)),
    )

-- and so with a column
column-more : (net : Net) (changes : List Change) (one : Change) (down much : ℕ) → down < length net.beams → ((up : ℕ) → given (between net up down) one ≤ much)
    → column_sum (matrix_after net (changes ++ one ∷ [])) down ≤ column_sum (matrix_after net changes) down + length net.beams * much
column-more net changes one down much below gives =
    let n = length net.beams in
    let old = slots_between net changes in
    let new = slots_between net (changes ++ one ∷ []) in
    omega (
      arith,
      column_sum-table n old down below,
      column_sum-table n new down below,
      below-le n (λ up. new up down) (λ up. old up down) much (λ up. omega (arith, slots-more (between net up down) changes one, gives up)),
    )

other_beam : (found : Option (List ℕ × BeamNo)) (beam : BeamNo)
    → (option_map (λ t. t.1) found ≡ Some beam) ⊎ (unwrap_or (option_map (λ t. t.1.0 == beam.0) found) false ≡ false)
other_beam None beam = inr refl
other_beam (Some t) beam = ⊎_elim
    (λ (same : t.1.0 ≡ beam.0). inl (ap Some (same_beam t.1 beam same)))
    (λ (differ : t.1.0 ≡ beam.0 → ⊥). inr (grind (arith, nat_tests, differ)))
    (cases_eq t.1.0 beam.0)

-- the terminal is in the beam or not
in_or_not : (net : Net) (beam : BeamNo) (terminal : TermNo) → IsInBeam net terminal beam ⊎ (is_in_beam net beam.0 terminal ≡ false)
in_or_not net beam terminal = other_beam (slice_get net.terminals terminal.0) beam

none_from : (a b : Bool) (units : ℕ) → a ≡ false → (if a && b then units else 0) ≤ 0
none_from true b units is = absurd cc
none_from false b units is = omega arith

none_to : (a b : Bool) (units : ℕ) → b ≡ false → (if a && b then units else 0) ≤ 0
none_to a true units is = absurd cc
none_to true false units is = omega arith
none_to false false units is = omega arith

-- the link that gains is from the beam, or the edit gives nothing to the links from it
gains_from : (net : Net) (edit : Edit) (beam : BeamNo) → GainsFrom net edit beam ⊎ ((down : ℕ) → given (between net beam.0 down) (change.Edit edit) ≤ 0)
gains_from net (Add from to units) beam =
    elim (in_or_not net beam from) [ inl is ↦ inl is | inr not ↦ inr (λ down. none_from (is_in_beam net beam.0 from) (is_in_beam net down to) units not) ]
gains_from net (Drop from to units) beam = inr (λ down. omega arith)
gains_from net (Move from to new_from new_to units) beam =
    elim (in_or_not net beam new_from) [ inl is ↦ inl is | inr not ↦ inr (λ down. none_from (is_in_beam net beam.0 new_from) (is_in_beam net down new_to) units not) ]

-- and so to the beam
gains_to : (net : Net) (edit : Edit) (beam : BeamNo) → GainsTo net edit beam ⊎ ((up : ℕ) → given (between net up beam.0) (change.Edit edit) ≤ 0)
gains_to net (Add from to units) beam =
    elim (in_or_not net beam to) [ inl is ↦ inl is | inr not ↦ inr (λ up. none_to (is_in_beam net up from) (is_in_beam net beam.0 to) units not) ]
gains_to net (Drop from to units) beam = inr (λ up. omega arith)
gains_to net (Move from to new_from new_to units) beam =
    elim (in_or_not net beam new_to) [ inl is ↦ inl is | inr not ↦ inr (λ up. none_to (is_in_beam net up new_from) (is_in_beam net beam.0 new_to) units not) ]

-- each row is within the frame with one good change more
row_fits : (net : Net) (changes : List Change) (one : Change) (beam : BeamNo) → beam.0 < length net.beams → IsGood net changes one
    → row_sum (matrix_after net changes) beam.0 ≤ net.slots → row_sum (matrix_after net (changes ++ one ∷ [])) beam.0 ≤ net.slots
row_fits net changes (change.Edit edit) beam below good fits = elim (gains_from net edit beam) [
  | inl gains ↦ good.2 beam gains
  | inr none ↦ omega (arith, fits, row-more net changes (change.Edit edit) beam.0 0 below none)
]
row_fits net changes (change.Install plan) beam below good fits = omega (arith, fits, row-more net changes (change.Install plan) beam.0 0 below (λ down. omega arith))
row_fits net changes (change.Order order) beam below good fits = omega (arith, fits, row-more net changes (change.Order order) beam.0 0 below (λ down. omega arith))

-- and so is each column
column_fits : (net : Net) (changes : List Change) (one : Change) (beam : BeamNo) → beam.0 < length net.beams → IsGood net changes one
    → column_sum (matrix_after net changes) beam.0 ≤ net.slots → column_sum (matrix_after net (changes ++ one ∷ [])) beam.0 ≤ net.slots
column_fits net changes (change.Edit edit) beam below good fits = elim (gains_to net edit beam) [
  | inl gains ↦ good.3 beam gains
  | inr none ↦ omega (arith, fits, column-more net changes (change.Edit edit) beam.0 0 below none)
]
column_fits net changes (change.Install plan) beam below good fits = omega (arith, fits, column-more net changes (change.Install plan) beam.0 0 below (λ up. omega arith))
column_fits net changes (change.Order order) beam below good fits = omega (arith, fits, column-more net changes (change.Order order) beam.0 0 below (λ up. omega arith))

-- the command of the last of these orders
abbrev last_of : List Order → Command
last_of placed = unwrap_or (option_map command_of (slice_get placed (length placed - 1))) (record { 0 = 0 })

last_of-push : (placed : List Order) (order : Order) → last_of (placed ++ order ∷ []) ≡ command_of order
last_of-push placed order =
    let all = placed ++ order ∷ [] in
    let n : length all - 1 ≡ length placed = omega (arith, length-append placed (order ∷ [])) in
    let here : slice_get all (length all - 1) ≡ Some order =
    ap (slice_get all) n ∙ slice_get-get_or all (length placed) order (omega (arith, length-append placed (order ∷ []))) ∙ ap Some (get_or-append_seam placed order [] order) in
    ap (λ (o : Option Order). unwrap_or (option_map command_of o) (record { 0 = 0 })) here

-- What is bounded after changes that follow: the newest plan is of an edition that there is, the last command is no greater than
-- the number of changes, and each line of the matrix is within the frame.
pub record AreBounded (net : Net) (changes : List Change) : Type 0 where
  pub newest : (newest changes).edition.0 ≤ edition changes
  pub command : (last_command changes).0 ≤ length changes
  pub rows : (beam : BeamNo) → beam.0 < length net.beams → row_sum (matrix_after net changes) beam.0 ≤ net.slots
  pub columns : (beam : BeamNo) → beam.0 < length net.beams → column_sum (matrix_after net changes) beam.0 ≤ net.slots

newest_bounded : (net : Net) (changes : List Change) (one : Change) → IsGood net changes one → (newest changes).edition.0 ≤ edition changes
    → (newest (changes ++ one ∷ [])).edition.0 ≤ edition (changes ++ one ∷ [])
newest_bounded net changes (change.Edit edit) good so =
    omega (arith, so, edition-more changes edit, ap (λ (p : Plan). p.edition.0) (newest-other changes (change.Edit edit ∷ []) refl))
newest_bounded net changes (change.Install plan) good so =
    omega (arith, good.1, edition-other changes (change.Install plan) refl, ap (λ (p : Plan). p.edition.0) (newest-install changes plan))
newest_bounded net changes (change.Order order) good so =
    omega (arith, so, edition-other changes (change.Order order) refl, ap (λ (p : Plan). p.edition.0) (newest-other changes (change.Order order ∷ []) refl))

orders_same : (changes : List Change) (one : Change) → filter_map order_in (one ∷ []) ≡ [] → last_command (changes ++ one ∷ []) ≡ last_command changes
orders_same changes one none =
    ap last_of (filter_map-append order_in changes (one ∷ []) ∙ ap (λ (l : List Order). orders changes ++ l) none ∙ append-nil (orders changes))

command_bounded : (net : Net) (changes : List Change) (one : Change) → IsGood net changes one → (last_command changes).0 ≤ length changes
    → (last_command (changes ++ one ∷ [])).0 ≤ length (changes ++ one ∷ [])
command_bounded net changes (change.Edit edit) good so =
    let one = change.Edit edit in
    omega (arith, so, length-append changes (one ∷ []), ap (λ (c : Command). c.0) (orders_same changes one refl))
command_bounded net changes (change.Install plan) good so =
    let one = change.Install plan in
    omega (arith, so, length-append changes (one ∷ []), ap (λ (c : Command). c.0) (orders_same changes one refl))
command_bounded net changes (change.Order order) good so =
    let one = change.Order order in
    let last : last_command (changes ++ one ∷ []) ≡ command_of order = ap last_of (filter_map-append order_in changes (one ∷ [])) ∙ last_of-push (orders changes) order in
    omega (arith, so, good.0, length-append changes (one ∷ []), ap (λ (c : Command). c.0) last)

one_bounded : (net : Net) (changes : List Change) (one : Change) → IsGood net changes one → AreBounded net changes → AreBounded net (changes ++ one ∷ [])
one_bounded net changes one good so = record {
  newest = newest_bounded net changes one good so.newest;
  command = command_bounded net changes one good so.command;
  rows = λ beam below. row_fits net changes one beam below good (so.rows beam below);
  columns = λ beam below. column_fits net changes one beam below good (so.columns beam below);
}

bounded_from : (net : Net) (before more : List Change) → FollowFrom net before more → AreBounded net before → AreBounded net (before ++ more)
bounded_from net before [] follow so = subst (AreBounded net) (sym (append-nil before)) so
bounded_from net before (first ∷ rest) follow so =
    subst (AreBounded net) (append_assoc before (first ∷ []) rest)
    (bounded_from net (before ++ first ∷ []) rest follow.2 (one_bounded net before first follow.1 so))

-- changes that follow are bounded
pub are_bounded : (net : Net) (changes : List Change) → Follows net changes → AreBounded net changes
are_bounded net changes follow =
    let n = length net.beams in
    bounded_from net [] changes follow (record {
      newest = omega arith;
      command = omega arith;
      rows = λ beam below. omega (arith, row_sum-table n (slots_between net []) beam.0 below, sum_by-zeros (numbers_below n));
      columns = λ beam below. omega (arith, column_sum-table n (slots_between net []) beam.0 below, sum_by-zeros (numbers_below n));
    })

-- so each line is within the frame
pub lines_fit : (net : Net) (changes : List Change) → Follows net changes → HasSumsTo net.slots (matrix_after net changes)
lines_fit net changes follow (Row beam) within = (are_bounded net changes follow).rows beam (omega (arith, within, length-table (length net.beams) (slots_between net changes)))
lines_fit net changes follow (Column beam) within = (are_bounded net changes follow).columns beam (omega (arith, within, length-table (length net.beams) (slots_between net changes)))

-- and an edit adds no more than its units to each entry
pub row_with_edit : (net : Net) (changes : List Change) (edit : Edit) (up : ℕ) → up < length net.beams
    → row_sum (matrix_after net (with_edit changes edit)) up ≤ row_sum (matrix_after net changes) up + length net.beams * units_in edit
row_with_edit net changes edit up below = row-more net changes (change.Edit edit) up (units_in edit) below (λ down. given-le (between net up down) edit)

pub column_with_edit : (net : Net) (changes : List Change) (edit : Edit) (down : ℕ) → down < length net.beams
    → column_sum (matrix_after net (with_edit changes edit)) down ≤ column_sum (matrix_after net changes) down + length net.beams * units_in edit
column_with_edit net changes edit down below = column-more net changes (change.Edit edit) down (units_in edit) below (λ up. given-le (between net up down) edit)

-- The lines of the link that gains, with their slots after an edit.
use Rattle.std.proofs.Common.{◌≡◌, ℕ, ◌+◌, ◌-◌, ◌<◌, ◌≤◌, ◌==◌, if◌then◌else◌, List, length, ap, ◌∙◌, subst, arith}
use Rattle.bt_frame.specs.declared.numbers.BeamNo.{BeamNo}
use Rattle.bt_frame.specs.declared.numbers.TermNo.{TermNo}
use Rattle.bt_net.specs.Network.{Net}
use Rattle.bt_matrix.specs.Traffic.{row_sum, column_sum}
use Rattle.bt_demand.specs.declared.demand.Link.{Link}
use Rattle.bt_demand.specs.Demand.{units_of}
use Rattle.bt_demand.specs.Traffic.{matrix_of}
use Rattle.bt_net.specs.Terminals.{IsInBeam}
use Rattle.bt_journal.specs.declared.call.Edit.TheVariants.{Add, Move}
use Rattle.bt_journal.specs.declared.call.Change.{Change}
use Rattle.bt_book.specs.declared.lines.Lines.{Lines}
use Rattle.bt_history.specs.Changes.{held_after}
use Rattle.bt_history.specs.Records.{Records, KeepsUp, AddsUp}
use Rattle.bt_book.specs.Lines.{AreLinesAfter}
use Rattle.bt_history.proofs.After.{lines-Add, lines-Move, held_after-units_of}

-- the lines after a link gained
are_lines-Add : (net : Net) (changes : List Change) (links : List Link) (from to : TermNo) (units : ℕ) (up down : BeamNo) (in_row in_column : ℕ)
    → AddsUp changes links → IsInBeam net from up → IsInBeam net to down → up.0 < length net.beams → down.0 < length net.beams
    → in_row ≡ row_sum (matrix_of net links) up.0 → in_column ≡ column_sum (matrix_of net links) down.0
    → AreLinesAfter net changes (Add from to units) (record { row = up; row_slots = in_row + units; column = down; column_slots = in_column + units })
are_lines-Add net changes links from to units up down in_row in_column adds up_is down_is in_rows in_columns row_is column_is =
    let more = lines-Add net changes links from to units up down adds up_is down_is in_rows in_columns in
    record {
      from = up_is;
      to = down_is;
      row = omega (arith, more.row, row_is);
      column = omega (arith, more.column, column_is);
    }

pub now_lines-Add : (inside now : Records) (links : List Link) (from to : TermNo) (units slots : ℕ) (up down : BeamNo) (in_row in_column : ℕ)
    → inside ≡ now → KeepsUp inside.net inside.state.changes links → slots ≡ units → IsInBeam inside.net from up → IsInBeam inside.net to down
    → up.0 < length inside.net.beams → down.0 < length inside.net.beams
    → in_row ≡ row_sum (matrix_of inside.net links) up.0 → in_column ≡ column_sum (matrix_of inside.net links) down.0
    → AreLinesAfter now.net now.state.changes (Add from to units) (record { row = up; row_slots = in_row + slots; column = down; column_slots = in_column + slots })
now_lines-Add inside now links from to units slots up down in_row in_column view keeps same up_is down_is in_rows in_columns row_is column_is =
    let lines : Lines = record { row = up; row_slots = in_row + slots; column = down; column_slots = in_column + slots } in
    let are : AreLinesAfter inside.net inside.state.changes (Add from to units) lines =
    rw same (are_lines-Add inside.net inside.state.changes links from to units up down in_row in_column keeps.adds_up up_is down_is in_rows in_columns row_is column_is) in
    subst (λ (r : Records). AreLinesAfter r.net r.state.changes (Add from to units) lines) view are

-- the lines after a link gained what another lost
are_lines-Move : (net : Net) (changes : List Change) (links : List Link) (from to new_from new_to : TermNo) (units : ℕ) (up down new_up new_down : BeamNo)
    (in_row in_column of_row of_column : ℕ) → AddsUp changes links → units ≤ units_of links from to
    → IsInBeam net from up → IsInBeam net to down → IsInBeam net new_from new_up → IsInBeam net new_to new_down
    → up.0 < length net.beams → down.0 < length net.beams → new_up.0 < length net.beams → new_down.0 < length net.beams
    → in_row ≡ row_sum (matrix_of net links) new_up.0 → in_column ≡ column_sum (matrix_of net links) new_down.0
    → of_row ≡ (if up.0 == new_up.0 then units else 0) → of_column ≡ (if down.0 == new_down.0 then units else 0)
    → AreLinesAfter net changes (Move from to new_from new_to units)
    (record { row = new_up; row_slots = in_row + units - of_row; column = new_down; column_slots = in_column + units - of_column })
are_lines-Move net changes links from to new_from new_to units up down new_up new_down in_row in_column of_row of_column adds held up_is down_is new_up_is new_down_is a b c d row_is column_is of_row_is of_column_is =
    let moved = lines-Move net changes links from to new_from new_to units up down new_up new_down adds held up_is down_is new_up_is new_down_is a b c d in
    record {
      from = new_up_is;
      to = new_down_is;
      row = omega (arith, moved.row, row_is, of_row_is);
      column = omega (arith, moved.column, column_is, of_column_is);
    }

pub now_lines-Move : (inside now : Records) (links : List Link) (from to new_from new_to : TermNo) (units slots : ℕ) (up down new_up new_down : BeamNo)
    (in_row in_column of_row of_column : ℕ) → inside ≡ now → KeepsUp inside.net inside.state.changes links → slots ≡ units → units ≤ held_after now.state.changes from to
    → IsInBeam inside.net from up → IsInBeam inside.net to down → IsInBeam inside.net new_from new_up → IsInBeam inside.net new_to new_down
    → up.0 < length inside.net.beams → down.0 < length inside.net.beams → new_up.0 < length inside.net.beams → new_down.0 < length inside.net.beams
    → in_row ≡ row_sum (matrix_of inside.net links) new_up.0 → in_column ≡ column_sum (matrix_of inside.net links) new_down.0
    → of_row ≡ (if up.0 == new_up.0 then slots else 0) → of_column ≡ (if down.0 == new_down.0 then slots else 0)
    → AreLinesAfter now.net now.state.changes (Move from to new_from new_to units)
    (record { row = new_up; row_slots = in_row + slots - of_row; column = new_down; column_slots = in_column + slots - of_column })
now_lines-Move inside now links from to new_from new_to units slots up down new_up new_down in_row in_column of_row of_column view keeps same held up_is down_is new_up_is new_down_is a b c d row_is column_is of_row_is of_column_is =
    let lines : Lines = record { row = new_up; row_slots = in_row + slots - of_row; column = new_down; column_slots = in_column + slots - of_column } in
    let held_now = ap (λ (r : Records). held_after r.state.changes from to) view in
    let held_here : units ≤ units_of links from to = omega (arith, held, held_now, held_after-units_of inside.state.changes links from to keeps.adds_up) in
    let are : AreLinesAfter inside.net inside.state.changes (Move from to new_from new_to units) lines =
    rw same (are_lines-Move inside.net inside.state.changes links from to new_from new_to units up down new_up new_down in_row in_column of_row of_column keeps.adds_up held_here
    up_is down_is new_up_is new_down_is a b c d row_is column_is
    (of_row_is ∙ ap (λ (n : ℕ). if up.0 == new_up.0 then n else 0) same) (of_column_is ∙ ap (λ (n : ℕ). if down.0 == new_down.0 then n else 0) same)) in
    subst (λ (r : Records). AreLinesAfter r.net r.state.changes (Move from to new_from new_to units) lines) view are

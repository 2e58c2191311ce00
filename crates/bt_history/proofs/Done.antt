-- What an edit that was done leaves.
use Rattle.std.proofs.Common.{◌≡◌, ◌≢◌, ℕ, ◌<◌, ◌≤◌, ◌&&◌, List, [], length, get_or, option_map, sym, ap, subst, arith, ⊎_elim}
use Rattle.std.proofs.lemmas.Bool.{cases_eq}
use Rattle.std.proofs.lemmas.Option.{slice_get-get_or}
use Rattle.bt_frame.specs.declared.numbers.BeamNo.{BeamNo}
use Rattle.bt_frame.specs.declared.numbers.TermNo.{TermNo}
use Rattle.bt_frame.specs.declared.schedule.Critical.TheVariants.{Row, Column}
use Rattle.bt_net.specs.Network.{Net, IsSound}
use Rattle.bt_matrix.specs.Traffic.{row_sum, column_sum}
use Rattle.bt_demand.specs.declared.demand.Link.{Link}
use Rattle.bt_demand.specs.Demand.{Gains}
use Rattle.bt_demand.specs.Traffic.{units_between, matrix_of, HasSumsTo}
use Rattle.bt_net.specs.Terminals.{is_in_beam, IsInBeam}
use Rattle.bt_demand.proofs.Matrices.{length-matrix_of}
use Rattle.bt_journal.specs.declared.call.Edit.{Edit}
use Rattle.bt_journal.specs.declared.call.Edit.TheVariants.{Add, Drop, Move}
use Rattle.bt_journal.specs.declared.call.Change.{Change}
use Rattle.bt_journal.specs.Journal.{NamesTerminals}
use Rattle.bt_history.specs.Occupancy.{EditsLinks, HoldsTaken}
use Rattle.bt_history.specs.EditCauses.{with_edit, IsThere, IsGoodEdit}
use Rattle.bt_history.specs.Records.{AddsUp}
use Rattle.bt_demand.proofs.Tables.{LinesExceed, table-LinesExceed}
use Rattle.bt_history.proofs.After.{AddsUp-Add, AddsUp-Drop, AddsUp-Move, matrix_after-AddsUp, held_after-units_of}

-- the links add up with the edit
pub AddsUp-edit : (changes : List Change) (old new : List Link) (edit : Edit) → AddsUp changes old → EditsLinks old edit new → AddsUp (with_edit changes edit) new
AddsUp-edit changes old new (Add from to units) adds edits = AddsUp-Add changes old new from to units adds edits
AddsUp-edit changes old new (Drop from to units) adds edits = AddsUp-Drop changes old new from to units adds edits
AddsUp-edit changes old new (Move from to new_from new_to units) adds edits =
    AddsUp-Move changes old edits.0 new from to new_from new_to units adds edits.1 edits.2

-- the link that loses has what is taken
pub holds_taken : (changes : List Change) (links : List Link) (edit : Edit) → AddsUp changes links → IsThere changes edit → HoldsTaken links edit
holds_taken changes links (Add from to units) adds there = tt
holds_taken changes links (Drop from to units) adds there = omega (arith, there, held_after-units_of changes links from to adds)
holds_taken changes links (Move from to new_from new_to units) adds there = omega (arith, there, held_after-units_of changes links from to adds)

-- a terminal of the network has a beam
beam_of_terminal : (net : Net) (t : TermNo) → IsSound net → t.0 < length net.terminals → (b : BeamNo) × IsInBeam net t b × (b.0 < length net.beams)
beam_of_terminal net t sound within =
    let none : List ℕ × BeamNo = ([], record { 0 = 0 }) in
    ((get_or net.terminals t.0 none).1, ap (option_map (λ (x : List ℕ × BeamNo). x.1)) (slice_get-get_or net.terminals t.0 none within), sound.terminals.in_beam t.0 none within)

-- a line has no fewer slots where a link gained
row-le : (big small : List (List ℕ)) (up down units k : ℕ) → LinesExceed big small up down units → row_sum small k ≤ row_sum big k
row-le big small up down units k more = ⊎_elim
    (λ (e : k ≡ up). subst (λ (i : ℕ). row_sum small i ≤ row_sum big i) (sym e) (omega (arith, more.row)))
    (λ (other : k ≡ up → ⊥). omega (arith, more.other_rows k other))
    (cases_eq k up)

column-le : (big small : List (List ℕ)) (up down units k : ℕ) → LinesExceed big small up down units → column_sum small k ≤ column_sum big k
column-le big small up down units k more = ⊎_elim
    (λ (e : k ≡ down). subst (λ (i : ℕ). column_sum small i ≤ column_sum big i) (sym e) (omega (arith, more.column)))
    (λ (other : k ≡ down → ⊥). omega (arith, more.other_columns k other))
    (cases_eq k down)

-- all lines are within a number, if two are and the others are
fit_lines : (rows : List (List ℕ)) (up down most : ℕ) → row_sum rows up ≤ most → column_sum rows down ≤ most
    → ((k : ℕ) → k < length rows → k ≢ up → row_sum rows k ≤ most) → ((k : ℕ) → k < length rows → k ≢ down → column_sum rows k ≤ most) → HasSumsTo most rows
fit_lines rows up down most row column rows_fit columns_fit (Row k) within = ⊎_elim
    (λ (e : k.0 ≡ up). subst (λ (i : ℕ). row_sum rows i ≤ most) (sym e) row)
    (λ (other : k.0 ≡ up → ⊥). rows_fit k.0 within other)
    (cases_eq k.0 up)
fit_lines rows up down most row column rows_fit columns_fit (Column k) within = ⊎_elim
    (λ (e : k.0 ≡ down). subst (λ (i : ℕ). column_sum rows i ≤ most) (sym e) column)
    (λ (other : k.0 ≡ down → ⊥). columns_fit k.0 within other)
    (cases_eq k.0 down)

-- a link gained between two terminals
gained_lines : (net : Net) (old new : List Link) (from to : TermNo) (units : ℕ) (up down : BeamNo) → Gains old new from to units
    → IsInBeam net from up × (up.0 < length net.beams) → IsInBeam net to down × (down.0 < length net.beams)
    → LinesExceed (matrix_of net new) (matrix_of net old) up.0 down.0 units
gained_lines net old new from to units up down gains ups downs =
    table-LinesExceed net (length net.beams) (units_between net old) (units_between net new) from to units up down
    (λ i j. gains (λ a b. is_in_beam net i a && is_in_beam net j b)) ups.0 downs.0 ups.1 downs.1

same_length : (net : Net) (old new : List Link) (k : ℕ) → k < length (matrix_of net new) → k < length (matrix_of net old)
same_length net old new k within = omega (arith, within, length-matrix_of net old, length-matrix_of net new)

-- after a link lost, each line is within the frame still
fits_less : (net : Net) (old new : List Link) (from to : TermNo) (units : ℕ) (up : (b : BeamNo) × IsInBeam net from b × (b.0 < length net.beams))
    (down : (b : BeamNo) × IsInBeam net to b × (b.0 < length net.beams)) → Gains new old from to units
    → HasSumsTo net.slots (matrix_of net old) → HasSumsTo net.slots (matrix_of net new)
fits_less net old new from to units up down edits fits (Row k) within =
    let less = gained_lines net new old from to units up.0 down.0 edits (up.1, up.2) (down.1, down.2) in
    omega (arith, row-le _ _ up.0.0 down.0.0 units k.0 less, fits (Row k) (same_length net old new k.0 within))
fits_less net old new from to units up down edits fits (Column k) within =
    let less = gained_lines net new old from to units up.0 down.0 edits (up.1, up.2) (down.1, down.2) in
    omega (arith, column-le _ _ up.0.0 down.0.0 units k.0 less, fits (Column k) (same_length net old new k.0 within))

-- After a good edit each line is within the frame.
pub fits_after : (net : Net) (changes : List Change) (old new : List Link) (edit : Edit) → IsSound net → NamesTerminals net edit → AddsUp changes old
    → HasSumsTo net.slots (matrix_of net old) → IsGoodEdit net changes edit → EditsLinks old edit new → HasSumsTo net.slots (matrix_of net new)
fits_after net changes old new (Add from to units) sound names adds fits good edits =
    let e = Add from to units in
    let up = beam_of_terminal net from sound names.0 in
    let down = beam_of_terminal net to sound names.1 in
    let more = gained_lines net old new from to units up.0 down.0 edits (up.1, up.2) (down.1, down.2) in
    let is = matrix_after-AddsUp net (with_edit changes e) new (AddsUp-edit changes old new e adds edits) in
    let row = ap (λ (m : List (List ℕ)). row_sum m up.0.0) is in
    let column = ap (λ (m : List (List ℕ)). column_sum m down.0.0) is in
    fit_lines (matrix_of net new) up.0.0 down.0.0 net.slots
    (omega (arith, row, good.2 up.0 up.1)) (omega (arith, column, good.3 down.0 down.1))
    (λ k within other. omega (arith, more.other_rows k other, fits (Row (record { 0 = k })) (same_length net old new k within)))
    (λ k within other. omega (arith, more.other_columns k other, fits (Column (record { 0 = k })) (same_length net old new k within)))
fits_after net changes old new (Drop from to units) sound names adds fits good edits = fits_less net old new from to units
    (beam_of_terminal net from sound names.0) (beam_of_terminal net to sound names.1) edits fits
fits_after net changes old new (Move from to new_from new_to units) sound names adds fits good edits =
    let e = Move from to new_from new_to units in
    let up = beam_of_terminal net from sound names.0.0 in
    let down = beam_of_terminal net to sound names.0.1 in
    let new_up = beam_of_terminal net new_from sound names.1.0 in
    let new_down = beam_of_terminal net new_to sound names.1.1 in
    let more = gained_lines net old edits.0 new_from new_to units new_up.0 new_down.0 edits.1 (new_up.1, new_up.2) (new_down.1, new_down.2) in
    let less = gained_lines net new edits.0 from to units up.0 down.0 edits.2 (up.1, up.2) (down.1, down.2) in
    let is = matrix_after-AddsUp net (with_edit changes e) new (AddsUp-edit changes old new e adds edits) in
    let row = ap (λ (m : List (List ℕ)). row_sum m new_up.0.0) is in
    let column = ap (λ (m : List (List ℕ)). column_sum m new_down.0.0) is in
    fit_lines (matrix_of net new) new_up.0.0 new_down.0.0 net.slots
    (omega (arith, row, good.2 new_up.0 new_up.1)) (omega (arith, column, good.3 new_down.0 new_down.1))
    (λ k within other. omega (arith, row-le _ _ up.0.0 down.0.0 units k less, more.other_rows k other, fits (Row (record { 0 = k })) (same_length net old new k within)))
    (λ k within other. omega (arith, column-le _ _ up.0.0 down.0.0 units k less, more.other_columns k other, fits (Column (record { 0 = k })) (same_length net old new k within)))

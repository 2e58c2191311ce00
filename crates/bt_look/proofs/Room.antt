-- An add between two terminals, by the room of their beams.
use Rattle.std.proofs.Common.{◌≡◌, ◌≢◌, ◌↔◌, ℕ, ◌<◌, ◌≤◌, if◌then◌else◌, min, Bool, true, false, List, sym, ap, subst, arith, ⊎_elim}
use Rattle.std.proofs.Math.Nat.{min-le_left, min-le_right, le-min}
use Rattle.std.proofs.lemmas.Bool.{cases_Bool}
use Rattle.bt_frame.specs.declared.numbers.BeamNo.{BeamNo}
use Rattle.bt_frame.specs.declared.numbers.TermNo.{TermNo}
use Rattle.bt_frame.specs.declared.schedule.Critical.TheVariants.{Row, Column}
use Rattle.bt_net.specs.Network.{Net, IsSound}
use Rattle.bt_net.specs.Terminals.{IsInBeam}
use Rattle.bt_matrix.specs.Traffic.{row_sum, column_sum}
use Rattle.bt_demand.specs.declared.demand.Link.{Link}
use Rattle.bt_demand.specs.Traffic.{matrix_of}
use Rattle.bt_demand.proofs.Matrices.{length-matrix_of}
use Rattle.bt_journal.specs.declared.call.Edit.TheVariants.{Add}
use Rattle.bt_journal.specs.declared.call.Change.{Change}
use Rattle.bt_history.specs.Causes.{Follows}
use Rattle.bt_history.specs.Changes.{IsDemandAfter, matrix_after}
use Rattle.bt_history.specs.EditCauses.{IsGoodEdit, with_edit}
use Rattle.bt_history.proofs.After.{lines-Add}
use Rattle.bt_history.proofs.Demands.{keeps_any}
use Rattle.bt_look.specs.Room.{can_link, free_down, free_up, room}
use Rattle.bt_look.proofs.Ends.{Ends, beam_inside, can_be_linked, ends_of_link, one_beam}

-- the room of beams that can have a link
pub room_linked : (net : Net) (rows : List (List ℕ)) (up down : ℕ) → can_link net up down ≡ true → room net rows up down ≡ min (free_up net rows up) (free_down net rows down)
room_linked net rows up down can = ap (λ (b : Bool). if b then min (free_up net rows up) (free_down net rows down) else 0) can

-- An add between two terminals is good where it fits both lines.
good_add : (net : Net) (changes : List Change) (from to : TermNo) (up down : BeamNo) (units : ℕ) → IsInBeam net from up → IsInBeam net to down → from.0 ≢ to.0
    → row_sum (matrix_after net (with_edit changes (Add from to units))) up.0 ≤ net.slots
    → column_sum (matrix_after net (with_edit changes (Add from to units))) down.0 ≤ net.slots → IsGoodEdit net changes (Add from to units)
good_add net changes from to up down units sends receives differ row column =
    let after = matrix_after net (with_edit changes (Add from to units)) in (
      differ,
      tt,
      λ beam gains. subst (λ (b : BeamNo). row_sum after b.0 ≤ net.slots) (one_beam net from up beam sends gains) row,
      λ beam gains. subst (λ (b : BeamNo). column_sum after b.0 ≤ net.slots) (one_beam net to down beam receives gains) column,
    )

-- It is good exactly where it asks for no more than the room of their beams.
pub add_fits : (net : Net) (changes : List Change) (links : List Link) (from to : TermNo) (up down : BeamNo) (units : ℕ) → IsSound net → Follows net changes → IsDemandAfter changes links
    → IsInBeam net from up → IsInBeam net to down → from.0 ≢ to.0
    → (IsGoodEdit net changes (Add from to units) ↔ (units ≤ room net (matrix_of net links) up.0 down.0))
add_fits net changes links from to up down units sound follow is sends receives differ =
    let rows = matrix_of net links in
    let keeps = keeps_any net changes links sound follow is in
    let in_rows = beam_inside net from up sound sends in
    let in_columns = beam_inside net to down sound receives in
    let lines = lines-Add net changes links from to units up down keeps.adds_up sends receives in_rows in_columns in
    let size = length-matrix_of net links in
    let row : row_sum rows up.0 ≤ net.slots = keeps.fits (Row up) (omega (arith, size, in_rows)) in
    let column : column_sum rows down.0 ≤ net.slots = keeps.fits (Column down) (omega (arith, size, in_columns)) in
    let free = room_linked net rows up.0 down.0 (can_be_linked net from to up down sends receives differ) in
    let a = free_up net rows up.0 in
    let b = free_down net rows down.0 in (
      λ good.
          let fits_row : units ≤ a = omega (arith, lines.row, good.2 up sends) in
          let fits_column : units ≤ b = omega (arith, lines.column, good.3 down receives) in
          subst (λ (n : ℕ). units ≤ n) (sym free) (le-min fits_row fits_column),
      λ fits.
          let within : units ≤ min a b = subst (λ (n : ℕ). units ≤ n) free fits in
          good_add net changes from to up down units sends receives differ
          (omega (arith, lines.row, row, within, min-le_left a b))
          (omega (arith, lines.column, column, within, min-le_right a b)),
    )

-- where there is room, there are terminals of a link
pub room_has_ends : (net : Net) (rows : List (List ℕ)) (up down : BeamNo) → 0 < room net rows up.0 down.0 → Ends net up down
room_has_ends net rows up down some = ⊎_elim
    (λ (can : can_link net up.0 down.0 ≡ true). ends_of_link net up down can)
    (λ (cannot : can_link net up.0 down.0 ≡ false).
    let none : room net rows up.0 down.0 ≡ 0 = ap (λ (b : Bool). if b then min (free_up net rows up.0) (free_down net rows down.0) else 0) cannot in
    absurd (omega (arith, some, none)))
    (cases_Bool (can_link net up.0 down.0))

-- and no room is more than an add may ask for
pub room_is_small : (net : Net) (rows : List (List ℕ)) (up down : ℕ) → IsSound net → room net rows up down ≤ 4096
room_is_small net rows up down sound = ⊎_elim
    (λ (can : can_link net up down ≡ true). omega (arith, room_linked net rows up down can, min-le_left (free_up net rows up) (free_down net rows down), sound.slots))
    (λ (cannot : can_link net up down ≡ false).
    let none : room net rows up down ≡ 0 = ap (λ (b : Bool). if b then min (free_up net rows up) (free_down net rows down) else 0) cannot in
    omega (arith, none))
    (cases_Bool (can_link net up down))

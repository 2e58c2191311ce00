-- Links one after the other, and what each leaves of its connection.
use Rattle.std.proofs.Common.{◌≡◌, ◌≢◌, ℕ, ◌+◌, ◌*◌, ◌<◌, ◌≤◌, ◌==◌, ◌&&◌, if◌then◌else◌, List, length, take, slice_set, refl, sym, ap, ◌∙◌, subst, inl, inr, arith, length-set, get_or-set_same, get_or-set_other, eq-eqb}
use Rattle.std.specs.List.{HoldsAt}
use Rattle.std.proofs.lemmas.Bool.{cases_eq}
use Rattle.std.proofs.lemmas.Bool.Decides.{nat_tests}
use Rattle.std.proofs.lemmas.List.{take_all}
use Rattle.std.proofs.lemmas.List.Sums.{sum_by-take-le, sum_by-le-sum_by}
use Rattle.bt_frame.specs.declared.numbers.BeamNo.{BeamNo}
use Rattle.bt_frame.specs.declared.mode.Mode.{Mode}
use Rattle.bt_net.specs.Network.{Net}
use Rattle.bt_matrix.specs.Good.{slots_in, slots_of, total_duration}
use Rattle.bt_demand.specs.declared.demand.Link.{Link}
use Rattle.bt_demand.specs.Traffic.{units_between}
use Rattle.bt_net.specs.Terminals.{IsInBeam, is_in_beam}
use Rattle.bt_cut.specs.declared.connection.Connection.{Connection}
use Rattle.bt_cut.specs.declared.connection.Span.{Span}
use Rattle.bt_cut.specs.Serving.{slots_in_all, AreTurns, taken_of, HasGiven, HasSlots, IsTable}
use Rattle.bt_cut.proofs.Numbers.{slots_in-le}
use Rattle.bt_cut.proofs.Parts.{units_between-more}

-- what a link adds at its own connection, and at another
pub share-same : (up down units : ℕ) → (if up == up && down == down then units else 0) ≡ units
share-same up down units = rw (eq-eqb up up refl, eq-eqb down down refl) refl

share-other : (up down i j units : ℕ) → up * 32 + down ≢ i * 32 + j → (if up == i && down == j then units else 0) ≡ 0
share-other up down i j units other = grind (arith, nat_tests)

-- there are enough slots for one link more
pub enough_left : (net : Net) (links : List Link) (modes : List Mode) (k : ℕ) (link : Link) (up down : BeamNo) (connection : Connection) → k < length links
    → HoldsAt (λ l. l ≡ link) links k → IsInBeam net link.from up → IsInBeam net link.to down
    → units_between net links up.0 down.0 ≤ slots_of modes up.0 down.0
    → HasSlots modes up.0 down.0 (length modes) (units_between net (take k links) up.0 down.0) connection
    → taken_of connection + link.units ≤ slots_in_all connection.spans.items
enough_left net links modes k link up down connection within is sends receives carried has =
    let more = units_between-more net links k link up down up.0 down.0 within is sends receives in
    let units = share-same up.0 down.0 link.units in
    let le = sum_by-take-le (λ (l : Link). if is_in_beam net up.0 l.from && is_in_beam net down.0 l.to then l.units else 0) links (k + 1) in
    let all = ap (λ (ms : List Mode). slots_of ms up.0 down.0) (take_all (length modes) modes (omega arith)) in
    omega (arith, more, units, le, all, carried, has.all, has.so_many)

-- the table after a link took its slots
pub IsTable-given : (net : Net) (links : List Link) (modes : List Mode) (beams k : ℕ) (link : Link) (up down : BeamNo) (table : List Connection) (old new : Connection)
    → beams ≤ 32 → k < length links → HoldsAt (λ l. l ≡ link) links k → IsInBeam net link.from up → IsInBeam net link.to down → up.0 < beams → down.0 < beams
    → HasSlots modes up.0 down.0 (length modes) (units_between net (take k links) up.0 down.0) old → HasGiven old new link.units
    → IsTable modes beams (length modes) (units_between net (take k links)) table
    → IsTable modes beams (length modes) (units_between net (take (k + 1) links)) (slice_set table (up.0 * 32 + down.0) new)
IsTable-given net links modes beams k link up down table old new few within is sends receives in_rows in_columns has given before =
    let at = up.0 * 32 + down.0 in
    let more = λ (i j : ℕ). units_between-more net links k link up down i j within is sends receives in
    record {
      count = length-set table at new ∙ before.count;
      each = λ i j other row column.
          elim (cases_eq (i * 32 + j) at) [
            | inl same ↦
                let row_is : i ≡ up.0 = omega arith in
                let column_is : j ≡ down.0 = omega arith in
                rw (row_is, column_is, get_or-set_same table at new other (omega (arith, before.count)))
                (record {
                  turns = subst (λ (spans : List Span). AreTurns modes up.0 down.0 spans) (sym given.spans) has.turns;
                  all = ap slots_in_all given.spans ∙ has.all;
                  ready = given.ready;
                  so_many = given.taken ∙ omega (arith, has.so_many, more up.0 down.0, share-same up.0 down.0 link.units);
                })
            | inr apart ↦
                let was = before.each i j other row column in
                let none : (if up.0 == i && down.0 == j then link.units else 0) ≡ 0 = share-other up.0 down.0 i j link.units (λ equal. apart (sym equal)) in
                rw (get_or-set_other table at (i * 32 + j) new other apart)
                (record { turns = was.turns; all = was.all; ready = was.ready; so_many = was.so_many ∙ omega (arith, more i j, none) })
          ];
    }

-- a connection has no more slots than the modes
pub slots_few : (modes : List Mode) (up down : ℕ) → slots_of modes up down ≤ total_duration modes
slots_few modes up down = sum_by-le-sum_by (slots_in up down) (λ (mode : Mode). mode.duration) modes (λ mode. slots_in-le up down mode)

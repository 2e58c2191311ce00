-- The traffic matrix after one more edit, by the demand before it.
use Rattle.std.proofs.Common.{◌≡◌, ◌≢◌, ℕ, ◌+◌, ◌-◌, ◌<◌, ◌≤◌, ◌==◌, ◌&&◌, if◌then◌else◌, Bool, List, [], ◌∷◌, ◌++◌, length, sum_by, refl, sym, subst, arith, ⊎_elim}
use Rattle.std.proofs.lemmas.Bool.{cases_eq}
use Rattle.std.proofs.lemmas.Bool.Decides.{nat_tests}
use Rattle.std.proofs.lemmas.List.Sums.{sum_by-append, sum_by-cons}
use Rattle.bt_frame.specs.declared.numbers.BeamNo.{BeamNo}
use Rattle.bt_frame.specs.declared.numbers.TermNo.{TermNo}
use Rattle.bt_net.specs.Network.{Net}
use Rattle.bt_matrix.specs.Traffic.{row_sum, column_sum}
use Rattle.bt_demand.specs.declared.demand.Link.{Link}
use Rattle.bt_demand.specs.Demand.{units_where, units_of, Gains}
use Rattle.bt_demand.specs.Traffic.{units_between, matrix_of, table_of}
use Rattle.bt_net.specs.Terminals.{is_in_beam, IsInBeam}
use Rattle.bt_journal.specs.declared.call.Edit.{Edit}
use Rattle.bt_journal.specs.declared.call.Edit.TheVariants.{Add, Drop, Move}
use Rattle.bt_journal.specs.declared.call.Change.{Change}
use Rattle.bt_journal.specs.declared.call.Change.TheVariants as change
use Rattle.bt_history.specs.Changes.{edits_in, given, taken_from, slots_after, held_after, slots_between, matrix_after}
use Rattle.bt_history.specs.EditCauses.{with_edit}
use Rattle.bt_history.specs.Records.{AddsUp}
use Rattle.bt_demand.proofs.Tables.{same_tables, LinesExceed, table-LinesExceed}
use Rattle.bt_history.proofs.Shares.{units_of-in-beams}

-- what one more change gives and takes
given-more : (test : TermNo → TermNo → Bool) (changes : List Change) (edit : Edit)
    → sum_by (given test) (with_edit changes edit) ≡ sum_by (given test) changes + given test (change.Edit edit)
given-more test changes edit =
    let behind = sum_by-append (given test) changes (change.Edit edit ∷ []) in
    let one = sum_by-cons (given test) (change.Edit edit) [] in
    omega (arith, behind, one)

taken-more : (test : TermNo → TermNo → Bool) (changes : List Change) (edit : Edit)
    → sum_by (taken_from test) (with_edit changes edit) ≡ sum_by (taken_from test) changes + taken_from test (change.Edit edit)
taken-more test changes edit =
    let behind = sum_by-append (taken_from test) changes (change.Edit edit ∷ []) in
    let one = sum_by-cons (taken_from test) (change.Edit edit) [] in
    omega (arith, behind, one)

-- the slots that the links have are those after the changes
pub slots_after-AddsUp : (changes : List Change) (links : List Link) → AddsUp changes links
    → (test : TermNo → TermNo → Bool) → units_where test links ≡ slots_after test changes
slots_after-AddsUp changes links adds test = omega (arith, adds test)

-- the traffic matrix after the changes is that of the links
pub matrix_after-AddsUp : (net : Net) (changes : List Change) (links : List Link) → AddsUp changes links
    → matrix_after net changes ≡ matrix_of net links
matrix_after-AddsUp net changes links adds = same_tables (length net.beams) (units_between net links) (slots_between net changes)
    (λ i j. sym (slots_after-AddsUp changes links adds (λ from to. is_in_beam net i from && is_in_beam net j to)))

-- the slots after one more edit
pub slots_after-more : (changes : List Change) (links : List Link) (edit : Edit) → AddsUp changes links → (test : TermNo → TermNo → Bool)
    → slots_after test (with_edit changes edit) ≡ units_where test links + given test (change.Edit edit) - taken_from test (change.Edit edit)
slots_after-more changes links edit adds test =
    omega (arith, adds test, given-more test changes edit, taken-more test changes edit)

pub given-other : (test : TermNo → TermNo → Bool) (one : Change) → edits_in one ≡ 0 → given test one ≡ 0
given-other test (change.Edit _) none = absurd (omega (arith, none))
given-other test (change.Install _) none = refl
given-other test (change.Order _) none = refl

pub taken-other : (test : TermNo → TermNo → Bool) (one : Change) → edits_in one ≡ 0 → taken_from test one ≡ 0
taken-other test (change.Edit _) none = absurd (omega (arith, none))
taken-other test (change.Install _) none = refl
taken-other test (change.Order _) none = refl

-- a plan or an order changes no link
pub AddsUp-other : (changes : List Change) (links : List Link) (one : Change) → edits_in one ≡ 0 → AddsUp changes links → AddsUp (changes ++ one ∷ []) links
AddsUp-other changes links one none adds test =
    omega (
      arith,
      adds test,
      given-other test one none,
      taken-other test one none,
      sum_by-append (given test) changes (one ∷ []),
      sum_by-cons (given test) one [],
      sum_by-append (taken_from test) changes (one ∷ []),
      sum_by-cons (taken_from test) one [],
    )

-- a link that gained, lost or moved adds up with the edit
pub AddsUp-Add : (changes : List Change) (old new : List Link) (from to : TermNo) (units : ℕ) → AddsUp changes old → Gains old new from to units
    → AddsUp (with_edit changes (Add from to units)) new
AddsUp-Add changes old new from to units adds gains test =
    let e = Add from to units in
    omega (arith, adds test, gains test, given-more test changes e, taken-more test changes e)

pub AddsUp-Drop : (changes : List Change) (old new : List Link) (from to : TermNo) (units : ℕ) → AddsUp changes old → Gains new old from to units
    → AddsUp (with_edit changes (Drop from to units)) new
AddsUp-Drop changes old new from to units adds loses test =
    let e = Drop from to units in
    omega (arith, adds test, loses test, given-more test changes e, taken-more test changes e)

pub AddsUp-Move : (changes : List Change) (old mid new : List Link) (from to new_from new_to : TermNo) (units : ℕ) → AddsUp changes old
    → Gains old mid new_from new_to units → Gains new mid from to units → AddsUp (with_edit changes (Move from to new_from new_to units)) new
AddsUp-Move changes old mid new from to new_from new_to units adds gains loses test =
    let e = Move from to new_from new_to units in
    omega (arith, adds test, gains test, loses test, given-more test changes e, taken-more test changes e)

-- what an Add makes of the lines
pub lines-Add : (net : Net) (changes : List Change) (links : List Link) (from to : TermNo) (units : ℕ) (up down : BeamNo) → AddsUp changes links
    → IsInBeam net from up → IsInBeam net to down → up.0 < length net.beams → down.0 < length net.beams
    → LinesExceed (matrix_after net (with_edit changes (Add from to units))) (matrix_of net links) up.0 down.0 units
lines-Add net changes links from to units up down adds up_is down_is in_rows in_columns =
    let e = Add from to units in
    table-LinesExceed net (length net.beams) (units_between net links) (slots_between net (with_edit changes e)) from to units up down
    (λ i j. omega (arith, slots_after-more changes links e adds (λ a b. is_in_beam net i a && is_in_beam net j b))) up_is down_is in_rows in_columns

-- What a Move makes of the lines of the link that gains: what it takes from them first is gone.
pub record LinesMove (new old : List (List ℕ)) (up down new_up new_down units : ℕ) : Type 0 where
  pub row : row_sum new new_up + (if up == new_up then units else 0) ≡ row_sum old new_up + units
  pub column : column_sum new new_down + (if down == new_down then units else 0) ≡ column_sum old new_down + units

-- a sum that the taking lowers where its line is the same
lowered : (new mid old : ℕ → ℕ) (at other units : ℕ) → new other ≡ mid other + units → old at ≡ mid at + units
    → ((k : ℕ) → k ≢ at → old k ≡ mid k) → new other + (if at == other then units else 0) ≡ old other + units
lowered new mid old at other units gained lost same = ⊎_elim
    (λ (e : at ≡ other). let there : old other ≡ mid other + units = subst (λ (k : ℕ). old k ≡ mid k + units) e lost in
    grind (arith, nat_tests, e, there, gained))
    (λ (d : at ≡ other → ⊥). let there = same other (λ e. d (sym e)) in grind (arith, nat_tests, d, there, gained))
    (cases_eq at other)

by_both : (new mid old : List (List ℕ)) (up down new_up new_down units : ℕ) → LinesExceed old mid up down units → LinesExceed new mid new_up new_down units
    → LinesMove new old up down new_up new_down units
by_both new mid old up down new_up new_down units lost gained = record {
  row = lowered (row_sum new) (row_sum mid) (row_sum old) up new_up units gained.row lost.row lost.other_rows;
  column = lowered (column_sum new) (column_sum mid) (column_sum old) down new_down units gained.column lost.column lost.other_columns;
}

pub lines-Move : (net : Net) (changes : List Change) (links : List Link) (from to new_from new_to : TermNo) (units : ℕ) (up down new_up new_down : BeamNo)
    → AddsUp changes links → units ≤ units_of links from to → IsInBeam net from up → IsInBeam net to down → IsInBeam net new_from new_up → IsInBeam net new_to new_down
    → up.0 < length net.beams → down.0 < length net.beams → new_up.0 < length net.beams → new_down.0 < length net.beams
    → LinesMove (matrix_after net (with_edit changes (Move from to new_from new_to units))) (matrix_of net links) up.0 down.0 new_up.0 new_down.0 units
lines-Move net changes links from to new_from new_to units up down new_up new_down adds held up_is down_is new_up_is new_down_is a b c d =
    let e = Move from to new_from new_to units in
    let n = length net.beams in
    let mid : ℕ → ℕ → ℕ = λ i j. units_between net links i j - (if is_in_beam net i from && is_in_beam net j to then units else 0) in
    let lost = table-LinesExceed net n mid (units_between net links) from to units up down
    (λ i j. omega (arith, units_of-in-beams net links from to units i j held)) up_is down_is a b in
    let gained = table-LinesExceed net n mid (slots_between net (with_edit changes e)) new_from new_to units new_up new_down
    (λ i j. omega (arith, units_of-in-beams net links from to units i j held, slots_after-more changes links e adds (λ p q. is_in_beam net i p && is_in_beam net j q)))
    new_up_is new_down_is c d in
    by_both _ (table_of n mid) _ up.0 down.0 new_up.0 new_down.0 units lost gained

-- the slots of a link are those after the changes
pub held_after-units_of : (changes : List Change) (links : List Link) (from to : TermNo) → AddsUp changes links → units_of links from to ≡ held_after changes from to
held_after-units_of changes links from to adds = slots_after-AddsUp changes links adds (λ a b. a.0 == from.0 && b.0 == to.0)

-- Links taken in one after the other: each stands in its place, and the sums of its lines gain.
use Rattle.std.proofs.Common.{◌≡◌, ℕ, ◌+◌, ◌<◌, ◌≤◌, ◌==◌, ◌&&◌, if◌then◌else◌, Bool, true, false, cond, leb, List, [], ◌∷◌, length, replicate, All, AllPairs, Option, Some, None, Ok, Err, sum_by, unwrap_or, option_map, refl, sym, ap, ◌∙◌, arith, lit<}
use Rattle.std.proofs.lemmas.Bool.{and_parts, le-leb, lt-leb, leb-true}
use Rattle.std.proofs.lemmas.Bool.Decides.{nat_tests}
use Rattle.std.proofs.lemmas.List.Elements.{All-nil, All-cons, All-head, All-tail}
use Rattle.std.proofs.lemmas.List.Kept.{AllPairs-cons}
use Rattle.std.proofs.lemmas.List.Sums.{sum_by-cons}
use Rattle.bt_text.specs.Reading.{◌>>=◌, or_fault, IsFaultOf}
use Rattle.bt_text.specs.Text.{words, lines, number_of, capped}
use Rattle.bt_text.proofs.FirstLine.{lines-HasFirst}
use Rattle.bt_frame.specs.declared.numbers.BeamNo.{BeamNo}
use Rattle.bt_frame.specs.declared.numbers.TermNo.{TermNo}
use Rattle.bt_matrix.specs.Traffic.{row_of, entry, row_sum, column_sum, with_entry, IsTraffic}
use Rattle.bt_matrix.proofs.Lines.{IsTraffic-replicate}
use Rattle.bt_matrix.proofs.Writes.{length-row, IsTraffic-with_entry}
use Rattle.bt_net.specs.Network.{Net}
use Rattle.bt_demand.specs.declared.demand.Link.{Link}
use Rattle.bt_plan.specs.declared.text_fault.TextCode.TheVariants.{T1, T2, T3, T5}
use Rattle.bt_plan.specs.declared.text_fault.TextCode.{TextCode}
use Rattle.bt_text.specs.declared.fault.LineFault.{LineFault}
use Rattle.bt_text.specs.declared.fault.LineFault.TheVariants.{At, OutOfMemory}
use Rattle.bt_demand.specs.Demand.{ends_of, IsBefore, IsLink, IsDemand, units_of, Gains}
use Rattle.bt_net.specs.Terminals.{beam_at}
use Rattle.bt_net.specs.Name.{are_names}
use Rattle.bt_plan.specs.Reading.{Fault, Reading}
use Rattle.bt_demand.specs.Traffic.{matrix_of}
use Rattle.bt_plan.specs.TrafficText.{belongs_before, with_link, row_fits, column_fits, fitting, links_with, line_with, links_in, units_in, link_between, link_with, named_link, AreRead}
use Rattle.bt_plan.specs.TerminalNames.{ends_in}
use Rattle.bt_plan.proofs.Capped.{leb-capped, leb-one-capped, capped-small, cond-at_true}
use Rattle.bt_demand.proofs.Links.{before_trans, units_at}
use Rattle.bt_demand.proofs.Matrices.{length-matrix_of, matrix_of-none, matrix_of-Gains, row_sum-gained, column_sum-gained}
use Rattle.bt_demand.proofs.SameDemand.{units_for, units_for-cons, tail_is, first_is_before, same_demands}

-- what holds of both choices holds of the choice
chosen : {A : Type 0} (P : A → Type 0) (test : Bool) (x y : A) → (test ≡ true → P x) → (test ≡ false → P y) → P (cond test x y)
chosen P true x y h k = h refl
chosen P false x y h k = k refl

-- what holds of the links and of one more holds of all
pub with_link-All : (P : Link → Type 0) (link : Link) (links : List Link) → P link → All P links → All P (with_link link links)
with_link-All P link [] here all = All-cons P link [] here all
with_link-All P link (first ∷ rest) here all =
    chosen (All P) (belongs_before link first) (link ∷ first ∷ rest) (first ∷ with_link link rest)
    (λ _. All-cons P link (first ∷ rest) here all)
    (λ _. All-cons P first (with_link link rest) (All-head P first rest all) (with_link-All P link rest here (All-tail P first rest all)))

-- one link more
pub length-with_link : (link : Link) (links : List Link) → length (with_link link links) ≡ length links + 1
length-with_link link [] = refl
length-with_link link (first ∷ rest) =
    chosen (λ (ls : List Link). length ls ≡ length (first ∷ rest) + 1) (belongs_before link first) (link ∷ first ∷ rest) (first ∷ with_link link rest)
    (λ _. omega arith) (λ _. omega (arith, length-with_link link rest))

-- the link gains its units
pub with_link-Gains : (link : Link) (links : List Link) → Gains links (with_link link links) link.from link.to link.units
with_link-Gains link [] test =
    let share = λ (l : Link). if test l.from l.to then l.units else 0 in
    omega (arith, sum_by-cons share link [])
with_link-Gains link (first ∷ rest) test =
    let share = λ (l : Link). if test l.from l.to then l.units else 0 in
    chosen (λ (ls : List Link). sum_by share ls ≡ sum_by share (first ∷ rest) + share link) (belongs_before link first) (link ∷ first ∷ rest) (first ∷ with_link link rest)
    (λ _. omega (arith, sum_by-cons share link (first ∷ rest)))
    (λ _. omega (arith, sum_by-cons share first (with_link link rest), sum_by-cons share first rest, with_link-Gains link rest test))

-- the order that is tested
tested_before : (a b : Link) → belongs_before a b ≡ true → IsBefore (ends_of a) (ends_of b)
tested_before a b is = record { from = grind (arith, nat_tests); to = λ same. grind (arith, nat_tests) }

tested_behind : (a b : Link) → belongs_before a b ≡ false → (a.from.0 ≡ b.from.0 → a.to.0 ≡ b.to.0 → ⊥) → IsBefore (ends_of b) (ends_of a)
tested_behind a b is other = record { from = grind (arith, nat_tests); to = λ same. grind (arith, nat_tests, other) }

-- a link that has slots is not one that has none
other_ends : (link first : Link) (rest : List Link) → IsDemand (first ∷ rest) → units_for (first ∷ rest) (ends_of link) ≡ 0 → link.from.0 ≡ first.from.0 → link.to.0 ≡ first.to.0 → ⊥
other_ends link first rest is none from to =
    let some : 0 < first.units = (is.each 0 first (omega arith)).some in
    let here : units_at (ends_of link) first ≡ 0 = omega (arith, units_for-cons first rest (ends_of link)) in
    grind (arith, nat_tests, some, here)

-- a link that had no slots stands in its order
with_link-ordered : (link : Link) (links : List Link) → IsDemand links → units_for links (ends_of link) ≡ 0 → AllPairs (λ a b. IsBefore (ends_of a) (ends_of b)) (with_link link links)
with_link-ordered link [] is none = AllPairs-cons (λ a b. IsBefore (ends_of a) (ends_of b)) link [] (All-nil (λ b. IsBefore (ends_of link) (ends_of b))) is.ordered
with_link-ordered link (first ∷ rest) is none =
    let R : Link → Link → Type 0 = λ a b. IsBefore (ends_of a) (ends_of b) in
    let behind = first_is_before first rest is in
    chosen (AllPairs R) (belongs_before link first) (link ∷ first ∷ rest) (first ∷ with_link link rest)
    (λ before.
    let here = tested_before link first before in
    AllPairs-cons R link (first ∷ rest) (All-cons (R link) first rest here (λ k d within. before_trans (ends_of link) (ends_of first) _ here (behind k d within))) is.ordered)
    (λ not_before.
    let here = tested_behind link first not_before (other_ends link first rest is none) in
    AllPairs-cons R first (with_link link rest) (with_link-All (R first) link rest here behind)
    (with_link-ordered link rest (tail_is first rest is) (omega (arith, units_for-cons first rest (ends_of link)))))

pub with_link-IsDemand : (link : Link) (links : List Link) → IsDemand links → IsLink link → units_of links link.from link.to ≡ 0 → IsDemand (with_link link links)
with_link-IsDemand link links is one none = record {
  ordered = with_link-ordered link links is none;
  each = with_link-All IsLink link links one is.each;
}

-- a demand whose link gained is the one with that link in its place
pub is_with_link : (link : Link) (old new : List Link) → IsDemand old → IsDemand new → IsLink link → units_of old link.from link.to ≡ 0
    → Gains old new link.from link.to link.units → new ≡ with_link link old
is_with_link link old new is is_new one none gains =
    same_demands new (with_link link old) is_new (with_link-IsDemand link old is one none) (λ e.
    let test = λ (a b : TermNo). a.0 == e.0.0 && b.0 == e.1.0 in
    gains test ∙ sym (with_link-Gains link old test))

-- a link that had no slots, between these beams
module _ (net : Net) (links : List Link) (link : Link) (up down : BeamNo) (none : units_of links link.from link.to ≡ 0) (traffic : IsTraffic (matrix_of net links))
    (up_is : beam_at net link.from ≡ Some up) (down_is : beam_at net link.to ≡ Some down) (in_rows : up.0 < length net.beams) (in_columns : down.0 < length net.beams) where
  -- the matrix with the link
  pub next : matrix_of net (with_link link links) ≡ with_entry (matrix_of net links) up.0 down.0 (entry (matrix_of net links) up.0 down.0 + link.units)
  next = matrix_of-Gains net links (with_link link links) link.from link.to link.units up down (with_link-Gains link links) up_is down_is in_rows in_columns

  up_in : up.0 < length (matrix_of net links)
  up_in = omega (arith, length-matrix_of net links)

  down_in : down.0 < length (matrix_of net links)
  down_in = omega (arith, length-matrix_of net links)

  in_row : down.0 < length (row_of (matrix_of net links) up.0)
  in_row = omega (arith, length-row (matrix_of net links) up.0 traffic up_in, down_in)

  row : row_sum (matrix_of net (with_link link links)) up.0 ≡ row_sum (matrix_of net links) up.0 + link.units
  row = ap (λ (m : List (List ℕ)). row_sum m up.0) next ∙ row_sum-gained (matrix_of net links) up.0 down.0 link.units up_in in_row

  column : column_sum (matrix_of net (with_link link links)) down.0 ≡ column_sum (matrix_of net links) down.0 + link.units
  column = ap (λ (m : List (List ℕ)). column_sum m down.0) next ∙ column_sum-gained (matrix_of net links) up.0 down.0 link.units up_in in_row

  row_tested : row_fits net (with_link link links) link.from ≡ leb (row_sum (matrix_of net links) up.0 + link.units) 1048576
  row_tested =
      ap (λ (o : Option BeamNo). unwrap_or (option_map (λ (u : BeamNo). leb (row_sum (matrix_of net (with_link link links)) u.0) 1048576) o) false) up_is
      ∙ ap (λ (n : ℕ). leb n 1048576) row

  column_tested : column_fits net (with_link link links) link.to ≡ leb (column_sum (matrix_of net links) down.0 + link.units) 1048576
  column_tested =
      ap (λ (o : Option BeamNo). unwrap_or (option_map (λ (d : BeamNo). leb (column_sum (matrix_of net (with_link link links)) d.0) 1048576) o) false) down_is
      ∙ ap (λ (n : ℕ). leb n 1048576) column

  -- the link is taken where both sums are within the limit
  abbrev tested : ℕ → Bool → Bool → Reading (List Link)
  tested at a b = cond (a && b) (Ok (with_link link links)) (Err (T3, at))

  by_sums : (at : ℕ) → links_with net at links link ≡ tested at (leb (row_sum (matrix_of net links) up.0 + link.units) 1048576) (leb (column_sum (matrix_of net links) down.0 + link.units) 1048576)
  by_sums at =
      ap (λ (n : ℕ). cond (leb 1 n) (Err (T5, at)) (fitting at net (with_link link links) link)) none
      ∙ (ap (λ (a : Bool). tested at a (column_fits net (with_link link links) link.to)) row_tested
      ∙ ap (tested at (leb (row_sum (matrix_of net links) up.0 + link.units) 1048576)) column_tested)

  pub row_passes : (at : ℕ) → 1048576 < row_sum (matrix_of net links) up.0 + link.units → links_with net at links link ≡ Err (T3, at)
  row_passes at more = by_sums at ∙ rw (lt-leb _ _ more) refl

  pub column_passes : (at : ℕ) → row_sum (matrix_of net links) up.0 + link.units ≤ 1048576 → 1048576 < column_sum (matrix_of net links) down.0 + link.units → links_with net at links link ≡ Err (T3, at)
  column_passes at row_within more = by_sums at ∙ rw (le-leb _ _ row_within, lt-leb _ _ more) refl

  pub both_fit : (at : ℕ) → row_sum (matrix_of net links) up.0 + link.units ≤ 1048576 → column_sum (matrix_of net links) down.0 + link.units ≤ 1048576 → links_with net at links link ≡ Ok (with_link link links)
  both_fit at row_within column_within = by_sums at ∙ rw (le-leb _ _ row_within, le-leb _ _ column_within) refl

  -- and the matrix stays a traffic matrix
  pub still_traffic : row_sum (matrix_of net links) up.0 + link.units ≤ 1048576 → column_sum (matrix_of net links) down.0 + link.units ≤ 1048576 → IsTraffic (matrix_of net (with_link link links))
  still_traffic row_within column_within =
      let row_is = ap (λ (m : List (List ℕ)). row_sum m up.0) next in
      let column_is = ap (λ (m : List (List ℕ)). column_sum m down.0) next in
      rw next (IsTraffic-with_entry (matrix_of net links) up.0 down.0 (entry (matrix_of net links) up.0 down.0 + link.units) traffic up_in down_in (omega (arith, row, row_is)) (omega (arith, column, column_is)))

-- units as they are capped
units_in-capped : (at n : ℕ) → units_in at n ≡ units_in at (capped n)
units_in-capped at n =
    rw (leb-capped 4096 n (lit< tt), leb-one-capped n)
    (cond-at_true (leb 1 n && leb n 4096) (Ok n) (Ok (capped n)) (Err (T3, at))
    (λ e. let within = and_parts (leb 1 n) (leb n 4096) e in ap (λ (m : ℕ). Ok m) (sym (capped-small 4096 n (lit< tt) (leb-true n 4096 within.1)))))

link_with-capped : (net : Net) (at : ℕ) (from to : List ℕ) (n : ℕ) → link_with net at from to n ≡ link_with net at from to (capped n)
link_with-capped net at from to n =
    ap (λ (reading : Reading ℕ). ends_in net (T2, at) from to >>= λ ends. reading >>= λ units. link_between at ends units) (units_in-capped at n)

by_number : (net : Net) (at : ℕ) (from to : List ℕ) (n : ℕ) (o : Option ℕ) → Some n ≡ option_map capped o
    → (or_fault {Fault = Fault} (T1, at) o >>= λ number. link_with net at from to number) ≡ link_with net at from to n
by_number net at from to n None is = absurd cc
by_number net at from to n (Some m) is =
    let held : n ≡ capped m = cc in
    link_with-capped net at from to m ∙ ap (link_with net at from to) (sym held)

-- the link of two names and of a word that is a number
pub named_by_number : (net : Net) (at : ℕ) (from to units : List ℕ) (n : ℕ) → are_names from to ≡ true → Some n ≡ option_map capped (number_of units)
    → named_link net at from to units ≡ link_with net at from to n
named_by_number net at from to units n named is = rw named (by_number net at from to n (number_of units) is)

-- no link was read yet
pub none_read : (net : Net) → 1 ≤ length net.beams → length net.beams ≤ 32 → AreRead net [] (replicate (length net.beams) (replicate (length net.beams) 0))
none_read net some few = record {
  demand = record { ordered = λ i j d lt within. absurd (omega arith); each = All-nil IsLink };
  terminals = All-nil (λ (l : Link). (l.from.0 < length net.terminals) × (l.to.0 < length net.terminals));
  traffic = rw (matrix_of-none net) (IsTraffic-replicate (length net.beams) some few);
  matrix = sym (matrix_of-none net);
}

-- the first line, and those that follow it
links_in-line : (net : Net) (at : ℕ) (links : List Link) (line after : List ℕ) → links_in net at links (line ∷ lines after) ≡ (line_with net at links (words line) >>= λ more. links_in net (at + 1) more (lines after))
links_in-line net at links line after =
    let next_line = lines-HasFirst after in
    rw next_line.2 refl

-- one line further
pub goes_on : (net : Net) (at : ℕ) (links more : List Link) (ls : List (List ℕ)) (line after : List ℕ) (total : Reading (List Link))
    → ls ≡ line ∷ lines after → line_with net at links (words line) ≡ Ok more → links_in net at links ls ≡ total → links_in net (at + 1) more (lines after) ≡ total
goes_on net at links more ls line after total cut read so_far =
    let first : links_in net at links ls ≡ links_in net (at + 1) more (lines after) = ap (links_in net at links) cut ∙ links_in-line net at links line after ∙ rw read refl in
    sym first ∙ so_far

-- the fault of a line is the text's
pub ends : (e : LineFault TextCode) (net : Net) (at : ℕ) (links : List Link) (ls : List (List ℕ)) (line after : List ℕ) (total : Reading (List Link))
    → ls ≡ line ∷ lines after → IsFaultOf (line_with net at links (words line)) e → links_in net at links ls ≡ total → IsFaultOf total e
ends OutOfMemory net at links ls line after total cut read so_far = tt
ends (At code line') net at links ls line after total cut read so_far =
    let first : links_in net at links ls ≡ Err (code, line') = ap (links_in net at links) cut ∙ links_in-line net at links line after ∙ rw read refl in
    sym so_far ∙ first

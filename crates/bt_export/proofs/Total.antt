-- All slots of a demand that fits its frame are few, and so are those of each line of a demand that has no more of them.
use Rattle.std.proofs.Common.{◌≡◌, ℕ, ◌<◌, ◌≤◌, ◌&&◌, if◌then◌else◌, Bool, true, false, List, [], length, map, get_or, slice_get, sum, sum_by, refl, ap, ◌∙◌, zero-add, arith}
use Rattle.std.specs.List.{range_with_len}
use Rattle.std.proofs.lemmas.Bool.{eq-eqb}
use Rattle.std.proofs.lemmas.List.FromFn.{length-range_with_len, get_or-range_with_len, get_or-map-range_with_len}
use Rattle.std.proofs.lemmas.List.Sums.{get_or-le-sum_by, sum-map, sum_by-le, sum_by-le-sum_by}
use Rattle.bt_frame.specs.declared.limits.TheConstants.{MOST_SUM}
use Rattle.bt_frame.specs.declared.numbers.TermNo.{TermNo}
use Rattle.bt_frame.specs.declared.schedule.Critical.TheVariants.{Row, Column}
use Rattle.bt_frame.proofs.Counts.{sum_by-exchange, sum_by-le-within}
use Rattle.bt_net.specs.Network.{Net, IsSound}
use Rattle.bt_net.specs.Terminals.{IsTerminal, is_in_beam}
use Rattle.bt_matrix.specs.Traffic.{row_sum}
use Rattle.bt_demand.specs.declared.demand.Link.{Link}
use Rattle.bt_demand.specs.Demand.{units_where}
use Rattle.bt_demand.specs.Traffic.{AreOfNetwork, HasSumsTo, matrix_of, units_between}
use Rattle.bt_demand.proofs.Matrices.{length-matrix_of}
use Rattle.bt_demand.proofs.Tables.{in_its_beam}
use Rattle.bt_demand.proofs.LineSums.{column_sum-le-units, row_sum-le-units}
use Rattle.bt_look.proofs.Adds.{beam_of_terminal}
use Rattle.bt_look.proofs.Ends.{beam_inside}

-- the slots of all links
abbrev pub all_units : List Link → ℕ
all_units links = units_where (λ from to. true) links

-- the beam in which a terminal is
record InBeam (net : Net) (terminal : TermNo) : Type 0 where
  beam : ℕ
  below : beam < length net.beams
  inside : is_in_beam net beam terminal ≡ true

its_beam : (net : Net) (terminal : TermNo) → IsSound net → IsTerminal net terminal → InBeam net terminal
its_beam net terminal sound is =
    let found = beam_of_terminal net terminal is in
    let beam = found.0.0 in
    record {
      beam = beam;
      below = beam_inside net terminal found.0 sound found.1;
      inside = in_its_beam (slice_get net.terminals terminal.0) found.0 beam found.1 ∙ eq-eqb beam beam refl;
    }

-- what a function gives of a number is among what it gives of all below a bound
among_all : (f : ℕ → ℕ) (n j : ℕ) → j < n → f j ≤ sum_by f (range_with_len 0 n)
among_all f n j below =
    let at : get_or (range_with_len 0 n) j 0 ≡ j = omega (arith, get_or-range_with_len 0 n j 0 below) in
    let within : j < length (range_with_len 0 n) = omega (arith, length-range_with_len 0 n) in
    omega (arith, ap f at, get_or-le-sum_by f (range_with_len 0 n) j 0 within)

-- so a link is counted in the beam of its terminal
in_its_own : (net : Net) (first : Bool) (terminal : TermNo) (units : ℕ) → InBeam net terminal
    → (if first then units else 0) ≤ sum_by (λ beam. if first && is_in_beam net beam terminal then units else 0) (range_with_len 0 (length net.beams))
in_its_own net true terminal units at =
    let share = λ (beam : ℕ). let s : ℕ = if is_in_beam net beam terminal then units else 0 in s in
    let here : share at.beam ≡ units = ap (λ (b : Bool). let s : ℕ = if b then units else 0 in s) at.inside in
    omega (arith, here, among_all share (length net.beams) at.beam at.below)
in_its_own net false terminal units at = omega arith

-- the links that begin in a beam have no more slots than its row
begin_in_row : (net : Net) (links : List Link) (up : ℕ) → IsSound net → AreOfNetwork net links → up < length net.beams
    → units_where (λ from to. is_in_beam net up from) links ≤ row_sum (matrix_of net links) up
begin_in_row net links up sound of below =
    let n = length net.beams in
    let beams = range_with_len 0 n in
    let part = λ (down : ℕ) (link : Link). if is_in_beam net up link.from && is_in_beam net down link.to then link.units else 0 in
    let row = get_or-map-range_with_len (λ i. map (units_between net links i) beams) 0 n up up [] below (zero-add up) in
    let is = ap sum row ∙ sum-map (units_between net links up) beams in
    let exchanged = sum_by-exchange part beams links in
    let each = sum_by-le-within (λ link. if is_in_beam net up link.from then link.units else 0) (λ link. sum_by (λ down. part down link) beams) links
    (λ k d within. let link = get_or links k d in in_its_own net (is_in_beam net up link.from) link.to link.units (its_beam net link.to sound (of k d within).1)) in
    omega (arith, is, exchanged, each)

-- each link begins in some beam
begin_somewhere : (net : Net) (links : List Link) → IsSound net → AreOfNetwork net links
    → all_units links ≤ sum_by (λ up. units_where (λ from to. is_in_beam net up from) links) (range_with_len 0 (length net.beams))
begin_somewhere net links sound of =
    let beams = range_with_len 0 (length net.beams) in
    let part = λ (up : ℕ) (link : Link). let s : ℕ = if is_in_beam net up link.from then link.units else 0 in s in
    let exchanged = sum_by-exchange part beams links in
    let each = sum_by-le-within (λ (link : Link). link.units) (λ link. sum_by (λ up. part up link) beams) links
    (λ k d within. let link = get_or links k d in in_its_own net true link.from link.units (its_beam net link.from sound (of k d within).0)) in
    omega (arith, exchanged, each)

-- all slots of a demand that fits its frame
pub few_in_all : (net : Net) (links : List Link) → IsSound net → AreOfNetwork net links → HasSumsTo net.slots (matrix_of net links) → all_units links ≤ 131072
few_in_all net links sound of fits =
    let n = length net.beams in
    let most = sum_by-le (λ up. units_where (λ from to. is_in_beam net up from) links) 4096 (range_with_len 0 n)
    (λ k d within.
    let up = get_or (range_with_len 0 n) k d in
    let below : up < n = omega (arith, within, length-range_with_len 0 n, get_or-range_with_len 0 n k d (omega (arith, within, length-range_with_len 0 n))) in
    omega (arith, begin_in_row net links up sound of below, fits (Row (record { 0 = up })) (omega (arith, below, length-matrix_of net links)), sound.slots)) in
    omega (arith, begin_somewhere net links sound of, most, length-range_with_len 0 n, sound.beams.count)

-- those that pass a test are no more
at_most : (passes : Bool) (units : ℕ) → (if passes then units else 0) ≤ units
at_most true units = omega arith
at_most false units = omega arith

pub no_more : (test : TermNo → TermNo → Bool) (links : List Link) → units_where test links ≤ all_units links
no_more test links = sum_by-le-sum_by (λ (link : Link). if test link.from link.to then link.units else 0) (λ (link : Link). link.units) links (λ link. at_most (test link.from link.to) link.units)

-- and no line of the matrix has more
pub small_sums : (net : Net) (links : List Link) → all_units links ≤ MOST_SUM → HasSumsTo MOST_SUM (matrix_of net links)
small_sums net links few (Row up) within =
    omega (arith, row_sum-le-units net links up.0 (omega (arith, within, length-matrix_of net links)), no_more (λ from to. is_in_beam net up.0 from) links, few)
small_sums net links few (Column down) within =
    omega (arith, column_sum-le-units net links down.0 (omega (arith, within, length-matrix_of net links)), no_more (λ from to. is_in_beam net down.0 to) links, few)

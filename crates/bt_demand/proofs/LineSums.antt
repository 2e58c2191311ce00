-- The sum of a line of the traffic matrix, and the slots of the links that begin or end in its beam.
use Rattle.std.proofs.Common.{◌≡◌, ℕ, ◌<◌, ◌≤◌, ◌==◌, ◌&&◌, if◌then◌else◌, Bool, true, false, List, [], length, map, Option, Some, None, get_or, slice_get, slice_index, unwrap_or, option_map, sum, sum_by, AllPairs, refl, sym, ap, ◌∙◌, arith, zero-add}
use Rattle.std.specs.List.{range_with_len}
use Rattle.std.proofs.lemmas.Bool.{eqb-true}
use Rattle.std.proofs.lemmas.List.FromFn.{length-range_with_len, get_or-range_with_len, get_or-map-range_with_len}
use Rattle.std.proofs.lemmas.List.Sums.{sum-map}
use Rattle.bt_frame.specs.declared.numbers.BeamNo.{BeamNo}
use Rattle.bt_frame.specs.declared.numbers.TermNo.{TermNo}
use Rattle.bt_net.specs.Network.{Net}
use Rattle.bt_matrix.specs.Traffic.{row_sum, column_sum}
use Rattle.bt_demand.specs.declared.demand.Link.{Link}
use Rattle.bt_demand.specs.Demand.{units_where}
use Rattle.bt_net.specs.Terminals.{beam_at, is_in_beam}
use Rattle.bt_demand.specs.Traffic.{units_between, matrix_of}
use Rattle.bt_frame.proofs.Counts.{sum_by-map, sum_by-same, sum_by-exchange, sum_by-le-within, sum_by-none_passes, sum_by-one_passes}

-- a terminal is in one beam alone
one_beam : (found : Option (List ℕ × BeamNo)) (i j : ℕ) → unwrap_or (option_map (λ t. t.1.0 == i) found) false ≡ true
    → unwrap_or (option_map (λ t. t.1.0 == j) found) false ≡ true → i ≡ j
one_beam None i j first second = absurd cc
one_beam (Some t) i j first second = sym (eqb-true t.1.0 i first) ∙ eqb-true t.1.0 j second

found_beam : (found : Option (List ℕ × BeamNo)) (i : ℕ) → unwrap_or (option_map (λ t. t.1.0 == i) found) false ≡ true
    → option_map (λ t. t.1) found ≡ Some (record { 0 = i })
found_beam None i is = absurd cc
found_beam (Some t) i is = ap (λ (n : ℕ). let beam : BeamNo = record { 0 = n } in Some beam) (eqb-true t.1.0 i is)

-- terminals in the beam of one number are in the same beam
pub beam_at-same : (net : Net) (beam : ℕ) (a b : TermNo) → is_in_beam net beam a ≡ true → is_in_beam net beam b ≡ true → beam_at net a ≡ beam_at net b
beam_at-same net beam a b first second =
    found_beam (slice_get net.terminals a.0) beam first ∙ sym (found_beam (slice_get net.terminals b.0) beam second)

-- the numbers of the beams that have a terminal are no two
one_number : (net : Net) (terminal : TermNo) (n : ℕ)
    → AllPairs (λ i j. is_in_beam net i terminal ≡ true → is_in_beam net j terminal ≡ true → ⊥) (range_with_len 0 n)
one_number net terminal n i j d lt within first second =
    let same = one_beam (slice_get net.terminals terminal.0) _ _ first second in
    let below : j < n = omega (arith, length-range_with_len 0 n) in
    omega (arith, same, get_or-range_with_len 0 n i d (omega arith), get_or-range_with_len 0 n j d below)

-- a link is counted in one entry of the row at most, and in one of the column
in_one_column : (net : Net) (first : Bool) (to : TermNo) (units n : ℕ)
    → sum_by (λ down. if first && is_in_beam net down to then units else 0) (range_with_len 0 n) ≤ (if first then units else 0)
in_one_column net true to units n = sum_by-one_passes (λ down. is_in_beam net down to) units (range_with_len 0 n) (one_number net to n)
in_one_column net false to units n = omega (arith, sum_by-none_passes (λ (down : ℕ). false) units (range_with_len 0 n) (λ k d within. refl))

in_one_row : (net : Net) (second : Bool) (from : TermNo) (units n : ℕ)
    → sum_by (λ up. if is_in_beam net up from && second then units else 0) (range_with_len 0 n) ≤ (if second then units else 0)
in_one_row net true from units n =
    let same = sum_by-same (λ up. if is_in_beam net up from && true then units else 0) (λ up. if is_in_beam net up from then units else 0) (range_with_len 0 n)
    (λ up. and_true (is_in_beam net up from) units) in
    omega (arith, same, sum_by-one_passes (λ up. is_in_beam net up from) units (range_with_len 0 n) (one_number net from n))
  where
    and_true : (b : Bool) (units : ℕ) → (if b && true then units else 0) ≡ (if b then units else 0)
    and_true true units = refl
    and_true false units = refl
in_one_row net false from units n =
    let same = sum_by-same (λ up. if is_in_beam net up from && false then units else 0) (λ (up : ℕ). 0) (range_with_len 0 n)
    (λ up. and_false (is_in_beam net up from) units) in
    omega (arith, same, sum_by-none_passes (λ (up : ℕ). false) 0 (range_with_len 0 n) (λ k d within. refl))
  where
    and_false : (b : Bool) (units : ℕ) → (if b && false then units else 0) ≡ 0
    and_false true units = refl
    and_false false units = refl

-- a row has no more slots than the links that begin in its beam
pub row_sum-le-units : (net : Net) (links : List Link) (up : ℕ) → up < length net.beams
    → row_sum (matrix_of net links) up ≤ units_where (λ from to. is_in_beam net up from) links
row_sum-le-units net links up below =
    let n = length net.beams in
    let beams = range_with_len 0 n in
    let part = λ (down : ℕ) (link : Link). if is_in_beam net up link.from && is_in_beam net down link.to then link.units else 0 in
    let row = get_or-map-range_with_len (λ i. map (units_between net links i) beams) 0 n up up [] below (zero-add up) in
    let is = ap sum row ∙ sum-map (units_between net links up) beams in
    let exchanged = sum_by-exchange part beams links in
    let each = sum_by-le-within (λ link. sum_by (λ down. part down link) beams) (λ link. if is_in_beam net up link.from then link.units else 0) links
    (λ k d within. let link = get_or links k d in in_one_column net (is_in_beam net up link.from) link.to link.units n) in
    omega (arith, is, exchanged, each)

-- a column has no more slots than the links that end in its beam
pub column_sum-le-units : (net : Net) (links : List Link) (down : ℕ) → down < length net.beams
    → column_sum (matrix_of net links) down ≤ units_where (λ from to. is_in_beam net down to) links
column_sum-le-units net links down below =
    let n = length net.beams in
    let beams = range_with_len 0 n in
    let part = λ (up : ℕ) (link : Link). if is_in_beam net up link.from && is_in_beam net down link.to then link.units else 0 in
    let rows = sum_by-map (λ (row : List ℕ). slice_index row down) (λ i. map (units_between net links i) beams) beams in
    let entries = sum_by-same (λ i. slice_index (map (units_between net links i) beams) down) (λ i. units_between net links i down) beams
    (λ i. get_or-map-range_with_len (units_between net links i) 0 n down down 0 below (zero-add down)) in
    let exchanged = sum_by-exchange part beams links in
    let each = sum_by-le-within (λ link. sum_by (λ up. part up link) beams) (λ link. if is_in_beam net down link.to then link.units else 0) links
    (λ k d within. let link = get_or links k d in in_one_row net (is_in_beam net down link.to) link.from link.units n) in
    omega (arith, rows, entries, exchanged, each)

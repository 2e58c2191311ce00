-- Triples that carry a demand: those of one line lie in different slots, and are as many as the line asks for.
use Rattle.std.proofs.Common.{◌≡◌, ℕ, ◌<◌, ◌≤◌, ◌==◌, ◌&&◌, if◌then◌else◌, Bool, true, false, List, get_or, sum_by, All, AllPairs, sym, ap, ◌∙◌, subst, arith, inl, inr, ⊎_elim}
use Rattle.std.proofs.lemmas.Bool.{cases_Bool, eqb-true, and_parts, false_from_ne_true, both_ways}
use Rattle.std.proofs.lemmas.List.{get_or_default}
use Rattle.bt_frame.specs.declared.numbers.TermNo.{TermNo}
use Rattle.bt_frame.specs.declared.schedule.Critical.{Critical}
use Rattle.bt_frame.specs.declared.schedule.Critical.TheVariants.{Row, Column}
use Rattle.bt_net.specs.Network.{Net}
use Rattle.bt_matrix.specs.Traffic.{line_sum, IsLine}
use Rattle.bt_demand.specs.declared.demand.Link.{Link}
use Rattle.bt_demand.specs.Demand.{LinkEnds, ends_of, IsBefore, IsDemand, units_of, units_where}
use Rattle.bt_demand.specs.Plan.{Triple, occurrences, ShareABeam, Meet, Carries}
use Rattle.bt_demand.specs.Traffic.{matrix_of}
use Rattle.bt_net.specs.Terminals.{is_in_beam}
use Rattle.bt_demand.proofs.Links.{not_before_itself, units_of_at}
use Rattle.bt_demand.proofs.Matrices.{length-matrix_of}
use Rattle.bt_frame.proofs.Counts.{sum_by-exchange, sum_by-le-within, sum_by-none_passes, sum_by-one_passes, sum_by-places_differ}
use Rattle.bt_demand.proofs.LineSums.{row_sum-le-units, column_sum-le-units, beam_at-same}

-- the triples whose ends pass a test
abbrev pub triples_where : (TermNo → TermNo → Bool) → List Triple → ℕ
triples_where test triples = sum_by (λ t. if test t.from t.to then 1 else 0) triples

-- the triple is one of the link with these ends
abbrev is_of : Triple → TermNo → TermNo → Bool
is_of t from to = t.from.0 == from.0 && t.to.0 == to.0

-- the ends of a triple
abbrev ends_in : Triple → LinkEnds
ends_in t = (t.from, t.to)

-- a triple of a link has its ends
same_ends : (t : Triple) (from to : TermNo) → is_of t from to ≡ true → ends_in t ≡ (from, to)
same_ends t from to is =
    let parts = and_parts (t.from.0 == from.0) (t.to.0 == to.0) is in
    ap (λ (n : ℕ). let ends : LinkEnds = (record { 0 = n }, t.to) in ends) (eqb-true t.from.0 from.0 parts.0)
    ∙ ap (λ (n : ℕ). let ends : LinkEnds = (from, record { 0 = n }) in ends) (eqb-true t.to.0 to.0 parts.1)

-- a triple is counted for one link at most, and for none where its ends fail the test
counted_once : (links : List Link) (test : TermNo → TermNo → Bool) (t : Triple) → IsDemand links
    → sum_by (λ link. if test link.from link.to && is_of t link.from link.to then 1 else 0) links ≤ (if test t.from t.to then 1 else 0)
counted_once links test t is =
    let passes = λ (link : Link). test link.from link.to && is_of t link.from link.to in
    let ends_are = λ (link : Link) (yes : passes link ≡ true).
    same_ends t link.from link.to (and_parts (test link.from link.to) (is_of t link.from link.to) yes).1 in
    ⊎_elim
    (λ (yes : test t.from t.to ≡ true).
    let once = sum_by-one_passes passes 1 links (λ i j d lt within first second.
    not_before_itself (ends_in t) (subst (λ (e : LinkEnds). IsBefore e (ends_in t)) (sym (ends_are (get_or links i d) first))
    (subst (λ (e : LinkEnds). IsBefore (ends_of (get_or links i d)) e) (sym (ends_are (get_or links j d) second)) (is.ordered i j d lt within)))) in
    rw yes once)
    (λ (no : test t.from t.to ≡ false).
    let none = sum_by-none_passes passes 1 links (λ k d within.
    let link = get_or links k d in
    false_from_ne_true (passes link) (λ yes.
    let same = ap (λ (e : LinkEnds). test e.0 e.1) (ends_are link yes) in
    both_ways (test t.from t.to) no (same ∙ (and_parts (test link.from link.to) (is_of t link.from link.to) yes).0))) in
    rw no (rw none (omega arith)))
    (cases_Bool (test t.from t.to))

-- a link that passes the test has as many triples as slots at least
link_has_triples : (test : Bool) (units : ℕ) (from to : TermNo) (triples : List Triple) → units ≤ occurrences triples from to
    → (if test then units else 0) ≤ sum_by (λ t. if test && is_of t from to then 1 else 0) triples
link_has_triples true units from to triples enough = enough
link_has_triples false units from to triples enough = omega arith

-- The links that pass a test ask for no more slots than there are triples that pass it.
pub units_where-le-triples : (links : List Link) (triples : List Triple) (test : TermNo → TermNo → Bool) → IsDemand links
    → ((from to : TermNo) → units_of links from to ≤ occurrences triples from to) → units_where test links ≤ triples_where test triples
units_where-le-triples links triples test is served =
    let share = λ (link : Link) (t : Triple). let one : ℕ = if test link.from link.to && is_of t link.from link.to then 1 else 0 in one in
    let each = sum_by-le-within (λ link. if test link.from link.to then link.units else 0) (λ link. sum_by (share link) triples) links
    (λ k d within.
    let link = get_or links k d in
    let units = units_of_at links link.from link.to k d is (record { in_range = within; has_ends = λ e. ap ends_of (get_or_default links k e d within) }) in
    link_has_triples (test link.from link.to) link.units link.from link.to triples (omega (arith, units, served link.from link.to))) in
    let exchanged = sum_by-exchange share links triples in
    let once = sum_by-le-within (λ t. sum_by (λ link. share link t) links) (λ t. if test t.from t.to then 1 else 0) triples
    (λ k d within. counted_once links test (get_or triples k d) is) in
    omega (arith, each, exchanged, once)

-- triples that share a beam wherever they pass a test: as many pass as there are slots, at most
triples_where-le-slots : (net : Net) (triples : List Triple) (slots : ℕ) (test : TermNo → TermNo → Bool) → AllPairs (λ a b. ¬ (Meet net a b)) triples
    → All (λ t. t.slot < slots) triples
    → ((a b : Triple) → test a.from a.to ≡ true → test b.from b.to ≡ true → ShareABeam net a.from a.to b.from b.to) → triples_where test triples ≤ slots
triples_where-le-slots net triples slots test apart within share =
    sum_by-places_differ (λ (t : Triple). test t.from t.to) (λ (t : Triple). t.slot) slots triples
    (λ i j d lt inside first second same. apart i j d lt inside (record { slot = same; beam = share (get_or triples i d) (get_or triples j d) first second }))
    within

-- No triples carry a demand in fewer slots than a line of its matrix asks for.
pub line_sum-le-slots : (net : Net) (links : List Link) (triples : List Triple) (slots : ℕ) (line : Critical) → IsDemand links
    → Carries net links slots triples → IsLine (matrix_of net links) line → line_sum (matrix_of net links) line ≤ slots
line_sum-le-slots net links triples slots (Row up) is carried on_matrix =
    let test = λ (from to : TermNo). is_in_beam net up.0 from in
    let row = row_sum-le-units net links up.0 (omega (arith, length-matrix_of net links)) in
    let enough = units_where-le-triples links triples test is (λ from to. omega (arith, carried.served from to)) in
    let few = triples_where-le-slots net triples slots test carried.apart carried.within
    (λ a b first second. inl (beam_at-same net up.0 a.from b.from first second)) in
    omega (arith, row, enough, few)
line_sum-le-slots net links triples slots (Column down) is carried on_matrix =
    let test = λ (from to : TermNo). is_in_beam net down.0 to in
    let column = column_sum-le-units net links down.0 (omega (arith, length-matrix_of net links)) in
    let enough = units_where-le-triples links triples test is (λ from to. omega (arith, carried.served from to)) in
    let few = triples_where-le-slots net triples slots test carried.apart carried.within
    (λ a b first second. inr (beam_at-same net down.0 a.to b.to first second)) in
    omega (arith, column, enough, few)

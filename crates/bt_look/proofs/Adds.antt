-- A journal of one add for each link: what its changes come to, and that they can be made one after the other.
use Rattle.std.proofs.Common.{◌≡◌, ℕ, suc, ◌+◌, ◌<◌, ◌≤◌, ◌&&◌, if◌then◌else◌, Bool, List, [], ◌∷◌, ◌++◌, Some, None, length, map, take, get_or, slice_get, option_map, sum_by, All, refl, sym, ap, ◌∙◌, subst, append_assoc, length-append, arith}
use Rattle.std.proofs.lemmas.List.{append-nil, length-take-le, map-append, take_more}
use Rattle.std.proofs.lemmas.List.Sums.{sum_by-append, sum_by-cons, get_or-le-sum_by}
use Rattle.std.proofs.lemmas.Option.{slice_get-get_or}
use Rattle.std.proofs.Math.Seq.{get_or-append_seam}
use Rattle.bt_frame.specs.declared.limits.TheConstants.{LAST_EDITION}
use Rattle.bt_frame.specs.declared.numbers.BeamNo.{BeamNo}
use Rattle.bt_frame.specs.declared.numbers.TermNo.{TermNo}
use Rattle.bt_frame.specs.declared.schedule.Critical.TheVariants.{Row, Column}
use Rattle.bt_net.specs.Network.{Net, IsSound}
use Rattle.bt_net.specs.Terminals.{IsInBeam, is_in_beam}
use Rattle.bt_matrix.specs.Traffic.{row_sum, column_sum}
use Rattle.bt_matrix.proofs.Lines.{entry-le-row_sum}
use Rattle.bt_demand.specs.declared.demand.Link.{Link}
use Rattle.bt_demand.specs.Demand.{units_where, IsDemand}
use Rattle.bt_demand.specs.Traffic.{matrix_of, units_between, AreOfNetwork, HasSumsTo}
use Rattle.bt_demand.proofs.FewLinks.{few_links}
use Rattle.bt_demand.proofs.Matrices.{length-matrix_of}
use Rattle.bt_demand.proofs.Tables.{column_sum-le, entry-table, in_its_beam, length-row-table, row_sum-le, share-here}
use Rattle.bt_plan.specs.TrafficText.{IsSpelled}
use Rattle.bt_journal.specs.declared.call.Edit.TheVariants.{Add}
use Rattle.bt_journal.specs.declared.call.Change.{Change}
use Rattle.bt_journal.specs.JournalLines.{change_line, edits_in, journal_lines, lines_from}
use Rattle.bt_journal.specs.Kept.{Keeps, changes_in, lines_said, marks_in}
use Rattle.bt_journal.specs.Mark.{mark_of}
use Rattle.bt_history.specs.Causes.{FollowFrom}
use Rattle.bt_history.specs.Changes.{given, taken_from, edition, matrix_after, IsDemandAfter}
use Rattle.bt_history.specs.EditCauses.{IsGoodEdit, with_edit}
use Rattle.bt_history.specs.Records.{AddsUp}
use Rattle.bt_history.specs.Recovery.{AreInRange, Recovered}
use Rattle.bt_history.proofs.After.{matrix_after-AddsUp, slots_after-AddsUp}
use Rattle.bt_history.proofs.NextOpening.{told_lines}
use Rattle.bt_history.proofs.OneJournal.{AreLines}
use Rattle.bt_history.proofs.OneMore.{journal_lines-push}
use Rattle.bt_history.proofs.SaidLines.{marks_in-change, marks_in-mark}
use Rattle.bt_look.specs.Compact.{add_of, adds_of, compact_lines}
use Rattle.bt_look.proofs.Ends.{beam_inside}

-- the slots of a link, where it passes a test
abbrev passed : (TermNo → TermNo → Bool) → Link → ℕ
passed test link = if test link.from link.to then link.units else 0

-- the adds give what the links have, and take nothing
given_adds : (test : TermNo → TermNo → Bool) (links : List Link) → sum_by (given test) (adds_of links) ≡ units_where test links
given_adds test [] = refl
given_adds test (link ∷ links) =
    omega (arith, sum_by-cons (given test) (add_of link) (adds_of links), sum_by-cons (passed test) link links, given_adds test links)

taken_adds : (test : TermNo → TermNo → Bool) (links : List Link) → sum_by (taken_from test) (adds_of links) ≡ 0
taken_adds test [] = refl
taken_adds test (link ∷ links) = omega (arith, sum_by-cons (taken_from test) (add_of link) (adds_of links), taken_adds test links)

adds_up : (links : List Link) → AddsUp (adds_of links) links
adds_up links test = omega (arith, given_adds test links, taken_adds test links)

-- so their demand is that of the links
pub demand_of_adds : (links : List Link) → IsDemand links → IsDemandAfter (adds_of links) links
demand_of_adds links demand = record { demand = demand; slots = slots_after-AddsUp (adds_of links) links (adds_up links) }

-- an edit for each link
pub edition_of_adds : (links : List Link) → edition (adds_of links) ≡ length links
edition_of_adds [] = refl
edition_of_adds (link ∷ links) = omega (arith, sum_by-cons edits_in (add_of link) (adds_of links), edition_of_adds links)

adds_more : (links : List Link) (link : Link) → adds_of (links ++ link ∷ []) ≡ adds_of links ++ add_of link ∷ []
adds_more links link = map-append add_of links (link ∷ [])

-- a terminal of a network has a beam
pub beam_of_terminal : (net : Net) (t : TermNo) → t.0 < length net.terminals → (b : BeamNo) × IsInBeam net t b
beam_of_terminal net t within =
    let d : List ℕ × BeamNo = ([], record { 0 = 0 }) in
    ((get_or net.terminals t.0 d).1, ap (option_map (λ (u : List ℕ × BeamNo). u.1)) (slice_get-get_or net.terminals t.0 d within))

-- a link has no more slots than the frame
few_units : (net : Net) (links : List Link) (k : ℕ) (d : Link) → IsSound net → AreOfNetwork net links → HasSumsTo net.slots (matrix_of net links) → k < length links → (get_or links k d).units ≤ net.slots
few_units net links k d sound of_network fits within =
    let link = get_or links k d in
    let of = of_network k d within in
    let up = beam_of_terminal net link.from of.0 in
    let down = beam_of_terminal net link.to of.1 in
    let n = length net.beams in
    let i = up.0.0 in
    let j = down.0.0 in
    let in_rows : i < n = beam_inside net link.from up.0 sound up.1 in
    let in_columns : j < n = beam_inside net link.to down.0 sound down.1 in
    let share = λ (l : Link). let s : ℕ = if is_in_beam net i l.from && is_in_beam net j l.to then l.units else 0 in s in
    let own : share link ≡ link.units = share-here _ _ i j link.units (in_its_beam (slice_get net.terminals link.from.0) up.0 i up.1) (in_its_beam (slice_get net.terminals link.to.0) down.0 j down.1) in
    let rows = matrix_of net links in
    let wide = length-row-table n (units_between net links) i in_rows in
    let at = entry-table n (units_between net links) i j in_rows in_columns in
    let size = length-matrix_of net links in
    let row : row_sum rows i ≤ net.slots = fits (Row up.0) (omega (arith, size, in_rows)) in
    omega (arith, own, get_or-le-sum_by share links k d within, at, entry-le-row_sum rows i j (omega (arith, wide, in_columns)), row)

-- each link can be spelled
pub links_spelled : (net : Net) (links : List Link) → IsSound net → IsDemand links → AreOfNetwork net links → HasSumsTo net.slots (matrix_of net links) → All (IsSpelled net) links
links_spelled net links sound demand of_network fits k d within = record {
  sends = (of_network k d within).0;
  receives = (of_network k d within).1;
  differ = (demand.each k d within).differ;
  some = (demand.each k d within).some;
  few = omega (arith, few_units net links k d sound of_network fits within, sound.slots);
}

-- so a line can spell each add
range_of_adds : (net : Net) (edits : ℕ) (links : List Link) → All (IsSpelled net) links → edits + length links ≤ LAST_EDITION → AreInRange net edits (adds_of links)
range_of_adds net edits [] spelled few = tt
range_of_adds net edits (link ∷ links) spelled few =
    let first = spelled 0 link (omega arith) in (
      record { some = omega arith; number = omega (arith, few); terminals = (first.sends, first.receives); units = omega (arith, first.some); few = first.few },
      range_of_adds net (edits + 1) links (λ k d within. spelled (suc k) d (omega (arith, within))) (omega (arith, few)),
    )

-- fewer links ask no more of each line
fewer_rows : (net : Net) (links mid rest : List Link) (k : ℕ) → links ≡ mid ++ rest → k < length net.beams → row_sum (matrix_of net mid) k ≤ row_sum (matrix_of net links) k
fewer_rows net links mid rest k is within = row_sum-le (length net.beams) (units_between net mid) (units_between net links) k within
    (λ i j. let test = λ (from to : TermNo). is_in_beam net i from && is_in_beam net j to in
    omega (arith, ap (units_where test) is, sum_by-append (passed test) mid rest))

fewer_columns : (net : Net) (links mid rest : List Link) (k : ℕ) → links ≡ mid ++ rest → k < length net.beams → column_sum (matrix_of net mid) k ≤ column_sum (matrix_of net links) k
fewer_columns net links mid rest k is within = column_sum-le (length net.beams) (units_between net mid) (units_between net links) k within
    (λ i j. let test = λ (from to : TermNo). is_in_beam net i from && is_in_beam net j to in
    omega (arith, ap (units_where test) is, sum_by-append (passed test) mid rest))

-- an add of a further link is good, where all of them fit
good_next : (net : Net) (links before rest : List Link) (link : Link) → IsSound net → links ≡ before ++ link ∷ rest → All (IsSpelled net) links → HasSumsTo net.slots (matrix_of net links)
    → IsGoodEdit net (adds_of before) (Add link.from link.to link.units)
good_next net links before rest link sound is spelled fits =
    let mid = before ++ link ∷ [] in
    let parts : links ≡ mid ++ rest = is ∙ sym (append_assoc before (link ∷ []) rest) in
    let after : matrix_after net (with_edit (adds_of before) (Add link.from link.to link.units)) ≡ matrix_of net mid =
    ap (matrix_after net) (sym (adds_more before link)) ∙ matrix_after-AddsUp net (adds_of mid) mid (adds_up mid) in
    let size = length-matrix_of net links in
    let at = length before in
    let within : at < length links = omega (arith, ap length is, length-append before (link ∷ rest)) in
    let here : get_or links at link ≡ link = ap (λ (l : List Link). get_or l at link) is ∙ get_or-append_seam before link rest link in
    let own = subst (IsSpelled net) here (spelled at link within) in (
      own.differ,
      tt,
      λ beam gains.
          let inside = beam_inside net link.from beam sound gains in
          omega (arith, ap (λ (m : List (List ℕ)). row_sum m beam.0) after, fewer_rows net links mid rest beam.0 parts inside, fits (Row beam) (omega (arith, size, inside))),
      λ beam gains.
          let inside = beam_inside net link.to beam sound gains in
          omega (arith, ap (λ (m : List (List ℕ)). column_sum m beam.0) after, fewer_columns net links mid rest beam.0 parts inside, fits (Column beam) (omega (arith, size, inside))),
    )

follow_from : (net : Net) (links before rest : List Link) → IsSound net → links ≡ before ++ rest → All (IsSpelled net) links → HasSumsTo net.slots (matrix_of net links)
    → FollowFrom net (adds_of before) (adds_of rest)
follow_from net links before [] sound is spelled fits = tt
follow_from net links before (link ∷ rest) sound is spelled fits =
    let at = length before in
    let within : at < length links = omega (arith, ap length is, length-append before (link ∷ rest)) in
    let here : get_or links at link ≡ link = ap (λ (l : List Link). get_or l at link) is ∙ get_or-append_seam before link rest link in
    let own = subst (IsSpelled net) here (spelled at link within) in
    let parts : links ≡ (before ++ link ∷ []) ++ rest = is ∙ sym (append_assoc before (link ∷ []) rest) in (
      (own.sends, own.receives),
      good_next net links before rest link sound is spelled fits,
      subst (λ (c : List Change). FollowFrom net c (adds_of rest)) (adds_more before link) (follow_from net links (before ++ link ∷ []) rest sound parts spelled fits),
    )

-- lines that say changes alone
said_alone : (net : Net) (edits : ℕ) (changes : List Change) → lines_said net edits (map Some changes) ≡ lines_from net edits changes
said_alone net edits [] = refl
said_alone net edits (one ∷ changes) = ap (λ (l : List ℕ). change_line net (edits + edits_in one) one ++ l) (said_alone net (edits + edits_in one) changes)

changes_alone : (changes : List Change) → changes_in (map Some changes) ≡ changes
changes_alone [] = refl
changes_alone (one ∷ changes) = ap (λ (l : List Change). one ∷ l) (changes_alone changes)

no_marks : (changes : List Change) → marks_in (map Some changes) ≡ 0
no_marks [] = refl
no_marks (one ∷ changes) = marks_in-change one (map Some changes) ∙ no_marks changes

keeps_adds : (net : Net) (links : List Link) → Keeps net (compact_lines net links) (adds_of links)
keeps_adds net links =
    let changes = adds_of links in
    record {
      said = None ∷ map Some changes;
      lines = ap (λ (l : List ℕ). mark_of net ++ l) (sym (said_alone net 0 changes));
      changes_are = changes_alone changes;
      one_mark = omega (arith, marks_in-mark (map Some changes), no_marks changes);
    }

-- The journal is recovered to the adds.
pub adds_recovered : (net : Net) (are : AreLines net) (links : List Link) → IsSound net → IsDemand links → AreOfNetwork net links → HasSumsTo net.slots (matrix_of net links)
    → Recovered net (compact_lines net links) (adds_of links)
adds_recovered net are links sound demand of_network fits =
    let spelled = links_spelled net links sound demand of_network fits in
    let few = few_links net links demand of_network (sound.terminals.count).1 in
    told_lines net are (compact_lines net links) (compact_lines net links) (adds_of links) [] (keeps_adds net links)
    (range_of_adds net 0 links spelled (omega (arith, few))) (follow_from net links [] links sound refl spelled fits) refl (sym (append-nil (compact_lines net links)))

-- the lines of the adds so far, and that of one more
pub next_add : (net : Net) (links : List Link) (k number : ℕ) (d : Link) (before now after : List ℕ) → k < length links → number ≡ k + 1
    → now ≡ before ++ journal_lines net (adds_of (take k links)) → after ≡ now ++ change_line net number (add_of (get_or links k d))
    → after ≡ before ++ journal_lines net (adds_of (take (k + 1) links))
next_add net links k number d before now after within number_is so_far added =
    let front = take k links in
    let link = get_or links k d in
    let line = change_line net number (add_of link) in
    let more : adds_of (take (k + 1) links) ≡ adds_of front ++ add_of link ∷ [] = ap adds_of (take_more links k d within) ∙ adds_more front link in
    let counted : edition (adds_of front) + edits_in (add_of link) ≡ number = omega (arith, edition_of_adds front, length-take-le k links (omega arith), number_is) in
    let pushed : journal_lines net (adds_of (take (k + 1) links)) ≡ journal_lines net (adds_of front) ++ line =
    ap (journal_lines net) more ∙ (journal_lines-push net (adds_of front) (add_of link) ∙ ap (λ (n : ℕ). journal_lines net (adds_of front) ++ change_line net n (add_of link)) counted) in
    added
    ∙ (ap (λ (t : List ℕ). t ++ line) so_far
    ∙ (append_assoc before (journal_lines net (adds_of front)) line ∙ ap (λ (t : List ℕ). before ++ t) (sym pushed)))

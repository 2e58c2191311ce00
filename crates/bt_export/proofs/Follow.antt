-- The edits from one demand to another, made one after the other.
use Rattle.std.proofs.Common.{◌≡◌, ◌≢◌, ℕ, ◌<◌, ◌≤◌, ◌==◌, ◌&&◌, Bool, List, [], ◌∷◌, ◌++◌, length, get_or, sum_by, All, refl, sym, ap, ◌∙◌, subst, append_assoc, length-append, arith}
use Rattle.std.proofs.lemmas.List.{append-nil, map-append}
use Rattle.std.proofs.lemmas.List.Sums.{sum_by-append, sum_by-cons}
use Rattle.std.proofs.Math.Seq.{get_or-append_seam}
use Rattle.bt_frame.specs.declared.numbers.TermNo.{TermNo}
use Rattle.bt_frame.specs.declared.schedule.Critical.TheVariants.{Row, Column}
use Rattle.bt_net.specs.Network.{Net, IsSound}
use Rattle.bt_net.specs.Terminals.{IsBetweenTerminals, is_in_beam}
use Rattle.bt_matrix.specs.Traffic.{row_sum, column_sum}
use Rattle.bt_demand.specs.declared.demand.Link.{Link}
use Rattle.bt_demand.specs.Demand.{IsDemand, units_of, units_where}
use Rattle.bt_demand.specs.Traffic.{AreOfNetwork, HasSumsTo, matrix_of, units_between}
use Rattle.bt_demand.proofs.Matrices.{length-matrix_of}
use Rattle.bt_demand.proofs.Tables.{column_sum-le, row_sum-le}
use Rattle.bt_journal.specs.declared.call.Change.{Change}
use Rattle.bt_history.specs.Causes.{FollowFrom, Follows, IsGood}
use Rattle.bt_history.specs.Changes.{given, taken_from, matrix_after, IsDemandAfter}
use Rattle.bt_history.specs.Records.{AddsUp}
use Rattle.bt_history.proofs.After.{held_after-units_of, matrix_after-AddsUp, slots_after-AddsUp}
use Rattle.bt_history.proofs.Demands.{demand_of_network, keeps_any}
use Rattle.bt_look.specs.Compact.{add_of, adds_of}
use Rattle.bt_look.proofs.Ends.{beam_inside}
use Rattle.bt_export.specs.Edits.{drop_of, drops_of, edits_between, surplus}
use Rattle.bt_export.proofs.Common.{common, common_back, parts}
use Rattle.bt_export.proofs.Beyond.{its_own, passed, surplus_differ, surplus_of_network}

-- ---- what the edits give and take

given_adds : (test : TermNo → TermNo → Bool) (links : List Link) → sum_by (given test) (adds_of links) ≡ units_where test links
given_adds test [] = refl
given_adds test (link ∷ links) = omega (arith, sum_by-cons (given test) (add_of link) (adds_of links), sum_by-cons (passed test) link links, given_adds test links)

taken_adds : (test : TermNo → TermNo → Bool) (links : List Link) → sum_by (taken_from test) (adds_of links) ≡ 0
taken_adds test [] = refl
taken_adds test (link ∷ links) = omega (arith, sum_by-cons (taken_from test) (add_of link) (adds_of links), taken_adds test links)

given_drops : (test : TermNo → TermNo → Bool) (links : List Link) → sum_by (given test) (drops_of links) ≡ 0
given_drops test [] = refl
given_drops test (link ∷ links) = omega (arith, sum_by-cons (given test) (drop_of link) (drops_of links), given_drops test links)

taken_drops : (test : TermNo → TermNo → Bool) (links : List Link) → sum_by (taken_from test) (drops_of links) ≡ units_where test links
taken_drops test [] = refl
taken_drops test (link ∷ links) = omega (arith, sum_by-cons (taken_from test) (drop_of link) (drops_of links), sum_by-cons (passed test) link links, taken_drops test links)

-- behind some of the drops the links have what the demands have in common, and what is still to be dropped
after_drops : (changes : List Change) (have want done left : List Link) → AddsUp changes have → surplus have want ≡ done ++ left
    → AddsUp (changes ++ drops_of done) (common have want ++ left)
after_drops changes have want done left adds is test =
    omega (
      arith,
      adds test,
      parts test have want,
      ap (units_where test) is,
      sum_by-append (passed test) done left,
      sum_by-append (passed test) (common have want) left,
      sum_by-append (given test) changes (drops_of done),
      sum_by-append (taken_from test) changes (drops_of done),
      given_drops test done,
      taken_drops test done,
    )

-- and behind some of the adds what they have in common, and what was added
after_adds : (changes : List Change) (shared done : List Link) → AddsUp changes shared → AddsUp (changes ++ adds_of done) (shared ++ done)
after_adds changes shared done adds test =
    omega (
      arith,
      adds test,
      sum_by-append (passed test) shared done,
      sum_by-append (given test) changes (adds_of done),
      sum_by-append (taken_from test) changes (adds_of done),
      given_adds test done,
      taken_adds test done,
    )

-- no link of these has more than it is to have
within_wanted : (test : TermNo → TermNo → Bool) (have want done left : List Link) → IsDemand have → IsDemand want → surplus want have ≡ done ++ left
    → units_where test (common have want ++ done) ≤ units_where test want
within_wanted test have want done left is wanted more =
    omega (
      arith,
      parts test want have,
      common_back test have want is wanted,
      ap (units_where test) more,
      sum_by-append (passed test) done left,
      sum_by-append (passed test) (common have want) done,
    )

all_wanted : (test : TermNo → TermNo → Bool) (have want : List Link) → IsDemand have → IsDemand want
    → units_where test want ≡ units_where test (common have want ++ surplus want have)
all_wanted test have want is wanted =
    omega (arith, parts test want have, common_back test have want is wanted, sum_by-append (passed test) (common have want) (surplus want have))

-- ---- each edit is good

still_has : (shared left : List Link) (link : Link) → link.units ≤ units_of (shared ++ link ∷ left) link.from link.to
still_has shared left link =
    let test = λ (a b : TermNo). a.0 == link.from.0 && b.0 == link.to.0 in
    omega (arith, its_own link, sum_by-append (passed test) shared (link ∷ left), sum_by-cons (passed test) link left)

good_drop : (net : Net) (changes : List Change) (shared left : List Link) (link : Link) → AddsUp changes (shared ++ link ∷ left) → link.from.0 ≢ link.to.0
    → IsGood net changes (drop_of link)
good_drop net changes shared left link adds differ = (
  differ,
  omega (arith, still_has shared left link, held_after-units_of changes (shared ++ link ∷ left) link.from link.to adds),
  λ beam none. absurd none,
  λ beam none. absurd none,
)

lower_row : (net : Net) (links want : List Link) (k : ℕ) → ((test : TermNo → TermNo → Bool) → units_where test links ≤ units_where test want) → k < length net.beams
    → row_sum (matrix_of net links) k ≤ row_sum (matrix_of net want) k
lower_row net links want k fewer within =
    row_sum-le (length net.beams) (units_between net links) (units_between net want) k within (λ i j. fewer (λ (from to : TermNo). is_in_beam net i from && is_in_beam net j to))

lower_column : (net : Net) (links want : List Link) (k : ℕ) → ((test : TermNo → TermNo → Bool) → units_where test links ≤ units_where test want) → k < length net.beams
    → column_sum (matrix_of net links) k ≤ column_sum (matrix_of net want) k
lower_column net links want k fewer within =
    column_sum-le (length net.beams) (units_between net links) (units_between net want) k within (λ i j. fewer (λ (from to : TermNo). is_in_beam net i from && is_in_beam net j to))

good_add : (net : Net) (changes : List Change) (links want : List Link) (link : Link) → IsSound net → AddsUp (changes ++ add_of link ∷ []) links
    → ((test : TermNo → TermNo → Bool) → units_where test links ≤ units_where test want) → HasSumsTo net.slots (matrix_of net want) → link.from.0 ≢ link.to.0
    → IsGood net changes (add_of link)
good_add net changes links want link sound adds fewer fits differ =
    let after : matrix_after net (changes ++ add_of link ∷ []) ≡ matrix_of net links = matrix_after-AddsUp net (changes ++ add_of link ∷ []) links adds in
    let size = length-matrix_of net want in (
      differ,
      tt,
      λ beam gains.
          let inside = beam_inside net link.from beam sound gains in
          omega (arith, ap (λ (m : List (List ℕ)). row_sum m beam.0) after, lower_row net links want beam.0 fewer inside, fits (Row beam) (omega (arith, size, inside))),
      λ beam gains.
          let inside = beam_inside net link.to beam sound gains in
          omega (arith, ap (λ (m : List (List ℕ)). column_sum m beam.0) after, lower_column net links want beam.0 fewer inside, fits (Column beam) (omega (arith, size, inside))),
    )

-- ---- one after the other

-- the link behind some that were done
at_seam : (P : Link → Type 0) (all done left : List Link) (link : Link) → all ≡ done ++ link ∷ left → All P all → P link
at_seam P all done left link is each =
    let within : length done < length all = omega (arith, ap length is, length-append done (link ∷ left)) in
    let here : get_or all (length done) link ≡ link = ap (λ (l : List Link). get_or l (length done) link) is ∙ get_or-append_seam done link left link in
    subst P here (each (length done) link within)

drops_more : (changes : List Change) (done : List Link) (link : Link) → (changes ++ drops_of done) ++ drop_of link ∷ [] ≡ changes ++ drops_of (done ++ link ∷ [])
drops_more changes done link = append_assoc changes (drops_of done) (drop_of link ∷ []) ∙ ap (λ (l : List Change). changes ++ l) (sym (map-append drop_of done (link ∷ [])))

adds_more : (changes : List Change) (done : List Link) (link : Link) → (changes ++ adds_of done) ++ add_of link ∷ [] ≡ changes ++ adds_of (done ++ link ∷ [])
adds_more changes done link = append_assoc changes (adds_of done) (add_of link ∷ []) ∙ ap (λ (l : List Change). changes ++ l) (sym (map-append add_of done (link ∷ [])))

-- the links that are named in what is dropped or added
pub record AreNamed (net : Net) (links : List Link) : Type 0 where
  pub terminals : AreOfNetwork net links
  pub differ : All (λ (link : Link). link.from.0 ≢ link.to.0) links

follow_drops : (net : Net) (changes : List Change) (have want done left : List Link) (more : List Change) → AddsUp changes have → AreNamed net (surplus have want)
    → surplus have want ≡ done ++ left → FollowFrom net (changes ++ drops_of (surplus have want)) more → FollowFrom net (changes ++ drops_of done) (drops_of left ++ more)
follow_drops net changes have want done [] more adds named is follow =
    subst (λ (l : List Link). FollowFrom net (changes ++ drops_of l) more) (is ∙ append-nil done) follow
follow_drops net changes have want done (link ∷ left) more adds named is follow =
    let next : surplus have want ≡ (done ++ link ∷ []) ++ left = is ∙ sym (append_assoc done (link ∷ []) left) in
    let ends = at_seam (λ (l : Link). IsBetweenTerminals net l.from l.to) (surplus have want) done left link is named.terminals in
    let differ = at_seam (λ (l : Link). l.from.0 ≢ l.to.0) (surplus have want) done left link is named.differ in (
      ends,
      good_drop net (changes ++ drops_of done) (common have want) left link (after_drops changes have want done (link ∷ left) adds is) differ,
      subst (λ (c : List Change). FollowFrom net c (drops_of left ++ more)) (sym (drops_more changes done link))
          (follow_drops net changes have want (done ++ link ∷ []) left more adds named next follow),
    )

follow_adds : (net : Net) (changes : List Change) (have want done left : List Link) → IsSound net → AddsUp changes (common have want) → IsDemand have → IsDemand want
    → HasSumsTo net.slots (matrix_of net want) → AreNamed net (surplus want have) → surplus want have ≡ done ++ left → FollowFrom net (changes ++ adds_of done) (adds_of left)
follow_adds net changes have want done [] sound adds is wanted fits named more = tt
follow_adds net changes have want done (link ∷ left) sound adds is wanted fits named more =
    let next : surplus want have ≡ (done ++ link ∷ []) ++ left = more ∙ sym (append_assoc done (link ∷ []) left) in
    let ends = at_seam (λ (l : Link). IsBetweenTerminals net l.from l.to) (surplus want have) done left link more named.terminals in
    let differ = at_seam (λ (l : Link). l.from.0 ≢ l.to.0) (surplus want have) done left link more named.differ in
    let links = common have want ++ (done ++ link ∷ []) in
    let added : AddsUp ((changes ++ adds_of done) ++ add_of link ∷ []) links =
    subst (λ (c : List Change). AddsUp c links) (sym (adds_more changes done link)) (after_adds changes (common have want) (done ++ link ∷ []) adds) in (
      ends,
      good_add net (changes ++ adds_of done) links want link sound added (λ test. within_wanted test have want (done ++ link ∷ []) left is wanted next) fits differ,
      subst (λ (c : List Change). FollowFrom net c (adds_of left)) (sym (adds_more changes done link))
          (follow_adds net changes have want (done ++ link ∷ []) left sound adds is wanted fits named next),
    )

-- behind all drops the links have what the demands have in common
all_dropped : (changes : List Change) (have want : List Link) → AddsUp changes have → AddsUp (changes ++ drops_of (surplus have want)) (common have want)
all_dropped changes have want adds =
    subst (λ (l : List Link). AddsUp (changes ++ drops_of (surplus have want)) l) (append-nil (common have want))
    (after_drops changes have want (surplus have want) [] adds (sym (append-nil (surplus have want))))

pub edits_follow : (net : Net) (changes : List Change) (have want : List Link) → IsSound net → Follows net changes → IsDemandAfter changes have → IsDemand want → AreOfNetwork net want
    → HasSumsTo net.slots (matrix_of net want) → FollowFrom net changes (edits_between have want)
edits_follow net changes have want sound follow is wanted of fits =
    let adds = (keeps_any net changes have sound follow is).adds_up in
    let base = changes ++ drops_of (surplus have want) in
    let less : AreNamed net (surplus have want) =
    record { terminals = surplus_of_network net have want (demand_of_network net changes have sound follow is); differ = surplus_differ have want is.demand } in
    let more : AreNamed net (surplus want have) = record { terminals = surplus_of_network net want have of; differ = surplus_differ want have wanted } in
    let last = subst (λ (c : List Change). FollowFrom net c (adds_of (surplus want have))) (append-nil base)
    (follow_adds net base have want [] (surplus want have) sound (all_dropped changes have want adds) is.demand wanted fits more refl) in
    subst (λ (c : List Change). FollowFrom net c (edits_between have want)) (append-nil changes)
    (follow_drops net changes have want [] (surplus have want) (adds_of (surplus want have)) adds less refl last)

-- and the demand behind them is the one that was wanted
pub edits_come_to : (net : Net) (changes : List Change) (have want : List Link) → IsSound net → Follows net changes → IsDemandAfter changes have → IsDemand want
    → IsDemandAfter (changes ++ edits_between have want) want
edits_come_to net changes have want sound follow is wanted =
    let adds = (keeps_any net changes have sound follow is).adds_up in
    let base = changes ++ drops_of (surplus have want) in
    let last : AddsUp (base ++ adds_of (surplus want have)) (common have want ++ surplus want have) =
    after_adds base (common have want) (surplus want have) (all_dropped changes have want adds) in
    let all : AddsUp (changes ++ edits_between have want) (common have want ++ surplus want have) =
    subst (λ (c : List Change). AddsUp c (common have want ++ surplus want have)) (append_assoc changes (drops_of (surplus have want)) (adds_of (surplus want have))) last in
    record {
      demand = wanted;
      slots = λ test. all_wanted test have want is.demand wanted ∙ slots_after-AddsUp (changes ++ edits_between have want) (common have want ++ surplus want have) all test;
    }

-- What holds of the demand after changes that follow, whichever list of links it is.
use Rattle.std.proofs.Common.{◌≡◌, ℕ, ◌+◌, ◌-◌, ◌≤◌, ◌&&◌, not, if◌then◌else◌, Bool, true, false, cond, filter, List, [], ◌∷◌, ◌++◌, length, refl, sym, ap, ◌∙◌, subst, append_assoc, arith}
use Rattle.std.proofs.lemmas.Bool.Decides.{nat_tests}
use Rattle.std.proofs.lemmas.List.{append-nil}
use Rattle.std.proofs.lemmas.List.Sums.{sum_by-append, sum_by-cons}
use Rattle.bt_frame.specs.declared.numbers.TermNo.{TermNo}
use Rattle.bt_net.specs.Network.{Net, IsSound}
use Rattle.bt_net.specs.Terminals.{is_in_beam}
use Rattle.bt_demand.specs.declared.demand.Link.{Link}
use Rattle.bt_demand.specs.Demand.{Gains, units_of, units_where}
use Rattle.bt_demand.specs.Traffic.{AreOfNetwork, HasSumsTo, matrix_of, units_between}
use Rattle.bt_demand.proofs.Tables.{same_tables}
use Rattle.bt_journal.specs.declared.call.Edit.{Edit}
use Rattle.bt_journal.specs.declared.call.Edit.TheVariants.{Add, Drop, Move}
use Rattle.bt_journal.specs.declared.call.Change.{Change}
use Rattle.bt_journal.specs.declared.call.Change.TheVariants as change
use Rattle.bt_history.specs.Occupancy.{EditsLinks, HoldsTaken}
use Rattle.bt_history.proofs.Shares.{still_held}
use Rattle.bt_history.specs.Causes.{Follows, FollowFrom, IsChangeOn, IsGood}
use Rattle.bt_history.specs.Changes.{edits_in, IsDemandAfter}
use Rattle.bt_history.specs.Records.{KeepsUp}
use Rattle.bt_history.proofs.After.{AddsUp-other, slots_after-AddsUp}
use Rattle.bt_history.proofs.Done.{AddsUp-edit, fits_after, holds_taken}
use Rattle.bt_history.proofs.Histories.{FollowFrom-grows}
use Rattle.bt_history.proofs.OfNetwork.{are_of_network, is_link}
use Rattle.bt_history.proofs.Start.{KeepsUp-start}

-- a link between two terminals, with so many slots
abbrev link_of : TermNo → TermNo → ℕ → Link
link_of from to units = record { from = from; to = to; units = units }

-- the slots of a link, where it passes a test
abbrev passed : (TermNo → TermNo → Bool) → Link → ℕ
passed test link = if test link.from link.to then link.units else 0

-- one link more has its slots
gains_one : (links : List Link) (from to : TermNo) (units : ℕ) → Gains links (links ++ link_of from to units ∷ []) from to units
gains_one links from to units test =
    omega (arith, sum_by-append (passed test) links (link_of from to units ∷ []), sum_by-cons (passed test) (link_of from to units) [])

-- the links of other ends
abbrev others : TermNo → TermNo → List Link → List Link
others from to links = filter (λ (link : Link). not (is_link from to link.from link.to)) links

same_terminal : (a b : TermNo) → a.0 ≡ b.0 → a ≡ b
same_terminal a b is = ap (λ n. let t : TermNo = record { 0 = n } in t) is

-- a test tells the same of the ends of one link
same_test : (test : TermNo → TermNo → Bool) (from to a b : TermNo) → true ≡ is_link from to a b → test a b ≡ test from to
same_test test from to a b is =
    let from_is : a.0 ≡ from.0 = grind (arith, nat_tests, is) in
    let to_is : b.0 ≡ to.0 = grind (arith, nat_tests, is) in
    ap (λ (t : TermNo). test t b) (same_terminal a from from_is) ∙ ap (λ (t : TermNo). test from t) (same_terminal b to to_is)

nothing_passed : (t : Bool) → 0 ≡ 0 + (if t then 0 else 0)
nothing_passed true = omega arith
nothing_passed false = omega arith

of_the_link : (t : Bool) (units all rest held before : ℕ) → held ≡ units + before → all ≡ rest + (if t then before else 0)
    → (if t then units else 0) + all ≡ rest + (if t then held else 0)
of_the_link true units all rest held before holds so = omega (arith, holds, so)
of_the_link false units all rest held before holds so = omega (arith, so)

of_another : (t : Bool) (units all rest held before : ℕ) → held ≡ before → all ≡ rest + (if t then before else 0)
    → units + all ≡ units + rest + (if t then held else 0)
of_another true units all rest held before holds so = omega (arith, holds, so)
of_another false units all rest held before holds so = omega (arith, so)

one_parted : (test : TermNo → TermNo → Bool) (from to : TermNo) (link : Link) (rest : List Link) (own : Bool) → own ≡ is_link from to link.from link.to
    → units_where test rest ≡ units_where test (others from to rest) + (if test from to then units_of rest from to else 0)
    → units_where test (link ∷ rest) ≡ units_where test (cond (not own) (link ∷ others from to rest) (others from to rest)) + (if test from to then units_of (link ∷ rest) from to else 0)
one_parted test from to link rest true is so =
    let held : units_of (link ∷ rest) from to ≡ link.units + units_of rest from to =
    omega (arith, sum_by-cons (passed (is_link from to)) link rest, ap (λ (b : Bool). if b then link.units else 0) is) in
    let whole : units_where test (link ∷ rest) ≡ (if test from to then link.units else 0) + units_where test rest =
    omega (arith, sum_by-cons (passed test) link rest, ap (λ (b : Bool). if b then link.units else 0) (same_test test from to link.from link.to is)) in
    whole ∙ of_the_link (test from to) link.units (units_where test rest) (units_where test (others from to rest)) (units_of (link ∷ rest) from to) (units_of rest from to) held so
one_parted test from to link rest false is so =
    let held : units_of (link ∷ rest) from to ≡ units_of rest from to =
    omega (arith, sum_by-cons (passed (is_link from to)) link rest, ap (λ (b : Bool). if b then link.units else 0) is) in
    sum_by-cons (passed test) link rest
    ∙ of_another (test from to) (passed test link) (units_where test rest) (units_where test (others from to rest)) (units_of (link ∷ rest) from to) (units_of rest from to) held so
    ∙ ap (λ n. n + (if test from to then units_of (link ∷ rest) from to else 0)) (sym (sum_by-cons (passed test) link (others from to rest)))

-- the slots of all links are those of one and those of the others
parted : (test : TermNo → TermNo → Bool) (from to : TermNo) (links : List Link)
    → units_where test links ≡ units_where test (others from to links) + (if test from to then units_of links from to else 0)
parted test from to [] = nothing_passed (test from to)
parted test from to (link ∷ rest) = one_parted test from to link rest (is_link from to link.from link.to) refl (parted test from to rest)

less_and_back : (t : Bool) (all rest held units after : ℕ) → units ≤ held → all ≡ rest + (if t then held else 0)
    → after ≡ rest + (if t then held - units else 0) → all ≡ after + (if t then units else 0)
less_and_back true all rest held units after some so less = omega (arith, some, so, less)
less_and_back false all rest held units after some so less = omega (arith, so, less)

-- links that lose so many slots of one link
abbrev losing : List Link → TermNo → TermNo → ℕ → List Link
losing links from to units = others from to links ++ link_of from to (units_of links from to - units) ∷ []

loses_one : (links : List Link) (from to : TermNo) (units : ℕ) → units ≤ units_of links from to → Gains (losing links from to units) links from to units
loses_one links from to units some test =
    less_and_back (test from to) (units_where test links) (units_where test (others from to links)) (units_of links from to) units (units_where test (losing links from to units))
    some (parted test from to links) (gains_one (others from to links) from to (units_of links from to - units) test)

-- there are links after an edit
edited : (links : List Link) (edit : Edit) → HoldsTaken links edit → (new : List Link) × EditsLinks links edit new
edited links (Add from to units) held =
    (links ++ link_of from to units ∷ [], gains_one links from to units)
edited links (Drop from to units) held = (losing links from to units, loses_one links from to units held)
edited links (Move from to new_from new_to units) held =
    let half = links ++ link_of new_from new_to units ∷ [] in
    let gains = gains_one links new_from new_to units in (
      losing half from to units,
      (half, gains, loses_one half from to units (still_held links half from to new_from new_to units units held gains)),
    )

-- there are links of which all holds that is kept beside the changes
abbrev IsMade : Net → List Change → Type 0
IsMade net changes = (links : List Link) × KeepsUp net changes links

made_other : (net : Net) (changes : List Change) (one : Change) → edits_in one ≡ 0 → IsChangeOn net one → IsGood net changes one → IsMade net changes
    → IsMade net (changes ++ one ∷ [])
made_other net changes one none on good (links, keeps) = (
  links,
  record {
    adds_up = AddsUp-other changes links one none keeps.adds_up;
    fits = keeps.fits;
    follows = FollowFrom-grows net [] changes one keeps.follows on good;
  },
)

made_more : (net : Net) (changes : List Change) (one : Change) → IsSound net → IsChangeOn net one → IsGood net changes one → IsMade net changes
    → IsMade net (changes ++ one ∷ [])
made_more net changes (change.Edit edit) sound on good (links, keeps) =
    let after = edited links edit (holds_taken changes links edit keeps.adds_up good.1) in (
      after.0,
      record {
        adds_up = AddsUp-edit changes links after.0 edit keeps.adds_up after.1;
        fits = fits_after net changes links after.0 edit sound on keeps.adds_up keeps.fits good after.1;
        follows = FollowFrom-grows net [] changes (change.Edit edit) keeps.follows on good;
      },
    )
made_more net changes (change.Install plan) sound on good so = made_other net changes (change.Install plan) refl on good so
made_more net changes (change.Order order) sound on good so = made_other net changes (change.Order order) refl on good so

made_from : (net : Net) (before more : List Change) → IsSound net → FollowFrom net before more → IsMade net before → IsMade net (before ++ more)
made_from net before [] sound follow so = subst (IsMade net) (sym (append-nil before)) so
made_from net before (first ∷ rest) sound follow so =
    subst (IsMade net) (append_assoc before (first ∷ []) rest)
    (made_from net (before ++ first ∷ []) rest sound follow.2 (made_more net before first sound follow.0 follow.1 so))

-- what is kept beside the changes holds of any demand after them
pub keeps_any : (net : Net) (changes : List Change) (links : List Link) → IsSound net → Follows net changes → IsDemandAfter changes links → KeepsUp net changes links
keeps_any net changes links sound follow is =
    let made = made_from net [] changes sound follow ([], KeepsUp-start net) in
    let same : (test : TermNo → TermNo → Bool) → units_where test links ≡ units_where test made.0 =
    λ test. is.slots test ∙ sym (slots_after-AddsUp changes made.0 made.1.adds_up test) in
    let rows : matrix_of net links ≡ matrix_of net made.0 = same_tables (length net.beams) (units_between net made.0) (units_between net links)
    (λ i j. same (λ from to. is_in_beam net i from && is_in_beam net j to)) in
    record {
      adds_up = λ test. omega (arith, same test, made.1.adds_up test);
      fits = subst (HasSumsTo net.slots) (sym rows) made.1.fits;
      follows = follow;
    }

-- its links are between terminals of the network
pub demand_of_network : (net : Net) (changes : List Change) (links : List Link) → IsSound net → Follows net changes → IsDemandAfter changes links → AreOfNetwork net links
demand_of_network net changes links sound follow is = are_of_network net changes links is.demand (keeps_any net changes links sound follow is)

-- and each line is within the frame
pub demand_fits : (net : Net) (changes : List Change) (links : List Link) → IsSound net → Follows net changes → IsDemandAfter changes links → HasSumsTo net.slots (matrix_of net links)
demand_fits net changes links sound follow is = (keeps_any net changes links sound follow is).fits

-- What links have beyond others, and what holds of each of these.
use Rattle.std.proofs.Common.{◌≡◌, ◌≢◌, ℕ, zero, suc, ◌≤◌, ◌==◌, ◌&&◌, if◌then◌else◌, nat_lt, Bool, true, false, List, [], ◌∷◌, ◌++◌, get_or, All, refl, ap, ◌∙◌, arith}
use Rattle.std.proofs.lemmas.Bool.Decides.{nat_tests}
use Rattle.std.proofs.lemmas.List.Elements.{All-append}
use Rattle.std.proofs.lemmas.List.Sums.{get_or-le-sum_by, sum_by-cons}
use Rattle.bt_frame.specs.declared.numbers.TermNo.{TermNo}
use Rattle.bt_net.specs.Network.{Net}
use Rattle.bt_net.specs.Terminals.{IsTerminal}
use Rattle.bt_demand.specs.declared.demand.Link.{Link}
use Rattle.bt_demand.specs.Demand.{IsDemand, units_of, units_where}
use Rattle.bt_demand.specs.Traffic.{AreOfNetwork}
use Rattle.bt_export.specs.Edits.{beyond, more_than, surplus}

-- the slots of a link, where it passes a test
abbrev pub passed : (TermNo → TermNo → Bool) → Link → ℕ
passed test link = if test link.from link.to then link.units else 0

-- a link with so many slots
abbrev pub with_units : Link → ℕ → Link
with_units link units = record { from = link.from; to = link.to; units = units }

nothing : (passes : Bool) (none units : ℕ) → none ≡ 0 → units ≡ 0 → none ≡ (if passes then units else 0)
nothing true none units is also = omega (arith, is, also)
nothing false none units is also = is

-- a link with so many slots, where there are some, has these
some_link : (test : TermNo → TermNo → Bool) (link : Link) (units : ℕ) (some : Bool) → some ≡ nat_lt 0 units
    → units_where test (if some then with_units link units ∷ [] else []) ≡ (if test link.from link.to then units else 0)
some_link test link units true is = omega (arith, sum_by-cons (passed test) (with_units link units) [])
some_link test link units false is =
    let none : units ≡ 0 = grind (arith, nat_tests, is) in
    let empty : units_where test [] ≡ 0 = refl in
    nothing (test link.from link.to) (units_where test []) units empty none

-- the slots of what a link has beyond others
pub units_more : (test : TermNo → TermNo → Bool) (others : List Link) (link : Link)
    → units_where test (more_than others link) ≡ (if test link.from link.to then beyond others link else 0)
units_more test others link = some_link test link (beyond others link) (nat_lt 0 (beyond others link)) refl

-- what holds of links, with however many slots, holds of what they have beyond others
one_more_than : (P : Link → Type 0) (link : Link) (units : ℕ) (some : Bool) → P (with_units link units) → All P (if some then with_units link units ∷ [] else [])
one_more_than P link units true holds zero d within = holds
one_more_than P link units true holds (suc k) d within = absurd (omega (arith, within))
one_more_than P link units false holds k d within = absurd (omega (arith, within))

pub surplus_all : (P : Link → Type 0) (links others : List Link) → ((link : Link) (units : ℕ) → P link → P (with_units link units)) → All P links → All P (surplus links others)
surplus_all P [] others still each = each
surplus_all P (link ∷ links) others still each =
    All-append P (more_than others link) (surplus links others)
    (one_more_than P link (beyond others link) (nat_lt 0 (beyond others link)) (still link (beyond others link) (each 0 link (omega arith))))
    (surplus_all P links others still (λ k d within. each (suc k) d (omega (arith, within))))

-- each is between terminals of the network
pub surplus_of_network : (net : Net) (links others : List Link) → AreOfNetwork net links → AreOfNetwork net (surplus links others)
surplus_of_network net links others each = surplus_all (λ (link : Link). IsTerminal net link.from × IsTerminal net link.to) links others (λ link units is. is) each

-- and its ends differ
pub surplus_differ : (links others : List Link) → IsDemand links → All (λ (link : Link). link.from.0 ≢ link.to.0) (surplus links others)
surplus_differ links others demand = surplus_all (λ (link : Link). link.from.0 ≢ link.to.0) links others (λ link units is. is) (λ k d within. (demand.each k d within).differ)

-- links that have no more than others have nothing beyond them
none_more : (others : List Link) (link : Link) → link.units ≤ units_of others link.from link.to → more_than others link ≡ []
none_more others link fewer =
    let none : nat_lt 0 (beyond others link) ≡ false = grind (arith, nat_tests, fewer) in
    ap (λ (b : Bool). if b then with_units link (beyond others link) ∷ [] else []) none

none_beyond : (links others : List Link) → All (λ (link : Link). link.units ≤ units_of others link.from link.to) links → surplus links others ≡ []
none_beyond [] others fewer = refl
none_beyond (link ∷ links) others fewer =
    ap (λ (l : List Link). l ++ surplus links others) (none_more others link (fewer 0 link (omega arith))) ∙ none_beyond links others (λ k d within. fewer (suc k) d (omega (arith, within)))

pub its_own : (link : Link) → (if link.from.0 == link.from.0 && link.to.0 == link.to.0 then link.units else 0) ≡ link.units
its_own link = grind (arith, nat_tests)

-- and so no links have anything beyond themselves
pub none_beyond_itself : (links : List Link) → surplus links links ≡ []
none_beyond_itself links = none_beyond links links
    (λ k d within.
    let link = get_or links k d in
    omega (arith, its_own link, get_or-le-sum_by (passed (λ (a b : TermNo). a.0 == link.from.0 && b.0 == link.to.0)) links k d within))

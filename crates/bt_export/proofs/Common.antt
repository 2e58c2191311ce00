-- What two demands have in common: as much of the one as of the other.
use Rattle.std.proofs.Common.{◌≡◌, ℕ, ◌+◌, ◌-◌, ◌==◌, ◌&&◌, if◌then◌else◌, Bool, true, false, List, [], ◌∷◌, map, sum_by, refl, sym, ap, ◌∙◌, arith}
use Rattle.std.proofs.lemmas.Bool.Decides.{nat_tests}
use Rattle.std.proofs.lemmas.List.Sums.{sum_by-append, sum_by-cons}
use Rattle.bt_frame.specs.declared.numbers.TermNo.{TermNo}
use Rattle.bt_frame.proofs.Counts.{sum_by-exchange, sum_by-map, sum_by-none, sum_by-same}
use Rattle.bt_demand.specs.declared.demand.Link.{Link}
use Rattle.bt_demand.specs.Demand.{IsDemand, ends_of, units_of, units_where}
use Rattle.bt_demand.proofs.Links.{units_at, units_at-after}
use Rattle.bt_demand.proofs.SameDemand.{first_is_before, tail_is}
use Rattle.bt_export.specs.Edits.{beyond, more_than, surplus}
use Rattle.bt_export.proofs.Beyond.{passed, units_more, with_units}

-- what a link has among others too
abbrev pub shared : List Link → Link → Link
shared others link = with_units link (link.units - beyond others link)

-- what links have among others too
abbrev pub common : List Link → List Link → List Link
common links others = map (shared others) links

-- A link has what it has among others, and what it has beyond them.
parts_of_one : (passes : Bool) (units held : ℕ) → (if passes then units else 0) ≡ (if passes then units - (units - held) else 0) + (if passes then units - held else 0)
parts_of_one true units held = omega arith
parts_of_one false units held = refl

pub parts : (test : TermNo → TermNo → Bool) (links others : List Link)
    → units_where test links ≡ units_where test (common links others) + units_where test (surplus links others)
parts test [] others = refl
parts test (link ∷ links) others =
    omega (
      arith,
      sum_by-cons (passed test) link links,
      sum_by-cons (passed test) (shared others link) (common links others),
      sum_by-append (passed test) (more_than others link) (surplus links others),
      units_more test others link,
      parts_of_one (test link.from link.to) link.units (units_of others link.from link.to),
      parts test links others,
    )

-- the ends of a link are those of another
abbrev has_ends : Link → Link → Bool
has_ends link other = other.from.0 == link.from.0 && other.to.0 == link.to.0

-- what two links share, where the first passes a test
abbrev pair : (TermNo → TermNo → Bool) → Link → Link → ℕ
pair test a b = if test a.from a.to then (if has_ends a b then a.units - (a.units - b.units) else 0) else 0

same_terminal : (a b : TermNo) → a.0 ≡ b.0 → a ≡ b
same_terminal a b is = ap (λ n. let t : TermNo = record { 0 = n } in t) is

-- no further link of a demand has the ends of the first
none_further : (first : Link) (rest : List Link) → IsDemand (first ∷ rest) → units_of rest first.from first.to ≡ 0
none_further first rest demand = sum_by-none (units_at (ends_of first)) rest (λ k d within. units_at-after _ (ends_of first) (first_is_before first rest demand k d within))

none_of_its : (link first : Link) (rest : List Link) → IsDemand (first ∷ rest) → has_ends link first ≡ true → units_of rest link.from link.to ≡ 0
none_of_its link first rest demand same =
    let from_is : link.from.0 ≡ first.from.0 = grind (arith, nat_tests, same) in
    let to_is : link.to.0 ≡ first.to.0 = grind (arith, nat_tests, same) in
    ap (λ (t : TermNo). units_of rest t link.to) (same_terminal link.from first.from from_is)
    ∙ (ap (λ (t : TermNo). units_of rest first.from t) (same_terminal link.to first.to to_is) ∙ none_further first rest demand)

none_shared : (passes : Bool) (units : ℕ) → (if passes then units - (units - 0) else 0) ≡ 0
none_shared true units = omega arith
none_shared false units = refl

joined : (passes same : Bool) (units held rest all sum total : ℕ) → all ≡ (if same then held else 0) + rest → (same ≡ true → rest ≡ 0)
    → (if passes then units - (units - rest) else 0) ≡ sum → total ≡ (if passes then (if same then units - (units - held) else 0) else 0) + sum
    → (if passes then units - (units - all) else 0) ≡ total
joined true true units held rest all sum total is none so last = omega (arith, is, none refl, so, last)
joined true false units held rest all sum total is none so last = omega (arith, is, so, last)
joined false same units held rest all sum total is none so last = omega (arith, so, last)

-- what a link has among a demand too is what it shares with each link of that
row : (test : TermNo → TermNo → Bool) (link : Link) (others : List Link) → IsDemand others → passed test (shared others link) ≡ sum_by (pair test link) others
row test link [] demand = none_shared (test link.from link.to) link.units
row test link (first ∷ rest) demand =
    joined (test link.from link.to) (has_ends link first) link.units first.units (units_of rest link.from link.to) (units_of (first ∷ rest) link.from link.to)
    (sum_by (pair test link) rest) (sum_by (pair test link) (first ∷ rest))
    (sum_by-cons (passed (λ a b. a.0 == link.from.0 && b.0 == link.to.0)) first rest)
    (none_of_its link first rest demand)
    (row test link rest (tail_is first rest demand))
    (sum_by-cons (pair test link) first rest)

-- two links share the same, whichever is the first
ends_back : (a b : Link) → has_ends a b ≡ has_ends b a
ends_back a b = grind (arith, nat_tests)

back : (one other same : Bool) (a b : ℕ) → (same ≡ true → one ≡ other)
    → (if one then (if same then a - (a - b) else 0) else 0) ≡ (if other then (if same then b - (b - a) else 0) else 0)
back true true true a b is = omega arith
back true false true a b is = absurd (let no : true ≡ false = is refl in cc)
back false true true a b is = absurd (let no : false ≡ true = is refl in cc)
back false false true a b is = refl
back true true false a b is = refl
back true false false a b is = refl
back false true false a b is = refl
back false false false a b is = refl

pair_back : (test : TermNo → TermNo → Bool) (a b : Link) → pair test a b ≡ pair test b a
pair_back test a b =
    back (test a.from a.to) (test b.from b.to) (has_ends a b) a.units b.units
    (λ same.
    let from_is : a.from.0 ≡ b.from.0 = grind (arith, nat_tests, same) in
    let to_is : a.to.0 ≡ b.to.0 = grind (arith, nat_tests, same) in
    ap (λ (t : TermNo). test t a.to) (same_terminal a.from b.from from_is) ∙ ap (λ (t : TermNo). test b.from t) (same_terminal a.to b.to to_is))
    ∙ ap (λ (s : Bool). let n : ℕ = if test b.from b.to then (if s then b.units - (b.units - a.units) else 0) else 0 in n) (ends_back a b)

-- all that the links of two demands share
by_pairs : (test : TermNo → TermNo → Bool) (links others : List Link) → IsDemand others → units_where test (common links others) ≡ sum_by (λ link. sum_by (pair test link) others) links
by_pairs test links others demand =
    sum_by-map (passed test) (shared others) links ∙ sum_by-same (λ link. passed test (shared others link)) (λ link. sum_by (pair test link) others) links (λ link. row test link others demand)

-- so two demands have the same in common, whichever is the first
pub common_back : (test : TermNo → TermNo → Bool) (a b : List Link) → IsDemand a → IsDemand b → units_where test (common a b) ≡ units_where test (common b a)
common_back test a b is other =
    by_pairs test a b other
    ∙ (sum_by-exchange (pair test) a b
    ∙ (sum_by-same (λ y. sum_by (λ x. pair test x y) a) (λ y. sum_by (pair test y) a) b (λ y. sum_by-same (λ x. pair test x y) (pair test y) a (λ x. pair_back test x y))
    ∙ sym (by_pairs test b a is)))

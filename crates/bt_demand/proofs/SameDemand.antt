-- A demand is known by the slots of each link.
use Rattle.std.proofs.Common.{◌≡◌, ℕ, suc, ◌+◌, ◌<◌, List, [], ◌∷◌, All, refl, ap, ◌∙◌, arith}
use Rattle.std.specs.declared.cmp.Ordering.{Ordering}
use Rattle.std.specs.declared.cmp.Ordering.TheVariants.{Less, Equal, Greater}
use Rattle.std.proofs.lemmas.List.Sums.{sum_by-cons}
use Rattle.bt_frame.proofs.Counts.{sum_by-none}
use Rattle.bt_demand.specs.declared.demand.Link.{Link}
use Rattle.bt_demand.specs.Demand.{LinkEnds, ends_of, IsBefore, IsDemand, units_of}
use Rattle.bt_demand.proofs.Links.{Says, says, before_trans, units_at, units_at-same, units_at-after}

-- the slots of a link with these ends
abbrev pub units_for : List Link → LinkEnds → ℕ
units_for links e = units_of links e.0 e.1

-- the first link's slots and those of the rest
pub units_for-cons : (link : Link) (links : List Link) (e : LinkEnds) → units_for (link ∷ links) e ≡ units_at e link + units_for links e
units_for-cons link links e = sum_by-cons (units_at e) link links

-- the rest of a demand is one
pub tail_is : (link : Link) (links : List Link) → IsDemand (link ∷ links) → IsDemand links
tail_is link links is = record {
  ordered = λ i j d lt within. is.ordered (suc i) (suc j) d (omega arith) (omega arith);
  each = λ k d within. is.each (suc k) d (omega arith);
}

-- the first link stands before the rest
pub first_is_before : (link : Link) (links : List Link) → IsDemand (link ∷ links) → All (λ other. IsBefore (ends_of link) (ends_of other)) links
first_is_before link links is k d within = is.ordered 0 (suc k) d (omega arith) (omega arith)

-- ends before those of the first link have no slots
units_for-before : (link : Link) (links : List Link) (e : LinkEnds) → IsDemand (link ∷ links) → IsBefore e (ends_of link) → units_for (link ∷ links) e ≡ 0
units_for-before link links e is before =
    let first = units_at-after link e before in
    let rest = sum_by-none (units_at e) links (λ k d within. units_at-after _ e (before_trans e (ends_of link) _ before (first_is_before link links is k d within))) in
    omega (arith, first, rest, units_for-cons link links e)

-- the first link's ends have its slots
units_for-first : (link : Link) (links : List Link) → IsDemand (link ∷ links) → units_for (link ∷ links) (ends_of link) ≡ link.units
units_for-first link links is =
    let rest = sum_by-none (units_at (ends_of link)) links (λ k d within. units_at-after _ (ends_of link) (first_is_before link links is k d within)) in
    omega (arith, rest, units_at-same link (ends_of link) refl, units_for-cons link links (ends_of link))

-- some slots
some : (link : Link) (links : List Link) → IsDemand (link ∷ links) → 0 < link.units
some link links is = (is.each 0 link (omega arith)).some

-- links with the same ends and slots are the same
same_links : (a b : Link) → ends_of a ≡ ends_of b → a.units ≡ b.units → a ≡ b
same_links a b ends units =
    ap (λ (e : LinkEnds). let link : Link = record { from = e.0; to = e.1; units = a.units } in link) ends
    ∙ ap (λ (n : ℕ). let link : Link = record { from = b.from; to = b.to; units = n } in link) units

-- their first links are the same
by_first : (x y : Link) (xs ys : List Link) (order : Ordering) → Says order (ends_of x) (ends_of y) → IsDemand (x ∷ xs) → IsDemand (y ∷ ys)
    → ((e : LinkEnds) → units_for (x ∷ xs) e ≡ units_for (y ∷ ys) e) → x ≡ y
by_first x y xs ys Less before is js same =
    absurd (omega (arith, same (ends_of x), units_for-first x xs is, some x xs is, units_for-before y ys (ends_of x) js before))
by_first x y xs ys Greater after is js same =
    absurd (omega (arith, same (ends_of y), units_for-first y ys js, some y ys js, units_for-before x xs (ends_of y) is after))
by_first x y xs ys Equal ends is js same =
    let other = ap (λ (e : LinkEnds). units_for (y ∷ ys) e) ends in
    same_links x y ends (omega (arith, same (ends_of x), other, units_for-first x xs is, units_for-first y ys js))

-- Two demands with the same slots on each link are the same.
pub same_demands : (xs ys : List Link) → IsDemand xs → IsDemand ys → ((e : LinkEnds) → units_for xs e ≡ units_for ys e) → xs ≡ ys
same_demands [] [] is js same = refl
same_demands [] (y ∷ ys) is js same = absurd (omega (arith, same (ends_of y), units_for-first y ys js, some y ys js))
same_demands (x ∷ xs) [] is js same = absurd (omega (arith, same (ends_of x), units_for-first x xs is, some x xs is))
same_demands (x ∷ xs) (y ∷ ys) is js same =
    let first = by_first x y xs ys _ (says (ends_of x) (ends_of y)) is js same in
    let rest = same_demands xs ys (tail_is x xs is) (tail_is y ys js) (λ e.
    omega (arith, same e, units_for-cons x xs e, units_for-cons y ys e, ap (units_at e) first)) in
    ap (λ (link : Link). link ∷ xs) first ∙ ap (λ (links : List Link). y ∷ links) rest

-- The bursts of a plan, shared out one after the other.
use Rattle.std.proofs.Common.{◌≡◌, ◌≢◌, ℕ, suc, ◌+◌, ◌<◌, ◌≤◌, ◌==◌, if◌then◌else◌, Bool, true, false, List, [], ◌∷◌, ◌++◌, Vec, Global, length, map, replicate, take, get_or, slice_set, All, refl, sym, ap, ◌∙◌, arith, eq-eqb}
use Rattle.std.specs.List.{filter}
use Rattle.std.proofs.lemmas.Bool.Decides.{nat_tests}
use Rattle.std.proofs.lemmas.List.{append-nil, map-set, take_more, length-map, get_or-map}
use Rattle.std.proofs.lemmas.List.Elements.{filter-append}
use Rattle.bt_frame.proofs.Images.{length-images, image_at, same_images, images-set, images-replicate}
use Rattle.bt_demand.specs.declared.burst.Burst.{Burst}
use Rattle.bt_demand.specs.Apart.{bursts_from}
use Rattle.bt_site.specs.Shares.{shares_of}

-- the bursts in each of these shares
abbrev pub bursts_in : List (Vec Burst Global) → List (List Burst)
bursts_in shares = map (λ (share : Vec Burst Global). share.items) shares

no_bursts : (shares : List (Vec Burst Global)) → All (λ (share : Vec Burst Global). share.items ≡ []) shares → bursts_in shares ≡ replicate (length shares) []
no_bursts [] none = refl
no_bursts (share ∷ rest) none =
    let first : share.items ≡ [] = none 0 share (omega arith) in
    let behind = no_bursts rest (λ k d within. none (suc k) d (omega arith)) in
    ap (λ (bursts : List Burst). bursts ∷ bursts_in rest) first ∙ ap (λ (others : List (List Burst)). [] ∷ others) behind

-- shares without bursts are those of no bursts
pub bursts_in-none : (n : ℕ) (shares : List (Vec Burst Global)) → length shares ≡ n → All (λ (share : Vec Burst Global). share.items ≡ []) shares
    → bursts_in shares ≡ shares_of n []
bursts_in-none n shares count none = no_bursts shares none ∙ ap (λ (m : ℕ). replicate m []) count ∙ sym (images-replicate [] 0 n)

-- as many shares as terminals
counted : (n : ℕ) (shares : List (Vec Burst Global)) (bursts : List Burst) → bursts_in shares ≡ shares_of n bursts → length shares ≡ n
counted n shares bursts is =
    sym (length-map shares (λ (share : Vec Burst Global). share.items)) ∙ ap length is
    ∙ length-images (λ (k : ℕ). bursts_from (record { 0 = k }) bursts) n

-- what a terminal sends of bursts with one more
from_more : (n : ℕ) (bursts : List Burst) (i : ℕ) (burst : Burst) (test : Bool) → i < length bursts → burst ≡ get_or bursts i burst → (burst.from.0 == n) ≡ test
    → bursts_from (record { 0 = n }) (take (i + 1) bursts) ≡ bursts_from (record { 0 = n }) (take i bursts) ++ (if test then burst ∷ [] else [])
from_more n bursts i burst test within is sends =
    let p = λ (one : Burst). one.from.0 == n in
    ap (λ (list : List Burst). filter p list) (take_more bursts i burst within ∙ ap (λ (one : Burst). take i bursts ++ one ∷ []) (sym is))
    ∙ filter-append p (take i bursts) (burst ∷ [])
    ∙ ap (λ (b : Bool). filter p (take i bursts) ++ (if b then burst ∷ [] else [])) sends

-- the others send what they sent
from_same : (n : ℕ) (bursts : List Burst) (i : ℕ) (burst : Burst) → i < length bursts → burst ≡ get_or bursts i burst → burst.from.0 ≢ n
    → bursts_from (record { 0 = n }) (take (i + 1) bursts) ≡ bursts_from (record { 0 = n }) (take i bursts)
from_same n bursts i burst within is other =
    from_more n bursts i burst false within is (grind (arith, nat_tests)) ∙ append-nil (bursts_from (record { 0 = n }) (take i bursts))

-- one burst more in the share of its terminal
pub shared_more : (n : ℕ) (shares : List (Vec Burst Global)) (bursts : List Burst) (i at : ℕ) (burst : Burst) (old new : Vec Burst Global)
    → i < length bursts → burst ≡ get_or bursts i burst → at ≡ burst.from.0 → at < length shares → old ≡ get_or shares at old
    → new.items ≡ old.items ++ burst ∷ [] → bursts_in shares ≡ shares_of n (take i bursts)
    → bursts_in (slice_set shares at new) ≡ shares_of n (take (i + 1) bursts)
shared_more n shares bursts i at burst old new within is sends inside read pushed so_far =
    let f = λ (k : ℕ). bursts_from (record { 0 = k }) (take i bursts) in
    let g = λ (k : ℕ). bursts_from (record { 0 = k }) (take (i + 1) bursts) in
    let long = counted n shares (take i bursts) so_far in
    let below : at < n = omega (arith, long) in
    let was : old.items ≡ f at =
    ap (λ (share : Vec Burst Global). share.items) read
    ∙ sym (get_or-map (λ (share : Vec Burst Global). share.items) shares at old old.items inside)
    ∙ ap (λ (list : List (List Burst)). get_or list at old.items) so_far ∙ image_at f n at old.items below in
    let here : g at ≡ new.items =
    from_more at bursts i burst true within is (eq-eqb burst.from.0 at (sym sends)) ∙ ap (λ (list : List Burst). list ++ burst ∷ []) (sym was) ∙ sym pushed in
    map-set (λ (share : Vec Burst Global). share.items) shares at new
    ∙ ap (λ (list : List (List Burst)). slice_set list at new.items) so_far
    ∙ sym (images-set f g n at new.items below here (λ k other. from_same k bursts i burst within is (λ e. other (sym e ∙ sym sends))))

-- a burst of another terminal changes no share
pub shared_same : (n : ℕ) (shares : List (Vec Burst Global)) (bursts : List Burst) (i : ℕ) (burst : Burst)
    → i < length bursts → burst ≡ get_or bursts i burst → length shares ≤ burst.from.0 → bursts_in shares ≡ shares_of n (take i bursts)
    → bursts_in shares ≡ shares_of n (take (i + 1) bursts)
shared_same n shares bursts i burst within is outside so_far =
    let long = counted n shares (take i bursts) so_far in
    so_far ∙ sym (same_images (λ (k : ℕ). bursts_from (record { 0 = k }) (take i bursts)) (λ (k : ℕ). bursts_from (record { 0 = k }) (take (i + 1) bursts)) n
    (λ k below. from_same k bursts i burst within is (omega (arith, long))))

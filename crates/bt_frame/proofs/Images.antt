-- What a function gives at each number below one, as a list.
use Rattle.std.proofs.Common.{◌≡◌, ◌≢◌, ℕ, zero, suc, ◌+◌, ◌<◌, List, ◌∷◌, length, map, replicate, get_or, slice_set, refl, sym, ap, ◌∙◌, subst, arith, length-set, get_or-set_same, get_or-set_other, ⊎_elim, zero-add}
use Rattle.std.specs.List.{range_with_len}
use Rattle.std.proofs.lemmas.Bool.{cases_eq}
use Rattle.std.proofs.lemmas.List.{length-map, same_lists}
use Rattle.std.proofs.lemmas.List.FromFn.{length-range_with_len, get_or-map-range_with_len}

-- the numbers below one
abbrev pub numbers_below : ℕ → List ℕ
numbers_below n = range_with_len 0 n

-- as long as there are numbers
pub length-images : {X : Type 0} (f : ℕ → X) (n : ℕ) → length (map f (numbers_below n)) ≡ n
length-images f n = length-map (numbers_below n) f ∙ length-range_with_len 0 n

-- what stands at a number
pub image_at : {X : Type 0} (f : ℕ → X) (n i : ℕ) (d : X) → i < n → get_or (map f (numbers_below n)) i d ≡ f i
image_at f n i d below = get_or-map-range_with_len f 0 n i i d below (zero-add i)

-- functions that agree below give the same list
pub same_images : {X : Type 0} (f g : ℕ → X) (n : ℕ) → ((i : ℕ) → i < n → g i ≡ f i) → map g (numbers_below n) ≡ map f (numbers_below n)
same_images f g n agree = same_lists (map g (numbers_below n)) (map f (numbers_below n)) (length-images g n ∙ sym (length-images f n)) (λ k d within.
    let below : k < n = omega (arith, length-images g n) in
    image_at g n k d below ∙ (agree k below ∙ sym (image_at f n k d below)))

-- functions that agree but at one number give lists that differ there
pub images-set : {X : Type 0} (f g : ℕ → X) (n at : ℕ) (x : X) → at < n → g at ≡ x → ((i : ℕ) → i ≢ at → g i ≡ f i)
    → map g (numbers_below n) ≡ slice_set (map f (numbers_below n)) at x
images-set f g n at x in_range here others =
    let old = map f (numbers_below n) in
    same_lists (map g (numbers_below n)) (slice_set old at x) (length-images g n ∙ sym (length-set old at x ∙ length-images f n)) (λ k d within.
    let below : k < n = omega (arith, length-images g n) in
    image_at g n k d below ∙ ⊎_elim
    (λ (same : k ≡ at). subst (λ (j : ℕ). g j ≡ get_or (slice_set old at x) j d) (sym same)
    (here ∙ sym (get_or-set_same old at x d (omega (arith, length-images f n)))))
    (λ (other : k ≡ at → ⊥). others k other ∙ sym (get_or-set_other old at k x d other ∙ image_at f n k d below))
    (cases_eq k at))

-- a list of one thing
pub images-replicate : {X : Type 0} (x : X) (a n : ℕ) → map (λ (i : ℕ). x) (range_with_len a n) ≡ replicate n x
images-replicate x a zero = refl
images-replicate x a (suc n) = ap (λ (xs : List _). x ∷ xs) (images-replicate x (a + 1) n)

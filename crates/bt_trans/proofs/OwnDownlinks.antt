-- Downlinks that were met, of which silence may be met often.
use Rattle.std.proofs.Common.{◌≡◌, ℕ, ◌<◌, List, [], ◌∷◌, ◌++◌, length, take, get_or, AllPairs, Contains, Bool, true, false, inl, inr, sym, ◌∙◌, arith, length-take}
use Rattle.std.proofs.lemmas.List.{get_or_default, get_or-take}
use Rattle.std.proofs.lemmas.List.Elements.{Contains-push_cases, Contains-append_left}
use Rattle.std.proofs.lemmas.List.Quantifiers.{all_pairs_push}
use Rattle.bt_demand.proofs.Seen.{IsSeen}

-- no two are the same, but for those that are silent
abbrev pub AreOwn : List ℕ → Type 0
AreOwn numbers = AllPairs (λ a b. a ≡ b → a ≡ 255) numbers

-- silence has no mark
pub IsSeen-silent : (seen : List Bool) (numbers : List ℕ) (x : ℕ) → x ≡ 255 → IsSeen seen numbers → IsSeen seen (numbers ++ x ∷ [])
IsSeen-silent seen numbers x silent so_far n small = (
  (λ marked. Contains-append_left numbers (x ∷ []) n ((so_far n small).0 marked)),
  (λ has. (so_far n small).1 (elim (Contains-push_cases numbers x n has) [ inl earlier ↦ earlier | inr this ↦ absurd (omega arith) ])),
)

-- one more that is silent
pub own-silent : (numbers : List ℕ) (x : ℕ) → x ≡ 255 → AreOwn numbers → AreOwn (numbers ++ x ∷ [])
own-silent numbers x silent so_far = all_pairs_push (λ a b. a ≡ b → a ≡ 255) numbers x so_far (λ k d within same. same ∙ silent)

-- one more that is none of the others
pub own-new : (numbers : List ℕ) (x : ℕ) → AreOwn numbers → (Contains numbers x → ⊥) → AreOwn (numbers ++ x ∷ [])
own-new numbers x so_far new = all_pairs_push (λ a b. a ≡ b → a ≡ 255) numbers x so_far (λ k d within same. absurd (new (k, within, get_or_default numbers k x d within ∙ same)))

-- one that has a mark is had twice
pub had_twice : (columns : List ℕ) (i down : ℕ) (seen : List Bool) → i < length columns → down ≡ get_or columns i 0 → down < 32 → (down ≡ 255 → ⊥)
    → IsSeen seen (take i columns) → get_or seen down false ≡ true → AreOwn columns → ⊥
had_twice columns i down seen inside is small loud so_far marked own =
    let has = (so_far down small).0 marked in
    let k = has.0 in
    let within = has.1 in
    let before : k < i = omega (arith, within, length-take i columns) in
    let at : get_or columns k 0 ≡ down = get_or_default columns k 0 down (omega arith) ∙ sym (get_or-take i columns k down before) ∙ has.2 in
    loud (sym at ∙ own k i 0 before inside (at ∙ is))

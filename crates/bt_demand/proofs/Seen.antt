-- A table of marks, one for each number that was met.
use Rattle.std.proofs.Common.{◌≡◌, ◌≢◌, ◌↔◌, ℕ, ◌<◌, List, [], ◌∷◌, ◌++◌, length, AllPairs, Contains, Bool, true, false, replicate, get_or, set, inl, inr, sym, ◌∙◌, subst, true≢false, arith, IsTrue}
use Rattle.std.proofs.lemmas.Bool.{cases_eq}
use Rattle.std.proofs.lemmas.List.{get_or-set_same, get_or-set_other, get_or_default, get_or-replicate}
use Rattle.std.proofs.lemmas.List.Elements.{Contains-push, Contains-push_cases, Contains-append_left}
use Rattle.std.proofs.lemmas.List.Quantifiers.{all_pairs_push}

-- exactly the numbers below 32 that the list contains are marked
abbrev pub IsSeen : List Bool → List ℕ → Type 0
IsSeen seen numbers = (n : ℕ) → n < 32 → IsTrue (get_or seen n false) ↔ Contains numbers n

-- no number was met yet
pub IsSeen-none : IsSeen (replicate 32 false) []
IsSeen-none n small = (
  (λ marked. absurd (true≢false (sym marked ∙ get_or-replicate 32 n false false small))),
  (λ has. absurd (omega (arith, has.1))),
)

-- one more number, and its mark
pub IsSeen-push : (seen : List Bool) (numbers : List ℕ) (x : ℕ) → x < length seen → IsSeen seen numbers → IsSeen (set seen x true) (numbers ++ x ∷ [])
IsSeen-push seen numbers x within so_far n small = elim (cases_eq n x) [
  | inl same ↦ ((λ _. subst (Contains (numbers ++ x ∷ [])) (sym same) (Contains-push numbers x)), (λ _. rw same (get_or-set_same seen x true false within)))
  | inr other ↦ (
    (λ marked. Contains-append_left numbers (x ∷ []) n ((so_far n small).0 (rw (get_or-set_other seen x n true false other) at marked))),
    (λ has. rw (get_or-set_other seen x n true false other) ((so_far n small).1 (elim (Contains-push_cases numbers x n has) [ inl earlier ↦ earlier | inr this ↦ absurd (other (sym this)) ]))),
  )
]

-- one more number that is none of the others
pub distinct-push : (numbers : List ℕ) (x : ℕ) → AllPairs (λ a b. a ≢ b) numbers → (Contains numbers x → ⊥) → AllPairs (λ a b. a ≢ b) (numbers ++ x ∷ [])
distinct-push numbers x so_far new = all_pairs_push (λ a b. a ≢ b) numbers x so_far (λ k d within same. new (k, within, get_or_default numbers k x d within ∙ same))

-- what is not marked is not among the numbers
pub unmarked : (seen : List Bool) (numbers : List ℕ) (x : ℕ) → x < 32 → IsSeen seen numbers → get_or seen x false ≡ false → Contains numbers x → ⊥
unmarked seen numbers x small so_far not_marked has = let marked : get_or seen x false ≡ true = (so_far x small).1 has in cc

-- Links that run through a list of nodes: what a node that comes in or goes out leaves of them.
use Rattle.std.proofs.Common.{◌≡◌, ◌≢◌, ℕ, List, [], ◌∷◌, ◌++◌, sym, ap, ◌∙◌}
use Rattle.bt_matrix.specs.declared.node.Neighbours.{Neighbours}
use Rattle.bt_matrix.specs.Links.{first_or, last_or, AreNeighbours, Runs, IsJoined, IsInserted}

-- each of these
abbrev pub Each : (ℕ → Type 0) → List ℕ → Type 0
Each P [] = Unit {0}
Each P (k ∷ ks) = P k × Each P ks

-- none of these
abbrev pub Fresh : ℕ → List ℕ → Type 0
Fresh x ks = Each (λ k. x ≢ k) ks

-- no two of these are one
abbrev pub Distinct : List ℕ → Type 0
Distinct [] = Unit {0}
Distinct (k ∷ ks) = Fresh k ks × Distinct ks

pub Each-map : (P Q : ℕ → Type 0) (ks : List ℕ) → ((k : ℕ) → P k → Q k) → Each P ks → Each Q ks
Each-map P Q [] gives each = tt
Each-map P Q (k ∷ ks) gives each = (gives k each.0, Each-map P Q ks gives each.1)

pub Each-both : (P Q R : ℕ → Type 0) (ks : List ℕ) → ((k : ℕ) → P k → Q k → R k) → Each P ks → Each Q ks → Each R ks
Each-both P Q R [] gives first second = tt
Each-both P Q R (k ∷ ks) gives first second = (gives k first.0 second.0, Each-both P Q R ks gives first.1 second.1)

not_last : (a p : ℕ) (ps qs : List ℕ) → Fresh a (p ∷ (ps ++ qs)) → a ≢ last_or p ps
not_last a p [] qs fresh = fresh.0
not_last a p (k ∷ ks) qs fresh = not_last a k ks qs fresh.1

not_first : (p e : ℕ) (ps qs : List ℕ) → Fresh p (ps ++ qs) → p ≢ e → p ≢ first_or qs e
not_first p e [] [] fresh other = other
not_first p e [] (q ∷ qs) fresh other = fresh.0
not_first p e (k ∷ ks) qs fresh other = not_first p e ks qs fresh.1 other

not_first_past : (p e : ℕ) (ps : List ℕ) (k : ℕ) (qs : List ℕ) → Fresh p (ps ++ k ∷ qs) → p ≢ e → p ≢ first_or qs e
not_first_past p e [] k qs fresh other = not_first p e [] qs fresh.1 other
not_first_past p e (j ∷ js) k qs fresh other = not_first_past p e js k qs fresh.1 other

-- links of which none changed that these have
pub Runs-same : (old new : ℕ → Neighbours) (a : ℕ) (ks : List ℕ) (e : ℕ) → Each (λ j. (new j).after ≡ (old j).after) (a ∷ ks)
    → Each (λ j. (new j).before ≡ (old j).before) ks → (new e).before ≡ (old e).before → Runs old a ks e → Runs new a ks e
Runs-same old new a [] e afters befores last runs = (afters.0 ∙ runs.0, last ∙ runs.1)
Runs-same old new a (k ∷ ks) e afters befores last runs =
    ((afters.0 ∙ runs.0.0, befores.0 ∙ runs.0.1), Runs-same old new k ks e afters.1 befores.1 last runs.1)

-- a node goes out
pub Runs-out : (old new : ℕ → Neighbours) (a : ℕ) (ps : List ℕ) (k : ℕ) (qs : List ℕ) (e : ℕ)
    → IsJoined old new (last_or a ps) (first_or qs e) → Distinct (a ∷ (ps ++ k ∷ qs)) → Fresh e (ps ++ k ∷ qs)
    → Runs old a (ps ++ k ∷ qs) e → Runs new a (ps ++ qs) e
Runs-out old new a [] k [] e joined apart fresh runs = (joined.after, joined.before)
Runs-out old new a [] k (q ∷ qs) e joined apart fresh runs = (
  (joined.after, joined.before),
  Runs-same old new q qs e
      (Each-map (λ j. a ≢ j) (λ j. (new j).after ≡ (old j).after) (q ∷ qs) (λ j other. joined.other_after j (λ same. other (sym same))) apart.0.1)
      (Each-map (λ j. q ≢ j) (λ j. (new j).before ≡ (old j).before) qs (λ j other. joined.other_before j (λ same. other (sym same))) apart.1.1.0)
      (joined.other_before e fresh.1.0) runs.1.1,
)
Runs-out old new a (p ∷ ps) k qs e joined apart fresh runs = (
  (
    joined.other_after a (not_last a p ps (k ∷ qs) apart.0) ∙ runs.0.0,
    joined.other_before p (not_first_past p e ps k qs apart.1.0 (λ same. fresh.0 (sym same))) ∙ runs.0.1,
  ),
  Runs-out old new p ps k qs e joined apart.1 fresh.1 runs.1,
)

-- a node comes in
pub Runs-in : (old new : ℕ → Neighbours) (a : ℕ) (ps : List ℕ) (k : ℕ) (qs : List ℕ) (e : ℕ)
    → IsInserted old new (last_or a ps) k (first_or qs e) → Distinct (a ∷ (ps ++ qs)) → Fresh e (ps ++ qs) → Fresh k (a ∷ (ps ++ qs)) → k ≢ e
    → Runs old a (ps ++ qs) e → Runs new a (ps ++ k ∷ qs) e
Runs-in old new a [] k [] e came apart fresh news end runs = (came.first, came.second)
Runs-in old new a [] k (q ∷ qs) e came apart fresh news end runs = (
  came.first,
  (
    came.second,
    Runs-same old new q qs e
        (Each-both (λ j. a ≢ j) (λ j. k ≢ j) (λ j. (new j).after ≡ (old j).after) (q ∷ qs)
        (λ j other_a other_k. came.other_after j (λ same. other_a (sym same)) (λ same. other_k (sym same))) apart.0 news.1)
        (Each-both (λ j. q ≢ j) (λ j. k ≢ j) (λ j. (new j).before ≡ (old j).before) qs
        (λ j other_q other_k. came.other_before j (λ same. other_q (sym same)) (λ same. other_k (sym same))) apart.1.0 news.1.1)
        (came.other_before e fresh.0 (λ same. end (sym same))) runs.1,
  ),
)
Runs-in old new a (p ∷ ps) k qs e came apart fresh news end runs = (
  (
    came.other_after a (not_last a p ps qs apart.0) (λ same. news.0 (sym same)) ∙ runs.0.0,
    came.other_before p (not_first p e ps qs apart.1.0 (λ same. fresh.0 (sym same))) (λ same. news.1.0 (sym same)) ∙ runs.0.1,
  ),
  Runs-in old new p ps k qs e came apart.1 fresh.1 news.1 end runs.1,
)

-- what the links say around a gap
pub Runs-gap : (ends : ℕ → Neighbours) (a : ℕ) (ps qs : List ℕ) (e : ℕ) → Runs ends a (ps ++ qs) e → AreNeighbours ends (last_or a ps) (first_or qs e)
Runs-gap ends a [] [] e runs = runs
Runs-gap ends a [] (q ∷ qs) e runs = runs.0
Runs-gap ends a (p ∷ ps) qs e runs = Runs-gap ends p ps qs e runs.1

-- and of a node
pub Runs-node : (ends : ℕ → Neighbours) (a : ℕ) (ps : List ℕ) (k : ℕ) (qs : List ℕ) (e : ℕ) → Runs ends a (ps ++ k ∷ qs) e
    → ((ends k).before ≡ last_or a ps) × ((ends k).after ≡ first_or qs e)
Runs-node ends a [] k [] e runs = (runs.0.1, runs.1.0)
Runs-node ends a [] k (q ∷ qs) e runs = (runs.0.1, runs.1.0.0)
Runs-node ends a (p ∷ ps) k qs e runs = Runs-node ends p ps k qs e runs.1

-- the same links
pub Runs-equal : (old new : ℕ → Neighbours) (a : ℕ) (ks : List ℕ) (e : ℕ) → ((j : ℕ) → new j ≡ old j) → Runs old a ks e → Runs new a ks e
Runs-equal old new a [] e same runs = (ap (λ (n : Neighbours). n.after) (same a) ∙ runs.0, ap (λ (n : Neighbours). n.before) (same e) ∙ runs.1)
Runs-equal old new a (k ∷ ks) e same runs =
    ((ap (λ (n : Neighbours). n.after) (same a) ∙ runs.0.0, ap (λ (n : Neighbours). n.before) (same k) ∙ runs.0.1), Runs-equal old new k ks e same runs.1)

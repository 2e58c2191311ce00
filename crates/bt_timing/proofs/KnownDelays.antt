-- Delays that are known, as the lines of a delay file give them.
use Rattle.std.proofs.Common.{◌≡◌, ℕ, zero, suc, ◌+◌, Bool, true, false, is_some, List, [], ◌∷◌, ◌++◌, set, replicate, All, Option, Some, None, option_map, refl, sym, subst}
use Rattle.std.specs.List.{list_all}
use Rattle.std.proofs.lemmas.Bool.{and_parts}
use Rattle.std.proofs.lemmas.List.Elements.{All-replicate, All-set}
use Rattle.bt_timing.specs.DelayTable.{IsKnownDelay, AreSoFar}
use Rattle.bt_timing.specs.DelayText.{all_of}
use Rattle.bt_timing.specs.Times.{IsDelay}

-- where all are known, all are with one more
all_known-set : (known : List (Option ℕ)) (place delay : ℕ) → list_all is_some known ≡ true → list_all is_some (set known place (Some delay)) ≡ true
all_known-set [] place delay are = refl
all_known-set (first ∷ rest) zero delay are = (and_parts (is_some first) (list_all is_some rest) are).1
all_known-set (first ∷ rest) (suc place) delay are =
    let parts = and_parts (is_some first) (list_all is_some rest) are in
    rw (parts.0, all_known-set rest place delay parts.1) refl

-- no delay is known
pub nothing-AreSoFar : (n : ℕ) (known : List (Option ℕ)) → known ≡ replicate n None → AreSoFar (record { known = known; changing = false })
nothing-AreSoFar n known is = record {
  each = subst (All IsKnownDelay) (sym is) (All-replicate IsKnownDelay n None tt);
  complete = λ yes. absurd cc;
}

-- one delay more
pub put-AreSoFar : (known : List (Option ℕ)) (changing : Bool) (place delay : ℕ) → IsDelay delay → AreSoFar (record { known = known; changing = changing })
    → AreSoFar (record { known = set known place (Some delay); changing = changing })
put-AreSoFar known changing place delay small are = record {
  each = All-set IsKnownDelay known place (Some delay) small are.each;
  complete = λ yes. all_known-set known place delay (are.complete yes);
}

-- one delay changed
pub change-AreSoFar : (known : List (Option ℕ)) (changing : Bool) (place delay : ℕ) → IsDelay delay → list_all is_some known ≡ true
    → AreSoFar (record { known = known; changing = changing }) → AreSoFar (record { known = set known place (Some delay); changing = true })
change-AreSoFar known changing place delay small all are = record {
  each = All-set IsKnownDelay known place (Some delay) small are.each;
  complete = λ yes. all_known-set known place delay all;
}

-- the delays so far, and those that are left
abbrev pub with_rest : List ℕ → List (Option ℕ) → Option (List ℕ)
with_rest front known = option_map (λ delays. front ++ delays) (all_of known)

nothing_in_front : (o : Option (List ℕ)) → option_map (λ (delays : List ℕ). [] ++ delays) o ≡ o
nothing_in_front (Some delays) = refl
nothing_in_front None = refl

pub with_rest-begin : (known : List (Option ℕ)) → with_rest [] known ≡ all_of known
with_rest-begin known = nothing_in_front (all_of known)

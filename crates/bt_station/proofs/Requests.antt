-- One word asks for nothing.
use Rattle.std.proofs.Common.{◌≡◌, ℕ, ◌<◌, ◌≤◌, List, [], ◌∷◌, length, None, refl, arith}
use Rattle.std.specs.Prelude.{map}
use Rattle.bt_station.specs.Top.{request_of}

pub of_one : {X : Type 0} (bytes : X → List ℕ) (words : List X) → 1 ≤ length words → length words < 2 → None ≡ request_of (map bytes words)
of_one bytes [] some few = absurd (omega (arith, some))
of_one bytes (word ∷ []) some few = refl
of_one bytes (word ∷ next ∷ rest) some few = absurd (omega (arith, few))

-- No command has so few words.
use Rattle.std.proofs.Common.{arith, refl, ◌≡◌, ℕ, ◌<◌, List, [], ◌∷◌, length, map}
use Rattle.bt_chart.specs.Request.{Faulty, chart_request_of}

pub too_few : {A : Type 0} (word : A → List ℕ) (words : List A) → length words < 3 → Faulty ≡ chart_request_of (map word words)
too_few word [] few = refl
too_few word (_ ∷ []) few = refl
too_few word (_ ∷ _ ∷ []) few = refl
too_few word (_ ∷ _ ∷ _ ∷ rest) few = absurd (omega (arith, few))

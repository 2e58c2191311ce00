-- Whether one of the numbers below a bound passes a test.
use Rattle.std.proofs.Common.{◌≡◌, ℕ, ◌<◌, Bool, true, false, arith, ap, ◌∙◌, zero-add}
use Rattle.std.specs.List.{range_with_len, list_any}
use Rattle.std.proofs.lemmas.List.Folds.{list_any_at, list_any_none}
use Rattle.std.proofs.lemmas.List.FromFn.{length-range_with_len, get_or-range_with_len}

-- one passes it
pub one_passes : (test : ℕ → Bool) (n k : ℕ) → k < n → test k ≡ true → list_any test (range_with_len 0 n) ≡ true
one_passes test n k within passes =
    list_any_at test (range_with_len 0 n) k 0 (omega (arith, length-range_with_len 0 n)) (ap test (get_or-range_with_len 0 n k 0 within ∙ zero-add k) ∙ passes)

-- none passes it
pub none_passes : (test : ℕ → Bool) (n : ℕ) → ((k : ℕ) → k < n → test k ≡ false) → list_any test (range_with_len 0 n) ≡ false
none_passes test n none = list_any_none test (range_with_len 0 n) (λ k d within.
    let below : k < n = omega (arith, length-range_with_len 0 n) in
    ap test (get_or-range_with_len 0 n k d below ∙ zero-add k) ∙ none k below)

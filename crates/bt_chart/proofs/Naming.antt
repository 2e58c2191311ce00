-- Beams that words name.
use Rattle.std.proofs.Common.{refl, arith, ◌≡◌, ℕ, zero, suc, ◌+◌, ◌<◌, ◌||◌, Bool, true, false, List, [], ◌∷◌, length, get_or, map, take, slice_get, Some, ap, sym, ◌∙◌}
use Rattle.std.specs.List.{list_any, range_with_len}
use Rattle.std.proofs.lemmas.List.{ext_get_or}
use Rattle.std.proofs.lemmas.List.Folds.{list_any_more}
use Rattle.std.proofs.lemmas.List.FromFn.{get_or-map-range_with_len, length-map-range_with_len}
use Rattle.std.proofs.lemmas.Option.{get_or_from_slice_get}

or_right : (a : Bool) → (a || true) ≡ true
or_right true = refl
or_right false = refl

-- an element that passes the test
found : (p : List ℕ → Bool) (xs : List (List ℕ)) (k : ℕ) (d : List ℕ) → k < length xs → p (get_or xs k d) ≡ true → list_any p xs ≡ true
found p [] k d within told = absurd (omega (arith, within))
found p (x ∷ xs) zero d within told = ap (λ first. first || list_any p xs) told
found p (x ∷ xs) (suc k) d within told = ap (λ later. p x || later) (found p xs k d (omega (arith, within)) told) ∙ or_right (p x)

pub found_one : (p : List ℕ → Bool) (xs : List (List ℕ)) (k : ℕ) (x : List ℕ) → k < length xs → slice_get xs k ≡ Some x → p x ≡ true → list_any p xs ≡ true
found_one p xs k x within is told = found p xs k x within (ap p (get_or_from_slice_get xs k x x is) ∙ told)

-- none so far passes the test, and one more does not
pub none_more : (p : List ℕ → Bool) (xs : List (List ℕ)) (k : ℕ) (x : List ℕ) → k < length xs → slice_get xs k ≡ Some x → list_any p (take k xs) ≡ false → p x ≡ false → list_any p (take (k + 1) xs) ≡ false
none_more p xs k x within is none told = list_any_more p xs k x within ∙ ap (λ test. test || p (get_or xs k x)) none ∙ ap p (get_or_from_slice_get xs k x x is) ∙ told

-- a table that has the answer for each beam
pub table_of : (f : ℕ → Bool) (table : List Bool) → length table ≡ 32 → ((beam : ℕ) → beam < 32 → get_or table beam false ≡ f beam) → table ≡ map f (range_with_len 0 32)
table_of f table long each = ext_get_or false table (map f (range_with_len 0 32))
    (long ∙ sym (length-map-range_with_len f 0 32))
    (λ beam within. each beam (omega (arith, within, long)) ∙ sym (get_or-map-range_with_len f 0 32 beam beam false (omega (arith, within, long)) (omega arith)))

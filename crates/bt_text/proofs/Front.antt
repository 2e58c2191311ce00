-- What was read before stands in front of what is still read.
use Rattle.std.proofs.Common.{◌≡◌, List, [], ◌∷◌, ◌++◌, Result, Ok, Err, refl, ap, append_assoc}
use Rattle.bt_text.specs.Reading.{◌>>=◌}

-- what was read before, and what is still read
abbrev pub with_front : {A Fault : Type 0} → List A → Result (List A) Fault → Result (List A) Fault
with_front front reading = reading >>= λ items. Ok (front ++ items)

pub regroup : {A Fault : Type 0} (front : List A) (item : A) (reading : Result (List A) Fault) → with_front front (reading >>= λ items. Ok (item ∷ items)) ≡ with_front (front ++ item ∷ []) reading
regroup {A} front item (Ok items) = ap (λ (all : List A). Ok all) (simp append_assoc)
regroup front item (Err fault) = refl

-- What is known of a reader's steps where the whole of it had no fault.
use Rattle.std.proofs.Common.{◌≡◌, Bool, true, false, cond, Result, Ok, Err, refl}
use Rattle.bt_text.specs.Reading.{◌>>=◌}

-- a step gave a value, and the rest went on with it
pub bind_ok : {A B Fault : Type 0} (first : Result A Fault) (after : A → Result B Fault) (y : B) → (first >>= after) ≡ Ok y
    → (x : A) × (first ≡ Ok x) × (after x ≡ Ok y)
bind_ok (Ok x) after y is = (x, refl, is)
bind_ok (Err fault) after y is = absurd cc

-- a test that was passed
pub passed : {A Fault : Type 0} (test : Bool) (fault : Fault) (reading : Result A Fault) (y : A) → cond test reading (Err fault) ≡ Ok y
    → (test ≡ true) × (reading ≡ Ok y)
passed true fault reading y is = (refl, is)
passed false fault reading y is = absurd cc

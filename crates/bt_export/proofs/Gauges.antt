-- Texts that grow by one gauge after the other.
use Rattle.std.proofs.Common.{◌≡◌, ℕ, List, ◌++◌, Result, Ok, Err, OnOk, ap, ◌∙◌}
use Rattle.bt_words.proofs.Extending.{two_behind}
use Rattle.bt_export.specs.Metrics.{gauge_lines}

-- one piece was added, and then others, the last of which may have failed
pub behind : {A B : Type 0} (result : Result A B) (before now after x y : List ℕ) → now ≡ before ++ x → OnOk result (after ≡ now ++ y) → OnOk result (after ≡ before ++ (x ++ y))
behind (Ok _) before now after x y first rest = two_behind before now after x y first rest
behind (Err _) before now after x y first rest = tt

-- a gauge by another word for its number
pub same_gauge : (before now name help : List ℕ) (number other : ℕ) → number ≡ other → now ≡ before ++ gauge_lines name help number → now ≡ before ++ gauge_lines name help other
same_gauge before now name help number other same is = is ∙ ap (λ (n : ℕ). before ++ gauge_lines name help n) same

pub same_gauge_ok : {A B : Type 0} (result : Result A B) (before now name help : List ℕ) (number other : ℕ) → number ≡ other → OnOk result (now ≡ before ++ gauge_lines name help number)
    → OnOk result (now ≡ before ++ gauge_lines name help other)
same_gauge_ok (Ok _) before now name help number other same is = same_gauge before now name help number other same is
same_gauge_ok (Err _) before now name help number other same is = tt

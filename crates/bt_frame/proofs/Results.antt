-- What is said of an error or of a value alone.
use Rattle.std.proofs.Common.{rules, Result, Ok, Err, IfOk, OnErr, OnOk, IsErr}

-- what holds in any case holds on an error
pub on_err : {A B P : Type 0} (result : Result A B) → P → OnErr result P
on_err (Ok _) holds = tt
on_err (Err _) holds = holds

-- nothing is said of the value of an error
pub if_not_ok : {A B : Type 0} (P : A → Type 0) (result : Result A B) → IsErr result → IfOk result P
if_not_ok P (Ok _) failed = search rules
if_not_ok P (Err _) failed = tt

pub not_ok : {A B : Type 0} (P : Type 0) (result : Result A B) → IsErr result → OnOk result P
not_ok P result failed = if_not_ok (λ value. P) result failed

-- Which fault it is.
use Rattle.std.proofs.Common.{refl, Result, Ok, Err, IsErrOf, OnOk}
use Rattle.bt_base.specs.declared.disk.DiskFault.{DiskFault}
use Rattle.bt_base.specs.declared.disk.DiskFault.TheVariants.{Failed, OutOfMemory}

-- what is not want of memory is a failure
pub failed_or_not : (fault : DiskFault) → (IsErrOf {T = Unit {0}} (Err fault) OutOfMemory → ⊥) → IsErrOf {T = Unit {0}} (Err fault) Failed
failed_or_not Failed none = refl
failed_or_not OutOfMemory none = absurd (none refl)

-- what follows where the answer is Ok
pub on_ok : {T E P Q : Type 0} (result : Result T E) → (P → Q) → OnOk result P → OnOk result Q
on_ok (Ok _) then holds = then holds
on_ok (Err _) then holds = holds

-- what holds of either fault
pub either_fault : {P : Type 0} (fault : DiskFault) → (IsErrOf {T = Unit {0}} (Err fault) Failed → P) → (IsErrOf {T = Unit {0}} (Err fault) OutOfMemory → P) → P
either_fault Failed failed none = failed refl
either_fault OutOfMemory failed none = none refl

-- what holds of a call that cannot want memory, Ok or failed
pub either_way : {P Q R : Type 0} (result : Result (Unit {0}) DiskFault) → (P → R) → (Q → R) → OnOk result P → (IsErrOf result Failed → Q) → (IsErrOf result OutOfMemory → ⊥) → R
either_way (Ok u) then else ok failed none = then ok
either_way (Err Failed) then else ok failed none = else (failed refl)
either_way (Err OutOfMemory) then else ok failed none = absurd (none refl)

-- what holds in any case holds where the answer is Ok
pub always_ok : {T E P : Type 0} (result : Result T E) → P → OnOk result P
always_ok (Ok _) holds = holds
always_ok (Err _) holds = tt

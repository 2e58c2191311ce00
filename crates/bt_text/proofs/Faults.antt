-- A fault stays the fault of all that would follow it.
use Rattle.std.proofs.Common.{refl}
use Rattle.bt_text.specs.declared.fault.LineFault.{LineFault}
use Rattle.bt_text.specs.declared.fault.LineFault.TheVariants.{At, OutOfMemory}
use Rattle.bt_text.specs.Reading.{◌>>=◌, LineReading, IsFaultOf}

pub IsFaultOf-then : {Code A B : Type 0} (fault : LineFault Code) (reading : LineReading Code A) (after : A → LineReading Code B) → IsFaultOf reading fault → IsFaultOf (reading >>= after) fault
IsFaultOf-then (At code line) reading after is = rw is refl
IsFaultOf-then OutOfMemory reading after is = tt

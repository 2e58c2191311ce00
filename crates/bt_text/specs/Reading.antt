-- What a reader of bytes answers: the value that they spell, or their first fault. A step that reads a part is
-- followed by `>>=` and what goes on with that part. Where a text is read line by line, a fault is a code and a line,
-- counted from 1.
use Rattle.std.specs.Prelude.{◌≡◌, ℕ, Result, Ok, Err, Option, Some, None}
use Rattle.bt_text.specs.declared.fault.LineFault.{LineFault}
use Rattle.bt_text.specs.declared.fault.LineFault.TheVariants.{At, OutOfMemory}

-- goes on with what was read, or stops at the fault
infixl 10 ◌>>=◌
abbrev pub ◌>>=◌ : {A B Fault : Type 0} → Result A Fault → (A → Result B Fault) → Result B Fault
(Ok x) >>= after = after x
(Err fault) >>= after = Err fault

-- the value where there is one, and else this fault
abbrev pub or_fault : {A Fault : Type 0} → Fault → Option A → Result A Fault
or_fault fault None = Err fault
or_fault fault (Some x) = Ok x

-- the value that a text spells, or its first fault
abbrev pub LineReading : Type 0 → Type 0 → Type 0
LineReading Code Value = Result Value (Code × ℕ)

-- the fault is the text's; want of memory says nothing of the text
abbrev pub IsFaultOf : {Code A : Type 0} → LineReading Code A → LineFault Code → Type 0
IsFaultOf reading (At code line) = reading ≡ Err (code, line)
IsFaultOf reading OutOfMemory = Unit {0}

-- the answer is what reading the text gives, unless memory ran out
abbrev pub Gives : {Code X A : Type 0} → (X → A) → Result X (LineFault Code) → LineReading Code A → Type 0
Gives view (Ok x) reading = reading ≡ Ok (view x)
Gives view (Err fault) reading = IsFaultOf reading fault

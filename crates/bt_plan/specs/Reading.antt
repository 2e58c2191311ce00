-- What a reader of a text answers: the value, or the first fault with its code and its line.
use Rattle.std.specs.Prelude.{ℕ}
use Rattle.bt_text.specs.Reading.{LineReading}
use Rattle.bt_plan.specs.declared.text_fault.TextCode.{TextCode}

-- a fault: its code, and its line
abbrev pub Fault : Type 0
Fault = TextCode × ℕ

-- the value that a text spells, or its first fault
abbrev pub Reading : Type 0 → Type 0
Reading Value = LineReading TextCode Value

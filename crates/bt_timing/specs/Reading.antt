-- What a reader of a delay file answers: the value, or the first fault with its code and its line.
use Rattle.std.specs.Prelude.{ℕ}
use Rattle.bt_text.specs.Reading.{LineReading}
use Rattle.bt_timing.specs.declared.fault.TimingCode.{TimingCode}

-- a fault: its code, and its line
abbrev pub Fault : Type 0
Fault = TimingCode × ℕ

-- the value that a text spells, or its first fault
abbrev pub Reading : Type 0 → Type 0
Reading Value = LineReading TimingCode Value

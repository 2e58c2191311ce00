-- What a reader of a script answers: the value, or the first fault with its code and its line.
use Rattle.bt_text.specs.Reading.{LineReading}
use Rattle.bt_script.specs.declared.fault.ScriptCode.{ScriptCode}

-- the value that a text spells, or its first fault
abbrev pub Reading : Type 0 → Type 0
Reading Value = LineReading ScriptCode Value

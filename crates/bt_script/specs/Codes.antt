-- The code of a fault, as it is printed.
use Rattle.std.specs.Prelude.{ℕ, List, codes}
use Rattle.bt_script.specs.declared.fault.ScriptCode.{ScriptCode}
use Rattle.bt_script.specs.declared.fault.ScriptCode.TheVariants.{S1, S2, S3, S4, S5}

-- the word of a code
abbrev pub code_name : ScriptCode → List ℕ
code_name S1 = codes "S1"
code_name S2 = codes "S2"
code_name S3 = codes "S3"
code_name S4 = codes "S4"
code_name S5 = codes "S5"

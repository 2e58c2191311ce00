-- The JSON of lines behind a text. It is for bodies alone.
use Rattle.std.specs.Prelude.{ℕ, List, [], ◌∷◌, ◌++◌, Option, Ok, Err}
use Rattle.bt_text.specs.Reading.{◌>>=◌, LineReading, or_fault}
use Rattle.bt_export.specs.declared.json.JsonCode.{JsonCode}
use Rattle.bt_export.specs.declared.json.JsonCode.TheVariants.{O1}

-- a text with what is read behind it
abbrev pub behind : List ℕ → LineReading JsonCode (List ℕ) → LineReading JsonCode (List ℕ)
behind text (Ok more) = Ok (text ++ more)
behind text (Err fault) = Err fault

-- a text with the JSON of line `at` behind it, where there is one
abbrev pub with_json : ℕ → List ℕ → Option (List ℕ) → LineReading JsonCode (List ℕ)
with_json at text one = or_fault (O1, at) one >>= λ json. Ok (text ++ (json ++ 10 ∷ []))

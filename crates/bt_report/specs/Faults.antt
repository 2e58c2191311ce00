-- The words that name a fault, and how words that are no command's are answered.
use Rattle.std.specs.Prelude.{ℕ, List, [], ◌∷◌, codes, decimal}
use Rattle.bt_report.specs.declared.status.TheConstants.{FAULTY_WORDS}
use Rattle.bt_report.specs.Outcome.{Outcome, Says}

-- the words of a fault of this code, with its line
abbrev pub line_fault_words : List ℕ → ℕ → List (List ℕ)
line_fault_words code line = codes "fault" ∷ code ∷ decimal line ∷ []

-- the words are none of a command, and that is said
abbrev pub SaysFaultyWords : Outcome → Type 0
SaysFaultyWords = Says (codes "fault" ∷ codes "words" ∷ []) FAULTY_WORDS

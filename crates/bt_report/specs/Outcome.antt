-- What a program may print and with which status it may end.
use Rattle.std.specs.Prelude.{◌≡◌, ℕ, ◌⊎◌, List}
use Rattle.bt_words.specs.Lines.{line_of}
use Rattle.bt_report.specs.declared.status.TheConstants.{OUT_OF_MEMORY}
use Rattle.bt_report.specs.Output.{Output, Prints}

-- what the work came to: the text to print, and the status to end with
pub record Outcome : Type 0 where
  pub text : List ℕ
  pub status : ℕ

-- this text, with this status
abbrev pub text_alone : List ℕ → ℕ → Outcome
text_alone text status = record { text = text; status = status }

-- one line of these words, with this status
abbrev pub Says : List (List ℕ) → ℕ → Outcome → Type 0
Says words status outcome = outcome ≡ text_alone (line_of words) status

-- memory ran out; or the work had one of these outcomes, and it was printed
abbrev pub PrintsOneOf : Output → (Outcome → Type 0) → ℕ → Type 0
PrintsOneOf output Outcomes status = (status ≡ OUT_OF_MEMORY) ⊎ ((outcome : Outcome) × Outcomes outcome × Prints output outcome.text outcome.status status)

-- For bodies alone: the lines of a text that are measured one by one.
use Rattle.std.specs.Prelude.{◌≡◌, ℕ, ◌+◌, if◌then◌else◌, Bool, List, [], ◌∷◌, ◌++◌, length}
use Rattle.bt_text.specs.Text.{is_word, lines}
use Rattle.bt_history.specs.Recovery.{tail_of}

-- the bytes of a line with its newline, none where it is the mark
abbrev pub bytes_of_line : Bool → List ℕ → ℕ
bytes_of_line marked line = if marked then 0 else length line + 1

-- the bytes of these lines, but for the last, which has no newline
abbrev pub unmarked : List ℕ → List (List ℕ) → ℕ
unmarked mark [] = 0
unmarked mark (last ∷ []) = 0
unmarked mark (line ∷ next ∷ rest) = bytes_of_line (is_word mark line) line + unmarked mark (next ∷ rest)

-- what is left of a text once its lines were taken
pub record IsRest (text rest : List ℕ) : Type 0 where
  pub front : List ℕ
  pub parts : text ≡ front ++ rest
  pub tail : tail_of text ≡ tail_of rest

-- all lines were taken
pub record IsTail (text rest : List ℕ) : Type 0 where
  pub stands : IsRest text rest
  pub none : lines rest ≡ rest ∷ []

-- The blocks that are open.
use Rattle.std.specs.Prelude.{ℕ, List, [], ◌∷◌, decimal, length}
use Rattle.std.specs.List.{flat_map}
use Rattle.bt_script.specs.declared.line.ScriptLine.{ScriptLine}
use Rattle.bt_words.specs.declared.form.Form.TheVariants as form
use Rattle.bt_words.specs.Filled.{form_line}

-- A block that is open: the tag of the lines that it belongs to, its `@` included, or no byte where they have none; the number of the
-- line that opened it; and the lines that wait in it.
pub record OpenBlock : Type 0 where
  pub tag : List ℕ
  pub since : ℕ
  pub said : List ScriptLine

-- the blocks that are open, in the order in which they were opened
abbrev pub Open : Type 0
Open = List OpenBlock

-- the line of a block with this tag, that opened with line `since` and has so many lines
abbrev pub line_since : List ℕ → ℕ → ℕ → List ℕ
line_since [] since count = form_line form.BlockOpen (decimal since ∷ decimal count ∷ [])
line_since tag since count = form_line form.BlockOpenTag (decimal since ∷ decimal count ∷ tag ∷ [])

-- the line of a block that is open
abbrev pub block_line : OpenBlock → List ℕ
block_line one = line_since one.tag one.since (length one.said)

-- a line for each of them
abbrev pub block_lines : Open → List ℕ
block_lines blocks = flat_map block_line blocks

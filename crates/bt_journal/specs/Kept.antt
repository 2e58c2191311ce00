-- What the lines of a journal say, one behind the other, and which bytes keep a list of changes.
use Rattle.std.specs.Prelude.{◌≡◌, ℕ, ◌+◌, ◌≤◌, count_by, is_none, List, [], ◌∷◌, ◌++◌, Option, Some, None}
use Rattle.std.specs.List.{filter_map}
use Rattle.bt_net.specs.Network.{Net}
use Rattle.bt_journal.specs.declared.call.Change.{Change}
use Rattle.bt_journal.specs.JournalLines.{change_line, edits_in}
use Rattle.bt_journal.specs.Mark.{mark_of}

-- Lines one behind the other, where so many edits were made before. Each says a change, or none where it is the mark of the
-- network; each edit carries its own number, among which no mark is counted.
abbrev pub lines_said : Net → ℕ → List (Option Change) → List ℕ
lines_said net edits [] = []
lines_said net edits (None ∷ said) = mark_of net ++ lines_said net edits said
lines_said net edits (Some one ∷ said) = change_line net (edits + edits_in one) one ++ lines_said net (edits + edits_in one) said

-- the changes that the lines say, in order
abbrev pub changes_in : List (Option Change) → List Change
changes_in said = filter_map (λ line. line) said

-- how many of the lines are the mark
abbrev pub marks_in : List (Option Change) → ℕ
marks_in said = count_by (λ line. is_none line) said

-- the bytes keep the changes: they are the lines of these in order, and maybe the mark at one place among them
pub record Keeps (net : Net) (bytes : List ℕ) (changes : List Change) : Type 0 where
  pub said : List (Option Change)
  pub lines : bytes ≡ lines_said net 0 said
  pub changes_are : changes_in said ≡ changes
  pub one_mark : marks_in said ≤ 1

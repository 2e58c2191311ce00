-- For bodies alone: the lines of the link that gains, and which of them is too full.
use Rattle.std.specs.Prelude.{◌≡◌, ℕ, ◌<◌, ◌≤◌, List, Option, Some, None}
use Rattle.bt_net.specs.Network.{Net}
use Rattle.bt_matrix.specs.Traffic.{row_sum, column_sum}
use Rattle.bt_journal.specs.declared.call.Edit.{Edit}
use Rattle.bt_journal.specs.declared.call.Change.{Change}
use Rattle.bt_journal.specs.declared.reply.Reply.{Reply}
use Rattle.bt_journal.specs.declared.reply.Reply.TheVariants.{RowFull, ColumnFull}
use Rattle.bt_book.specs.declared.lines.Lines.{Lines}
use Rattle.bt_history.specs.Changes.{matrix_after}
use Rattle.bt_history.specs.EditCauses.{GainsFrom, GainsTo, with_edit}

-- the lines of the link that gains, with their slots after the edit
pub record AreLinesAfter (net : Net) (changes : List Change) (edit : Edit) (lines : Lines) : Type 0 where
  pub from : GainsFrom net edit lines.row
  pub to : GainsTo net edit lines.column
  pub row : lines.row_slots ≡ row_sum (matrix_after net (with_edit changes edit)) lines.row.0
  pub column : lines.column_slots ≡ column_sum (matrix_after net (with_edit changes edit)) lines.column.0

-- the first of the two lines that has more slots than the frame, as a refusal
abbrev pub IsFullLine : Lines → ℕ → Option Reply → Type 0
IsFullLine lines slots None = (lines.row_slots ≤ slots) × (lines.column_slots ≤ slots)
IsFullLine lines slots (Some (RowFull beam sum)) = (beam ≡ lines.row) × (sum ≡ lines.row_slots) × (slots < sum)
IsFullLine lines slots (Some (ColumnFull beam sum)) = (lines.row_slots ≤ slots) × (beam ≡ lines.column) × (sum ≡ lines.column_slots) × (slots < sum)
IsFullLine lines slots (Some _) = ⊥

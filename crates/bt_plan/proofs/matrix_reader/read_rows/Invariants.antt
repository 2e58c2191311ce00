-- the rows so far, in front of those that are left, are all the rows
use Rattle.std.proofs.Common.{◌≡◌, map}
use Rattle.bt_text.specs.Text.{lines}
use Rattle.bt_plan.specs.MatrixText.{rows_in}
use Rattle.bt_text.proofs.Front.{with_front}
use Rattle.bt_plan.proofs.Rows.{left}
use Rattle.bt_plan.proofs.matrix_reader.read_rows.Given as goal

abbrev pub invariant-loop-at : goal.invariant-loop-at
invariant-loop-at l = with_front (map (λ row. row.items) l.rows.items) (left l.size l.at (lines l.rest)) ≡ rows_in l.size l.size 2 (lines l.text)

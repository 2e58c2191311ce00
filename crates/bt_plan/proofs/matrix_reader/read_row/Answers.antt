-- words that are so many numbers, and other words
use Rattle.std.proofs.Common.{sym, ap, ◌∙◌}
use Rattle.bt_text.specs.Text.{words}
use Rattle.bt_plan.specs.LineNumbers.{are_numbers}
use Rattle.bt_plan.proofs.LineWords.{row_is_read, row_is_none}
use Rattle.bt_plan.proofs.matrix_reader.read_row.Goals as goal

pub returns-then-not-are_numbers : goal.returns-then-not-are_numbers
returns-then-not-are_numbers c = rw c.fault_at.ensures.fault (row_is_none c.args.size c.args.at (words c.args.line.now) (ap (are_numbers c.args.size) (sym c.of.ensures.words) ∙ sym c.if-not-are_numbers.ensures))

pub returns : goal.returns
returns c = rw (row_is_read c.args.size c.args.at (words c.args.line.now) (ap (are_numbers c.args.size) (sym c.of.ensures.words) ∙ sym c.if-not-are_numbers.ensures)) c.row_of_numbers.ensures

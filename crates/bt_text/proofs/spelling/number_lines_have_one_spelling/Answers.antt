-- the laws of a line of numbers
use Rattle.bt_text.proofs.TextNumbers.{line_from_numbers_of, numbers_of-line}
use Rattle.bt_text.proofs.spelling.number_lines_have_one_spelling.Goals as goal

pub returns-clause-read : goal.returns-clause-read
returns-clause-read c = numbers_of-line

pub returns-clause-spelled : goal.returns-clause-spelled
returns-clause-spelled c = line_from_numbers_of

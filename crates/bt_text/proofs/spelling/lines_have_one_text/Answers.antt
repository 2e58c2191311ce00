-- the laws of the lines of a text
use Rattle.bt_text.proofs.TextLines.{ended_from_lines, lines-ended}
use Rattle.bt_text.proofs.spelling.lines_have_one_text.Goals as goal

pub returns-clause-read : goal.returns-clause-read
returns-clause-read c = lines-ended

pub returns-clause-spelled : goal.returns-clause-spelled
returns-clause-spelled c = ended_from_lines

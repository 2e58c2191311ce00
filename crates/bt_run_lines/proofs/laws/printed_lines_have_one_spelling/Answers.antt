-- the law of the spelling
use Rattle.bt_run_lines.proofs.OfARun.{line_of_a_run}
use Rattle.bt_run_lines.proofs.Spelling.{line_spelled}
use Rattle.bt_run_lines.proofs.laws.printed_lines_have_one_spelling.Goals as goal

pub returns : goal.returns
returns c = record { spelled = line_spelled; of_a_run = line_of_a_run }

-- the law of what is printed by a form
use Rattle.bt_run_lines.proofs.Printing.{by_form}
use Rattle.bt_run_lines.proofs.laws.lines_of_forms_are_printed_lines.Goals as goal

pub returns : goal.returns
returns c = record { spelled = by_form }

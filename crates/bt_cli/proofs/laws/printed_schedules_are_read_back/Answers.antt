-- what `modes` prints is in range, so that it is read back; and a good schedule has the one verdict
use Rattle.std.proofs.Common.{[], ◌∷◌, codes, length}
use Rattle.bt_plan.proofs.Spelled.{matrix_reading-IsTraffic}
use Rattle.bt_words.specs.Lines.{line_of}
use Rattle.bt_report.specs.Outcome.{text_alone}
use Rattle.bt_cli.proofs.OneReport.{Judges-same}
use Rattle.bt_cli.proofs.Printed.{printed-in_range, good_line}
use Rattle.bt_cli.proofs.laws.printed_schedules_are_read_back.Goals as goal

pub returns-clause-read : goal.returns-clause-read
returns-clause-read c = λ text rows schedule spelled good.
    c.schedules_have_one_spelling.ensures.read (length rows) schedule (matrix_reading-IsTraffic text rows spelled).few_beams (printed-in_range text rows schedule spelled good)

pub returns-clause-judged : goal.returns-clause-judged
returns-clause-judged c = good_line

pub returns-clause-alone : goal.returns-clause-alone
returns-clause-alone c = λ rows schedule outcome good judged.
    Judges-same c.one_verdict.ensures.same rows schedule outcome (text_alone (line_of (codes "good" ∷ [])) 0) judged (good_line rows schedule good)

-- the law of what is read back
use Rattle.bt_run_lines.proofs.ReadBack.{spelled_read}
use Rattle.bt_run_lines.proofs.laws.spelled_lines_are_read.Goals as goal

pub returns : goal.returns
returns c = record { read = spelled_read }

-- the law of the deliveries
use Rattle.bt_run_lines.proofs.Printing.{got_lines}
use Rattle.bt_run_lines.proofs.laws.deliveries_are_printed_lines.Goals as goal

pub returns : goal.returns
returns c = record { got = got_lines }

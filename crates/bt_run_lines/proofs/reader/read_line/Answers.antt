-- what is read of a line names what the network has
use Rattle.bt_run_lines.proofs.Spelling.{range_of}
use Rattle.bt_run_lines.proofs.reader.read_line.Goals as goal

pub returns-clause-range : goal.returns-clause-range
returns-clause-range c = range_of c.args.net.now c.args.line.now c.line_in.result c.line_in.ensures

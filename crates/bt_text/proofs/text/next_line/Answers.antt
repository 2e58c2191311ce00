-- the first newline behind the place ends its line
use Rattle.std.proofs.Common.{None, Some}
use Rattle.bt_text.proofs.TextLines.{lines-from_search}
use Rattle.bt_text.proofs.text.next_line.Goals as goal

pub returns-in_err-length-clause-none : goal.returns-in_err-length-clause-none
returns-in_err-length-clause-none c = rw c.from_residual.ensures (lines-from_search c.args.bytes.now c.args.place None c.in_err-length.ensures)

pub returns-clause-line : goal.returns-clause-line
returns-clause-line c = lines-from_search c.args.bytes.now c.args.place (Some c.in_ok-length.length) c.in_ok-length.ensures

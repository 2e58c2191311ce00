-- the number as it is capped
use Rattle.std.proofs.Common.{sym}
use Rattle.bt_timing.proofs.DelayLines.{named_by_number}
use Rattle.bt_timing.proofs.reader.named_number.Goals as goal

pub returns-clause-reading : goal.returns-clause-reading
returns-clause-reading c = rw (named_by_number c.args.net.now c.args.at c.args.least c.args.name.now c.args.digits.now c.in-Some.number (sym c.if-not-is_name.ensures.name) c.in-Some.ensures.value) c.terminal_within.ensures.reading

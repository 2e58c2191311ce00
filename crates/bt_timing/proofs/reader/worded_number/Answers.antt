-- the number as it is capped
use Rattle.std.proofs.Common.{sym}
use Rattle.bt_timing.proofs.DelayLines.{worded_by_number}
use Rattle.bt_timing.proofs.reader.worded_number.Goals as goal

pub returns-clause-reading : goal.returns-clause-reading
returns-clause-reading c = rw (worded_by_number c.args.name.now c.args.least c.args.most c.args.at c.in-Some.number c.args.word.now c.args.digits.now c.requires.small (sym c.if-not-is_word.ensures.is) c.in-Some.ensures.value) c.number_within.ensures.reading

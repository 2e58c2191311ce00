-- each power of ten is a digit more
use Rattle.std.proofs.Common.{sym}
use Rattle.bt_text.proofs.TextNumbers.{length_two, length_three, length_four}
use Rattle.bt_text.proofs.short.digit_count.Goals as goal

pub returns-then-number-lt100-clause-digits : goal.returns-then-number-lt100-clause-digits
returns-then-number-lt100-clause-digits c = sym (length_two c.args.number c.requires.0 c.if-number-lt100.true)

pub returns-then-number-lt1000-clause-digits : goal.returns-then-number-lt1000-clause-digits
returns-then-number-lt1000-clause-digits c = sym (length_three c.args.number c.if-number-lt100.false c.if-number-lt1000.true)

pub returns-else-number-lt1000-clause-digits : goal.returns-else-number-lt1000-clause-digits
returns-else-number-lt1000-clause-digits c = sym (length_four c.args.number c.if-number-lt1000.false c.requires.1)

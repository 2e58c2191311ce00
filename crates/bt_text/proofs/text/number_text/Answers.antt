-- a number below ten is one digit
use Rattle.std.proofs.lemmas.Fmt.{decimal_digit}
use Rattle.bt_text.proofs.text.number_text.Goals as goal

pub returns-then-number-lt10-clause-ok : goal.returns-then-number-lt10-clause-ok
returns-then-number-lt10-clause-ok c = rw (decimal_digit c.args.number c.if-number-lt10.true) c.in_ok-push.ensures.items

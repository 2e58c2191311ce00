-- a number below ten is one digit; more digits end where so many of them end
use Rattle.std.proofs.Common.{◌+◌, decimal, arith, rules}
use Rattle.std.proofs.lemmas.Fmt.{decimal_digit}
use Rattle.bt_text.proofs.Places.{Placed-ending}
use Rattle.bt_text.proofs.short.place_number.Goals as goal

pub returns-then-number-lt10 : goal.returns-then-number-lt10
returns-then-number-lt10 c = rw (decimal_digit c.args.number c.if-number-lt10.true) c.place_byte.ensures

pub returns : goal.returns
returns c =
    let written = c.write_digits-start.ensures in
    Placed-ending c.args.bytes.now c.write_digits-start.new.buf (decimal c.args.number) c.args.at c.write_digits-start.result (c.args.at + c.digit_count.result)
    (omega arith) (omega arith) written.start (search rules) written.written written.before

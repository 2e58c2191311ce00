-- one more digit: ten times what the digits so far write, and the digit, up to the last u64
use Rattle.std.proofs.Common.{◌<◌, length, get_or, sym, arith}
use Rattle.std.specs.Char.{is_ascii_digit}
use Rattle.std.proofs.lemmas.Int.Digits.{digits_value_more}
use Rattle.std.proofs.lemmas.List.Folds.{list_all_more}
use Rattle.std.proofs.lemmas.Str.{digit_value_digit}
use Rattle.bt_text.proofs.text.digits.Goals as goal

pub loop-byte-preserved : goal.loop-byte-preserved
loop-byte-preserved c =
    let word = c.args.word.now in
    let i = c.loop-byte.byte-index in
    let within : i < length word = omega arith in
    let byte = c.if-not-is_ascii_digit.ensures in
    let more = digits_value_more 10 word i within in
    let digit = digit_value_digit (get_or word i 0) byte.cases in
    record {
      digits = rw (list_all_more is_ascii_digit word i 0 within, c.loop-byte.invariant.digits) (sym byte.value);
      value = omega arith;
    }

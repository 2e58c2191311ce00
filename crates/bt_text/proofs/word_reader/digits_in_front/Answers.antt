-- one more digit
use Rattle.std.proofs.Common.{◌≡◌, ◌<◌, ◌+◌, ◌*◌, length, get_or, drop, true, sym, ◌∙◌, arith}
use Rattle.std.specs.Char.{is_ascii_digit}
use Rattle.bt_text.specs.Text.{words}
use Rattle.bt_text.proofs.Fronts.{value_from_digit, digit_at, digit_at-rest, too_great}
use Rattle.bt_text.proofs.word_reader.digits_in_front.Goals as goal

pub loop-at-preserved : goal.loop-at-preserved
loop-at-preserved c =
    let line = c.args.line.now in
    let at = c.loop-at.at in
    let n = c.loop-at.number in
    let within : at < length line = omega arith in
    let is : is_ascii_digit (get_or line at 0) ≡ true = sym c.if-not-is_ascii_digit.ensures.value in
    record {
      number = sym (digit_at c.args.most n (n * 10 + c.from.result) at line within is (omega (arith, value_from_digit (get_or line at 0) is))) ∙ c.loop-at.invariant.number;
      rest = sym (digit_at-rest at line within is) ∙ c.loop-at.invariant.rest;
      within = omega arith;
      small = omega arith;
    }

pub returns-then-number-from-clause-number : goal.returns-then-number-from-clause-number
returns-then-number-from-clause-number c =
    let line = c.args.line.now in
    let at = c.loop-at.at in
    let n = c.loop-at.number in
    let within : at < length line = omega arith in
    let is : is_ascii_digit (get_or line at 0) ≡ true = sym c.if-not-is_ascii_digit.ensures.value in
    sym (too_great c.args.most (n * 10 + c.from.result) (words (drop (at + 1) line)) (omega arith)) ∙ sym (digit_at c.args.most n (n * 10 + c.from.result) at line within is (omega (arith, value_from_digit (get_or line at 0) is))) ∙ c.loop-at.invariant.number

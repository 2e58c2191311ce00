-- the first space ends the first word
use Rattle.std.proofs.Common.{arith}
use Rattle.bt_text.proofs.Fronts.{words-at_space, words-no_space}
use Rattle.bt_text.proofs.word_reader.word_in_front.Goals as goal

pub returns-then-line-at-eq32 : goal.returns-then-line-at-eq32
returns-then-line-at-eq32 c = words-at_space c.args.line.now c.loop-at.at c.loop-at-test.true c.loop-at.invariant.before c.if-line-at-eq32.true

pub returns : goal.returns
returns c = words-no_space c.args.line.now (λ k low. c.loop-at.invariant.before k (omega (arith, low, c.loop-at-test.false)))

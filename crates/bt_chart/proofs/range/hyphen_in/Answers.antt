-- the first hyphen, and none
use Rattle.std.proofs.Common.{◌==◌, get_or, sym, arith, eq-eqb}
use Rattle.bt_run_lines.proofs.First.{position-first, position-nowhere}
use Rattle.bt_chart.proofs.range.hyphen_in.Goals as goal

pub returns-then-word-at-eq45-clause-at : goal.returns-then-word-at-eq45-clause-at
returns-then-word-at-eq45-clause-at c =
    let word = c.args.word.now in
    let at = c.loop-at.at in
    sym (position-first (λ byte. byte == 45) word at 0 (omega arith) c.loop-at.invariant (eq-eqb (get_or word at 0) 45 c.if-word-at-eq45.true))

pub returns-clause-at : goal.returns-clause-at
returns-clause-at c = sym (position-nowhere (λ byte. byte == 45) c.args.word.now 0 (λ k within. c.loop-at.invariant k (omega (arith, within))))

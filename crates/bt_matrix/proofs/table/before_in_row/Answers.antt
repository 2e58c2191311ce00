use Rattle.std.proofs.Common.{get_or, None, refl, ap, ℕ}
use Rattle.std.specs.Option.{unwrap_or}
use Rattle.bt_matrix.proofs.LinkedLines.{last_or-more}
use Rattle.bt_matrix.proofs.table.before_in_row.Goals as goal

pub loop-at-preserved : goal.loop-at-preserved
loop-at-preserved c =
    let at = get_or c.args.line.now c.loop-at.at-index None in
    let more = last_or-more c.args.head c.loop-at.at-index c.args.line.now at c.loop-at-test.true refl in
    let so_far = ap (λ (last : ℕ). unwrap_or at last) c.loop-at.invariant in
    cc

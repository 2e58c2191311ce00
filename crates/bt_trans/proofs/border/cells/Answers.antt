use Rattle.std.proofs.Common.{map}
use Rattle.std.specs.List.{range_with_len}
use Rattle.bt_trans.specs.Border.{cell_of}
use Rattle.bt_trans.proofs.Written.{rows_more}
use Rattle.bt_trans.proofs.border.cells.Goals as goal

-- one row more
pub loop-up-preserved : goal.loop-up-preserved
loop-up-preserved c =
    rows_more (λ up. map (cell_of c.args.matrix.now c.args.cuts.now.inner c.args.cuts.now.sum up) (range_with_len 0 c.args.lines)) c.loop-up.rows.items c.push.new.self.items c.loop-up.up c.in_ok-cell_row.field-0
    c.in_ok-push.ensures.items c.loop-up.invariant c.in_ok-cell_row.ensures

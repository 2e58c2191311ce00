use Rattle.bt_trans.specs.Border.{cell_of}
use Rattle.bt_trans.proofs.Written.{entries_more}
use Rattle.bt_trans.proofs.border.cell_row.Goals as goal

-- one entry more
pub loop-down-preserved : goal.loop-down-preserved
loop-down-preserved c =
    entries_more (cell_of c.args.matrix.now c.args.cuts.now.inner c.args.cuts.now.sum c.args.up) c.loop-down.row.items c.push.new.self.items c.loop-down.down c.cell.result
    c.in_ok-push.ensures.items c.loop-down.invariant c.cell.ensures

use Rattle.std.proofs.Common.{◌-◌, arith}
use Rattle.bt_chart.proofs.Rows.{same_row_ok}
use Rattle.bt_chart.proofs.beams.add_way.Goals as goal

pub returns : goal.returns
returns c =
    same_row_ok c.add_side.result _ _ c.args.name.now c.args.side.now _ c.args.asked _ (c.args.slots - c.args.asked) _ c.args.slots
    c.from.ensures (omega (arith, c.from-2.ensures, c.saturating_sub-free.ensures)) c.from-3.ensures c.add_side.ensures

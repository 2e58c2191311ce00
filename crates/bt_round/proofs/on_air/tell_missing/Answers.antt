use Rattle.bt_machines.specs.Centre.{is_missing}
use Rattle.bt_timeline.specs.OnAir.{missing_line}
use Rattle.bt_round.proofs.OnAir.{lines-more}
use Rattle.bt_round.proofs.on_air.tell_missing.Goals as goal

pub loop-number-preserved : goal.loop-number-preserved
loop-number-preserved c =
    lines-more (is_missing c.args.centre.now) (missing_line c.args.net.now) c.loop-number.number _ _ _ c.loop-number.invariant c.in_ok-tell_where_missing.ensures

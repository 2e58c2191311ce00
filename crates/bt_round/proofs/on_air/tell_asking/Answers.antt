use Rattle.bt_frame.specs.declared.numbers.TermNo.{TermNo}
use Rattle.bt_machines.specs.Terminals.{has}
use Rattle.bt_timeline.specs.OnAir.{asks_line}
use Rattle.bt_round.proofs.OnAir.{lines-more}
use Rattle.bt_round.proofs.on_air.tell_asking.Goals as goal

pub loop-number-preserved : goal.loop-number-preserved
loop-number-preserved c =
    lines-more (λ (terminal : TermNo). has c.args.centre.now.asking terminal) (asks_line c.args.net.now) c.loop-number.number _ _ _ c.loop-number.invariant c.in_ok-tell_where_asking.ensures

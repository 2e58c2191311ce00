-- a column more, no word left behind them, or one
use Rattle.std.proofs.Common.{◌≡◌, ◌-◌, sym, ap, ◌∙◌, arith}
use Rattle.std.proofs.lemmas.Grind.{common_steps}
use Rattle.bt_plan.specs.LineNumbers.{numbers_to}
use Rattle.bt_plan.proofs.LineWords.{behind, numbers_past}
use Rattle.bt_plan.proofs.schedule_reader.read_columns.Goals as goal

pub loop-preserved : goal.loop-preserved
loop-preserved c = grind (arith, common_steps)

pub returns-in_ok-from_slice : goal.returns-in_ok-from_slice
returns-in_ok-from_slice c = grind (arith, common_steps)

pub returns-else-is_done : goal.returns-else-is_done
returns-else-is_done c =
    let so_far = c.loop.columns.items in
    let none_left : c.args.size - c.loop.counter ≡ 0 = omega arith in
    sym (sym c.loop.invariant.whole ∙ ap (λ k. behind so_far (numbers_to 255 k c.loop.words)) none_left ∙ numbers_past 255 so_far c.loop.words c.if-is_done.ensures.done)

use Rattle.std.proofs.Common.{◌++◌, ap, ◌∙◌}
use Rattle.bt_frame.specs.declared.mode.Mode.{Mode}
use Rattle.bt_words.proofs.Extending.{all_of, one_more}
use Rattle.bt_chart.specs.Page.{mode_item}
use Rattle.bt_chart.proofs.plan_part.add_items.Goals as goal

pub loop-mode-preserved : goal.loop-mode-preserved
loop-mode-preserved c = one_more (mode_item c.args.net.now) c.args.modes.now c.loop-mode.mode-index _ _ _ _ c.loop-mode-test.true c.loop-mode.invariant
    (c.in_ok-add_mode.ensures ∙ ap (λ (mode : Mode). c.loop-mode.out.items ++ mode_item c.args.net.now mode) c.mode-item.is)

pub returns : goal.returns
returns c = all_of (mode_item c.args.net.now) c.args.modes.now c.loop-mode.mode-index _ _ c.loop-mode-test.false c.loop-mode.invariant

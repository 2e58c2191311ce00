-- what stands before the modes, the modes, and what stands behind them
use Rattle.std.proofs.Common.{flat_map}
use Rattle.bt_words.proofs.Extending.{three_behind}
use Rattle.bt_chart.specs.Pieces.{modes_end, modes_head}
use Rattle.bt_chart.specs.Page.{mode_item}
use Rattle.bt_chart.proofs.plan_part.add_modes.Goals as goal

pub returns : goal.returns
returns c =
    three_behind c.add_words-2.result c.args.out.now.items _ _ _ modes_head (flat_map (mode_item c.args.net.now) c.args.modes.now) modes_end
    c.in_ok-add_words.ensures c.in_ok-add_items.ensures c.add_words-2.ensures

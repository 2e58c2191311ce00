-- what stands before the links, the links, and what stands behind them
use Rattle.std.proofs.Common.{flat_map}
use Rattle.bt_words.proofs.Extending.{three_behind}
use Rattle.bt_chart.specs.Pieces.{links_end, links_head}
use Rattle.bt_chart.specs.Page.{link_item}
use Rattle.bt_chart.proofs.links.add_links.Goals as goal

pub returns : goal.returns
returns c =
    three_behind c.add_words-2.result c.args.out.now.items _ _ _ links_head (flat_map (link_item c.args.net.now) c.args.links.now) links_end
    c.in_ok-add_words.ensures c.in_ok-add_items.ensures c.add_words-2.ensures

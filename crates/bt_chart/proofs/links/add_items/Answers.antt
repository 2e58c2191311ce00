use Rattle.bt_words.proofs.Extending.{all_of, one_more}
use Rattle.bt_chart.specs.Page.{link_item}
use Rattle.bt_chart.proofs.links.add_items.Goals as goal

pub loop-link-preserved : goal.loop-link-preserved
loop-link-preserved c = one_more (link_item c.args.net.now) c.args.links.now c.loop-link.link-index _ _ _ _ c.loop-link-test.true c.loop-link.invariant c.in_ok-add_link.ensures

pub returns : goal.returns
returns c = all_of (link_item c.args.net.now) c.args.links.now c.loop-link.link-index _ _ c.loop-link-test.false c.loop-link.invariant

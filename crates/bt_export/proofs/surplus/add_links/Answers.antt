use Rattle.bt_export.specs.Edits.{more_than}
use Rattle.bt_export.proofs.Pieces.{all_of, one_more}
use Rattle.bt_export.proofs.surplus.add_links.Goals as goal

pub loop-link-preserved : goal.loop-link-preserved
loop-link-preserved c = one_more (more_than c.args.others.now) c.args.links.now c.loop-link.link-index _ _ _ _ c.loop-link-test.true c.loop-link.invariant c.in_ok-add_link.ensures

pub returns : goal.returns
returns c = all_of (more_than c.args.others.now) c.args.links.now c.loop-link.link-index _ _ c.loop-link-test.false c.loop-link.invariant

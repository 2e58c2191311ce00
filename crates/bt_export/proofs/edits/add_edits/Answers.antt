use Rattle.bt_export.specs.Edits.{edit_line}
use Rattle.bt_export.proofs.Pieces.{all_of, one_more}
use Rattle.bt_export.proofs.edits.add_edits.Goals as goal

pub loop-link-preserved : goal.loop-link-preserved
loop-link-preserved c =
    one_more (edit_line c.args.net.now c.args.desk c.args.kind.now) c.args.links.now c.loop-link.link-index _ _ _ _ c.loop-link-test.true c.loop-link.invariant c.in_ok-add_edit.ensures

pub returns : goal.returns
returns c = all_of (edit_line c.args.net.now c.args.desk c.args.kind.now) c.args.links.now c.loop-link.link-index _ _ c.loop-link-test.false c.loop-link.invariant

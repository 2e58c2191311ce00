use Rattle.std.proofs.Common.{◌++◌, List, ap, ◌∙◌}
use Rattle.bt_demand.specs.declared.demand.Link.{Link}
use Rattle.bt_export.specs.Edits.{surplus}
use Rattle.bt_export.proofs.Pieces.{all_of, one_more, surplus_of_rows}
use Rattle.bt_export.proofs.surplus.add_rows.Goals as goal

-- the row was added
pub loop-row-preserved : goal.loop-row-preserved
loop-row-preserved c =
    let others = c.args.others.now in
    let row = c.as_slice.ensures.same ∙ c.row-item.is in
    one_more (λ (row : List Link). surplus row others) c.args.rows.now c.loop-row.row-index _ _ _ _ c.loop-row-test.true c.loop-row.invariant
    (c.in_ok-add_links.ensures ∙ ap (λ (links : List Link). c.loop-row.found.items ++ surplus links others) row)

-- each row was added
pub returns : goal.returns
returns c =
    let others = c.args.others.now in
    let rows = c.args.rows.now in
    all_of (λ (row : List Link). surplus row others) rows c.loop-row.row-index _ _ c.loop-row-test.false c.loop-row.invariant
    ∙ ap (λ (found : List Link). c.args.found.now.items ++ found) (surplus_of_rows rows others)

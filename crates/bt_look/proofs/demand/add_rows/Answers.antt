use Rattle.std.proofs.Common.{◌++◌, List, ap, ◌∙◌}
use Rattle.bt_demand.specs.declared.demand.Link.{Link}
use Rattle.bt_words.proofs.Extending.{all_of, one_more}
use Rattle.bt_timeline.specs.Replayed.{link_lines}
use Rattle.bt_timeline.proofs.RowLines.{lines_of_rows, row_of_network}
use Rattle.bt_look.proofs.demand.add_rows.Goals as goal

-- the links of the row are between terminals of the network
pub add_links-requires : goal.add_links-requires
add_links-requires c = row_of_network c.args.net.now c.args.rows.now c.loop-row.row-index _ _ c.requires c.loop-row-test.true c.as_slice.ensures.same c.row-item.is

-- the row was added
pub loop-row-preserved : goal.loop-row-preserved
loop-row-preserved c =
    let row = c.as_slice.ensures.same ∙ c.row-item.is in
    one_more (link_lines c.args.net.now) c.args.rows.now c.loop-row.row-index _ _ _ _ c.loop-row-test.true c.loop-row.invariant
    (c.in_ok-add_links.ensures ∙ ap (λ (links : List Link). c.loop-row.text.items ++ link_lines c.args.net.now links) row)

-- each row was added
pub returns : goal.returns
returns c =
    let net = c.args.net.now in
    let rows = c.args.rows.now in
    all_of (link_lines net) rows c.loop-row.row-index _ _ c.loop-row-test.false c.loop-row.invariant ∙ ap (λ text. c.args.text.now.items ++ text) (lines_of_rows net rows)

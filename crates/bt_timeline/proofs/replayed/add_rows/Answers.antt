use Rattle.std.proofs.Common.{◌++◌, List, take, flat_map, ap, ◌∙◌}
use Rattle.bt_demand.specs.declared.demand.Link.{Link}
use Rattle.bt_demand.specs.Rows.{all_links}
use Rattle.bt_timeline.specs.Replayed.{link_lines}
use Rattle.bt_words.proofs.Extending.{one_more, all_of, extends_on}
use Rattle.bt_timeline.proofs.RowLines.{lines_of_rows, row_of_network}
use Rattle.bt_timeline.proofs.replayed.add_rows.Goals as goal

-- the links of the row are between terminals of the network
pub add_links-requires : goal.add_links-requires
add_links-requires c = row_of_network c.args.net.now c.args.rows.now c.loop-row.row-index _ _ c.requires c.loop-row-test.true c.as_slice.ensures.same c.row-item.is

-- no further line where memory ran out
pub returns-in_err-add_links-clause-kept : goal.returns-in_err-add_links-clause-kept
returns-in_err-add_links-clause-kept c =
    extends_on _ _ (flat_map (link_lines c.args.net.now) (take c.loop-row.row-index c.args.rows.now)) _ c.loop-row.invariant.added c.in_err-add_links.ensures.kept

-- the row was added
pub loop-row-preserved : goal.loop-row-preserved
loop-row-preserved c =
    let row = c.as_slice.ensures.same ∙ c.row-item.is in
    record {
      added = one_more (link_lines c.args.net.now) c.args.rows.now c.loop-row.row-index _ _ _ _ c.loop-row-test.true c.loop-row.invariant.added
          (c.in_ok-add_links.ensures.added ∙ ap (λ (links : List Link). c.loop-row.out.items ++ link_lines c.args.net.now links) row);
    }

-- each row was added
pub returns : goal.returns
returns c =
    let net = c.args.net.now in
    let rows = c.args.rows.now in
    let all = all_of (link_lines net) rows c.loop-row.row-index _ _ c.loop-row-test.false c.loop-row.invariant.added ∙ ap (λ text. c.args.out.now.items ++ text) (lines_of_rows net rows) in
    record { added = all; kept = (link_lines net (all_links rows), all) }

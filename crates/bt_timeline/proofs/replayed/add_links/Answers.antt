use Rattle.std.proofs.Common.{take, ◌∙◌}
use Rattle.bt_timeline.specs.Replayed.{link_line, link_lines}
use Rattle.bt_words.proofs.Extending.{one_more, all_of}
use Rattle.bt_timeline.proofs.replayed.add_links.Goals as goal

pub returns-in_err-link_text-clause-kept : goal.returns-in_err-link_text-clause-kept
returns-in_err-link_text-clause-kept c = let h = c.in_err-link_text.ensures.unchanged in (link_lines c.args.net.now (take c.loop-link.link-index c.args.links.now), h ∙ c.loop-link.invariant.added)

pub loop-link-preserved : goal.loop-link-preserved
loop-link-preserved c = record { added = one_more (link_line c.args.net.now) c.args.links.now c.loop-link.link-index _ _ _ _ c.loop-link-test.true c.loop-link.invariant.added c.in_ok-link_text.ensures.added }

pub returns : goal.returns
returns c =
    let all = all_of (link_line c.args.net.now) c.args.links.now c.loop-link.link-index _ _ c.loop-link-test.false c.loop-link.invariant.added in
    record { added = all; kept = (link_lines c.args.net.now c.args.links.now, all) }

use Rattle.std.proofs.Common.{◌≡◌, ◌++◌, ◌∷◌, [], codes, ap, ◌∙◌}
use Rattle.bt_words.specs.Lines.{line_of}
use Rattle.bt_timeline.specs.Replayed.{link_lines, state_lines}
use Rattle.bt_words.proofs.Extending.{extends_on, two_behind, three_behind, line_extends}
use Rattle.bt_timeline.proofs.replayed.add_replay.Goals as goal

pub returns-in_err-add_rows-clause-kept : goal.returns-in_err-add_rows-clause-kept
returns-in_err-add_rows-clause-kept c = extends_on _ _ (state_lines c.args.edition.0 c.args.newest.now c.args.orders) _ c.in_ok-add_state.ensures.added c.in_err-add_rows.ensures.kept

pub returns : goal.returns
returns c =
    let state = state_lines c.args.edition.0 c.args.newest.now c.args.orders in
    let links = link_lines c.args.net.now c.args.demand.now in
    let end = line_of (codes "end" ∷ []) in
    let linked : c.add_rows.new.out.items ≡ c.add_state.new.out.items ++ links = c.in_ok-add_rows.ensures.added ∙ ap (λ l. c.add_state.new.out.items ++ link_lines c.args.net.now l) c.rows.ensures.links in
    record {
      added = three_behind c.add_line.result _ _ _ _ state links end c.in_ok-add_state.ensures.added linked c.add_line.ensures.added;
      kept = extends_on _ _ (state ++ links) _ (two_behind _ _ _ state links c.in_ok-add_state.ensures.added linked) (line_extends c.add_line.result _ _ end c.add_line.ensures.added c.add_line.ensures.unchanged);
    }

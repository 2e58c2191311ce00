-- piece by piece
use Rattle.std.proofs.Common.{◌++◌}
use Rattle.bt_words.proofs.Extending.{three_behind, two_behind}
use Rattle.bt_chart.specs.Pieces.{facts_text, full_text, heading_text, torn_text}
use Rattle.bt_chart.proofs.state.add_state.Goals as goal

pub returns : goal.returns
returns c =
    let state = c.args.state in
    let before = c.args.out.now.items in
    let heading = heading_text state.edition state.plan in
    three_behind c.add_torn.result before _ _ _ (heading ++ facts_text state) (full_text state.bytes state.limit) (torn_text state.torn)
    (two_behind before _ _ heading (facts_text state) c.in_ok-add_heading.ensures c.in_ok-add_facts_of.ensures)
    c.in_ok-add_full.ensures c.add_torn.ensures

-- what stands over the rows, the rows, and what closes them
use Rattle.std.proofs.Common.{◌++◌, ℕ, flat_map, ap, ◌∙◌}
use Rattle.bt_words.proofs.Extending.{three_behind}
use Rattle.bt_look.specs.Room.{beams_of}
use Rattle.bt_chart.specs.Pieces.{columns_text, table_end}
use Rattle.bt_chart.specs.Page.{beam_rows}
use Rattle.bt_chart.proofs.beams.add_beams.Goals as goal

pub returns : goal.returns
returns c =
    let net = c.args.net.now in
    let before = c.args.out.now.items in
    three_behind c.add_words.result before _ _ _ (columns_text net.slots) (flat_map (beam_rows net c.args.matrix.now) (beams_of net)) table_end
    (c.in_ok-add_columns.ensures ∙ ap (λ (slots : ℕ). before ++ columns_text slots) (c.from.ensures ∙ c.slots.ensures.same))
    c.in_ok-add_rows.ensures c.add_words.ensures

-- what stands before the bar, the bar, and what stands behind it
use Rattle.std.proofs.Common.{[], ◌∷◌, codes}
use Rattle.bt_words.proofs.Extending.{three_behind}
use Rattle.bt_plan_chart.specs.Parts.{text_of}
use Rattle.bt_chart.specs.Pieces.{bar_text, counts_text}
use Rattle.bt_chart.proofs.pieces.add_side.Goals as goal

pub returns : goal.returns
returns c =
    let named = text_of (codes "<tr><th scope='row'>" ∷ c.args.name.now ∷ codes "</th><td>" ∷ c.args.side.now ∷ codes "</td><td class='wide'>" ∷ []) in
    three_behind c.add_counts.result c.args.out.now.items _ _ _ named (bar_text c.args.asked c.args.slots) (counts_text c.args.asked c.args.free)
    c.in_ok-add_words.ensures c.in_ok-add_bar.ensures c.add_counts.ensures

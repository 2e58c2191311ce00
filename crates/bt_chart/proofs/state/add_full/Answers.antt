-- the numbers, the bar, and what closes them
use Rattle.std.proofs.Common.{[], ◌∷◌, codes, decimal}
use Rattle.bt_words.proofs.Extending.{three_behind}
use Rattle.bt_plan_chart.specs.Parts.{text_of}
use Rattle.bt_chart.specs.Pieces.{bar_text}
use Rattle.bt_chart.proofs.state.add_full.Goals as goal

pub returns : goal.returns
returns c =
    let bytes = c.args.bytes in
    let limit = c.args.limit in
    let told = text_of (codes "<div class='wide'><dt>bytes of the journal</dt><dd>" ∷ decimal bytes ∷ codes " of " ∷ decimal limit ∷ codes " " ∷ []) in
    three_behind c.add_words-2.result c.args.out.now.items _ _ _ told (bar_text bytes limit) (codes "</dd></div>\n")
    c.in_ok-add_words.ensures c.in_ok-add_bar.ensures c.add_words-2.ensures

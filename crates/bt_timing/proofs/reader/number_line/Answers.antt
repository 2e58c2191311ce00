-- two words, and none behind them
use Rattle.std.proofs.Common.{◌≡◌, ◌∷◌, [], ap, ◌∙◌}
use Rattle.bt_text.proofs.Fronts.{front_word, no_word}
use Rattle.bt_timing.proofs.reader.number_line.Goals as goal

pub returns-clause-reading : goal.returns-clause-reading
returns-clause-reading c =
    let word = c.in-Some.word.now in
    let digits = c.in-Some-next.digits.now in
    let first = front_word word c.args.words c.next.new.self c.in-Some.ensures.word c.in-Some.ensures.rest in
    let second = front_word digits c.next.new.self c.next-2.new.self c.in-Some-next.ensures.word c.in-Some-next.ensures.rest in
    let none = no_word c.next-2.new.self c.if-not-is_done.ensures.done in
    let whole : c.args.words ≡ word ∷ digits ∷ [] = first ∙ ap (λ ws. word ∷ ws) second ∙ ap (λ ws. word ∷ digits ∷ ws) none in
    rw whole c.worded_number.ensures.reading

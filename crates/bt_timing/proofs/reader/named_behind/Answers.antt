-- two words, and none behind them
use Rattle.std.proofs.Common.{◌≡◌, ◌∷◌, [], ap, ◌∙◌}
use Rattle.bt_text.proofs.Fronts.{front_word, no_word}
use Rattle.bt_timing.proofs.reader.named_behind.Goals as goal

pub returns-clause-reading : goal.returns-clause-reading
returns-clause-reading c =
    let name = c.in-Some.name.now in
    let digits = c.in-Some-next.digits.now in
    let first = front_word name c.args.words c.next.new.self c.in-Some.ensures.word c.in-Some.ensures.rest in
    let second = front_word digits c.next.new.self c.next-2.new.self c.in-Some-next.ensures.word c.in-Some-next.ensures.rest in
    let none = no_word c.next-2.new.self c.if-not-is_done.ensures.done in
    let whole : c.args.words ≡ name ∷ digits ∷ [] = first ∙ ap (λ ws. name ∷ ws) second ∙ ap (λ ws. name ∷ digits ∷ ws) none in
    rw whole c.named_number.ensures.reading

-- three words, and none behind them
use Rattle.std.proofs.Common.{◌≡◌, ◌∷◌, [], ap, ◌∙◌}
use Rattle.bt_text.proofs.Fronts.{front_word, no_word}
use Rattle.bt_plan.proofs.traffic_reader.link_behind.Goals as goal

pub returns-clause-reading : goal.returns-clause-reading
returns-clause-reading c =
    let from = c.in-Some.from.now in
    let to = c.in-Some-next.to.now in
    let units = c.in-Some-next-2.units.now in
    let first = front_word from c.args.words c.next.new.self c.in-Some.ensures.word c.in-Some.ensures.rest in
    let second = front_word to c.next.new.self c.next-2.new.self c.in-Some-next.ensures.word c.in-Some-next.ensures.rest in
    let third = front_word units c.next-2.new.self c.next-3.new.self c.in-Some-next-2.ensures.word c.in-Some-next-2.ensures.rest in
    let none = no_word c.next-3.new.self c.if-not-is_done.ensures.done in
    let whole : c.args.words ≡ from ∷ to ∷ units ∷ [] = first ∙ ap (λ ws. from ∷ ws) second ∙ ap (λ ws. from ∷ to ∷ ws) third ∙ ap (λ ws. from ∷ to ∷ units ∷ ws) none in
    rw whole c.named_link.ensures.reading

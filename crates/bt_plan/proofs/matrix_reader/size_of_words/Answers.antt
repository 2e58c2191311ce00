-- one word, or more
use Rattle.std.proofs.Common.{ap, ◌∙◌, ◌∷◌}
use Rattle.bt_text.specs.Text.{numbers_of}
use Rattle.bt_text.proofs.Fronts.{front_word, no_word}
use Rattle.bt_plan.proofs.LineWords.{only_number, more_numbers}
use Rattle.bt_plan.proofs.matrix_reader.size_of_words.Goals as goal

pub returns-then-not-is_done : goal.returns-then-not-is_done
returns-then-not-is_done c =
    let word = c.in-Some.word.now in
    let front = front_word word c.args.words c.next.new.self c.in-Some.ensures.word c.in-Some.ensures.rest in
    rw c.fault_at-then-not-is_done.ensures.fault (more_numbers word c.args.words c.next.new.self front c.if-not-is_done.ensures.done)

pub returns : goal.returns
returns c =
    let word = c.in-Some.word.now in
    let front = front_word word c.args.words c.next.new.self c.in-Some.ensures.word c.in-Some.ensures.rest in
    rw (ap numbers_of (front ∙ ap (λ ws. word ∷ ws) (no_word c.next.new.self c.if-not-is_done.ensures.done)), only_number word) c.size_of_word.ensures

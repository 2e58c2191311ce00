-- so few digits write a number that is never capped
use Rattle.std.proofs.Common.{length, ◌∙◌}
use Rattle.std.proofs.lemmas.Bool.{le-leb}
use Rattle.bt_text.proofs.TextNumbers.{number_of-short}
use Rattle.bt_text.proofs.text.number_of_digits.Goals as goal

pub returns-then-word-most_digits : goal.returns-then-word-most_digits
returns-then-word-most_digits c =
    let word = c.args.word.now in
    let few = c.if-word-most_digits.true in
    record { number = rw (le-leb (length word) c.args.most_digits few) (c.number.ensures.value ∙ number_of-short word c.args.most_digits few c.requires.most_digits) }

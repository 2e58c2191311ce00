-- what follows the newline runs to the end of the text
use Rattle.std.proofs.Common.{◌+◌, ◌∷◌, length, drop, ap, ◌∙◌, arith}
use Rattle.std.proofs.lemmas.Slice.{between_to_end, between_from_start}
use Rattle.bt_text.specs.Text.{lines}
use Rattle.bt_text.proofs.text.first_line.Goals as goal

pub returns-clause-line : goal.returns-clause-line
returns-clause-line c =
    let text = c.args.text.now in
    let end = c.in_ok-end.end in
    rw (between_to_end text (end + 1) (length text) (omega arith)) (c.in_ok-end.ensures.line ∙ ap (λ line. line ∷ lines (drop (end + 1) text)) (between_from_start text end))

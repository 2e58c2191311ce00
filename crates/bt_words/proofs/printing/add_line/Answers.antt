-- the words, and then the newline
use Rattle.std.proofs.Common.{List, ◌∷◌, [], ◌++◌, ℕ, map, sym, ap, ◌∙◌}
use Rattle.bt_text.specs.Text.{spaced}
use Rattle.bt_words.specs.Lines.{word_bytes}
use Rattle.bt_words.proofs.Extending.{two_behind}
use Rattle.bt_words.specs.Filled.{filled}
use Rattle.bt_words.specs.Forms.{part_of}
use Rattle.bt_words.proofs.Places.{line_of-spaced}
use Rattle.bt_words.proofs.printing.add_line.Goals as goal

pub returns-clause-added : goal.returns-clause-added
returns-clause-added c =
    let words = filled (map part_of c.args.tokens.now) (map word_bytes c.args.words.now) in
    two_behind c.args.out.now.items c.add_first.new.out.items c.push.new.self.items (spaced words) (10 ∷ []) c.in_ok-add_first.ensures.added c.in_ok-push.ensures.items
    ∙ ap (λ (line : List ℕ). c.args.out.now.items ++ line) (sym (line_of-spaced words))

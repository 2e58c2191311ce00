-- the words, and then the space
use Rattle.std.proofs.Common.{◌∷◌, [], ◌++◌, map, ap, ◌∙◌}
use Rattle.bt_text.specs.Text.{spaced}
use Rattle.bt_words.specs.Lines.{word_bytes}
use Rattle.bt_words.proofs.Extending.{two_behind}
use Rattle.bt_words.specs.Filled.{filled}
use Rattle.bt_words.specs.Forms.{parts_of}
use Rattle.bt_words.proofs.printing.print_front.Goals as goal

pub returns-clause-added : goal.returns-clause-added
returns-clause-added c =
    let words = map word_bytes c.args.words.now in
    two_behind c.args.out.now.items c.add_first.new.out.items c.push.new.self.items (spaced (filled (parts_of c.args.form) words)) (32 ∷ [])
    (c.in_ok-add_first.ensures.added ∙ ap (λ places. c.args.out.now.items ++ spaced (filled places words)) c.tokens_of.ensures.parts) c.in_ok-push.ensures.items

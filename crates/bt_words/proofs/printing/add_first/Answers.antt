-- the word at the first place, and then the others
use Rattle.std.proofs.Common.{map, ap, ◌++◌, ◌∙◌}
use Rattle.bt_words.specs.Lines.{word_bytes}
use Rattle.bt_words.specs.Filled.{filled}
use Rattle.bt_words.specs.Forms.{part_of}
use Rattle.bt_words.proofs.Places.{fixed_first, open_first, first_and_further}
use Rattle.bt_words.proofs.printing.add_first.Goals as goal

pub returns-in_ok-extend_from_slice-in-Text-clause-added : goal.returns-in_ok-extend_from_slice-in-Text-clause-added
returns-in_ok-extend_from_slice-in-Text-clause-added c =
    let words = map word_bytes c.args.words.now in
    first_and_further c.add_further.result c.args.out.now.items c.extend_from_slice.new.self.items c.add_further.new.out.items c.in-Text.text.now (filled (map part_of c.args.tokens.now) words) (filled (map part_of c.in-Some.behind.now) words)
    (fixed_first c.args.tokens.now c.in-Some.behind.now c.in-Some.token.now c.in-Text.text words c.in-Some.ensures.cases.0 c.in-Text.is)
    (c.in_ok-extend_from_slice-in-Text.ensures.items ∙ ap (λ bytes. c.args.out.now.items ++ bytes) c.as_bytes.ensures.value) c.add_further.ensures.added

pub returns-in_ok-add_word-in_default-token-clause-added : goal.returns-in_ok-add_word-in_default-token-clause-added
returns-in_ok-add_word-in_default-token-clause-added c =
    let call = c.add_further-in_default-token in
    first_and_further call.result c.args.out.now.items c.add_word.new.out.items call.new.out.items (word_bytes c.in-Some-split_first.word.now) (filled (map part_of c.args.tokens.now) (map word_bytes c.args.words.now)) (filled (map part_of c.in-Some.behind.now) (map word_bytes c.in-Some-split_first.rest.now))
    (open_first c.args.tokens.now c.in-Some.behind.now c.in-Some.token.now c.args.words.now c.in-Some-split_first.rest.now c.in-Some-split_first.word.now c.in-Some.ensures.cases.0 c.in-Some-split_first.ensures.cases.0 c.in_default-token.not-Text)
    c.in_ok-add_word-in_default-token.ensures.added call.ensures.added

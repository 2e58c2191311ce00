-- the word at the next place was added
use Rattle.std.proofs.Common.{◌≡◌, ◌+◌, ◌∷◌, rules}
use Rattle.bt_words.specs.Lines.{word_bytes}
use Rattle.bt_words.proofs.Extending.{extends_again}
use Rattle.bt_words.proofs.Places.{left_at, next_fixed, next_open, one_less}
use Rattle.bt_words.proofs.printing.put_words.Goals.{in-Text, in_default+in-Some}
use Rattle.bt_words.proofs.printing.put_words.Goals as goal

pub loop-token-preserved : goal.loop-token-preserved
loop-token-preserved c =
    let left = left_at c.args.tokens.now c.loop-token.token-index c.args.words.now c.loop-token.at in
    let rest = left_at c.args.tokens.now (c.loop-token.token-index + 1) c.args.words.now c.match-token.at in
    let next : left ≡ word_bytes c.match-token.word ∷ rest = elim c.match-token.branch [
      | in-Text w ↦ rw (w.word-is, w.at-is) (next_fixed c.args.tokens.now c.loop-token.token-index c.args.words.now c.loop-token.at w.in-Text.fixed c.loop-token-test.true w.in-Text.is)
      | in_default+in-Some w ↦ rw (w.word-is, w.at-is) (next_open c.args.tokens.now c.loop-token.token-index c.args.words.now c.loop-token.at w.in-Some.word.now c.loop-token-test.true w.in_default.not-Text (search rules) (search rules))
    ] in
    record {
      so_far = one_less c.loop-token.is_further c.loop-token.text c.put_word.new.text (word_bytes c.match-token.word) _ left rest next c.loop-token.invariant.so_far c.if-not-put_word.ensures.added;
      kept = extends_again c.args.text.now c.loop-token.text c.put_word.new.text c.loop-token.invariant.kept c.put_word.ensures.kept;
    }

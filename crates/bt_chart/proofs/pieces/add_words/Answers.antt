use Rattle.bt_words.specs.Lines.{word_bytes}
use Rattle.bt_words.proofs.Extending.{one_more, all_of}
use Rattle.bt_chart.proofs.pieces.add_words.Goals as goal

pub loop-word-preserved : goal.loop-word-preserved
loop-word-preserved c = one_more word_bytes c.args.words.now c.loop-word.word-index _ _ _ _ c.loop-word-test.true c.loop-word.invariant c.in_ok-add_word.ensures.added

pub returns : goal.returns
returns c = all_of word_bytes c.args.words.now c.loop-word.word-index _ _ c.loop-word-test.false c.loop-word.invariant

-- the words so far
use Rattle.std.proofs.Common.{◌≡◌, ◌++◌, flat_map, take}
use Rattle.bt_words.specs.Lines.{word_bytes}
use Rattle.bt_chart.proofs.pieces.add_words.Given as goal

abbrev pub invariant-loop-word : goal.invariant-loop-word
invariant-loop-word l = l.out.items ≡ l.fn.out.items ++ flat_map word_bytes (take l.word-index l.words)

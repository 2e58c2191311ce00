use Rattle.std.proofs.Common.{◌≡◌, ◌++◌, ◌∷◌, flat_map, take}
use Rattle.bt_words.specs.Lines.{word_bytes}
use Rattle.bt_words.proofs.line.add_further.Given as goal

-- the words so far were added, a space before each of them
abbrev pub invariant-loop-word : goal.invariant-loop-word
invariant-loop-word l = record {
  added : l.out.items ≡ l.fn.out.items ++ flat_map (λ word. 32 ∷ word_bytes word) (take l.word-index l.words);
}

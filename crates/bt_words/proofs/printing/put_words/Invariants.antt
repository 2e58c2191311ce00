-- what was added so far, and the words of the places that are left behind it
use Rattle.std.proofs.Common.{◌≡◌, ◌++◌, map}
use Rattle.bt_text.specs.Text.{spaced}
use Rattle.bt_words.specs.Lines.{word_bytes}
use Rattle.bt_words.specs.Written.{Extends}
use Rattle.bt_words.specs.Filled.{filled}
use Rattle.bt_words.specs.Forms.{part_of}
use Rattle.bt_words.proofs.Places.{left_at, left_of}
use Rattle.bt_words.proofs.printing.put_words.Given as goal

abbrev pub invariant-loop-token : goal.invariant-loop-token
invariant-loop-token l = record {
  so_far : l.text ++ left_of l.is_further (left_at l.tokens l.token-index l.words l.at) ≡ l.fn.text ++ spaced (filled (map part_of l.tokens) (map word_bytes l.words));
  kept : Extends l.fn.text l.text;
}

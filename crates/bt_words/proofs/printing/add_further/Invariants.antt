-- what was added so far, and the words of the places that are left behind it
use Rattle.std.proofs.Common.{◌≡◌, ◌++◌, map}
use Rattle.bt_words.specs.Lines.{spaced_out, word_bytes}
use Rattle.bt_words.specs.Written.{Extends}
use Rattle.bt_words.specs.Filled.{filled}
use Rattle.bt_words.specs.Forms.{part_of}
use Rattle.bt_words.proofs.Places.{left_at}
use Rattle.bt_words.proofs.printing.add_further.Given as goal

abbrev pub invariant-loop-token : goal.invariant-loop-token
invariant-loop-token l = record {
  so_far : l.out.items ++ spaced_out (left_at l.tokens l.token-index l.words l.at) ≡ l.fn.out.items ++ spaced_out (filled (map part_of l.tokens) (map word_bytes l.words));
  kept : Extends l.fn.out.items l.out.items;
}

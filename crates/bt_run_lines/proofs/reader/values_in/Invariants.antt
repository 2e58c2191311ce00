-- what the words said so far, in front of what is left, is all that they say
use Rattle.std.proofs.Common.{◌≡◌, ◌+◌, ◌≤◌, Some, length, map}
use Rattle.bt_text.specs.Text.{words}
use Rattle.bt_words.specs.declared.token.TheConstants.{MOST_VALUES}
use Rattle.bt_words.specs.Forms.{part_of, open_places}
use Rattle.bt_run_lines.specs.Lines.{followed, values_in}
use Rattle.bt_words.proofs.Places.{places_at}
use Rattle.bt_run_lines.proofs.reader.values_in.Given as goal

abbrev pub invariant-loop-token : goal.invariant-loop-token
invariant-loop-token l = record {
  so_far : followed (Some l.said) (values_in l.net (places_at l.tokens l.token-index) l.words) ≡ values_in l.net (map part_of l.tokens) (words l.line);
  room : length l.said + open_places (places_at l.tokens l.token-index) ≤ MOST_VALUES;
}

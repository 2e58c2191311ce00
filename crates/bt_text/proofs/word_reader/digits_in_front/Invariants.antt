-- what the digits that are left write behind those so far is what all of them write
use Rattle.std.proofs.Common.{◌≡◌, ◌≤◌, ◌-◌, length, drop}
use Rattle.bt_text.specs.Text.{words}
use Rattle.bt_text.proofs.Fronts.{digits_front}
use Rattle.bt_text.proofs.word_reader.digits_in_front.Given as goal

abbrev pub invariant-loop-at : goal.invariant-loop-at
invariant-loop-at l = record {
  number : digits_front l.most l.number (words (drop l.at l.line)) ≡ digits_front l.most 0 (words l.line);
  rest : drop 1 (words (drop l.at l.line)) ≡ drop 1 (words l.line);
  within : l.at ≤ length l.line;
  small : l.number ≤ l.most;
}

abbrev pub decreases-loop-at : goal.decreases-loop-at
decreases-loop-at l = length l.line - l.at

-- the words so far in lines, in front of those that are left
use Rattle.std.proofs.Common.{◌≡◌, ◌++◌, length}
use Rattle.bt_text.specs.Text.{words}
use Rattle.bt_journal.specs.LineReading.{in_lines}
use Rattle.bt_journal.proofs.reader.in_lines.Given as goal

abbrev pub invariant-loop-word : goal.invariant-loop-word
invariant-loop-word l = l.plan.items ++ in_lines l.beams l.left l.words ≡ in_lines l.beams 0 (words l.text)

abbrev pub decreases-loop-word : goal.decreases-loop-word
decreases-loop-word l = length l.words

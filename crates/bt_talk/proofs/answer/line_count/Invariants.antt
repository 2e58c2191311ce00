use Rattle.std.proofs.Common.{◌≡◌, ◌+◌, ◌≤◌, length}
use Rattle.bt_text.specs.Text.{lines}
use Rattle.bt_talk.proofs.answer.line_count.Given as goal

-- the lines so far, and those that are left
abbrev pub invariant-loop-after : goal.invariant-loop-after
invariant-loop-after l = record {
  so_far : l.count + length (lines l.rest) ≡ length (lines l.text);
  few : l.count + length l.rest ≤ length l.text;
}

-- each line makes the rest shorter
abbrev pub decreases-loop-after : goal.decreases-loop-after
decreases-loop-after l = length l.rest

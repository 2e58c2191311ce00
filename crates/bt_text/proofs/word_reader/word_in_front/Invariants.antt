use Rattle.std.proofs.Common.{◌≡◌, ℕ, ◌<◌, ◌≤◌, ◌-◌, ◌==◌, false, length, get_or}
use Rattle.bt_text.proofs.word_reader.word_in_front.Given as goal

-- no byte so far is a space
abbrev pub invariant-loop-at : goal.invariant-loop-at
invariant-loop-at l = record {
  before : (k : ℕ) → k < l.at → (get_or l.line k 0 == 32) ≡ false;
  within : l.at ≤ length l.line;
}

abbrev pub decreases-loop-at : goal.decreases-loop-at
decreases-loop-at l = length l.line - l.at

-- no beam so far has the name
use Rattle.std.proofs.Common.{◌≡◌, ℕ, ◌-◌, ◌<◌, ◌≤◌, false, [], length, get_or}
use Rattle.std.specs.Str.{bytes_eq}
use Rattle.bt_run_lines.proofs.word.beam_named.Given as goal

abbrev pub invariant-loop-number : goal.invariant-loop-number
invariant-loop-number l = record {
  within : l.number ≤ length l.net.beams;
  none : (k : ℕ) → k < l.number → bytes_eq l.word (get_or l.net.beams k []) ≡ false;
}

abbrev pub decreases-loop-number : goal.decreases-loop-number
decreases-loop-number l = length l.net.beams - l.number

-- what was said so far, in front of what is left, is all that is said
use Rattle.std.proofs.Common.{◌≡◌, ◌+◌, ◌≤◌, false, length, vec_len}
use Rattle.bt_text.specs.Text.{lines}
use Rattle.bt_script.specs.ScriptText.{lines_in}
use Rattle.bt_text.proofs.Front.{with_front}
use Rattle.bt_script.proofs.reader.read_lines.Given as goal

abbrev pub invariant-loop-line : goal.invariant-loop-line
invariant-loop-line l = record {
  reading : with_front l.said.items (lines_in l.net l.at l.is_open (lines l.rest)) ≡ lines_in l.net 1 false (lines l.text);
  few : l.at ≤ 20001;
  count : vec_len l.said + 1 ≡ l.at;
}

abbrev pub decreases-loop-line : goal.decreases-loop-line
decreases-loop-line l = length l.rest

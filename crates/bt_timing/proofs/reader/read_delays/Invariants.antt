-- the delays so far, and those of the lines that are left, are those of the text; each line takes a newline at least
use Rattle.std.proofs.Common.{◌≡◌, ◌+◌, ◌≤◌, length}
use Rattle.bt_text.specs.Text.{lines}
use Rattle.bt_timing.specs.DelayText.{delays_in, nothing_known}
use Rattle.bt_timing.proofs.reader.read_delays.Given as goal

abbrev pub invariant-loop-line : goal.invariant-loop-line
invariant-loop-line l = record {
  reading : delays_in l.net l.at l.table (lines l.rest) ≡ delays_in l.net 3 (nothing_known l.net) (lines l.text);
  terminals : length l.table.known ≡ length l.net.terminals;
  lines_left : l.at + length l.rest ≤ 3 + length l.text;
}

abbrev pub decreases-loop-line : goal.decreases-loop-line
decreases-loop-line l = length l.rest

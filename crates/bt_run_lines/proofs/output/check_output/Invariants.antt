-- the lines that are left have the fault of all, and are numbered on
use Rattle.std.proofs.Common.{◌≡◌, ◌+◌, ◌≤◌, length}
use Rattle.bt_text.specs.Text.{lines}
use Rattle.bt_run_lines.specs.Lines.{gone_over, lines_from, output_of}
use Rattle.bt_run_lines.proofs.output.check_output.Given as goal

abbrev pub invariant-loop-line : goal.invariant-loop-line
invariant-loop-line l = record {
  so_far : gone_over (lines_from l.net l.at l.told (lines l.rest)) ≡ gone_over (output_of l.net l.text);
  few : l.at + length l.rest ≤ length l.text + 1;
}

abbrev pub decreases-loop-line : goal.decreases-loop-line
decreases-loop-line l = length l.rest

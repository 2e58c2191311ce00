use Rattle.std.proofs.Common.{◌≡◌, ◌+◌, ◌≤◌, length}
use Rattle.bt_text.specs.Text.{lines}
use Rattle.bt_look.specs.Measure.{IsRest, unmarked}
use Rattle.bt_look.proofs.measure.measure_lines.Given as goal

-- the lines so far were measured
abbrev pub invariant-loop-line : goal.invariant-loop-line
invariant-loop-line l = record {
  stands : IsRest l.text l.rest;
  so_far : l.bytes + unmarked l.mark (lines l.rest) ≡ unmarked l.mark (lines l.text);
  few : l.bytes + length l.rest ≤ length l.text;
}

-- each line makes the rest shorter
abbrev pub decreases-loop-line : goal.decreases-loop-line
decreases-loop-line l = length l.rest

-- the delays so far, in front of those that are left, are all of them
use Rattle.std.proofs.Common.{◌≡◌, length, drop, All}
use Rattle.bt_timing.specs.DelayText.{all_of}
use Rattle.bt_timing.specs.Times.{IsDelay}
use Rattle.bt_timing.proofs.KnownDelays.{with_rest}
use Rattle.bt_timing.proofs.delay_table.all_of.Given as goal

abbrev pub invariant-loop-entry : goal.invariant-loop-entry
invariant-loop-entry l = record {
  reading : with_rest l.delays.items (drop l.entry-index l.known) ≡ all_of l.known;
  each : All IsDelay l.delays.items;
  count : length l.delays.items ≡ l.entry-index;
}

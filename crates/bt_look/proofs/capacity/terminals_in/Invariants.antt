use Rattle.std.proofs.Common.{◌≡◌, ◌≤◌, take, count_by}
use Rattle.bt_look.proofs.Ends.{is_of}
use Rattle.bt_look.proofs.capacity.terminals_in.Given as goal

-- the terminals so far that are in the beam
abbrev pub invariant-loop-terminal : goal.invariant-loop-terminal
invariant-loop-terminal l = record {
  so_far : l.count ≡ count_by (is_of l.beam.0) (take l.terminal l.net.terminals);
  few : l.count ≤ l.terminal;
}

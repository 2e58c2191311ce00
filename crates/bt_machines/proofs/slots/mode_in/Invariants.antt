use Rattle.std.proofs.Common.{◌≡◌, ◌≤◌, take}
use Rattle.bt_matrix.specs.Good.{total_duration}
use Rattle.bt_machines.proofs.slots.mode_in.Given as goal

-- the modes so far end at `end`, and none of them has the slot
abbrev pub invariant-loop-mode : goal.invariant-loop-mode
invariant-loop-mode l = record {
  so_far : l.end ≡ total_duration (take l.mode-index l.modes);
  before : l.end ≤ l.slot;
}

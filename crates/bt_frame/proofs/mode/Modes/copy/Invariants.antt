use Rattle.std.proofs.Common.{◌≡◌, take}
use Rattle.bt_frame.proofs.mode.Modes.copy.Given as goal

-- the modes so far
abbrev pub invariant-loop-mode : goal.invariant-loop-mode
invariant-loop-mode l = record {
  same : l.mode-items ≡ l.self;
  so_far : l.modes.items ≡ take l.mode-index l.self;
}

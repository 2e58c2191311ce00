use Rattle.std.proofs.Common.{◌≡◌, ◌++◌, take}
use Rattle.bt_station.specs.Lines.{mode_lines}
use Rattle.bt_station.proofs.say.add_modes.Given as goal

-- the modes so far were added
abbrev pub invariant-loop-mode : goal.invariant-loop-mode
invariant-loop-mode l = record { added : l.out.items ≡ l.fn.out.items ++ mode_lines (take l.mode-index l.modes) }

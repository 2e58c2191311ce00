use Rattle.std.proofs.Common.{◌≡◌, ◌<◌, ℕ, length, get_or}
use Rattle.bt_look.specs.Room.{terminals_in}
use Rattle.bt_look.proofs.capacity.count_terminals.Given as goal

-- the numbers of the beams so far
abbrev pub invariant-loop-beam : goal.invariant-loop-beam
invariant-loop-beam l = record {
  each : length l.counts.items ≡ l.beam;
  counted : (beam : ℕ) → beam < l.beam → get_or l.counts.items beam 0 ≡ terminals_in l.net beam;
}

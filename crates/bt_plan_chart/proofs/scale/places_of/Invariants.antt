use Rattle.std.proofs.Common.{◌≡◌, ◌≤◌, ℕ, get_or, length}
use Rattle.bt_plan_chart.specs.Scale.{lanes_before}
use Rattle.bt_plan_chart.proofs.scale.places_of.Given as goal

-- the places of the beams so far, and of the next
abbrev pub invariant-loop-beam : goal.invariant-loop-beam
invariant-loop-beam l = record {
  wide : length l.places ≡ 33;
  so_far : (beam : ℕ) → beam ≤ l.beam → get_or l.places beam 0 ≡ lanes_before l.fn.drawn beam;
  lanes : l.lanes ≡ lanes_before l.fn.drawn l.beam;
  few : l.lanes ≤ l.beam;
}

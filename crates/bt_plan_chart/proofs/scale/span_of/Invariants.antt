use Rattle.std.proofs.Common.{◌≡◌, ◌^◌, ◌≤◌, max, take}
use Rattle.std.specs.List.{fold}
use Rattle.bt_plan_chart.specs.Scale.{end_of}
use Rattle.bt_plan_chart.proofs.scale.span_of.Given as goal

-- the greatest of so many slots, 1 and the ends so far
abbrev pub invariant-loop-burst : goal.invariant-loop-burst
invariant-loop-burst l = record {
  greatest : l.span ≡ fold (λ span burst. max span (end_of burst)) (max l.slots 1) (take l.burst-index l.bursts);
  some : 1 ≤ l.span;
  whole : l.slots ≤ l.span;
  small : l.span ≤ 2 ^ 33;
}

use Rattle.std.proofs.Common.{◌≡◌, ◌≢◌, ◌<◌, length, take, All, AllPairs}
use Rattle.bt_demand.proofs.Seen.{IsSeen}
use Rattle.bt_demand.proofs.mode_faults.are_distinct_beams.Given as goal

-- the beams so far are below the size and distinct, and exactly these are seen
abbrev pub invariant-loop-down : goal.invariant-loop-down
invariant-loop-down l = record {
  wide : length l.seen ≡ 32;
  in_range : All (λ down. down < l.size) (take l.down-index l.columns);
  distinct : AllPairs (λ a b. a ≢ b) (take l.down-index l.columns);
  marked : IsSeen l.seen (take l.down-index l.columns);
}

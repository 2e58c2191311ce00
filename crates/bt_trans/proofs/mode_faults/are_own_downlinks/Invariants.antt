use Rattle.std.proofs.Common.{◌≡◌, ◌⊎◌, ◌<◌, length, take, All}
use Rattle.bt_demand.proofs.Seen.{IsSeen}
use Rattle.bt_trans.proofs.OwnDownlinks.{AreOwn}
use Rattle.bt_trans.proofs.mode_faults.are_own_downlinks.Given as goal

-- the beams so far are silent or below the size, no two of them are the same but for silence, and exactly these are seen
abbrev pub invariant-loop-down : goal.invariant-loop-down
invariant-loop-down l = record {
  wide : length l.seen ≡ 32;
  in_range : All (λ down. (down ≡ 255) ⊎ (down < l.size)) (take l.down-index l.columns);
  own : AreOwn (take l.down-index l.columns);
  marked : IsSeen l.seen (take l.down-index l.columns);
}

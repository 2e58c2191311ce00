use Rattle.std.proofs.Common.{◌≡◌, ◌+◌, ◌-◌, ◌≤◌, length, drop}
use Rattle.bt_talk.proofs.Places.{place_in}
use Rattle.bt_talk.proofs.blocks.place_of.Given as goal

-- none of the blocks so far is the one
abbrev pub invariant-loop-place : goal.invariant-loop-place
invariant-loop-place l = record {
  so_far : l.place + place_in l.tag (drop l.place l.blocks) ≡ place_in l.tag l.blocks;
  within : l.place ≤ length l.blocks;
}

abbrev pub decreases-loop-place : goal.decreases-loop-place
decreases-loop-place l = length l.blocks - l.place

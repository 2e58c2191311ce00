use Rattle.std.proofs.Common.{take}
use Rattle.bt_centre.specs.Answering.{LastsIn, RoundsPlayed}
use Rattle.bt_centre.proofs.live.play_rounds.Given as goal

-- the rounds so far were played
abbrev pub invariant-loop-round : goal.invariant-loop-round
invariant-loop-round g l = record {
  played : RoundsPlayed l.net (take l.round-index l.rounds) l.fn.live l.live l.text.items;
  lasts : LastsIn l.live;
}

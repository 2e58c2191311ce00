use Rattle.bt_export.proofs.Carrying.{SoFar}
use Rattle.bt_export.proofs.carry.add_all.Given as goal

-- the links so far were added
abbrev pub invariant-loop-place : goal.invariant-loop-place
invariant-loop-place l = SoFar l.net l.links l.new l.place l.there

use Rattle.std.proofs.Common.{◌≡◌}
use Rattle.bt_net.specs.Numbered.{numbered_beams}
use Rattle.bt_net.proofs.numbered.numbered_beams.Given as goal

abbrev pub invariant-loop-number : goal.invariant-loop-number
invariant-loop-number l = l.beams ≡ numbered_beams l.number

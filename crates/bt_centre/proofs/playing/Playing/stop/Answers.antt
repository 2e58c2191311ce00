-- what is left is that of the station
use Rattle.std.proofs.Common.{subst}
use Rattle.bt_centre.specs.Progress.{Hand, IsLeftOf}
use Rattle.bt_centre.proofs.playing.Playing.stop.Goals as goal

pub returns : goal.returns
returns g c = subst (λ (hand : Hand). IsLeftOf hand c.leave.result) c.self.view_is (c.leave.ensures c.self.inside.rounds)

-- what is left is that of the run, behind what was handed over
use Rattle.std.proofs.Common.{subst, sym}
use Rattle.bt_centre.specs.Progress.{Hand, IsLeftOf, Left}
use Rattle.bt_centre.specs.Whole.{whole_left}
use Rattle.bt_centre.proofs.Whole.{left_whole, one_of_stop}
use Rattle.bt_centre.proofs.live.Live.stop.Goals as goal

pub left_behind-requires : goal.left_behind-requires
left_behind-requires g c = record { one = one_of_stop c.self.inside.run c.stop.result c.self.invariant.over c.stop.ensures }

pub returns : goal.returns
returns g c =
    let log = c.self.inside.log in
    subst (λ (left : Left). IsLeftOf c.args.self left) (sym c.left_behind.ensures)
    (subst (λ (hand : Hand). IsLeftOf hand (whole_left log.times log.front c.stop.result)) c.self.view_is
    (left_whole log.times log.front c.self.inside.run c.stop.result c.self.invariant c.stop.ensures))

-- the tally is that of all times
use Rattle.std.proofs.Common.{ap, sym, ◌∙◌}
use Rattle.bt_centre.specs.Progress.{Left}
use Rattle.bt_centre.specs.Run.{has_lost}
use Rattle.bt_centre.proofs.Handed.{lost_histories}
use Rattle.bt_centre.proofs.live.LiveRemains.has_lost.Goals as goal

pub returns : goal.returns
returns g c = record {
  lost = c.self.invariant.lost ∙ sym (lost_histories c.self.inside.histories) ∙ ap (λ (left : Left). has_lost left.histories) c.self.view_is;
}

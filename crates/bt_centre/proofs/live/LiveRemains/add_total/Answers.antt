-- the tally is that of all times
use Rattle.std.proofs.Common.{◌≡◌, ◌++◌, subst}
use Rattle.std.specs.Prelude.{OnOk}
use Rattle.bt_centre.specs.Lines.{total_of}
use Rattle.bt_centre.specs.Progress.{Left}
use Rattle.bt_centre.specs.Run.{entries_of}
use Rattle.bt_centre.proofs.live.LiveRemains.add_total.Goals as goal

pub returns : goal.returns
returns g c = record {
  total = subst (λ (left : Left). OnOk c.add_total.result (c.add_total.new.text.items ≡ c.args.text.now.items ++ total_of (entries_of left.histories))) c.self.view_is
      (c.add_total.ensures.total (entries_of c.self.inside.histories) c.self.invariant);
}

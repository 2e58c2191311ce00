-- nothing was handed over yet
use Rattle.bt_centre.proofs.Whole.{live_new, whole_new}
use Rattle.bt_centre.proofs.live.Live.new.Goals as goal

pub invariant_of-result : goal.invariant_of-result
invariant_of-result g c = live_new _ c.args.run c.new.ensures.front c.requires.over c.requires.none

pub returns : goal.returns
returns g c = record { same = whole_new _ _ c.args.run c.new.ensures.times c.new.ensures.front c.requires.over }

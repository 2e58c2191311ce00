-- the air alone is another
use Rattle.std.proofs.Common.{ap, ◌∙◌}
use Rattle.bt_round.specs.AirLines.{hearing}
use Rattle.bt_centre.specs.Progress.{Hand}
use Rattle.bt_centre.specs.Whole.{whole}
use Rattle.bt_centre.proofs.Whole.{live_hears}
use Rattle.bt_centre.proofs.live.live_heard.Goals as goal

pub invariant_of-result : goal.invariant_of-result
invariant_of-result g c = live_hears c.live.inside.log.front c.live.inside.run c.hear.new.self _ c.hear.ensures.heard c.live.invariant

pub returns : goal.returns
returns g c = record {
  heard = ap (whole c.live.inside.log.times c.live.inside.log.front) c.hear.ensures.heard ∙ ap (λ (hand : Hand). record hand { air = hearing hand.air c.args.line }) c.live.view_is;
}

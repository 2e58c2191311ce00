use Rattle.std.proofs.Common.{◌∙◌, ◌==◌, List, length, sym, ap}
use Rattle.std.specs.Prelude.{not}
use Rattle.bt_demand.specs.declared.burst.Burst.{Burst}
use Rattle.bt_machines.specs.Plans.{plan_of}
use Rattle.bt_site.proofs.Lookup.{has-some}
use Rattle.bt_site.proofs.plans.Plans.has_burst.Goals as goal

pub returns : goal.returns
returns c = record {
  has = ap not (c.is_empty.ensures ∙ ap (λ (list : List Burst). length list == 0) c.share.ensures.share) ∙ sym (has-some (plan_of c.args.self.now.all c.args.edition) c.args.terminal);
}

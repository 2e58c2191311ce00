use Rattle.bt_site.proofs.Ranges.{messages-in-range}
use Rattle.bt_site.proofs.laws.messages_are_in_range.Goals as goal

pub returns : goal.returns
returns c = record {
  in_range = messages-in-range c.flyable_plans_are_small.ensures.modes c.flyable_plans_are_small.ensures.few_modes c.flyable_plans_are_small.ensures.bursts
      c.flyable_plans_are_small.ensures.few_bursts c.flyable_plans_are_small.ensures.ordered;
}

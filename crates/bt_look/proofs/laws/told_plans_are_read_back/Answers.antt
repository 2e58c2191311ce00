use Rattle.bt_history.specs.Causes.{IsGoodForItsEdition}
use Rattle.bt_look.proofs.OneEdition.{plans_grow}
use Rattle.bt_look.proofs.PlansAsked.{plan_among, plan_newest, plan_of_edition, plan_read}
use Rattle.bt_look.proofs.laws.told_plans_are_read_back.Goals as goal

pub returns : goal.returns
returns c = record {
  edition = plan_of_edition;
  one = plans_grow;
  newest = plan_newest;
  good = λ net changes asked follow. plan_among (IsGoodForItsEdition net changes) changes asked (c.installed_plans_are_good.ensures.good net changes follow);
  read = λ net bytes changes asked sound told. plan_read net changes asked (λ plan range. c.plans_have_one_spelling.ensures.read net plan sound range) told.ranges;
}

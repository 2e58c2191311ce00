use Rattle.bt_site.proofs.Banks.{newest-has_plan}
use Rattle.bt_site.proofs.laws.newest_edition_has_a_plan.Goals as goal

pub returns : goal.returns
returns c = record { planned = newest-has_plan }

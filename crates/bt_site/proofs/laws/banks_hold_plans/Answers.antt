use Rattle.bt_site.proofs.Banks.{banks-hold}
use Rattle.bt_site.proofs.laws.banks_hold_plans.Goals as goal

pub returns : goal.returns
returns c = record { banks = banks-hold }

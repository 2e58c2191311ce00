use Rattle.bt_site.proofs.Banks.{plans-stay}
use Rattle.bt_site.proofs.Stays.{sent-stays}
use Rattle.bt_site.proofs.laws.plans_stay.Goals as goal

pub returns : goal.returns
returns c = record { stay = plans-stay; carried = sent-stays }

use Rattle.bt_demand.proofs.OneVerdict.{the_same}
use Rattle.bt_demand.proofs.verdict_laws.one_verdict.Goals as goal

pub returns : goal.returns
returns c = record { same = the_same }

use Rattle.bt_site.proofs.Ground.{terminal-agrees}
use Rattle.bt_site.proofs.laws.terminals_are_said.Goals as goal

pub returns : goal.returns
returns c = record { agrees = terminal-agrees }

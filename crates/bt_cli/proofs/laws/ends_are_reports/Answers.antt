use Rattle.bt_cli.proofs.ByCommand.{ends_reported}
use Rattle.bt_cli.proofs.laws.ends_are_reports.Goals as goal

pub returns : goal.returns
returns c = record { printed = ends_reported }

-- the first word is this command's, which asks for no store
use Rattle.std.proofs.Common.{refl}
use Rattle.bt_cli.proofs.ByCommand.{none_named}
use Rattle.bt_cli.proofs.commands.modes_command.Goals as goal

pub report-requires : goal.report-requires
report-requires g c = none_named _ _ _ c.command_line_of.ensures.named c.requires.first refl refl

-- no command has so few words
use Rattle.std.proofs.Common.{rules}
use Rattle.std.specs.String.{string_bytes}
use Rattle.bt_chart.proofs.CommandWords.{too_few}
use Rattle.bt_chart.proofs.command_line.command_line_of.Goals as goal

pub returns-in_default : goal.returns-in_default
returns-in_default c = record { asked = too_few string_bytes c.args.words.now (search rules) }

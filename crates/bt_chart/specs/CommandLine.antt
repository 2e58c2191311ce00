-- The command line that the code has read off the words, as what is asked.
use Rattle.std.specs.Prelude.{map}
use Rattle.std.specs.String.{string_bytes}
use Rattle.bt_chart.specs.declared.command_line.CommandLine.{CommandLine}
use Rattle.bt_chart.specs.declared.command_line.CommandLine.TheVariants as command
use Rattle.bt_chart.specs.declared.command_line.Chosen as code
use Rattle.bt_chart.specs.Request.{Request, Chosen, Faulty, ChartPlan, ChartRun, ChartLadder, ChartPage, ChartAnswered}

-- what the code has read off the words behind the files
abbrev pub chosen : code.Chosen → Chosen
chosen one = record { view = one.view; names = map string_bytes one.names.now }

-- what the command line asks for
abbrev pub asked : CommandLine → Request
asked command.Faulty = Faulty
asked (command.ChartPlan net plan words) = ChartPlan net.now plan.now (map string_bytes words.now)
asked (command.ChartRun net output view names) = ChartRun net.now output.now view (map string_bytes names.now)
asked (command.ChartLadder net output view names) = ChartLadder net.now output.now view (map string_bytes names.now)
asked (command.ChartPage net journal seconds) = ChartPage net.now journal.now seconds
asked (command.ChartAnswered net journal answers seconds) = ChartAnswered net.now journal.now answers.now seconds

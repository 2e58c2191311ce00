-- The promise of the whole program: what it prints and the status that it ends with, by the command that is asked for.
use Rattle.std.specs.Prelude.{ℕ, List, Option}
use Rattle.bt_report.specs.Faults.{SaysFaultyWords}
use Rattle.bt_report.specs.Input.{FilesFailed, Input}
use Rattle.bt_report.specs.Outcome.{Outcome, PrintsOneOf}
use Rattle.bt_report.specs.Output.{Output}
use Rattle.bt_load.specs.Choice.{AnyGood, AreAlike, Choice, Exactly}
use Rattle.bt_load.specs.Loaders.{Loader, Loads, nothing}
use Rattle.bt_chart.specs.Pages.{DrawsPage, ShowsAnswers, ShowsNothing, answered_files, page_files}
use Rattle.bt_chart.specs.Plans.{DrawsPlan, plan_files}
use Rattle.bt_chart.specs.Request.{Request, Faulty, ChartPlan, ChartRun, ChartLadder, ChartPage, ChartAnswered}
use Rattle.bt_chart.specs.Runs.{DrawsRun, output_files}
use Rattle.bt_chart.specs.declared.run.Drawing.TheVariants as drawing

-- A command: the value that it loads, its loads, the outcomes that it then has, and which of these may stand for one another.
pub data Command : Type 1 where
  Draws : (Value : Type 0) → Loader Value → (Value → Outcome → Type 0) → Choice → Command

abbrev pub command : {Value : Type 0} → Loader Value → (Value → Outcome → Type 0) → Choice → Command
command {Value} loads after choice = Draws Value loads after choice

-- THE TABLE: what is loaded for a command, what it draws of the value that is loaded, and whether one picture is right, or any of its kind.
abbrev pub command_of : Request → Command
command_of Faulty = command nothing (λ none. SaysFaultyWords) Exactly
command_of (ChartPlan net plan words) = command (plan_files net plan words) (λ both. DrawsPlan words both.0 both.1) Exactly
command_of (ChartRun net output view names) = command (output_files net output names) (λ both. DrawsRun drawing.Rows) AnyGood
command_of (ChartLadder net output view names) = command (output_files net output names) (λ both. DrawsRun drawing.Ladder) AnyGood
command_of (ChartPage net journal seconds) = command (page_files net journal) (λ both. DrawsPage ShowsNothing seconds both.0 both.1) AnyGood
command_of (ChartAnswered net journal answers seconds) = command (answered_files net journal answers) (λ all. DrawsPage ShowsAnswers seconds all.0 all.1.0) AnyGood

-- the outcomes of a command: its loads stop with them, or it has them with the value that they give
abbrev pub ChartsBy : Command → (List ℕ → Option (List ℕ)) → Type 0 → Outcome → Type 0
ChartsBy (Draws Value loads after choice) told failed = Loads loads after told failed

-- and of what is asked
abbrev pub Charts : (List ℕ → Option (List ℕ)) → Type 0 → Request → Outcome → Type 0
Charts told failed request = ChartsBy (command_of request) told failed

-- Memory ran out; or what is asked had one of its outcomes, and it was printed.
abbrev pub Charted : Input → Output → Request → ℕ → Type 0
Charted input output request status = PrintsOneOf output (Charts input.told (FilesFailed input) request) status

-- the files that a command reads are told
abbrev pub NeedsBy : Command → (List ℕ → Option (List ℕ)) → Type 0
NeedsBy (Draws Value loads after choice) told = loads.needs told

-- the files that are asked for are told
abbrev pub AreTold : (List ℕ → Option (List ℕ)) → Request → Type 0
AreTold told request = NeedsBy (command_of request) told

-- two outcomes of a command are one
abbrev pub IsOneBy : Command → Outcome → Outcome → Type 0
IsOneBy (Draws Value loads after choice) a b = AreAlike choice a b

-- the same outcome; of a run any picture of its kind may stand in another's place, and of a journal any page, as links of one size
-- stand in any order
abbrev pub IsOneChart : Request → Outcome → Outcome → Type 0
IsOneChart request a b = IsOneBy (command_of request) a b

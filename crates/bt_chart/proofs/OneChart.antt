-- Where the files are told and no read failed, what is asked has one report.
use Rattle.std.proofs.Common.{◌≡◌, ℕ, List, Option, true, false, sym, ap, ◌∙◌}
use Rattle.bt_net.specs.Network.{Net}
use Rattle.bt_run_lines.specs.declared.printed.Printed.{Printed}
use Rattle.bt_load.specs.Choice.{AnyGood, AreAlike, Choice}
use Rattle.bt_load.specs.Kinds.{network_file, output_file, plan_file}
use Rattle.bt_load.specs.Loaders.{Loader, file}
use Rattle.bt_load.proofs.OneLoad.{IsLawful, Loads-same, done_alike, file_lawful, nothing_lawful, tested_lawful, then_lawful}
use Rattle.bt_report.specs.Outcome.{Outcome}
use Rattle.bt_chart.specs.Request.{Request, Faulty, ChartPlan, ChartRun, ChartLadder, ChartPage, ChartAnswered}
use Rattle.bt_chart.specs.Pages.{ShowsAnswers, ShowsNothing}
use Rattle.bt_chart.specs.Plans.{ChooseAPart, ChooseNone, part_file}
use Rattle.bt_chart.specs.Runs.{AreTerminals, DrawsRun, FindsStranger, chosen_file, output_files}
use Rattle.bt_chart.specs.declared.run.Drawing.{Drawing}
use Rattle.bt_chart.specs.declared.run.Drawing.TheVariants as drawing
use Rattle.bt_chart.proofs.OnePage.{Journals, answered_lawful, page_lawful, page_same}
use Rattle.bt_chart.specs.Top.{AreTold, Charts, ChartsBy, Command, Draws, IsOneBy, IsOneChart, NeedsBy, command_of}

-- names are all of terminals, or not
stranger_same : (names : List (List ℕ)) (net : Net) (a b : Outcome) → FindsStranger names net a → FindsStranger names net b → a ≡ b
stranger_same names net a b one other = one.1 ∙ sym other.1

never_both : (names : List (List ℕ)) (net : Net) (a : Outcome) → FindsStranger names net a → AreTerminals names net → ⊥
never_both names net a one all = let both : false ≡ true = sym one.0 ∙ all in cc

chosen_lawful : (net : List ℕ) (names : List (List ℕ)) → IsLawful (chosen_file net names)
chosen_lawful net names = tested_lawful (AreTerminals names) (FindsStranger names) (file network_file net) (file_lawful network_file net) (stranger_same names) (never_both names)

-- words choose a part of the plans of a network, or none
none_same : (words : List (List ℕ)) (net : Net) (a b : Outcome) → ChooseNone words net a → ChooseNone words net b → a ≡ b
none_same words net a b one other = one.1 ∙ sym other.1

none_apart : (words : List (List ℕ)) (net : Net) (a : Outcome) → ChooseNone words net a → ChooseAPart words net → ⊥
none_apart words net a none some = let both : false ≡ true = sym none.0 ∙ some in cc

part_lawful : (net : List ℕ) (words : List (List ℕ)) → IsLawful (part_file net words)
part_lawful net words = tested_lawful (ChooseAPart words) (ChooseNone words) (file network_file net) (file_lawful network_file net) (none_same words) (none_apart words)

-- a command whose loads stop in one way, or give one value, with which it draws one picture, or one as good as another
record IsLawfulCommand {Value : Type 0} (loads : Loader Value) (after : Value → Outcome → Type 0) (choice : Choice) : Type 1 where
  lawful : IsLawful loads
  same : (value : Value) (a b : Outcome) → after value a → after value b → AreAlike choice a b

-- the output of a run, and any picture of it
run_lawful : (so : Drawing) (net output : List ℕ) (names : List (List ℕ)) → IsLawfulCommand (output_files net output names) (λ (both : Net × List Printed). DrawsRun so) AnyGood
run_lawful so net output names = record {
  lawful = then_lawful (chosen_file net names) (λ network. file (output_file network) output) (chosen_lawful net names) (λ network. file_lawful (output_file network) output);
  same = λ both a b one other. done_alike a b (ap (λ (o : Outcome). o.status) one.2) (ap (λ (o : Outcome). o.status) other.2);
}

abbrev LawsBy : Command → Type 1
LawsBy (Draws Value loads after choice) = IsLawfulCommand loads after choice

laws_of : Journals → (request : Request) → LawsBy (command_of request)
laws_of journals Faulty = record { lawful = nothing_lawful; same = λ none a b one other. one ∙ sym other }
laws_of journals (ChartPlan net plan words) = record {
  lawful = then_lawful (part_file net words) (λ network. file (plan_file network) plan) (part_lawful net words) (λ network. file_lawful (plan_file network) plan);
  same = λ both a b one other. one ∙ sym other;
}
laws_of journals (ChartRun net output view names) = run_lawful drawing.Rows net output names
laws_of journals (ChartLadder net output view names) = run_lawful drawing.Ladder net output names
laws_of journals (ChartPage net journal seconds) = record { lawful = page_lawful net journal; same = λ both. page_same journals ShowsNothing seconds both.0 both.1 }
laws_of journals (ChartAnswered net journal answers seconds) = record { lawful = answered_lawful net journal answers; same = λ all. page_same journals ShowsAnswers seconds all.0 all.1.0 }

same_by : (asked : Command) → LawsBy asked → (told : List ℕ → Option (List ℕ)) → NeedsBy asked told → (a b : Outcome) → ChartsBy asked told ⊥ a → ChartsBy asked told ⊥ b → IsOneBy asked a b
same_by (Draws Value loads after choice) laws told of_files = Loads-same choice loads laws.lawful told of_files after after laws.same

pub Charts-same : Journals → (told : List ℕ → Option (List ℕ)) (request : Request) → AreTold told request → (a b : Outcome) → Charts told ⊥ request a → Charts told ⊥ request b → IsOneChart request a b
Charts-same journals told request of_files = same_by (command_of request) (laws_of journals request) told of_files

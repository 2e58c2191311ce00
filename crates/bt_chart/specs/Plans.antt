-- `plan NET PLAN [BEAM ..] [FIRST-LAST]`: the network is loaded, the words behind the plan are looked up in it, then the plan is
-- loaded, and the picture of what they choose of it is printed.
use Rattle.std.specs.Prelude.{◌≡◌, ℕ, List, true, false}
use Rattle.bt_net.specs.Network.{Net}
use Rattle.bt_demand.specs.declared.plan.Plan.{Plan}
use Rattle.bt_picture.specs.Picture.{picture_text}
use Rattle.bt_plan_chart.specs.Chart.{plan_picture}
use Rattle.bt_plan_chart.specs.declared.choice.Choice.{Choice}
use Rattle.bt_report.specs.declared.status.TheConstants.{DONE}
use Rattle.bt_report.specs.Faults.{SaysFaultyWords}
use Rattle.bt_report.specs.Outcome.{Outcome, text_alone}
use Rattle.bt_load.specs.Kinds.{network_file, plan_file}
use Rattle.bt_load.specs.Loaders.{Loader, and_then, file, tested}
use Rattle.bt_chart.specs.Choosing.{are_parts, choice_of}

-- the words choose a part of the plans of a network
abbrev pub ChooseAPart : List (List ℕ) → Net → Type 0
ChooseAPart words net = are_parts net words ≡ true

-- they choose none, and are at fault
abbrev pub ChooseNone : List (List ℕ) → Net → Outcome → Type 0
ChooseNone words net outcome = (are_parts net words ≡ false) × SaysFaultyWords outcome

-- the text of the picture of what is chosen of a plan, and nothing else
abbrev pub DrawsPart : Choice → Net → Plan → Outcome → Type 0
DrawsPart choice net plan outcome = outcome ≡ text_alone (picture_text (plan_picture net plan choice)) DONE

-- the same of what the words choose
abbrev pub DrawsPlan : List (List ℕ) → Net → Plan → Outcome → Type 0
DrawsPlan words net plan outcome = DrawsPart (choice_of net words) net plan outcome

-- a network is loaded of whose plans the words choose a part
abbrev pub part_file : List ℕ → List (List ℕ) → Loader Net
part_file net words = tested (ChooseAPart words) (ChooseNone words) (file network_file net)

-- the network is loaded, and then the plan
abbrev pub plan_files : List ℕ → List ℕ → List (List ℕ) → Loader (Net × Plan)
plan_files net plan words = and_then (part_file net words) (λ network. file (plan_file network) plan)

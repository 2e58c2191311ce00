-- What the words after the program's name ask for.
use Rattle.std.specs.Prelude.{ℕ, ◌==◌, if◌then◌else◌, not, length, codes, Bool, List, [], ◌∷◌, Option, Some, None, option_and_then, option_map, unwrap_or}
use Rattle.std.specs.List.{list_all}
use Rattle.std.specs.Str.{bytes_eq}
use Rattle.bt_cli.specs.NumberWords.{beam_count_of, desk_of, edition_of, seed_of, transponders_of}
use Rattle.bt_cli.specs.declared.command_line.CommandLine.{CommandLine}
use Rattle.bt_cli.specs.declared.command_line.CommandLine.TheVariants as command_line
use Rattle.bt_cli.specs.declared.look.Look.{Look}
use Rattle.bt_cli.specs.declared.look.Look.TheVariants as look

-- a command with its words, or words of no command
pub data Request : Type 0 where
  Faulty : Request
  CheckModes : List ℕ → List ℕ → Request
  CheckPlan : List ℕ → List ℕ → List ℕ → Request
  PlanModes : List ℕ → Request
  PlanDemand : List ℕ → List ℕ → Request
  RunScript : List ℕ → List ℕ → List ℕ → Request
  ReplayJournal : List ℕ → List ℕ → Request
  PlanDrawn : ℕ → ℕ → Request
  TimeSends : List ℕ → List ℕ → List ℕ → List ℕ → Request
  PlanPart : ℕ → List ℕ → Request
  TellCapacity : List ℕ → List ℕ → Request
  TellJournal : List ℕ → List ℕ → Look → Request
  TellEdits : List ℕ → List ℕ → List ℕ → ℕ → Request
  TellCarry : List ℕ → List ℕ → List ℕ → Request
  TellTraffic : List ℕ → List ℕ → Request
  TellJson : List ℕ → Request

-- what a command with one word asks for
abbrev pub asked_with_one : List ℕ → List ℕ → Option Request
asked_with_one command first =
    if bytes_eq command (codes "modes") then Some (PlanModes first)
    else (if bytes_eq command (codes "json") then Some (TellJson first) else None)

-- what a command with two words asks for
abbrev pub asked_with_two : List ℕ → List ℕ → List ℕ → Option Request
asked_with_two command first second =
    if bytes_eq command (codes "check") then Some (CheckModes first second)
    else (if bytes_eq command (codes "plan") then Some (PlanDemand first second)
    else (if bytes_eq command (codes "replay") then Some (ReplayJournal first second)
    else (if bytes_eq command (codes "make") then option_and_then (λ beams. option_map (PlanDrawn beams) (seed_of second)) (beam_count_of first)
    else (if bytes_eq command (codes "trans") then option_map (λ transponders. PlanPart transponders second) (transponders_of first)
    else (if bytes_eq command (codes "capacity") then Some (TellCapacity first second)
    else (if bytes_eq command (codes "traffic") then Some (TellTraffic first second)
    else (if bytes_eq command (codes "state") then Some (TellJournal first second look.State)
    else (if bytes_eq command (codes "demand") then Some (TellJournal first second (look.Demand None))
    else (if bytes_eq command (codes "installed") then Some (TellJournal first second (look.Installed None))
    else (if bytes_eq command (codes "compact") then Some (TellJournal first second look.Compact)
    else (if bytes_eq command (codes "metrics") then Some (TellJournal first second look.Metrics) else None)))))))))))

-- what a command with three words asks for
abbrev pub asked_with_three : List ℕ → List ℕ → List ℕ → List ℕ → Option Request
asked_with_three command first second third =
    if bytes_eq command (codes "check") then Some (CheckPlan first second third)
    else (if bytes_eq command (codes "run") then Some (RunScript first second third)
    else (if bytes_eq command (codes "demand") then option_map (λ edition. TellJournal first second (look.Demand (Some edition))) (edition_of 0 third)
    else (if bytes_eq command (codes "installed") then option_map (λ edition. TellJournal first second (look.Installed (Some edition))) (edition_of 1 third)
    else (if bytes_eq command (codes "edits") then Some (TellEdits first second third 1)
    else (if bytes_eq command (codes "carry") then Some (TellCarry first second third) else None)))))

-- what a command with four words asks for
abbrev pub asked_with_four : List ℕ → List ℕ → List ℕ → List ℕ → List ℕ → Option Request
asked_with_four command first second third fourth =
    if bytes_eq command (codes "timing") then Some (TimeSends first second third fourth)
    else (if bytes_eq command (codes "edits") then option_map (TellEdits first second third) (desk_of fourth) else None)

-- what a command with these words asks for
abbrev pub asked_with : List ℕ → List (List ℕ) → Option Request
asked_with command (first ∷ []) = asked_with_one command first
asked_with command (first ∷ second ∷ []) = asked_with_two command first second
asked_with command (first ∷ second ∷ third ∷ []) = asked_with_three command first second third
asked_with command (first ∷ second ∷ third ∷ fourth ∷ []) = asked_with_four command first second third fourth
asked_with command _ = None

-- none of the words is empty
abbrev pub are_words : List (List ℕ) → Bool
are_words words = list_all (λ (word : List ℕ). not (length word == 0)) words

-- what the words ask for: a command, with words behind it none of which is empty
abbrev pub request_of : List (List ℕ) → Request
request_of [] = Faulty
request_of (command ∷ words) = if are_words words then unwrap_or (asked_with command words) Faulty else Faulty

-- the first word, where there is one
abbrev pub first_word : List (List ℕ) → Option (List ℕ)
first_word [] = None
first_word (word ∷ rest) = Some word

-- ---- the command line that the code has read off the words

-- what the command line asks for
abbrev pub asked : CommandLine → Request
asked command_line.Faulty = Faulty
asked (command_line.CheckModes matrix modes) = CheckModes matrix.now modes.now
asked (command_line.CheckPlan net traffic plan) = CheckPlan net.now traffic.now plan.now
asked (command_line.PlanModes matrix) = PlanModes matrix.now
asked (command_line.PlanDemand net traffic) = PlanDemand net.now traffic.now
asked (command_line.RunScript net script journal) = RunScript net.now script.now journal.now
asked (command_line.ReplayJournal net journal) = ReplayJournal net.now journal.now
asked (command_line.PlanDrawn beams seed) = PlanDrawn beams.count seed
asked (command_line.TimeSends net traffic plan delays) = TimeSends net.now traffic.now plan.now delays.now
asked (command_line.PlanPart transponders matrix) = PlanPart transponders.count matrix.now
asked (command_line.TellCapacity net traffic) = TellCapacity net.now traffic.now
asked (command_line.TellJournal net journal look) = TellJournal net.now journal.now look
asked (command_line.TellEdits net journal traffic desk) = TellEdits net.now journal.now traffic.now desk.number
asked (command_line.TellCarry net journal new) = TellCarry net.now journal.now new.now
asked (command_line.TellTraffic net table) = TellTraffic net.now table.now
asked (command_line.TellJson text) = TellJson text.now

-- the name of the command that is this look
abbrev pub look_name : Look → List ℕ
look_name look.State = codes "state"
look_name (look.Demand _) = codes "demand"
look_name (look.Installed _) = codes "installed"
look_name look.Compact = codes "compact"
look_name look.Metrics = codes "metrics"

-- the name of its command
abbrev pub name_of : CommandLine → Option (List ℕ)
name_of command_line.Faulty = None
name_of (command_line.CheckModes _ _) = Some (codes "check")
name_of (command_line.CheckPlan _ _ _) = Some (codes "check")
name_of (command_line.PlanModes _) = Some (codes "modes")
name_of (command_line.PlanDemand _ _) = Some (codes "plan")
name_of (command_line.RunScript _ _ _) = Some (codes "run")
name_of (command_line.ReplayJournal _ _) = Some (codes "replay")
name_of (command_line.PlanDrawn _ _) = Some (codes "make")
name_of (command_line.TimeSends _ _ _ _) = Some (codes "timing")
name_of (command_line.PlanPart _ _) = Some (codes "trans")
name_of (command_line.TellCapacity _ _) = Some (codes "capacity")
name_of (command_line.TellJournal _ _ look) = Some (look_name look)
name_of (command_line.TellEdits _ _ _ _) = Some (codes "edits")
name_of (command_line.TellCarry _ _ _) = Some (codes "carry")
name_of (command_line.TellTraffic _ _) = Some (codes "traffic")
name_of (command_line.TellJson _) = Some (codes "json")

-- the journal that is asked for, where one is
abbrev pub journal_of : Request → Option (List ℕ)
journal_of (RunScript _ _ journal) = Some journal
journal_of (ReplayJournal _ journal) = Some journal
journal_of _ = None

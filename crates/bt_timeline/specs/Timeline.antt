-- The lines that a run prints of its rounds, each by its form.
use Rattle.std.specs.Prelude.{◌≡◌, ℕ, ◌++◌, ◌<◌, List, [], ◌∷◌, length, decimal, flat_map, Option, Some, None}
use Rattle.std.specs.List.{slice_index_or}
use Rattle.bt_frame.specs.declared.numbers.BeamNo.{BeamNo}
use Rattle.bt_frame.specs.declared.numbers.EditionNo.{EditionNo}
use Rattle.bt_frame.specs.declared.numbers.TermNo.{TermNo}
use Rattle.bt_net.specs.Network.{Net}
use Rattle.bt_net.specs.Terminals.{name_at}
use Rattle.bt_demand.specs.Apart.{bursts_from}
use Rattle.bt_demand.specs.declared.burst.Burst.{Burst}
use Rattle.bt_journal.specs.declared.call.Call.{Call}
use Rattle.bt_journal.specs.declared.call.Call.TheVariants as call
use Rattle.bt_journal.specs.declared.entry.Entry.{Entry}
use Rattle.bt_journal.specs.declared.reply.Reply.{Reply}
use Rattle.bt_journal.specs.declared.reply.Reply.TheVariants.{Done, SameTerminal, NotThere, RowFull, ColumnFull, BookFull, NotNewer, NoSuchEdition, NotGood, Demand, Installed, StoreFault, Stopped}
use Rattle.bt_demand.specs.declared.verdict.Verdict.{Verdict}
use Rattle.bt_words.specs.declared.form.Form.{Form}
use Rattle.bt_words.specs.declared.form.Form.TheVariants as form
use Rattle.bt_words.specs.Filled.{form_front, form_line}
use Rattle.bt_timeline.specs.Verdicts.{CanName, verdict_line}

-- the beam is one of the network's
abbrev pub IsBeam : Net → BeamNo → Type 0
IsBeam net beam = beam.0 < length net.beams

-- a reply that an edit can have; the beam that it names is one of the network's
abbrev pub AnswersEdit : Net → Reply → Type 0
AnswersEdit net (Done _ _) = Unit {0}
AnswersEdit net SameTerminal = Unit {0}
AnswersEdit net (NotThere _) = Unit {0}
AnswersEdit net (RowFull beam _) = IsBeam net beam
AnswersEdit net (ColumnFull beam _) = IsBeam net beam
AnswersEdit net (BookFull _) = Unit {0}
AnswersEdit net StoreFault = Unit {0}
AnswersEdit net Stopped = Unit {0}
AnswersEdit net _ = ⊥

-- a reply that an install can have; the terminals that it names are the network's
abbrev pub AnswersInstall : Net → Reply → Type 0
AnswersInstall net (NotNewer _) = Unit {0}
AnswersInstall net (NoSuchEdition _) = Unit {0}
AnswersInstall net (NotGood verdict) = CanName (Some net) verdict
AnswersInstall net (BookFull _) = Unit {0}
AnswersInstall net StoreFault = Unit {0}
AnswersInstall net Stopped = Unit {0}
AnswersInstall net (Installed _) = Unit {0}
AnswersInstall net _ = ⊥

-- the last edition has a plan already
abbrev pub IsNothingNew : Reply → Type 0
IsNothingNew (Demand edition newest _) = edition ≡ newest
IsNothingNew _ = ⊥

-- The call and the reply have a line: an edit, by whomever; and of the planner an install, or a snapshot that shows
-- nothing new.
abbrev pub HasLine : Net → Option ℕ → Call → Reply → Type 0
HasLine net desk (call.Edit _) reply = AnswersEdit net reply
HasLine net None (call.Install _) reply = AnswersInstall net reply
HasLine net None call.Snapshot reply = IsNothingNew reply
HasLine net _ _ _ = ⊥

-- the entry of that desk, or of the planner where there is none, has a line
abbrev pub IsPrinted : Net → Option ℕ → Entry → Type 0
IsPrinted net desk entry = HasLine net desk entry.call entry.reply

-- the name of a beam of the network
abbrev pub name_of_beam : Net → BeamNo → List ℕ
name_of_beam net beam = slice_index_or net.beams beam.0 []

-- the call asks for an install
abbrev pub IsInstall : Call → Type 0
IsInstall (call.Install _) = Unit {0}
IsInstall _ = ⊥

-- the line of the plan that the planner had installed as this edition
abbrev pub installed_line : Call → EditionNo → List ℕ
installed_line (call.Install plan) edition = form_line form.Planned (decimal edition.0 ∷ decimal plan.schedule.length ∷ decimal (length plan.schedule.modes) ∷ decimal (length plan.bursts) ∷ [])
installed_line _ edition = []

-- the line of a plan that was not good: the refusal, and the line of its verdict
abbrev pub not_good_line : Net → Verdict → List ℕ
not_good_line net verdict = form_front form.PlanNotGood [] ++ verdict_line (Some net) verdict

-- the line of the reply to an edit of a desk
abbrev pub desk_reply_line : Net → ℕ → Reply → List ℕ
desk_reply_line net desk (Done edition length) = form_line form.DeskDone (decimal desk ∷ decimal edition.0 ∷ decimal length ∷ [])
desk_reply_line net desk SameTerminal = form_line form.DeskSameTerminal (decimal desk ∷ [])
desk_reply_line net desk (NotThere held) = form_line form.DeskNotThere (decimal desk ∷ decimal held ∷ [])
desk_reply_line net desk (RowFull beam sum) = form_line form.DeskRowFull (decimal desk ∷ name_of_beam net beam ∷ decimal sum ∷ [])
desk_reply_line net desk (ColumnFull beam sum) = form_line form.DeskColumnFull (decimal desk ∷ name_of_beam net beam ∷ decimal sum ∷ [])
desk_reply_line net desk (BookFull length) = form_line form.DeskBookFull (decimal desk ∷ decimal length ∷ [])
desk_reply_line net desk StoreFault = form_line form.DeskStoreFault (decimal desk ∷ [])
desk_reply_line net desk Stopped = form_line form.DeskStopped (decimal desk ∷ [])
desk_reply_line net desk _ = []

-- the line of the reply to a call of the planner
abbrev pub plan_reply_line : Net → Call → Reply → List ℕ
plan_reply_line net asked (Done edition length) = form_line form.PlanDone (decimal edition.0 ∷ decimal length ∷ [])
plan_reply_line net asked SameTerminal = form_line form.PlanSameTerminal []
plan_reply_line net asked (NotThere held) = form_line form.PlanNotThere (decimal held ∷ [])
plan_reply_line net asked (RowFull beam sum) = form_line form.PlanRowFull (name_of_beam net beam ∷ decimal sum ∷ [])
plan_reply_line net asked (ColumnFull beam sum) = form_line form.PlanColumnFull (name_of_beam net beam ∷ decimal sum ∷ [])
plan_reply_line net asked (BookFull length) = form_line form.PlanBookFull (decimal length ∷ [])
plan_reply_line net asked (NotNewer newest) = form_line form.PlanNotNewer (decimal newest.0 ∷ [])
plan_reply_line net asked (NoSuchEdition last) = form_line form.PlanNoSuchEdition (decimal last.0 ∷ [])
plan_reply_line net asked (NotGood verdict) = not_good_line net verdict
plan_reply_line net asked (Demand _ _ _) = form_line form.NothingNew []
plan_reply_line net asked (Installed edition) = installed_line asked edition
plan_reply_line net asked StoreFault = form_line form.PlanStoreFault []
plan_reply_line net asked Stopped = form_line form.PlanStopped []
plan_reply_line net asked _ = []

-- the line of the reply to a call of a desk, or of the planner where there is none
abbrev pub answer_line : Net → Option ℕ → Call → Reply → List ℕ
answer_line net (Some desk) asked reply = desk_reply_line net desk reply
answer_line net None asked reply = plan_reply_line net asked reply

-- the line of an entry: who called, and what was answered
abbrev pub entry_line : Net → Option ℕ → Entry → List ℕ
entry_line net desk entry = answer_line net desk entry.call entry.reply

-- the line of a burst, on the air or of a plan by its form: its first slot, its slots, and the terminals that send and receive
abbrev pub burst_line : Net → Form → Burst → List ℕ
burst_line net form burst = form_line form (decimal burst.start ∷ decimal burst.length ∷ name_at net burst.from ∷ name_at net burst.to ∷ [])

-- the lines of bursts, in the order in which they stand
abbrev pub burst_lines : Net → Form → List Burst → List ℕ
burst_lines net form bursts = flat_map (burst_line net form) bursts

-- what a desk is shown of a plan of this edition, length, number of modes and bursts: these, and then each burst that the
-- terminal sends
abbrev pub show_lines : Net → ℕ → TermNo → EditionNo → ℕ → ℕ → List Burst → List ℕ
show_lines net desk terminal edition length modes bursts = form_line form.Shows (decimal desk ∷ decimal edition.0 ∷ decimal length ∷ decimal modes ∷ []) ++ burst_lines net form.Burst (bursts_from terminal bursts)

-- the first line after a start: the last edition, the edition of the newest plan, and the mark of the superframe
abbrev pub start_line : ℕ → ℕ → ℕ → List ℕ
start_line edition plan mark = form_line form.Start (decimal edition ∷ decimal plan ∷ decimal mark ∷ [])

-- the line before the start that follows a restart
abbrev pub restart_line : List ℕ
restart_line = form_line form.Restart []

-- the line that begins a round
abbrev pub round_line : ℕ → List ℕ
round_line number = form_line form.Round (decimal number ∷ [])

-- the last line: how many edits were done, how many were refused, and how many the store failed
abbrev pub total_line : ℕ → ℕ → ℕ → List ℕ
total_line done refused failed = form_line form.Total (decimal done ∷ decimal refused ∷ decimal failed ∷ [])

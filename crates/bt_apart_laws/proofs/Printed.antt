-- What a process prints has the lines that it says to the others behind its log.
use Rattle.std.proofs.Common.{◌≡◌, ℕ, if◌then◌else◌, Bool, true, false, List, [], ◌∷◌, ◌++◌, Option, Some, None, refl, sym, ap, ◌∙◌, subst}
use Rattle.std.specs.Prelude.{codes, decimal, flat_map, map, nat_lt}
use Rattle.std.proofs.lemmas.List.{append-nil}
use Rattle.std.proofs.lemmas.List.Concat.{flat_map-append}
use Rattle.bt_frame.specs.declared.limits.TheConstants.{LAST_MARK}
use Rattle.bt_frame.specs.declared.mode.Mode.{Mode}
use Rattle.bt_frame.specs.declared.numbers.Mark.{Mark}
use Rattle.bt_frame.specs.declared.numbers.TermNo.{TermNo}
use Rattle.bt_net.specs.Network.{Net}
use Rattle.bt_net.specs.Terminals.{name_at}
use Rattle.bt_demand.specs.declared.burst.Burst.{Burst}
use Rattle.bt_plan.specs.ScheduleSpelling.{mode_line}
use Rattle.bt_air.specs.declared.message.Message.{Message}
use Rattle.bt_air.specs.declared.message.Message.TheVariants as message
use Rattle.bt_air.specs.declared.order.Status.{Status}
use Rattle.bt_air.specs.declared.sent.Answer.{Answer}
use Rattle.bt_air.specs.declared.sent.Answer.TheVariants as answers
use Rattle.bt_air.specs.declared.sent.Heard.{Heard}
use Rattle.bt_air.specs.declared.sent.Heard.TheVariants as heard
use Rattle.bt_air.specs.declared.sent.Place.{Place}
use Rattle.bt_air.specs.declared.sent.Place.TheVariants as place
use Rattle.bt_air.specs.declared.sent.Taken.{Taken}
use Rattle.bt_air.specs.declared.sent.Taken.TheVariants as taken
use Rattle.bt_air.specs.declared.sent.Aired.{Aired}
use Rattle.bt_air.specs.declared.sent.Aired.TheVariants as sends
use Rattle.bt_machines.specs.Satellite.{status_of, step_of as take, ticked}
use Rattle.bt_machines.specs.Terminal.{State as Terminal, step_of as hear}
use Rattle.bt_machines.specs.declared.standby.Noticed.{Noticed}
use Rattle.bt_machines.specs.declared.standby.Noticed.TheVariants as notice
use Rattle.bt_machines.specs.Standby.{step_of as notices}
use Rattle.bt_words.specs.Filled.{filled, form_line}
use Rattle.bt_words.specs.Forms.{parts_of}
use Rattle.bt_words.specs.Lines.{frame_name, line_of}
use Rattle.bt_words.specs.declared.form.Form.{Form}
use Rattle.bt_words.specs.declared.form.Form.TheVariants as form
use Rattle.bt_site.specs.Sites.{satellite_says, standby_says, terminal_says}
use Rattle.bt_sites.specs.Stamps.{Line}
use Rattle.bt_timeline.specs.Air.{answer_name, got_line, last_tick_line, noticed_line, over_line, place_name, standby_burst_line}
use Rattle.bt_timeline.specs.Timeline.{burst_line, burst_lines}
use Rattle.bt_script.specs.BusSaid.{mark_line}
use Rattle.bt_script.specs.declared.heard.BusLine.TheVariants as bus
use Rattle.bt_station.specs.declared.asked.Asked.{Asked}
use Rattle.bt_station.specs.declared.asked.Asked.TheVariants as asked
use Rattle.bt_station.specs.declared.station.Station.{Station}
use Rattle.bt_station.specs.declared.station.Station.TheVariants as station
use Rattle.bt_station.specs.Acts.{texts_of}
use Rattle.bt_station.specs.Asked.{asked_of}
use Rattle.bt_station.specs.Lines.{burst_frame_lines, fault_line, mode_lines, radio_line, radio_lines}
use Rattle.bt_station.specs.Satellite.{SatelliteAt, begun_lines as begun_texts, frame_lines, heard_by_satellite, taken_line}
use Rattle.bt_station.specs.Standby.{StandbyAt, heard_by_standby, second_lines as second_texts}
use Rattle.bt_station.specs.Station.{answer, answer_asked}
use Rattle.bt_station.specs.Terminal.{heard_by_terminal, heard_line, present_by, sent_in, start_lines}
use Rattle.bt_station.proofs.Said.{line-spaced}
use Rattle.bt_apart_laws.specs.Premises.{AreOfLog, IsOfLog, SaysBehind}
use Rattle.bt_apart_laws.specs.Processes.{asked_lines, begun_lines, confirm_lines, radios, second_lines}

-- a text is lines of a log
record IsLog (text : List ℕ) : Type 0 where
  lines : List (List (List ℕ))
  are : AreOfLog lines
  is : text ≡ flat_map line_of lines

log-none : IsLog []
log-none = record { lines = []; are = tt; is = refl }

log-line : (words : List (List ℕ)) → IsOfLog words → IsLog (line_of words)
log-line words of = record { lines = words ∷ []; are = (of, tt); is = sym (append-nil (line_of words)) }

log-form : (form : Form) (words : List (List ℕ)) → IsOfLog (filled (parts_of form) words) → IsLog (form_line form words)
log-form form words of = log-line (filled (parts_of form) words) of

both-are : (a b : List (List (List ℕ))) → AreOfLog a → AreOfLog b → AreOfLog (a ++ b)
both-are [] b first last = last
both-are (line ∷ more) b first last = (first.0, both-are more b first.1 last)

log-both : (a b : List ℕ) → IsLog a → IsLog b → IsLog (a ++ b)
log-both a b first last = record {
  lines = first.lines ++ last.lines;
  are = both-are first.lines last.lines first.are last.are;
  is = ap (λ (text : List ℕ). text ++ b) first.is ∙ ap (λ (text : List ℕ). flat_map line_of first.lines ++ text) last.is ∙ sym (flat_map-append line_of first.lines last.lines);
}

-- each line of a station's log
log-got : (net : Net) (at : ℕ) (place : Place) (answered : Answer) → IsLog (got_line net at place answered)
log-got net at place answered = log-form form.GotTerminal (decimal at ∷ place_name net place ∷ answer_name answered ∷ []) (refl, refl)

log-taken : (net : Net) (at : ℕ) (one : Taken) → IsLog (taken_line net at one)
log-taken net at taken.NotForMe = log-none
log-taken net at taken.Accepted = log-got net at place.Satellite (answers.Taken taken.Accepted)
log-taken net at taken.Stale = log-got net at place.Satellite (answers.Taken taken.Stale)
log-taken net at taken.Busy = log-got net at place.Satellite (answers.Taken taken.Busy)
log-taken net at taken.NotLoaded = log-got net at place.Satellite (answers.Taken taken.NotLoaded)
log-taken net at taken.TooLate = log-got net at place.Satellite (answers.Taken taken.TooLate)

log-heard : (net : Net) (at : ℕ) (number : TermNo) (one : Heard) → IsLog (heard_line net at number one)
log-heard net at number heard.NotForMe = log-none
log-heard net at number heard.Took = log-got net at (place.Terminal number) (answers.Heard heard.Took)
log-heard net at number heard.WrongMark = log-got net at (place.Terminal number) (answers.Heard heard.WrongMark)
log-heard net at number heard.Held = log-got net at (place.Terminal number) (answers.Heard heard.Held)
log-heard net at number heard.Stored = log-got net at (place.Terminal number) (answers.Heard heard.Stored)
log-heard net at number heard.Older = log-got net at (place.Terminal number) (answers.Heard heard.Older)
log-heard net at number heard.InUse = log-got net at (place.Terminal number) (answers.Heard heard.InUse)

log-noticed : (at : ℕ) (one : Noticed) → IsLog (noticed_line at one)
log-noticed at notice.Noted = log-form form.StandbyNoted (decimal at ∷ []) (refl, refl)
log-noticed at notice.WrongMark = log-form form.StandbyWrongMark (decimal at ∷ []) (refl, refl)

log-standby : (at : ℕ) (kept : Option Status) (present : Option Mark) (one : Option Message) → IsLog (heard_by_standby at kept present one)
log-standby at kept None one = log-none
log-standby at kept (Some mark) None = log-none
log-standby at kept (Some mark) (Some (message.Status status)) = log-noticed at (notices kept mark status).0
log-standby at kept (Some mark) (Some (message.Load command edition modes)) = log-none
log-standby at kept (Some mark) (Some (message.Arm command edition due)) = log-none
log-standby at kept (Some mark) (Some (message.PlanFor to load edition bursts)) = log-none
log-standby at kept (Some mark) (Some (message.Confirm from load edition)) = log-none
log-standby at kept (Some mark) (Some (message.Reference superframe in_force next)) = log-none
log-standby at kept (Some mark) (Some (message.Lost from)) = log-none

log-fault : (at : ℕ) → IsLog (fault_line at)
log-fault at = log-form form.LineFaultS1 (decimal at ∷ []) (refl, refl)

-- a frame of the satellite
log-mode : (mode : Mode) → IsLog (mode_line mode ++ 10 ∷ [])
log-mode mode =
    let rest = map decimal (mode.duration ∷ mode.perm) in
    subst (λ (text : List ℕ). IsLog text) (line-spaced (codes "mode") rest) (log-line (codes "mode" ∷ rest) (refl, refl))

log-modes : (modes : List Mode) → IsLog (mode_lines modes)
log-modes [] = log-none
log-modes (mode ∷ more) = log-both (mode_line mode ++ 10 ∷ []) (mode_lines more) (log-mode mode) (log-modes more)

log-frame : (s : SatelliteAt) (test : Bool)
    → IsLog (if test then form_line form.Frame (frame_name s.site.mark s.shown ∷ decimal s.site.fore.edition.0 ∷ []) ++ mode_lines s.site.fore.modes else over_line s.site.mark)
log-frame s true =
    let words = frame_name s.site.mark s.shown ∷ decimal s.site.fore.edition.0 ∷ [] in
    log-both (form_line form.Frame words) (mode_lines s.site.fore.modes) (log-form form.Frame words (refl, refl)) (log-modes s.site.fore.modes)
log-frame s false = log-form form.Over (decimal s.site.mark.0 ∷ []) (refl, refl)

-- a frame of a terminal
log-bursts : (net : Net) (bursts : List Burst) → IsLog (burst_lines net form.Air bursts)
log-bursts net [] = log-none
log-bursts net (burst ∷ more) =
    log-both (burst_line net form.Air burst) (burst_lines net form.Air more)
    (log-form form.Air (decimal burst.start ∷ decimal burst.length ∷ name_at net burst.from ∷ name_at net burst.to ∷ []) (refl, refl)) (log-bursts net more)

log-sent : (net : Net) (mark : Mark) (frame : ℕ) (bursts : List Burst) → IsLog (burst_frame_lines net mark frame bursts)
log-sent net mark frame bursts =
    log-both (line_of (codes "frame" ∷ frame_name mark frame ∷ [])) (burst_lines net form.Air bursts) (log-line (codes "frame" ∷ frame_name mark frame ∷ []) (refl, refl)) (log-bursts net bursts)

-- a piece of a log, and lines behind it
behind : (said log : List ℕ) (lines : List Line) → IsLog log → said ≡ log ++ texts_of lines → SaysBehind said lines
behind said log lines of is = record { log = of.lines; of_log = of.are; is = is ∙ ap (λ (text : List ℕ). text ++ texts_of lines) of.is }

-- nothing is for the others
log-alone : (log : List ℕ) → IsLog log → SaysBehind log []
log-alone log of = behind log log [] of (sym (append-nil log))

-- the lines of messages
radio-texts : (mark : Mark) (said : List Aired) → radio_lines mark said ≡ texts_of (radios mark.0 [] said)
radio-texts mark [] = refl
radio-texts mark (one ∷ more) = ap (λ (text : List ℕ). radio_line mark one ++ text) (radio-texts mark more)

-- the satellite
ticks-by : (s : SatelliteAt) (test : Bool) → SaysBehind (if test then begun_texts (status_of (ticked s.site)) else last_tick_line) (if test then begun_lines (ticked s.site) else [])
ticks-by s true =
    let status = status_of (ticked s.site) in
    record { log = []; of_log = tt; is = ap (λ (text : List ℕ). mark_line status.mark ++ text) (sym (append-nil (radio_line status.mark (sends.Status status)))) }
ticks-by s false = log-alone last_tick_line (log-form form.LastTick [] (refl, refl))

satellite-heard : (net : Net) (at : ℕ) (s : SatelliteAt) (one : Option Message) → SaysBehind (heard_by_satellite net at s.site one) (radios s.site.mark.0 [] (satellite_says s.site one))
satellite-heard net at s None = log-alone [] log-none
satellite-heard net at s (Some one) =
    let log = taken_line net at (take s.site one).0 in
    behind _ log _ (log-taken net at (take s.site one).0) (ap (λ (text : List ℕ). log ++ text) (radio-texts s.site.mark (satellite_says s.site (Some one))))

-- a terminal
terminal-heard : (net : Net) (at : ℕ) (s : Terminal) (present : Option Mark) (one : Option Message) → SaysBehind (heard_by_terminal net at s present one) (confirm_lines s present one)
terminal-heard net at s None one = log-alone [] log-none
terminal-heard net at s (Some mark) None = log-alone [] log-none
terminal-heard net at s (Some mark) (Some one) =
    let log = heard_line net at s.number (hear s mark one).0 in
    behind _ log _ (log-heard net at s.number (hear s mark one).0) (ap (λ (text : List ℕ). log ++ text) (radio-texts mark (terminal_says s.number s mark (Some one))))

-- the standby
standby-seconds : (s : StandbyAt) (present : Option Mark) → SaysBehind (second_texts s.kept present) (second_lines s present)
standby-seconds s None = log-alone [] log-none
standby-seconds s (Some mark) =
    behind _ standby_burst_line (radios mark.0 [] (standby_says s.kept mark ∷ [])) (log-form form.StandbyBurst [] (refl, refl))
    (ap (λ (text : List ℕ). standby_burst_line ++ text) (sym (append-nil (radio_line mark (standby_says s.kept mark)))))

-- a station, whatever it is asked
by-asked : (net : Net) (at : ℕ) (x : Station) (one : Option Asked) → SaysBehind (answer_asked net at x one) (asked_lines x one)
by-asked net at (station.Satellite s) None = log-alone (fault_line at) (log-fault at)
by-asked net at (station.Satellite s) (Some asked.Tick) = ticks-by s (nat_lt s.site.mark.0 LAST_MARK)
by-asked net at (station.Satellite s) (Some (asked.Heard (bus.Radio stamp message))) = satellite-heard net at s message
by-asked net at (station.Satellite s) (Some asked.Frame) = log-alone (frame_lines net s) (log-frame s (nat_lt s.shown net.frames))
by-asked net at (station.Satellite s) (Some asked.Remark) = log-alone [] log-none
by-asked net at (station.Satellite s) (Some (asked.Heard (bus.Begun mark))) = log-alone [] log-none
by-asked net at (station.Satellite s) (Some asked.Second) = log-alone [] log-none
by-asked net at (station.Satellite s) (Some (asked.FrameOf mark frame)) = log-alone [] log-none
by-asked net at (station.Terminal s) None = log-alone (fault_line at) (log-fault at)
by-asked net at (station.Terminal s) (Some (asked.Heard (bus.Radio stamp message))) = terminal-heard net at s.site (present_by s.present stamp) message
by-asked net at (station.Terminal s) (Some (asked.FrameOf mark frame)) = log-alone (burst_frame_lines net mark frame (sent_in s mark)) (log-sent net mark frame (sent_in s mark))
by-asked net at (station.Terminal s) (Some asked.Tick) = log-alone [] log-none
by-asked net at (station.Terminal s) (Some asked.Frame) = log-alone [] log-none
by-asked net at (station.Terminal s) (Some asked.Remark) = log-alone [] log-none
by-asked net at (station.Terminal s) (Some (asked.Heard (bus.Begun mark))) = log-alone [] log-none
by-asked net at (station.Terminal s) (Some asked.Second) = log-alone [] log-none
by-asked net at (station.Standby s) None = log-alone (fault_line at) (log-fault at)
by-asked net at (station.Standby s) (Some (asked.Heard (bus.Radio stamp message))) = log-alone (heard_by_standby at s.kept (present_by s.present stamp) message) (log-standby at s.kept (present_by s.present stamp) message)
by-asked net at (station.Standby s) (Some asked.Second) = standby-seconds s s.present
by-asked net at (station.Standby s) (Some asked.Tick) = log-alone [] log-none
by-asked net at (station.Standby s) (Some asked.Frame) = log-alone [] log-none
by-asked net at (station.Standby s) (Some asked.Remark) = log-alone [] log-none
by-asked net at (station.Standby s) (Some (asked.Heard (bus.Begun mark))) = log-alone [] log-none
by-asked net at (station.Standby s) (Some (asked.FrameOf mark frame)) = log-alone [] log-none

pub station-prints : (net : Net) (at : ℕ) (x : Station) (text : List ℕ) → SaysBehind (answer net at x (Some text)) (asked_lines x (asked_of net text))
station-prints net at x text = by-asked net at x (asked_of net text)

pub start-prints : (number : TermNo) → start_lines number ≡ texts_of (radios 0 [] (sends.Lost number ∷ []))
start-prints number = sym (append-nil (start_lines number))

-- The lines of a station as acts of sites that hear lines with stamps (`bt_sites`). Lists of acts have the latest first.
use Rattle.std.specs.Prelude.{◌≡◌, ℕ, ◌<◌, ◌≤◌, ◌⊎◌, ◌++◌, max, codes, decimal, flat_map, List, [], ◌∷◌, Option, Some, None}
use Rattle.hex.specs.Hex.{IsBytes, encode_lower}
use Rattle.bt_frame.specs.declared.limits.TheConstants.{LAST_MARK}
use Rattle.bt_frame.specs.declared.numbers.Mark.{Mark}
use Rattle.bt_frame.specs.declared.numbers.TermNo.{TermNo}
use Rattle.bt_net.specs.Network.{Net}
use Rattle.bt_demand.specs.declared.burst.Burst.{Burst}
use Rattle.bt_air.specs.declared.message.Message.{Message}
use Rattle.bt_machines.specs.Satellite.{State as Satellite, step_of as take}
use Rattle.bt_machines.specs.Terminal.{State as Terminal, step_of as hear}
use Rattle.bt_words.specs.Lines.{line_of}
use Rattle.bt_timeline.specs.Air.{standby_burst_line}
use Rattle.bt_site.specs.Event.{Opening}
use Rattle.bt_sites.specs.OnAir.{SendsIn}
use Rattle.bt_sites.specs.Sites.{satellite_after, standby_after, terminal_after}
use Rattle.bt_sites.specs.Stamps.{Act, Begun, Line, Radio, known, steps_by}
use Rattle.bt_sites.specs.Step.{Site}
use Rattle.bt_sites.specs.Step as site
use Rattle.bt_script.specs.Heard.{if_begun, read_of}
use Rattle.bt_script.specs.declared.heard.BusLine.{BusLine}
use Rattle.bt_script.specs.declared.heard.BusLine.TheVariants as bus
use Rattle.bt_station.specs.Asked.{asked_of}
use Rattle.bt_station.specs.Lines.{burst_frame_lines}
use Rattle.bt_station.specs.Satellite.{taken_line}
use Rattle.bt_station.specs.Standby.{heard_by_standby}
use Rattle.bt_station.specs.Station.{after, answer}
use Rattle.bt_station.specs.Terminal.{heard_line}
use Rattle.bt_station.specs.declared.asked.Asked.{Asked}
use Rattle.bt_station.specs.declared.asked.Asked.TheVariants as asked
use Rattle.bt_station.specs.declared.station.Station.{Station}
use Rattle.bt_station.specs.declared.station.Station.TheVariants as station

-- the words of a line: `mark N`, or `radio N HEX`
abbrev pub words_of : Line → List (List ℕ)
words_of (Begun stamp) = codes "mark" ∷ decimal stamp ∷ []
words_of (Radio stamp bytes) = codes "radio" ∷ decimal stamp ∷ encode_lower bytes ∷ []

-- the line as a station says it
abbrev pub text_of : Line → List ℕ
text_of line = line_of (words_of line)

-- a line that can be said: its superframe is within the range, from 1 on where it begins, and its bytes are bytes
abbrev pub IsSayable : Line → Type 0
IsSayable (Begun stamp) = (0 < stamp) × (stamp ≤ LAST_MARK)
IsSayable (Radio stamp bytes) = (stamp ≤ LAST_MARK) × IsBytes bytes

-- these lines
abbrev pub texts_of : List Line → List ℕ
texts_of lines = flat_map text_of lines

-- what is heard of a line
abbrev pub heard_as : Line → BusLine
heard_as (Begun stamp) = bus.Begun (record { 0 = stamp })
heard_as (Radio stamp bytes) = bus.Radio (record { 0 = stamp }) (read_of bytes)

-- what a line asks of a station that hears it
abbrev pub asked_by_line : Line → Asked
asked_by_line line = asked.Heard (heard_as line)

-- a text is heard as this line
abbrev pub IsHeardAs : Net → List ℕ → Line → Type 0
IsHeardAs net text line = asked_of net text ≡ Some (asked_by_line line)

-- a site on the ground that knows this superframe, or none, 0, takes up a line: a message only where it knows one
abbrev pub IsTakenUp : ℕ → Line → Type 0
IsTakenUp before (Begun stamp) = 0 < stamp
IsTakenUp before (Radio stamp bytes) = 0 < before

-- the superframe that a site on the ground takes for the present one after these acts, where it knows one
abbrev pub present_after : Site → List Act → Option Mark
present_after one acts = if_begun (known one acts)

-- the satellite after these acts, with so many frames of its superframe shown
abbrev pub satellite_at : Opening → ℕ → List Act → Station
satellite_at o shown acts = station.Satellite (record { site = satellite_after o (steps_by o acts); shown = shown })

-- a terminal after these acts
abbrev pub terminal_at : Opening → TermNo → List Act → Station
terminal_at o number acts = station.Terminal (record { site = terminal_after number (steps_by o acts); present = present_after (site.Terminal number) acts })

-- the standby after these acts
abbrev pub standby_at : Opening → List Act → Station
standby_at o acts = station.Standby (record { kept = standby_after (steps_by o acts); present = present_after site.Standby acts })

-- what the satellite logs of a message, if it was one
abbrev pub satellite_logs : Net → ℕ → Satellite → Option Message → List ℕ
satellite_logs net at s None = []
satellite_logs net at s (Some message) = taken_line net at (take s message).0

-- what a terminal logs of a message in a superframe, if it was one
abbrev pub terminal_logs : Net → ℕ → Terminal → Option Mark → Option Message → List ℕ
terminal_logs net at s None message = []
terminal_logs net at s (Some mark) None = []
terminal_logs net at s (Some mark) (Some message) = heard_line net at s.number (hear s mark message).0

-- what the standby logs with the second reference burst of a superframe, where it knows one
abbrev pub second_logs : Option Mark → List ℕ
second_logs None = []
second_logs (Some mark) = standby_burst_line

-- what a station logs of line `at`
abbrev pub satellite_log : Net → ℕ → Opening → List Act → Line → List ℕ
satellite_log net at o before (Begun stamp) = []
satellite_log net at o before (Radio stamp bytes) = satellite_logs net at (satellite_after o (steps_by o before)) (read_of bytes)

abbrev pub terminal_log : Net → ℕ → TermNo → Opening → List Act → Line → List ℕ
terminal_log net at number o before (Begun stamp) = []
terminal_log net at number o before (Radio stamp bytes) =
    terminal_logs net at (terminal_after number (steps_by o before)) (if_begun (max (known (site.Terminal number) before) stamp)) (read_of bytes)

abbrev pub standby_log : ℕ → Opening → List Act → Line → List ℕ
standby_log at o before (Begun stamp) = []
standby_log at o before (Radio stamp bytes) = heard_by_standby at (standby_after (steps_by o before)) (if_begun (max (known site.Standby before) stamp)) (read_of bytes)

-- That a station hears this text as line `at` is an act: behind it the station is this one, and it says what it logs, and then the
-- lines that are said with the act.
pub record IsAct (net : Net) (at : ℕ) (before : Station) (text : List ℕ) (behind : Station) (logged : List ℕ) (said : List Line) : Type 0 where
  pub state : after net before (Some text) ≡ behind
  pub says : answer net at before (Some text) ≡ logged ++ texts_of said

-- it is none: nothing changes, and nothing is said
abbrev pub IsPassedOver : Net → ℕ → Station → List ℕ → Type 0
IsPassedOver net at before text = IsAct net at before text before [] []

-- what is said to the modem of a terminal is what the terminal transmits in this superframe after these acts, or nothing
pub record ShowsSent (net : Net) (o : Opening) (acts : List Act) (number : TermNo) (mark frame : ℕ) (said : List ℕ) : Type 0 where
  pub bursts : List Burst
  pub lines : said ≡ burst_frame_lines net (record { 0 = mark }) frame bursts
  pub sent : (bursts ≡ []) ⊎ SendsIn o acts mark number bursts

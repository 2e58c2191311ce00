-- A system of processes that share nothing but lines: one satellite, the terminals, a standby, and one centre at a time, each killed and
-- started again at will but for the satellite. What each is by what it did itself, as its program has it, and what it says to the
-- others. Lists of deeds have the latest first.
use Rattle.std.specs.Prelude.{ℕ, ◌==◌, ◌||◌, nat_lt, max, if◌then◌else◌, Bool, true, false, List, [], ◌∷◌, ◌++◌, map, reverse, Option, Some, None}
use Rattle.bt_frame.specs.declared.limits.TheConstants.{LAST_MARK}
use Rattle.bt_frame.specs.declared.numbers.EditionNo.{EditionNo}
use Rattle.bt_frame.specs.declared.numbers.Mark.{Mark}
use Rattle.bt_frame.specs.declared.numbers.TermNo.{TermNo}
use Rattle.bt_net.specs.Network.{Net}
use Rattle.bt_demand.specs.declared.plan.Plan.{Plan}
use Rattle.bt_air.specs.declared.message.Message.{Message}
use Rattle.bt_air.specs.declared.order.Order.{Order}
use Rattle.bt_air.specs.declared.sent.Aired.{Aired}
use Rattle.bt_air.specs.declared.sent.Aired.TheVariants as sends
use Rattle.bt_machines.specs.Satellite.{State as Satellite, status_of, ticked}
use Rattle.bt_machines.specs.Terminal.{State as Terminal}
use Rattle.bt_journal.specs.declared.call.Change.{Change}
use Rattle.bt_journal.specs.declared.call.Change.TheVariants as change
use Rattle.bt_history.specs.Changes.{orders, plans}
use Rattle.bt_site.specs.Event.{Opening, Turn, Ordered, Install, RestartCentre}
use Rattle.bt_site.specs.Sites.{satellite_says, standby_says, terminal_says}
use Rattle.bt_sites.specs.Sites.{bytes_of}
use Rattle.bt_sites.specs.Stamps.{Begun, Line, Radio}
use Rattle.bt_sites.specs.Step.{Site}
use Rattle.bt_sites.specs.Step as site
use Rattle.bt_script.specs.Heard.{bus_line_of}
use Rattle.bt_script.specs.declared.heard.BusLine.{BusLine}
use Rattle.bt_script.specs.declared.heard.BusLine.TheVariants as bus
use Rattle.bt_apart.specs.Back.{back_lasting}
use Rattle.bt_apart.specs.Apart.{ApartAir, apart_at_start, going_apart, having_apart, heard_apart, says_apart}
use Rattle.bt_station.specs.declared.asked.Asked.{Asked}
use Rattle.bt_station.specs.declared.asked.Asked.TheVariants as asked
use Rattle.bt_station.specs.declared.station.Station.{Station}
use Rattle.bt_station.specs.declared.station.Station.TheVariants as station
use Rattle.bt_station.specs.Asked.{asked_of}
use Rattle.bt_station.specs.Satellite.{SatelliteAt, satellite_in}
use Rattle.bt_station.specs.Standby.{StandbyAt, standby_new}
use Rattle.bt_station.specs.Station.{after}
use Rattle.bt_station.specs.Terminal.{TerminalAt, present_by, terminal_of}
use Rattle.bt_apart_laws.specs.Acts.{known_in}

-- with what a system starts: the network, the superframe in which its satellite starts, and the changes that the journal tells then
pub record Start : Type 0 where
  pub net : Net
  pub mark : Mark
  pub changes : List Change

-- What a process does. A new process of a terminal, of the standby or of the centre starts; that of the centre recovers the changes of
-- the journal, and maybe one more that was under way. A process hears a line that another said, by this text, or a line of its own
-- input. The centre has its turn, places the order that it wants, learns of a plan, goes back to an edition or ahead, or restarts
-- within the process. Its book makes a change that a desk or the planner asks.
pub data Deed : Type 0 where
  Starts : TermNo → Deed
  StandbyStarts : Deed
  Opens : Option Change → Deed
  Hears : Site → Line → List ℕ → Deed
  Asks : Site → List ℕ → Deed
  Turns : EditionNo → Deed
  Places : Order → Deed
  Learns : Plan → Deed
  Goes : Option EditionNo → Deed
  Restarts : Option Change → Deed
  Makes : Change → Deed

-- the satellite, a process that goes on
abbrev pub satellite_by : Start → List Deed → Station
satellite_by s [] = station.Satellite (satellite_in s.mark)
satellite_by s (Hears site.Satellite line text ∷ before) = after s.net (satellite_by s before) (Some text)
satellite_by s (Asks site.Satellite text ∷ before) = after s.net (satellite_by s before) (Some text)
satellite_by s (_ ∷ before) = satellite_by s before

-- the last process of a terminal
abbrev pub terminal_by : Start → TermNo → List Deed → Station
terminal_by s number [] = station.Terminal (terminal_of number)
terminal_by s number (Starts other ∷ before) = if other.0 == number.0 then station.Terminal (terminal_of number) else terminal_by s number before
terminal_by s number (Hears (site.Terminal to) line text ∷ before) =
    if to.0 == number.0 then after s.net (terminal_by s number before) (Some text) else terminal_by s number before
terminal_by s number (Asks (site.Terminal to) text ∷ before) =
    if to.0 == number.0 then after s.net (terminal_by s number before) (Some text) else terminal_by s number before
terminal_by s number (_ ∷ before) = terminal_by s number before

-- there was one
abbrev pub is_started : TermNo → List Deed → Bool
is_started number [] = false
is_started number (Starts other ∷ before) = other.0 == number.0 || is_started number before
is_started number (_ ∷ before) = is_started number before

-- the last process of the standby
abbrev pub standby_by : Start → List Deed → Station
standby_by s [] = station.Standby standby_new
standby_by s (StandbyStarts ∷ before) = station.Standby standby_new
standby_by s (Hears site.Standby line text ∷ before) = after s.net (standby_by s before) (Some text)
standby_by s (Asks site.Standby text ∷ before) = after s.net (standby_by s before) (Some text)
standby_by s (_ ∷ before) = standby_by s before

-- changes, and one more, if there is one
abbrev pub with_one : List Change → Option Change → List Change
with_one changes None = changes
with_one changes (Some one) = changes ++ one ∷ []

-- the changes that the journal tells
abbrev pub journal_by : Start → List Deed → List Change
journal_by s [] = s.changes
journal_by s (Opens one ∷ before) = with_one (journal_by s before) one
journal_by s (Restarts one ∷ before) = with_one (journal_by s before) one
journal_by s (Places order ∷ before) = journal_by s before ++ change.Order order ∷ []
journal_by s (Makes one ∷ before) = journal_by s before ++ one ∷ []
journal_by s (_ ∷ before) = journal_by s before

-- with what a process of the centre opens over a journal: the plans that its changes installed and the orders that they placed
abbrev pub opening_over : Net → List Change → Opening
opening_over net changes = record { net = net; plans = reverse (plans changes); orders = reverse (orders changes) }

-- the change is an order, if there is one
abbrev pub is_order : Option Change → Bool
is_order (Some (change.Order order)) = true
is_order _ = false

-- once the centre has heard a line, if it was one
abbrev pub having_heard : ApartAir → Option BusLine → ApartAir
having_heard air None = air
having_heard air (Some line) = heard_apart air line

-- the last process of the centre; the first of all opens at the start
abbrev pub centre_by : Start → List Deed → ApartAir
centre_by s [] = apart_at_start (opening_over s.net s.changes)
centre_by s (Opens one ∷ before) = apart_at_start (opening_over s.net (with_one (journal_by s before) one))
centre_by s (Hears site.Centre line text ∷ before) = having_heard (centre_by s before) (bus_line_of text)
centre_by s (Turns target ∷ before) = having_apart (centre_by s before) (Turn target)
centre_by s (Places order ∷ before) = having_apart (centre_by s before) Ordered
centre_by s (Learns plan ∷ before) = having_apart (centre_by s before) (Install plan)
centre_by s (Goes back ∷ before) = going_apart (centre_by s before) back
centre_by s (Restarts one ∷ before) =
    going_apart (having_apart (centre_by s before) (RestartCentre (is_order one))) (back_lasting (centre_by s before).plans (opening_over s.net (with_one (journal_by s before) one)).orders)
centre_by s (_ ∷ before) = centre_by s before

-- the lines of messages in a superframe, with what these plans have for them
abbrev pub radios : ℕ → List Plan → List Aired → List Line
radios stamp all said = map (λ (bytes : List ℕ). Radio stamp bytes) (map (λ (one : Aired). bytes_of all one) said)

-- the lines with which the satellite says that its superframe begins, and its status in it
abbrev pub begun_lines : Satellite → List Line
begun_lines s = Begun s.mark.0 ∷ radios s.mark.0 [] (sends.Status (status_of s) ∷ [])

-- the lines that a station says to the others with what it is asked
abbrev pub satellite_lines : SatelliteAt → Asked → List Line
satellite_lines s asked.Tick = if nat_lt s.site.mark.0 LAST_MARK then begun_lines (ticked s.site) else []
satellite_lines s (asked.Heard (bus.Radio stamp message)) = radios s.site.mark.0 [] (satellite_says s.site message)
satellite_lines s _ = []

-- the lines of a terminal with a message in a superframe, where it knows one
abbrev pub confirm_lines : Terminal → Option Mark → Option Message → List Line
confirm_lines s None message = []
confirm_lines s (Some mark) message = radios mark.0 [] (terminal_says s.number s mark message)

abbrev pub terminal_lines : TerminalAt → Asked → List Line
terminal_lines s (asked.Heard (bus.Radio stamp message)) = confirm_lines s.site (present_by s.present stamp) message
terminal_lines s _ = []

-- the lines of the standby with its burst, where it knows a superframe
abbrev pub second_lines : StandbyAt → Option Mark → List Line
second_lines s None = []
second_lines s (Some mark) = radios mark.0 [] (standby_says s.kept mark ∷ [])

abbrev pub standby_lines : StandbyAt → Asked → List Line
standby_lines s asked.Second = second_lines s s.present
standby_lines s _ = []

abbrev pub asked_lines : Station → Option Asked → List Line
asked_lines s None = []
asked_lines (station.Satellite s) (Some asked) = satellite_lines s asked
asked_lines (station.Terminal s) (Some asked) = terminal_lines s asked
asked_lines (station.Standby s) (Some asked) = standby_lines s asked

-- the lines that the process of a site says to the others with a line that it hears; the centre says nothing to it
abbrev pub heard_lines : Start → List Deed → Site → Option Asked → List Line
heard_lines s before site.Satellite asked = asked_lines (satellite_by s before) asked
heard_lines s before site.Centre asked = []
heard_lines s before (site.Terminal number) asked = asked_lines (terminal_by s number before) asked
heard_lines s before site.Standby asked = asked_lines (standby_by s before) asked

-- the lines that are said to the others with a deed
abbrev pub lines_with : Start → List Deed → Deed → List Line
lines_with s before (Starts number) = radios 0 [] (sends.Lost number ∷ [])
lines_with s before (Hears one line text) = heard_lines s before one (asked_of s.net text)
lines_with s before (Asks one text) = heard_lines s before one (asked_of s.net text)
lines_with s before (Turns target) = radios (centre_by s before).mark.0 (centre_by s before).plans (says_apart (centre_by s before) (Turn target))
lines_with s before (Places order) = radios (centre_by s before).mark.0 (centre_by s before).plans (says_apart (centre_by s before) Ordered)
lines_with s before _ = []

-- all lines that were said
abbrev pub lines_said : Start → List Deed → List Line
lines_said s [] = []
lines_said s (deed ∷ before) = lines_with s before deed ++ lines_said s before

-- the number of a superframe, 0 where there is none
abbrev pub number_in : Option Mark → ℕ
number_in None = 0
number_in (Some mark) = mark.0

-- the superframe that a station knows, or 0
abbrev pub present_in : Station → ℕ
present_in (station.Satellite s) = s.site.mark.0
present_in (station.Terminal s) = number_in s.present
present_in (station.Standby s) = number_in s.present

-- the superframe that the process of a site knows, or 0
abbrev pub known_by : Start → Site → List Deed → ℕ
known_by s site.Satellite deeds = present_in (satellite_by s deeds)
known_by s site.Centre deeds = known_in (centre_by s deeds)
known_by s (site.Terminal number) deeds = present_in (terminal_by s number deeds)
known_by s site.Standby deeds = present_in (standby_by s deeds)

-- the latest superframe that any process of a site knew; before any it is that in which the satellite starts
abbrev pub reached_by : Start → Site → List Deed → ℕ
reached_by s one [] = s.mark.0
reached_by s one (deed ∷ before) = max (reached_by s one before) (known_by s one (deed ∷ before))

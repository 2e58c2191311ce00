-- What must hold of each deed of processes, and what is then claimed. Lists of deeds have the latest first.
use Rattle.std.specs.Prelude.{◌≡◌, ◌⊎◌, ℕ, ◌<◌, ◌≤◌, true, false, codes, flat_map, List, [], ◌∷◌, ◌++◌, length, reverse, All, Option, Some, None, IsSome}
use Rattle.bt_frame.specs.declared.limits.TheConstants.{LAST_MARK}
use Rattle.bt_frame.specs.declared.numbers.TermNo.{TermNo}
use Rattle.bt_text.specs.Text.{is_word}
use Rattle.bt_net.specs.Network.{Net}
use Rattle.bt_net.specs.Terminals.{IsTerminal}
use Rattle.bt_demand.specs.declared.burst.Burst.{Burst}
use Rattle.bt_demand.specs.declared.plan.Plan.{Plan}
use Rattle.bt_demand.specs.Plan.{empty_plan}
use Rattle.bt_air.specs.Range.{IsWord}
use Rattle.bt_machines.specs.Plans.{IsStored, newest_of, plan_of}
use Rattle.bt_machines.specs.Satellite.{State as Satellite}
use Rattle.bt_words.specs.Lines.{line_of}
use Rattle.bt_journal.specs.declared.call.Change.{Change}
use Rattle.bt_journal.specs.declared.call.Change.TheVariants as change
use Rattle.bt_history.specs.Causes.{Follows, IsGoodForItsEdition}
use Rattle.bt_history.specs.Changes.{newest, orders, plans}
use Rattle.bt_site.specs.Air.{IsSafe}
use Rattle.bt_site.specs.Fits.{IsOpening}
use Rattle.bt_site.specs.World.{greatest_due}
use Rattle.bt_sites.specs.Stamps.{Act, AreStamped, Begun, HasLine, Line, Radio, lines}
use Rattle.bt_sites.specs.Step.{Site}
use Rattle.bt_sites.specs.Step as site
use Rattle.bt_script.specs.Heard.{bus_line_of}
use Rattle.bt_apart.specs.Apart.{ApartAir}
use Rattle.bt_station.specs.declared.asked.Asked.{Asked}
use Rattle.bt_station.specs.declared.asked.Asked.TheVariants as asked
use Rattle.bt_station.specs.declared.station.Station.TheVariants as station
use Rattle.bt_station.specs.Acts.{asked_by_line, heard_as, satellite_at, standby_at, terminal_at, texts_of}
use Rattle.bt_station.specs.Asked.{asked_of}
use Rattle.bt_station.specs.Satellite.{SatelliteAt}
use Rattle.bt_station.specs.Terminal.{TerminalAt, sent_in}
use Rattle.bt_apart_laws.specs.Acts.{takes_up}
use Rattle.bt_apart_laws.specs.Processes.{Asks, Deed, Goes, Hears, Learns, Makes, Opens, Places, Restarts, StandbyStarts, Start, Starts, Turns, centre_by, is_started, journal_by, known_by, lines_said, opening_over, reached_by, satellite_by, standby_by, terminal_by, with_one}

-- the process of a site hears this text as that line
abbrev pub IsHeardBy : Start → Site → List ℕ → Line → Type 0
IsHeardBy s site.Centre text line = bus_line_of text ≡ Some (heard_as line)
IsHeardBy s _ text line = asked_of s.net text ≡ Some (asked_by_line line)

-- a new process first hears of a superframe that is not behind those of the processes before it
abbrev pub GoesOn : Start → List Deed → Site → ℕ → Type 0
GoesOn s before one stamp = known_by s one before ≡ 0 → reached_by s one before ≤ stamp

-- the same of a line that takes it to its first superframe, which no message does
abbrev pub GoesOnBy : Start → List Deed → Site → Line → Type 0
GoesOnBy s before one (Begun stamp) = GoesOn s before one stamp
GoesOnBy s before one (Radio stamp bytes) = Unit {0}

-- the process of a site may hear a line: that of a terminal has started, and the centre takes it up or passes it over
abbrev pub MayHear : Start → List Deed → Site → Line → Type 0
MayHear s before site.Satellite line = Unit {0}
MayHear s before site.Centre line = takes_up (centre_by s before) line ≡ true → GoesOnBy s before site.Centre line
MayHear s before (site.Terminal number) line = (is_started number before ≡ true) × GoesOnBy s before (site.Terminal number) line
MayHear s before site.Standby line = GoesOnBy s before site.Standby line

-- What may come to a process on its own input: no line of another, and the modem of a terminal counts superframes as the satellite does,
-- which said that this one begins.
abbrev pub MayAsk : Start → List Deed → Site → Option Asked → Type 0
MayAsk s before one None = Unit {0}
MayAsk s before one (Some (asked.Heard line)) = ⊥
MayAsk s before (site.Terminal number) (Some (asked.FrameOf mark frame)) = HasLine (lines_said s before) (Begun mark.0) × MayHear s before (site.Terminal number) (Begun mark.0)
MayAsk s before one (Some _) = Unit {0}

-- the change is no order but the one that the centre wants
abbrev pub IsWantedIf : ApartAir → Option Change → Type 0
IsWantedIf air (Some (change.Order order)) = air.centre.wanted ≡ Some order
IsWantedIf air _ = Unit {0}

-- The journal keeps what it told: it tells the changes that were made, and at most one more, which was under way and follows them.
pub record IsUnderWay (s : Start) (before : List Deed) (one : Option Change) : Type 0 where
  pub follows : Follows s.net (with_one (journal_by s before) one)
  pub wanted : IsWantedIf (centre_by s before) one

-- a desk or the planner asks no order
abbrev pub IsNoOrder : Change → Type 0
IsNoOrder (change.Order order) = ⊥
IsNoOrder _ = Unit {0}

-- what must hold of a deed of each kind
abbrev pub MayDo : Start → List Deed → Deed → Type 0
MayDo s before (Starts number) = IsTerminal s.net number
MayDo s before StandbyStarts = Unit {0}
MayDo s before (Opens one) = IsUnderWay s before one
MayDo s before (Hears one line text) = IsHeardBy s one text line × HasLine (lines_said s before) line × MayHear s before one line
MayDo s before (Asks one text) = MayAsk s before one (asked_of s.net text)
MayDo s before (Turns target) = ((centre_by s before).marked ≡ true) × IsSome (plan_of (centre_by s before).plans target)
MayDo s before (Places order) =
    ((centre_by s before).marked ≡ true) × ((centre_by s before).centre.wanted ≡ Some order) × Follows s.net (journal_by s before ++ change.Order order ∷ [])
MayDo s before (Learns plan) = (plan ≡ newest (journal_by s before)) × ((newest_of (centre_by s before).plans).0 < plan.edition.0)
MayDo s before (Goes back) = Unit {0}
MayDo s before (Restarts one) = IsUnderWay s before one
MayDo s before (Makes one) = IsNoOrder one × Follows s.net (journal_by s before ++ one ∷ [])

-- The journal tells changes that follow, a centre may open with them, and the satellite starts in a superframe that is not behind any
-- for which one of their orders arms.
pub record IsStart (s : Start) : Type 0 where
  pub follows : Follows s.net s.changes
  pub opens : IsOpening (opening_over s.net s.changes)
  pub mark : greatest_due (opening_over s.net s.changes).orders ≤ s.mark.0
  pub range : s.mark.0 ≤ LAST_MARK

-- processes, each deed of which meets what must hold of it
abbrev pub AreProcesses : Start → List Deed → Type 0
AreProcesses s [] = IsStart s
AreProcesses s (deed ∷ before) = MayDo s before deed × AreProcesses s before

-- What processes do is what sites do that hear lines with stamps (`bt_sites`): each station is the site after these acts, and each line
-- that is said is said with them.
pub record ActAsSites (s : Start) (deeds : List Deed) : Type 0 where
  pub acts : List Act
  pub stamped : AreStamped (opening_over s.net s.changes) acts
  pub shown : ℕ
  pub satellite : satellite_by s deeds ≡ satellite_at (opening_over s.net s.changes) shown acts
  pub terminals : (number : TermNo) → terminal_by s number deeds ≡ terminal_at (opening_over s.net s.changes) number acts
  pub standby : standby_by s deeds ≡ standby_at (opening_over s.net s.changes) acts
  pub said : (line : Line) → HasLine (lines_said s deeds) line → HasLine (lines (opening_over s.net s.changes) acts) line

-- no number of the journal is too great for a message: its plans are stored ones, and four bytes count its orders
pub record IsSmall (changes : List Change) : Type 0 where
  pub plans : All IsStored (plans changes)
  pub orders : IsWord (length (orders changes))

-- a moment, with what was done up to it
pub record IsMoment (deeds done : List Deed) : Type 0 where
  pub later : List Deed
  pub is : later ++ done ≡ deeds

-- the satellite is so at a moment
pub record IsOnBoard (s : Start) (deeds done : List Deed) (onboard : SatelliteAt) : Type 0 where
  pub moment : IsMoment deeds done
  pub is : satellite_by s done ≡ station.Satellite onboard

-- at some moment the modem of a terminal asks what it is to transmit in a frame of this superframe, and is told these bursts
pub record TransmitsIn (s : Start) (deeds : List Deed) (mark : ℕ) (number : TermNo) (bursts : List Burst) : Type 0 where
  pub done : List Deed
  pub text : List ℕ
  pub moment : IsMoment deeds (Asks (site.Terminal number) text ∷ done)
  pub frame : ℕ
  pub asks : asked_of s.net text ≡ Some (asked.FrameOf (record { 0 = mark }) frame)
  pub terminal : TerminalAt
  pub is : terminal_by s number done ≡ station.Terminal terminal
  pub sends : bursts ≡ sent_in terminal (record { 0 = mark })

-- what each terminal transmits in a superframe: at one moment or another, or nothing
abbrev pub AreTransmitted : Start → List Deed → ℕ → (TermNo → List Burst) → Type 0
AreTransmitted s deeds mark sends = (number : TermNo) → (sends number ≡ []) ⊎ TransmitsIn s deeds mark number (sends number)

-- The edition in front on board is that of an installed plan, whose modes are in front. It is the empty plan of edition 0, or it
-- carries exactly the demand of its edition, in the least length.
pub record IsGoodInFront (net : Net) (changes : List Change) (onboard : Satellite) : Type 0 where
  pub plan : Plan
  pub installed : plan_of (reverse (plans changes)) onboard.fore.edition ≡ Some plan
  pub edition : plan.edition.0 ≡ onboard.fore.edition.0
  pub modes : onboard.fore.modes ≡ plan.schedule.modes
  pub good : (plan ≡ empty_plan) ⊎ IsGoodForItsEdition net changes plan

-- and through its modes bursts are safe
pub record IsSafeInGood (net : Net) (changes : List Change) (onboard : Satellite) (bursts : List Burst) : Type 0 where
  pub front : IsGoodInFront net changes onboard
  pub safe : IsSafe net front.plan.schedule.modes bursts

-- a line of a log by its words: it has neither `mark` nor `radio` in front
abbrev pub IsOfLog : List (List ℕ) → Type 0
IsOfLog [] = Unit {0}
IsOfLog (first ∷ rest) = (is_word (codes "mark") first ≡ false) × (is_word (codes "radio") first ≡ false)

-- each of these
abbrev pub AreOfLog : List (List (List ℕ)) → Type 0
AreOfLog [] = Unit {0}
AreOfLog (line ∷ lines) = IsOfLog line × AreOfLog lines

-- a piece is the lines of a log, and these lines behind it
pub record SaysBehind (said : List ℕ) (lines : List Line) : Type 0 where
  pub log : List (List (List ℕ))
  pub of_log : AreOfLog log
  pub is : said ≡ flat_map line_of log ++ texts_of lines

-- Processes that share nothing but lines do what sites that hear lines with stamps do.
use Rattle.std.proofs.Common.{◌≡◌, ℕ, zero, suc, ◌+◌, ◌-◌, ◌<◌, ◌≤◌, ◌==◌, ◌||◌, max, if◌then◌else◌, Bool, true, false, List, [], ◌∷◌, ◌++◌, Option, Some, None, refl, sym, ap, ◌∙◌, subst, arith}
use Rattle.std.specs.Prelude.{nat_lt}
use Rattle.std.proofs.lemmas.Bool.{eqb-true}
use Rattle.std.proofs.lemmas.Bool.Decides.{nat_tests}
use Rattle.bt_frame.specs.declared.limits.TheConstants.{LAST_MARK}
use Rattle.bt_frame.specs.declared.numbers.TermNo.{TermNo}
use Rattle.bt_net.specs.Network.{Net}
use Rattle.bt_net.specs.Terminals.{IsTerminal}
use Rattle.bt_air.specs.declared.sent.Aired.TheVariants as sends
use Rattle.bt_machines.specs.Satellite.{State as Satellite, new_at, ticked}
use Rattle.bt_machines.specs.Plans.{StartsEmpty}
use Rattle.bt_journal.specs.declared.call.Change.{Change}
use Rattle.bt_journal.specs.declared.call.Change.TheVariants as change
use Rattle.bt_history.specs.Causes.{Follows}
use Rattle.bt_site.specs.World.{greatest_due}
use Rattle.bt_site.specs.Event.{Opening}
use Rattle.bt_sites.specs.Late.{now_of}
use Rattle.bt_sites.specs.Sites.{satellite_after}
use Rattle.bt_sites.specs.Stamps.{Act, AreStamped, Begun, HasLine, Line, MayAct, Radio, actor_of, has_started, is_same_site, known, lines as act_lines, lines_by, reached, stamp_of, steps_by}
use Rattle.bt_sites.specs.Stamps as act
use Rattle.bt_sites.specs.Step.{Site}
use Rattle.bt_sites.specs.Step as site
use Rattle.bt_station.specs.declared.asked.Asked.{Asked}
use Rattle.bt_station.specs.declared.asked.Asked.TheVariants as asked
use Rattle.bt_station.specs.declared.station.Station.{Station}
use Rattle.bt_station.specs.declared.station.Station.TheVariants as station
use Rattle.bt_station.specs.Acts.{IsTakenUp, asked_by_line, satellite_at, standby_at, terminal_at}
use Rattle.bt_station.specs.Asked.{asked_of}
use Rattle.bt_station.specs.Satellite.{SatelliteAt}
use Rattle.bt_station.specs.Station.{after, after_asked}
use Rattle.bt_station.specs.Terminal.{terminal_of}
use Rattle.bt_station.proofs.Acts.{if-false, satellite-heard, satellite-ticks, standby-heard, standby-passed_over, standby-seconds, terminal-heard, terminal-modem, terminal-passed_over, terminal-starts}
use Rattle.bt_apart_laws.specs.Acts.{takes_up}
use Rattle.bt_apart_laws.specs.Premises.{GoesOnBy, IsStart, MayAsk, MayHear}
use Rattle.bt_apart_laws.specs.Processes.{Asks, Deed, Goes, Hears, Learns, Makes, Opens, Places, Restarts, StandbyStarts, Start, Starts, Turns, asked_lines, begun_lines, centre_by, is_order, is_started, journal_by, known_by, lines_said, opening_over, present_in, radios, reached_by, satellite_by, standby_by, terminal_by}
use Rattle.bt_apart_laws.proofs.Begins.{begin, begun-near, begun-reached, begun-satellite, begun-stamped, begun-standby, begun-started, begun-terminal}
use Rattle.bt_apart_laws.proofs.Journals.{orders_over, plans_over}
use Rattle.bt_apart_laws.proofs.Near.{IsNear, near-idle, near-other}
use Rattle.bt_apart_laws.proofs.Stations.{IsSatelliteAt, IsStandbyAt, IsTerminalAt, satellite-begins, satellite-kept, satellite-says, standby-idle, standby-kept, standby-known, standby-next, standby-says, terminal-idle, terminal-kept, terminal-known, terminal-next, terminal-says, terminal-silent}
use Rattle.bt_apart_laws.proofs.Within.{AreWithin, begun-past, within-both, within-none, within-same}

-- the opening of the sites
abbrev pub over : Start → Opening
over s = opening_over s.net s.changes

-- what a line is to a site on the ground that knows this superframe, or 0: it passes over a message before it knows one
abbrev pub if_taken : ℕ → Site → Line → List Act
if_taken k one (Begun stamp) = act.Hears one (Begun stamp) ∷ []
if_taken zero one (Radio stamp bytes) = []
if_taken (suc k) one (Radio stamp bytes) = act.Hears one (Radio stamp bytes) ∷ []

-- what a line of its own input is to a station
abbrev pub if_ticked : ℕ → Option Asked → List Act
if_ticked now (Some asked.Tick) = if nat_lt now LAST_MARK then act.Begins ∷ [] else []
if_ticked now _ = []

abbrev pub if_framed : TermNo → Option Asked → List Act
if_framed number (Some (asked.FrameOf mark frame)) = act.Hears (site.Terminal number) (Begun mark.0) ∷ []
if_framed number _ = []

abbrev pub if_second : Option Asked → List Act
if_second (Some asked.Second) = act.Seconds ∷ []
if_second _ = []

-- the plan that is in the journal by a restart
abbrev pub installs_by : Option Change → List Act
installs_by (Some (change.Install plan)) = act.Installs plan ∷ []
installs_by _ = []

-- the acts that a deed is
abbrev pub acts_with : Start → List Deed → Deed → List Act
acts_with s before (Starts number) = act.Starts number ∷ []
acts_with s before StandbyStarts = act.StandbyStarts ∷ []
acts_with s before (Opens one) = act.Restarts (is_order one) ∷ installs_by one
acts_with s before (Hears site.Satellite line text) = act.Hears site.Satellite line ∷ []
acts_with s before (Hears site.Centre line text) = if takes_up (centre_by s before) line then act.Hears site.Centre line ∷ [] else []
acts_with s before (Hears (site.Terminal number) line text) = if_taken (present_in (terminal_by s number before)) (site.Terminal number) line
acts_with s before (Hears site.Standby line text) = if_taken (present_in (standby_by s before)) site.Standby line
acts_with s before (Asks site.Satellite text) = if_ticked (present_in (satellite_by s before)) (asked_of s.net text)
acts_with s before (Asks site.Centre text) = []
acts_with s before (Asks (site.Terminal number) text) = if_framed number (asked_of s.net text)
acts_with s before (Asks site.Standby text) = if_second (asked_of s.net text)
acts_with s before (Turns target) = act.Turns target ∷ []
acts_with s before (Places one) = act.Places ∷ []
acts_with s before (Learns plan) = []
acts_with s before (Goes back) = []
acts_with s before (Restarts one) = act.Restarts (is_order one) ∷ installs_by one
acts_with s before (Makes one) = installs_by (Some one)

abbrev pub acts_of : Start → List Deed → List Act
acts_of s [] = begin (s.mark.0 - greatest_due (over s).orders)
acts_of s (deed ∷ before) = acts_with s before deed ++ acts_of s before

-- what holds after deeds and these acts
pub record Stands (s : Start) (deeds : List Deed) (acts : List Act) : Type 0 where
  pub stamped : AreStamped (over s) acts
  pub satellite : IsSatelliteAt (over s) acts (satellite_by s deeds)
  pub terminals : (number : TermNo) → IsTerminalAt (over s) acts number (terminal_by s number deeds) (reached_by s (site.Terminal number) deeds)
  pub started : (number : TermNo) → has_started number acts ≡ is_started number deeds
  pub named : (number : TermNo) → is_started number deeds ≡ true → IsTerminal s.net number
  pub standby : IsStandbyAt (over s) acts (standby_by s deeds) (reached_by s site.Standby deeds)
  pub centre : IsNear (over s) acts (centre_by s deeds) (plans_over (journal_by s deeds)) (orders_over (journal_by s deeds)) (reached_by s site.Centre deeds)
  pub said : AreWithin (lines_said s deeds) (act_lines (over s) acts)
  pub follows : Follows s.net (journal_by s deeds)
  pub starts : StartsEmpty (plans_over (journal_by s deeds))

-- before anything: superframes have begun up to that in which the satellite starts
pub stands-start : (s : Start) → IsStart s → Stands s [] (begin (s.mark.0 - greatest_due (over s).orders))
stands-start s start =
    let o = over s in
    let n = s.mark.0 - greatest_due o.orders in
    let is : s.mark.0 ≡ greatest_due o.orders + n = omega (arith, start.mark) in
    record {
      stamped = begun-stamped o n start.opens (omega (arith, is, start.range));
      satellite = record {
        shown = 0;
        is = ap (λ (m : ℕ). station.Satellite (record { site = new_at (record { 0 = m }); shown = 0 })) is
            ∙ ap (λ (x : Satellite). station.Satellite (record { site = x; shown = 0 })) (sym (begun-satellite o n));
      };
      terminals = λ number. record { is = begun-terminal o number n; reached = begun-reached o (site.Terminal number) n s.mark.0 refl start.mark };
      started = λ number. begun-started number n;
      named = λ number is. absurd (cc is);
      standby = record { is = begun-standby o n; reached = begun-reached o site.Standby n s.mark.0 refl start.mark };
      centre = begun-near o n s.mark.0 start.opens start.mark;
      said = within-none (act_lines o (begin n));
      follows = start.follows;
      starts = start.opens.starts;
    }

is-below : (m n : ℕ) → nat_lt m n ≡ true → m < n
is-below m n is = grind (arith, nat_tests, is)

same-number : (a b : TermNo) → (a.0 == b.0) ≡ true → a ≡ b
same-number a b is = ap (λ (n : ℕ). let number : TermNo = record { 0 = n } in number) (eqb-true _ _ is)

-- who hears its first line goes on with it
pub goes-on : (s : Start) (before : List Deed) (acts : List Act) (one : Site) (line : Line) → known one acts ≡ known_by s one before → reached (over s) one acts ≤ reached_by s one before
    → IsTakenUp (known one acts) line → GoesOnBy s before one line → act.GoesOn (over s) acts one (stamp_of line)
goes-on s before acts one (Begun stamp) knows most takes goes = λ none some. let on = goes (sym knows ∙ none) in omega (arith, on, most)
goes-on s before acts one (Radio stamp bytes) knows most takes goes = λ none some. absurd (omega (arith, none, takes))

-- an act of a terminal, for each terminal
terminal-either : (o : Opening) (acts : List Act) (one : Act) (to number : TermNo) (own : TermNo → Station) (x : Station) (reach : ℕ) (test : Bool) → (to.0 == number.0) ≡ test
    → actor_of one ≡ site.Terminal to → own to ≡ terminal_at o to (one ∷ acts) → IsTerminalAt o acts number x reach
    → IsTerminalAt o (one ∷ acts) number (if test then own number else x) (max reach (present_in (if test then own number else x)))
terminal-either o acts one to number own x reach true is who made at =
    terminal-next o acts one number (own number) reach at.reached (subst (λ (n : TermNo). own n ≡ terminal_at o n (one ∷ acts)) (same-number to number is) made)
terminal-either o acts one to number own x reach false is who made at =
    terminal-kept o acts one number x reach (ap (λ (place : Site). is_same_site place (site.Terminal number)) who ∙ is) at

-- no act of a terminal that hears something
terminal-either_idle : (o : Opening) (acts : List Act) (to number : TermNo) (own : TermNo → Station) (x : Station) (reach : ℕ) (test : Bool) → (to.0 == number.0) ≡ test
    → own to ≡ terminal_at o to acts → IsTerminalAt o acts number x reach
    → IsTerminalAt o acts number (if test then own number else x) (max reach (present_in (if test then own number else x)))
terminal-either_idle o acts to number own x reach true is made at =
    terminal-idle o acts number x (own number) reach (subst (λ (n : TermNo). own n ≡ terminal_at o n acts) (same-number to number is) made ∙ sym at.is) at
terminal-either_idle o acts to number own x reach false is made at = terminal-idle o acts number x x reach refl at

or-named : (net : Net) (to number : TermNo) (test rest : Bool) → (to.0 == number.0) ≡ test → IsTerminal net to → (rest ≡ true → IsTerminal net number) → (test || rest) ≡ true → IsTerminal net number
or-named net to number true rest is named others one = subst (λ (n : TermNo). IsTerminal net n) (same-number to number is) named
or-named net to number false rest is named others one = others one

-- a terminal starts
pub stands-starts : (s : Start) (before : List Deed) (acts : List Act) (to : TermNo) → IsTerminal s.net to → Stands s before acts → Stands s (Starts to ∷ before) (act.Starts to ∷ acts)
stands-starts s before acts to named st =
    let o = over s in
    let one = act.Starts to in
    record {
      stamped = (named, st.stamped);
      satellite = satellite-kept o acts one (satellite_by s before) refl st.satellite;
      terminals = λ number. terminal-either o acts one to number (λ (n : TermNo). station.Terminal (terminal_of n)) (terminal_by s number before) (reached_by s (site.Terminal number) before)
          (to.0 == number.0) refl refl (terminal-starts o to acts) (st.terminals number);
      started = λ number. ap (λ (b : Bool). to.0 == number.0 || b) (st.started number);
      named = λ number is. or-named s.net to number (to.0 == number.0) (is_started number before) refl named (st.named number) is;
      standby = standby-kept o acts one (standby_by s before) (reached_by s site.Standby before) refl st.standby;
      centre = near-other o acts (centre_by s before) (plans_over (journal_by s before)) (orders_over (journal_by s before)) (reached_by s site.Centre before) one refl st.centre;
      said = within-both (radios 0 [] (sends.Lost to ∷ [])) (lines_said s before) (lines_by o acts one) (act_lines o acts) (within-same (radios 0 [] (sends.Lost to ∷ [])) (lines_by o acts one) refl) st.said;
      follows = st.follows;
      starts = st.starts;
    }

-- the standby starts
pub stands-standby_starts : (s : Start) (before : List Deed) (acts : List Act) → Stands s before acts → Stands s (StandbyStarts ∷ before) (act.StandbyStarts ∷ acts)
stands-standby_starts s before acts st =
    let o = over s in
    let one = act.StandbyStarts in
    record {
      stamped = (tt, st.stamped);
      satellite = satellite-kept o acts one (satellite_by s before) refl st.satellite;
      terminals = λ number. terminal-kept o acts one number (terminal_by s number before) (reached_by s (site.Terminal number) before) refl (st.terminals number);
      started = st.started;
      named = st.named;
      standby = standby-next o acts one (standby_by s (StandbyStarts ∷ before)) (reached_by s site.Standby before) st.standby.reached refl;
      centre = near-other o acts (centre_by s before) (plans_over (journal_by s before)) (orders_over (journal_by s before)) (reached_by s site.Centre before) one refl st.centre;
      said = within-both [] (lines_said s before) (lines_by o acts one) (act_lines o acts) (within-none (lines_by o acts one)) st.said;
      follows = st.follows;
      starts = st.starts;
    }

-- the satellite hears a line of another
pub stands-satellite_hears : (s : Start) (before : List Deed) (acts : List Act) (line : Line) (text : List ℕ) → asked_of s.net text ≡ Some (asked_by_line line) → HasLine (lines_said s before) line
    → Stands s before acts → Stands s (Hears site.Satellite line text ∷ before) (act.Hears site.Satellite line ∷ acts)
stands-satellite_hears s before acts line text heard said st =
    let o = over s in
    let one = act.Hears site.Satellite line in
    let x = satellite_by s before in
    let lines : asked_lines x (asked_of s.net text) ≡ lines_by o acts one =
    ap (λ (a : Option Asked). asked_lines x a) heard ∙ ap (λ (y : Station). asked_lines y (Some (asked_by_line line))) st.satellite.is ∙ satellite-says o st.satellite.shown acts line in
    record {
      stamped = ((st.said line said, tt), st.stamped);
      satellite = record {
        shown = st.satellite.shown;
        is = ap (λ (y : Station). after s.net y (Some text)) st.satellite.is ∙ (satellite-heard s.net 0 o st.satellite.shown acts line text heard).state;
      };
      terminals = λ number. terminal-kept o acts one number (terminal_by s number before) (reached_by s (site.Terminal number) before) refl (st.terminals number);
      started = st.started;
      named = st.named;
      standby = standby-kept o acts one (standby_by s before) (reached_by s site.Standby before) refl st.standby;
      centre = near-other o acts (centre_by s before) (plans_over (journal_by s before)) (orders_over (journal_by s before)) (reached_by s site.Centre before) one refl st.centre;
      said = within-both (asked_lines x (asked_of s.net text)) (lines_said s before) (lines_by o acts one) (act_lines o acts) (within-same _ _ lines) st.said;
      follows = st.follows;
      starts = st.starts;
    }

-- nothing that is an act comes to the satellite
stands-satellite_idle : (s : Start) (before : List Deed) (acts : List Act) (text : List ℕ) → IsSatelliteAt (over s) acts (after s.net (satellite_by s before) (Some text))
    → asked_lines (satellite_by s before) (asked_of s.net text) ≡ [] → Stands s before acts → Stands s (Asks site.Satellite text ∷ before) acts
stands-satellite_idle s before acts text satellite silent st =
    let o = over s in
    record {
      stamped = st.stamped;
      satellite = satellite;
      terminals = λ number. terminal-idle o acts number (terminal_by s number before) (terminal_by s number before) (reached_by s (site.Terminal number) before) refl (st.terminals number);
      started = st.started;
      named = st.named;
      standby = standby-idle o acts (standby_by s before) (standby_by s before) (reached_by s site.Standby before) refl st.standby;
      centre = near-idle o acts (centre_by s before) (plans_over (journal_by s before)) (orders_over (journal_by s before)) (reached_by s site.Centre before) st.centre;
      said = within-both (asked_lines (satellite_by s before) (asked_of s.net text)) (lines_said s before) [] (act_lines o acts) (within-same _ _ silent) st.said;
      follows = st.follows;
      starts = st.starts;
    }

-- its next superframe begins
stands-ticks : (s : Start) (before : List Deed) (acts : List Act) (text : List ℕ) → asked_of s.net text ≡ Some asked.Tick → nat_lt (now_of (over s) (steps_by (over s) acts)) LAST_MARK ≡ true
    → Stands s before acts → Stands s (Asks site.Satellite text ∷ before) (act.Begins ∷ acts)
stands-ticks s before acts text asks below st =
    let o = over s in
    let one = act.Begins in
    let x = satellite_by s before in
    let now = now_of o (steps_by o acts) in
    let within : now < LAST_MARK = is-below now LAST_MARK below in
    let lines : asked_lines x (asked_of s.net text) ≡ lines_by o acts one =
    ap (λ (a : Option Asked). asked_lines x a) asks ∙ ap (λ (y : Station). asked_lines y (Some asked.Tick)) st.satellite.is ∙ satellite-begins o st.satellite.shown acts below in
    record {
      stamped = (within, st.stamped);
      satellite = record {
        shown = 0;
        is = ap (λ (y : Station). after s.net y (Some text)) st.satellite.is ∙ (satellite-ticks s.net 0 o st.satellite.shown acts text asks within).state;
      };
      terminals = λ number. terminal-kept o acts one number (terminal_by s number before) (reached_by s (site.Terminal number) before) refl (st.terminals number);
      started = st.started;
      named = st.named;
      standby = standby-kept o acts one (standby_by s before) (reached_by s site.Standby before) refl st.standby;
      centre = near-other o acts (centre_by s before) (plans_over (journal_by s before)) (orders_over (journal_by s before)) (reached_by s site.Centre before) one refl st.centre;
      said = within-both (asked_lines x (asked_of s.net text)) (lines_said s before) (lines_by o acts one) (act_lines o acts) (within-same _ _ lines) st.said;
      follows = st.follows;
      starts = st.starts;
    }

-- the satellite once it was asked what is no act
satellite-asked : (net : Net) (o : Opening) (acts : List Act) (x : Station) (text : List ℕ) (asked : Option Asked) → asked_of net text ≡ asked → IsSatelliteAt o acts x
    → ((shown : ℕ) → IsSatelliteAt o acts (after_asked net (satellite_at o shown acts) asked)) → IsSatelliteAt o acts (after net x (Some text))
satellite-asked net o acts x text asked asks at each =
    let next = each at.shown in
    record {
      shown = next.shown;
      is = ap (λ (a : Option Asked). after_asked net x a) asks ∙ ap (λ (z : Station). after_asked net z asked) at.is ∙ next.is;
    }

silent-asked : (x y : Station) (net : Net) (text : List ℕ) (asked : Option Asked) → asked_of net text ≡ asked → x ≡ y → asked_lines y asked ≡ [] → asked_lines x (asked_of net text) ≡ []
silent-asked x y net text asked asks is silent = ap (λ (a : Option Asked). asked_lines x a) asks ∙ ap (λ (z : Station). asked_lines z asked) is ∙ silent

shows-if : (o : Opening) (acts : List Act) (shown frames : ℕ) (test : Bool) → nat_lt shown frames ≡ test
    → IsSatelliteAt o acts (station.Satellite (if test then record { site = satellite_after o (steps_by o acts); shown = shown + 1 } else record { site = satellite_after o (steps_by o acts); shown = shown }))
shows-if o acts shown frames true is = record { shown = shown + 1; is = refl }
shows-if o acts shown frames false is = record { shown = shown; is = refl }

last-tick : (net : Net) (o : Opening) (acts : List Act) (shown : ℕ) → nat_lt (now_of o (steps_by o acts)) LAST_MARK ≡ false → IsSatelliteAt o acts (after_asked net (satellite_at o shown acts) (Some asked.Tick))
last-tick net o acts shown over_is =
    let was = satellite_after o (steps_by o acts) in
    record { shown = shown; is = ap (λ (x : SatelliteAt). station.Satellite x) (if-false (nat_lt was.mark.0 LAST_MARK) (record { site = ticked was; shown = 0 }) (record { site = was; shown = shown }) over_is) }

last-silent : (o : Opening) (acts : List Act) (shown : ℕ) → nat_lt (now_of o (steps_by o acts)) LAST_MARK ≡ false → asked_lines (satellite_at o shown acts) (Some asked.Tick) ≡ []
last-silent o acts shown over_is = if-false (nat_lt (now_of o (steps_by o acts)) LAST_MARK) (begun_lines (ticked (satellite_after o (steps_by o acts)))) [] over_is

stands-ticks_if : (s : Start) (before : List Deed) (acts : List Act) (text : List ℕ) (test : Bool) → asked_of s.net text ≡ Some asked.Tick → nat_lt (now_of (over s) (steps_by (over s) acts)) LAST_MARK ≡ test
    → Stands s before acts → Stands s (Asks site.Satellite text ∷ before) ((if test then act.Begins ∷ [] else []) ++ acts)
stands-ticks_if s before acts text true asks is st = stands-ticks s before acts text asks is st
stands-ticks_if s before acts text false asks is st =
    let o = over s in
    stands-satellite_idle s before acts text
    (satellite-asked s.net o acts (satellite_by s before) text (Some asked.Tick) asks st.satellite (λ shown. last-tick s.net o acts shown is))
    (silent-asked (satellite_by s before) (satellite_at o st.satellite.shown acts) s.net text (Some asked.Tick) asks st.satellite.is (last-silent o acts st.satellite.shown is)) st

-- a line of its own input
pub stands-satellite_asks : (s : Start) (before : List Deed) (acts : List Act) (text : List ℕ) (asked : Option Asked) → asked_of s.net text ≡ asked → MayAsk s before site.Satellite asked
    → Stands s before acts → Stands s (Asks site.Satellite text ∷ before) (if_ticked (present_in (satellite_by s before)) asked ++ acts)
stands-satellite_asks s before acts text None asks may st =
    let o = over s in
    stands-satellite_idle s before acts text
    (satellite-asked s.net o acts (satellite_by s before) text None asks st.satellite (λ shown. record { shown = shown; is = refl }))
    (silent-asked (satellite_by s before) (satellite_at o st.satellite.shown acts) s.net text None asks st.satellite.is refl) st
stands-satellite_asks s before acts text (Some asked.Tick) asks may st =
    let o = over s in
    let now : present_in (satellite_by s before) ≡ now_of o (steps_by o acts) = ap present_in st.satellite.is in
    subst (λ (n : ℕ). Stands s (Asks site.Satellite text ∷ before) ((if nat_lt n LAST_MARK then act.Begins ∷ [] else []) ++ acts)) (sym now)
    (stands-ticks_if s before acts text (nat_lt (now_of o (steps_by o acts)) LAST_MARK) asks refl st)
stands-satellite_asks s before acts text (Some asked.Frame) asks may st =
    let o = over s in
    stands-satellite_idle s before acts text
    (satellite-asked s.net o acts (satellite_by s before) text (Some asked.Frame) asks st.satellite (λ shown. shows-if o acts shown s.net.frames (nat_lt shown s.net.frames) refl))
    (silent-asked (satellite_by s before) (satellite_at o st.satellite.shown acts) s.net text (Some asked.Frame) asks st.satellite.is refl) st
stands-satellite_asks s before acts text (Some asked.Second) asks may st =
    let o = over s in
    stands-satellite_idle s before acts text
    (satellite-asked s.net o acts (satellite_by s before) text (Some asked.Second) asks st.satellite (λ shown. record { shown = shown; is = refl }))
    (silent-asked (satellite_by s before) (satellite_at o st.satellite.shown acts) s.net text (Some asked.Second) asks st.satellite.is refl) st
stands-satellite_asks s before acts text (Some asked.Remark) asks may st =
    let o = over s in
    stands-satellite_idle s before acts text
    (satellite-asked s.net o acts (satellite_by s before) text (Some asked.Remark) asks st.satellite (λ shown. record { shown = shown; is = refl }))
    (silent-asked (satellite_by s before) (satellite_at o st.satellite.shown acts) s.net text (Some asked.Remark) asks st.satellite.is refl) st
stands-satellite_asks s before acts text (Some (asked.FrameOf mark frame)) asks may st =
    let o = over s in
    stands-satellite_idle s before acts text
    (satellite-asked s.net o acts (satellite_by s before) text (Some (asked.FrameOf mark frame)) asks st.satellite (λ shown. record { shown = shown; is = refl }))
    (silent-asked (satellite_by s before) (satellite_at o st.satellite.shown acts) s.net text (Some (asked.FrameOf mark frame)) asks st.satellite.is refl) st
stands-satellite_asks s before acts text (Some (asked.Heard line)) asks may st = absurd may

-- a terminal does what is an act
stands-terminal_act : (s : Start) (before : List Deed) (acts : List Act) (to : TermNo) (line : Line) (text : List ℕ) → MayAct (over s) acts (act.Hears (site.Terminal to) line)
    → after s.net (terminal_by s to before) (Some text) ≡ terminal_at (over s) to (act.Hears (site.Terminal to) line ∷ acts)
    → AreWithin (asked_lines (terminal_by s to before) (asked_of s.net text)) (lines_by (over s) acts (act.Hears (site.Terminal to) line))
    → Stands s before acts → Stands s (Hears (site.Terminal to) line text ∷ before) (act.Hears (site.Terminal to) line ∷ acts)
stands-terminal_act s before acts to line text may made within st =
    let o = over s in
    let one = act.Hears (site.Terminal to) line in
    record {
      stamped = (may, st.stamped);
      satellite = satellite-kept o acts one (satellite_by s before) refl st.satellite;
      terminals = λ number. terminal-either o acts one to number (λ (n : TermNo). after s.net (terminal_by s n before) (Some text)) (terminal_by s number before) (reached_by s (site.Terminal number) before)
          (to.0 == number.0) refl refl made (st.terminals number);
      started = st.started;
      named = st.named;
      standby = standby-kept o acts one (standby_by s before) (reached_by s site.Standby before) refl st.standby;
      centre = near-other o acts (centre_by s before) (plans_over (journal_by s before)) (orders_over (journal_by s before)) (reached_by s site.Centre before) one refl st.centre;
      said = within-both (asked_lines (terminal_by s to before) (asked_of s.net text)) (lines_said s before) (lines_by o acts one) (act_lines o acts) within st.said;
      follows = st.follows;
      starts = st.starts;
    }

-- and what is none
stands-terminal_idle : (s : Start) (before : List Deed) (acts : List Act) (to : TermNo) (line : Line) (text : List ℕ)
    → after s.net (terminal_by s to before) (Some text) ≡ terminal_at (over s) to acts → asked_lines (terminal_by s to before) (asked_of s.net text) ≡ []
    → Stands s before acts → Stands s (Hears (site.Terminal to) line text ∷ before) acts
stands-terminal_idle s before acts to line text made silent st =
    let o = over s in
    record {
      stamped = st.stamped;
      satellite = st.satellite;
      terminals = λ number. terminal-either_idle o acts to number (λ (n : TermNo). after s.net (terminal_by s n before) (Some text)) (terminal_by s number before) (reached_by s (site.Terminal number) before)
          (to.0 == number.0) refl made (st.terminals number);
      started = st.started;
      named = st.named;
      standby = standby-idle o acts (standby_by s before) (standby_by s before) (reached_by s site.Standby before) refl st.standby;
      centre = near-idle o acts (centre_by s before) (plans_over (journal_by s before)) (orders_over (journal_by s before)) (reached_by s site.Centre before) st.centre;
      said = within-both (asked_lines (terminal_by s to before) (asked_of s.net text)) (lines_said s before) [] (act_lines o acts) (within-same _ _ silent) st.said;
      follows = st.follows;
      starts = st.starts;
    }

-- a line of its own input does what the same text of another does
terminal-asks_as : (s : Start) (before : List Deed) (acts : List Act) (to : TermNo) (line : Line) (text : List ℕ) → Stands s (Hears (site.Terminal to) line text ∷ before) acts
    → Stands s (Asks (site.Terminal to) text ∷ before) acts
terminal-asks_as s before acts to line text st = record {
  stamped = st.stamped;
  satellite = st.satellite;
  terminals = st.terminals;
  started = st.started;
  named = st.named;
  standby = st.standby;
  centre = st.centre;
  said = st.said;
  follows = st.follows;
  starts = st.starts;
}

-- a terminal hears a line: it takes it up
stands-terminal_takes : (s : Start) (before : List Deed) (acts : List Act) (to : TermNo) (line : Line) (text : List ℕ) → IsTakenUp (known (site.Terminal to) acts) line
    → asked_of s.net text ≡ Some (asked_by_line line) → HasLine (lines_said s before) line → MayHear s before (site.Terminal to) line → Stands s before acts
    → Stands s (Hears (site.Terminal to) line text ∷ before) (act.Hears (site.Terminal to) line ∷ acts)
stands-terminal_takes s before acts to line text takes heard said may st =
    let o = over s in
    let one = act.Hears (site.Terminal to) line in
    let x = terminal_by s to before in
    let at = st.terminals to in
    let knows = terminal-known o acts to x at.is in
    stands-terminal_act s before acts to line text
    (st.said line said, (st.named to may.0, st.started to ∙ may.0, goes-on s before acts (site.Terminal to) line knows at.reached takes may.1))
    (ap (λ (y : Station). after s.net y (Some text)) at.is ∙ (terminal-heard s.net 0 o to acts line text heard takes).state)
    (within-same _ _ (ap (λ (a : Option Asked). asked_lines x a) heard ∙ ap (λ (y : Station). asked_lines y (Some (asked_by_line line))) at.is ∙ terminal-says o to acts line takes)) st

-- or passes it over
stands-terminal_passes : (s : Start) (before : List Deed) (acts : List Act) (to : TermNo) (stamp : ℕ) (bytes text : List ℕ) → known (site.Terminal to) acts ≡ 0
    → asked_of s.net text ≡ Some (asked_by_line (Radio stamp bytes)) → Stands s before acts → Stands s (Hears (site.Terminal to) (Radio stamp bytes) text ∷ before) acts
stands-terminal_passes s before acts to stamp bytes text none heard st =
    let o = over s in
    let x = terminal_by s to before in
    let at = st.terminals to in
    stands-terminal_idle s before acts to (Radio stamp bytes) text
    (ap (λ (y : Station). after s.net y (Some text)) at.is ∙ (terminal-passed_over s.net 0 o to acts stamp bytes text heard none).state)
    (ap (λ (a : Option Asked). asked_lines x a) heard ∙ ap (λ (y : Station). asked_lines y (Some (asked_by_line (Radio stamp bytes)))) at.is ∙ terminal-silent o to acts stamp bytes none) st

pub stands-terminal_hears : (s : Start) (before : List Deed) (acts : List Act) (to : TermNo) (k : ℕ) (line : Line) (text : List ℕ) → present_in (terminal_by s to before) ≡ k
    → asked_of s.net text ≡ Some (asked_by_line line) → HasLine (lines_said s before) line → MayHear s before (site.Terminal to) line → Stands s before acts
    → Stands s (Hears (site.Terminal to) line text ∷ before) (if_taken k (site.Terminal to) line ++ acts)
stands-terminal_hears s before acts to k (Begun stamp) text is heard said may st =
    stands-terminal_takes s before acts to (Begun stamp) text (begun-past (over s) acts stamp (st.said (Begun stamp) said)) heard said may st
stands-terminal_hears s before acts to zero (Radio stamp bytes) text is heard said may st =
    stands-terminal_passes s before acts to stamp bytes text (terminal-known (over s) acts to (terminal_by s to before) (st.terminals to).is ∙ is) heard st
stands-terminal_hears s before acts to (suc k) (Radio stamp bytes) text is heard said may st =
    let knows = terminal-known (over s) acts to (terminal_by s to before) (st.terminals to).is in
    stands-terminal_takes s before acts to (Radio stamp bytes) text (omega (arith, knows, is)) heard said may st

-- a line of its own input
stands-terminal_quiet : (s : Start) (before : List Deed) (acts : List Act) (to : TermNo) (text : List ℕ) (asked : Option Asked) → asked_of s.net text ≡ asked
    → after_asked s.net (terminal_at (over s) to acts) asked ≡ terminal_at (over s) to acts → asked_lines (terminal_at (over s) to acts) asked ≡ [] → Stands s before acts
    → Stands s (Asks (site.Terminal to) text ∷ before) acts
stands-terminal_quiet s before acts to text asked asks same silent st =
    let x = terminal_by s to before in
    let at = st.terminals to in
    terminal-asks_as s before acts to (Begun 0) text
    (stands-terminal_idle s before acts to (Begun 0) text
    (ap (λ (a : Option Asked). after_asked s.net x a) asks ∙ ap (λ (y : Station). after_asked s.net y asked) at.is ∙ same)
    (silent-asked x (terminal_at (over s) to acts) s.net text asked asks at.is silent) st)

pub stands-terminal_asks : (s : Start) (before : List Deed) (acts : List Act) (to : TermNo) (text : List ℕ) (asked : Option Asked) → asked_of s.net text ≡ asked → MayAsk s before (site.Terminal to) asked
    → Stands s before acts → Stands s (Asks (site.Terminal to) text ∷ before) (if_framed to asked ++ acts)
stands-terminal_asks s before acts to text None asks may st = stands-terminal_quiet s before acts to text None asks refl refl st
stands-terminal_asks s before acts to text (Some asked.Tick) asks may st = stands-terminal_quiet s before acts to text (Some asked.Tick) asks refl refl st
stands-terminal_asks s before acts to text (Some asked.Frame) asks may st = stands-terminal_quiet s before acts to text (Some asked.Frame) asks refl refl st
stands-terminal_asks s before acts to text (Some asked.Second) asks may st = stands-terminal_quiet s before acts to text (Some asked.Second) asks refl refl st
stands-terminal_asks s before acts to text (Some asked.Remark) asks may st = stands-terminal_quiet s before acts to text (Some asked.Remark) asks refl refl st
stands-terminal_asks s before acts to text (Some (asked.FrameOf mark frame)) asks may st =
    let o = over s in
    let x = terminal_by s to before in
    let at = st.terminals to in
    let line = Begun mark.0 in
    let past = begun-past o acts mark.0 (st.said line may.0) in
    let knows = terminal-known o acts to x at.is in
    terminal-asks_as s before (act.Hears (site.Terminal to) line ∷ acts) to line text
    (stands-terminal_act s before acts to line text
    (st.said line may.0, (st.named to may.1.0, st.started to ∙ may.1.0, goes-on s before acts (site.Terminal to) line knows at.reached past may.1.1))
    (ap (λ (y : Station). after s.net y (Some text)) at.is ∙ terminal-modem s.net o to acts mark.0 frame text asks past)
    (within-same _ _ (silent-asked x (terminal_at o to acts) s.net text (Some (asked.FrameOf mark frame)) asks at.is refl)) st)
stands-terminal_asks s before acts to text (Some (asked.Heard line)) asks may st = absurd may

-- the standby does what is an act
stands-standby_act : (s : Start) (before : List Deed) (acts : List Act) (one : Act) (line : Line) (text : List ℕ) → MayAct (over s) acts one → actor_of one ≡ site.Standby
    → ((number : TermNo) → has_started number (one ∷ acts) ≡ has_started number acts) → after s.net (standby_by s before) (Some text) ≡ standby_at (over s) (one ∷ acts)
    → AreWithin (asked_lines (standby_by s before) (asked_of s.net text)) (lines_by (over s) acts one) → Stands s before acts → Stands s (Hears site.Standby line text ∷ before) (one ∷ acts)
stands-standby_act s before acts one line text may who same made within st =
    let o = over s in
    record {
      stamped = (may, st.stamped);
      satellite = satellite-kept o acts one (satellite_by s before) (ap (λ (place : Site). is_same_site place site.Satellite) who) st.satellite;
      terminals = λ number. terminal-kept o acts one number (terminal_by s number before) (reached_by s (site.Terminal number) before)
          (ap (λ (place : Site). is_same_site place (site.Terminal number)) who) (st.terminals number);
      started = λ number. same number ∙ st.started number;
      named = st.named;
      standby = standby-next o acts one (after s.net (standby_by s before) (Some text)) (reached_by s site.Standby before) st.standby.reached made;
      centre = near-other o acts (centre_by s before) (plans_over (journal_by s before)) (orders_over (journal_by s before)) (reached_by s site.Centre before) one
          (ap (λ (place : Site). is_same_site place site.Centre) who) st.centre;
      said = within-both (asked_lines (standby_by s before) (asked_of s.net text)) (lines_said s before) (lines_by o acts one) (act_lines o acts) within st.said;
      follows = st.follows;
      starts = st.starts;
    }

stands-standby_idle : (s : Start) (before : List Deed) (acts : List Act) (line : Line) (text : List ℕ) → after s.net (standby_by s before) (Some text) ≡ standby_at (over s) acts
    → asked_lines (standby_by s before) (asked_of s.net text) ≡ [] → Stands s before acts → Stands s (Hears site.Standby line text ∷ before) acts
stands-standby_idle s before acts line text made silent st =
    let o = over s in
    record {
      stamped = st.stamped;
      satellite = st.satellite;
      terminals = λ number. terminal-idle o acts number (terminal_by s number before) (terminal_by s number before) (reached_by s (site.Terminal number) before) refl (st.terminals number);
      started = st.started;
      named = st.named;
      standby = standby-idle o acts (standby_by s before) (after s.net (standby_by s before) (Some text)) (reached_by s site.Standby before) (made ∙ sym st.standby.is) st.standby;
      centre = near-idle o acts (centre_by s before) (plans_over (journal_by s before)) (orders_over (journal_by s before)) (reached_by s site.Centre before) st.centre;
      said = within-both (asked_lines (standby_by s before) (asked_of s.net text)) (lines_said s before) [] (act_lines o acts) (within-same _ _ silent) st.said;
      follows = st.follows;
      starts = st.starts;
    }

standby-asks_as : (s : Start) (before : List Deed) (acts : List Act) (line : Line) (text : List ℕ) → Stands s (Hears site.Standby line text ∷ before) acts → Stands s (Asks site.Standby text ∷ before) acts
standby-asks_as s before acts line text st = record {
  stamped = st.stamped;
  satellite = st.satellite;
  terminals = st.terminals;
  started = st.started;
  named = st.named;
  standby = st.standby;
  centre = st.centre;
  said = st.said;
  follows = st.follows;
  starts = st.starts;
}

-- the standby says nothing to a line
standby-quiet : (x : Station) (o : Opening) (acts : List Act) (net : Net) (text : List ℕ) (line : Line) → x ≡ standby_at o acts → asked_of net text ≡ Some (asked_by_line line) → asked_lines x (asked_of net text) ≡ []
standby-quiet x o acts net text (Begun stamp) is heard = silent-asked x (standby_at o acts) net text (Some (asked_by_line (Begun stamp))) heard is refl
standby-quiet x o acts net text (Radio stamp bytes) is heard = silent-asked x (standby_at o acts) net text (Some (asked_by_line (Radio stamp bytes))) heard is refl

stands-standby_takes : (s : Start) (before : List Deed) (acts : List Act) (line : Line) (text : List ℕ) → IsTakenUp (known site.Standby acts) line
    → asked_of s.net text ≡ Some (asked_by_line line) → HasLine (lines_said s before) line → MayHear s before site.Standby line → Stands s before acts
    → Stands s (Hears site.Standby line text ∷ before) (act.Hears site.Standby line ∷ acts)
stands-standby_takes s before acts line text takes heard said may st =
    let o = over s in
    let x = standby_by s before in
    let knows = standby-known o acts x st.standby.is in
    stands-standby_act s before acts (act.Hears site.Standby line) line text
    (st.said line said, goes-on s before acts site.Standby line knows st.standby.reached takes may) refl (λ number. refl)
    (ap (λ (y : Station). after s.net y (Some text)) st.standby.is ∙ (standby-heard s.net 0 o acts line text heard takes).state)
    (λ one has. absurd (subst (λ (list : List Line). HasLine list one) (standby-quiet x o acts s.net text line st.standby.is heard) has)) st

pub stands-standby_hears : (s : Start) (before : List Deed) (acts : List Act) (k : ℕ) (line : Line) (text : List ℕ) → present_in (standby_by s before) ≡ k
    → asked_of s.net text ≡ Some (asked_by_line line) → HasLine (lines_said s before) line → MayHear s before site.Standby line → Stands s before acts
    → Stands s (Hears site.Standby line text ∷ before) (if_taken k site.Standby line ++ acts)
stands-standby_hears s before acts k (Begun stamp) text is heard said may st =
    stands-standby_takes s before acts (Begun stamp) text (begun-past (over s) acts stamp (st.said (Begun stamp) said)) heard said may st
stands-standby_hears s before acts zero (Radio stamp bytes) text is heard said may st =
    let o = over s in
    let x = standby_by s before in
    let none = standby-known o acts x st.standby.is ∙ is in
    stands-standby_idle s before acts (Radio stamp bytes) text
    (ap (λ (y : Station). after s.net y (Some text)) st.standby.is ∙ (standby-passed_over s.net 0 o acts stamp bytes text heard none).state)
    (standby-quiet x o acts s.net text (Radio stamp bytes) st.standby.is heard) st
stands-standby_hears s before acts (suc k) (Radio stamp bytes) text is heard said may st =
    let knows = standby-known (over s) acts (standby_by s before) st.standby.is in
    stands-standby_takes s before acts (Radio stamp bytes) text (omega (arith, knows, is)) heard said may st

stands-standby_quiet : (s : Start) (before : List Deed) (acts : List Act) (text : List ℕ) (asked : Option Asked) → asked_of s.net text ≡ asked
    → after_asked s.net (standby_at (over s) acts) asked ≡ standby_at (over s) acts → asked_lines (standby_at (over s) acts) asked ≡ [] → Stands s before acts
    → Stands s (Asks site.Standby text ∷ before) acts
stands-standby_quiet s before acts text asked asks same silent st =
    let x = standby_by s before in
    standby-asks_as s before acts (Begun 0) text
    (stands-standby_idle s before acts (Begun 0) text
    (ap (λ (a : Option Asked). after_asked s.net x a) asks ∙ ap (λ (y : Station). after_asked s.net y asked) st.standby.is ∙ same)
    (silent-asked x (standby_at (over s) acts) s.net text asked asks st.standby.is silent) st)

pub stands-standby_asks : (s : Start) (before : List Deed) (acts : List Act) (text : List ℕ) (asked : Option Asked) → asked_of s.net text ≡ asked → MayAsk s before site.Standby asked
    → Stands s before acts → Stands s (Asks site.Standby text ∷ before) (if_second asked ++ acts)
stands-standby_asks s before acts text None asks may st = stands-standby_quiet s before acts text None asks refl refl st
stands-standby_asks s before acts text (Some asked.Tick) asks may st = stands-standby_quiet s before acts text (Some asked.Tick) asks refl refl st
stands-standby_asks s before acts text (Some asked.Frame) asks may st = stands-standby_quiet s before acts text (Some asked.Frame) asks refl refl st
stands-standby_asks s before acts text (Some asked.Remark) asks may st = stands-standby_quiet s before acts text (Some asked.Remark) asks refl refl st
stands-standby_asks s before acts text (Some (asked.FrameOf mark frame)) asks may st = stands-standby_quiet s before acts text (Some (asked.FrameOf mark frame)) asks refl refl st
stands-standby_asks s before acts text (Some asked.Second) asks may st =
    let o = over s in
    let x = standby_by s before in
    standby-asks_as s before (act.Seconds ∷ acts) (Begun 0) text
    (stands-standby_act s before acts act.Seconds (Begun 0) text tt refl (λ number. refl)
    (ap (λ (y : Station). after s.net y (Some text)) st.standby.is ∙ (standby-seconds s.net 0 o acts text asks).state)
    (within-same _ _ (ap (λ (a : Option Asked). asked_lines x a) asks ∙ ap (λ (y : Station). asked_lines y (Some asked.Second)) st.standby.is ∙ standby-says o acts)) st)
stands-standby_asks s before acts text (Some (asked.Heard line)) asks may st = absurd may

-- What the process of the centre does, and all processes after any deeds.
use Rattle.std.proofs.Common.{◌≡◌, ℕ, ◌<◌, max, if◌then◌else◌, Bool, true, false, List, [], ◌∷◌, ◌++◌, Option, Some, None, refl, sym, ap, ◌∙◌, subst, arith}
use Rattle.std.specs.Prelude.{IsSome}
use Rattle.std.proofs.Math.Nat.{le-max_right, max-le}
use Rattle.bt_frame.specs.declared.numbers.EditionNo.{EditionNo}
use Rattle.bt_frame.specs.declared.numbers.TermNo.{TermNo}
use Rattle.bt_net.specs.Network.{IsSound}
use Rattle.bt_net.specs.Terminals.{IsTerminal}
use Rattle.bt_demand.specs.declared.plan.Plan.{Plan}
use Rattle.bt_demand.specs.Flyable.{IsFlyable}
use Rattle.bt_air.specs.declared.order.Order.{Order}
use Rattle.bt_machines.specs.Plans.{StartsEmpty, newest_of, plan_of}
use Rattle.bt_journal.specs.declared.call.Change.{Change}
use Rattle.bt_journal.specs.declared.call.Change.TheVariants as change
use Rattle.bt_journal.specs.declared.call.Edit.{Edit}
use Rattle.bt_history.specs.Causes.{Follows}
use Rattle.bt_history.specs.Changes.{newest}
use Rattle.bt_history.proofs.Flying.{install_flies}
use Rattle.bt_history.proofs.Redone.{FollowFrom-at}
use Rattle.bt_site.specs.Event.{Opening, Ordered, Turn, RestartCentre}
use Rattle.bt_sites.specs.Stamps.{Act, AreStamped, Begun, HasLine, Line, MayAct, Radio, has_started, known, lines as act_lines, lines_by}
use Rattle.bt_sites.specs.Stamps as act
use Rattle.bt_sites.specs.Step as site
use Rattle.bt_script.specs.Heard.{bus_line_of}
use Rattle.bt_script.specs.declared.heard.BusLine.{BusLine}
use Rattle.bt_apart.specs.Back.{back_lasting}
use Rattle.bt_apart.specs.Apart.{ApartAir, apart_at_start, going_apart, having_apart, says_apart}
use Rattle.bt_station.specs.Asked.{asked_of}
use Rattle.bt_station.specs.Acts.{IsTakenUp, heard_as}
use Rattle.bt_apart_laws.specs.Acts.{BeginsSome, IsCentreAt, known_in, takes_up}
use Rattle.bt_apart_laws.specs.Premises.{AreProcesses, GoesOnBy, IsUnderWay, MayDo, MayHear}
use Rattle.bt_apart_laws.specs.Processes.{Asks, Deed, Goes, Hears, Learns, Makes, Opens, Places, Restarts, StandbyStarts, Start, Starts, Turns, centre_by, having_heard, is_order, is_started, journal_by, lines_said, present_in, radios, reached_by, satellite_by, standby_by, terminal_by, with_one}
use Rattle.bt_apart_laws.proofs.Acts.{known-some, order-lines, passes-over, turn-lines}
use Rattle.bt_apart_laws.proofs.Journals.{newest-first, newest-over, orders-edit, orders-install, orders-order, orders_over, plans-edit, plans-install, plans-order, plans_over, starts-more}
use Rattle.bt_apart_laws.proofs.May.{may-install, may-order, may-restart, may-turn}
use Rattle.bt_apart_laws.proofs.Near.{IsNear, has-all, near-goes, near-heard, near-idle, near-installed, near-learns, near-opens, near-placed, near-restarts, near-turn, newest-own, with_plans}
use Rattle.bt_apart_laws.proofs.Processes.{Stands, acts_of, goes-on, installs_by, over, stands-satellite_asks, stands-satellite_hears, stands-standby_asks, stands-standby_hears, stands-standby_starts, stands-start, stands-starts, stands-terminal_asks, stands-terminal_hears}
use Rattle.bt_apart_laws.proofs.Stations.{IsSatelliteAt, IsStandbyAt, IsTerminalAt, satellite-kept, standby-idle, standby-kept, standby-lower, terminal-idle, terminal-kept, terminal-lower}
use Rattle.bt_apart_laws.proofs.Within.{AreWithin, begun-past, order-within, turn-within, within-both, within-none}

-- what its journal tells
abbrev all_by : Start → List Deed → List Plan
all_by s before = plans_over (journal_by s before)

abbrev placed_by : Start → List Deed → List Order
placed_by s before = orders_over (journal_by s before)

-- by whichever names its plans and orders go
near-as : (o : Opening) (acts : List Act) (air : ApartAir) (all more : List Plan) (placed others : List Order) (reach : ℕ) → all ≡ more → placed ≡ others → IsNear o acts air all placed reach
    → IsNear o acts air more others reach
near-as o acts air all more placed others reach plans orders n =
    subst (λ (list : List Order). IsNear o acts air more list reach) orders (subst (λ (list : List Plan). IsNear o acts air list placed reach) plans n)

-- it has its turn
stands-turns : (s : Start) (before : List Deed) (acts : List Act) (target : EditionNo) → (centre_by s before).marked ≡ true → IsSome (plan_of (centre_by s before).plans target) → Stands s before acts
    → Stands s (Turns target ∷ before) (act.Turns target ∷ acts)
stands-turns s before acts target marked some st =
    let o = over s in
    let one = act.Turns target in
    let air = centre_by s before in
    let all = all_by s before in
    let n = st.centre in
    record {
      stamped = (may-turn o acts (with_plans air all) target n.at (has-all air.plans all target n.agree some), st.stamped);
      satellite = satellite-kept o acts one (satellite_by s before) refl st.satellite;
      terminals = λ number. terminal-kept o acts one number (terminal_by s number before) (reached_by s (site.Terminal number) before) refl (st.terminals number);
      started = st.started;
      named = st.named;
      standby = standby-kept o acts one (standby_by s before) (reached_by s site.Standby before) refl st.standby;
      centre = near-turn o acts air all (placed_by s before) (reached_by s site.Centre before) target marked some n;
      said = within-both (radios air.mark.0 air.plans (says_apart air (Turn target))) (lines_said s before) (lines_by o acts one) (act_lines o acts)
          (λ line has. subst (λ (list : List Line). HasLine list line) (turn-lines o acts (with_plans air all) target n.at marked) (turn-within air all target n.agree n.planned line has)) st.said;
      follows = st.follows;
      starts = st.starts;
    }

-- it places the order that it wants
stands-places : (s : Start) (before : List Deed) (acts : List Act) (order : Order) → (centre_by s before).marked ≡ true → (centre_by s before).centre.wanted ≡ Some order
    → Follows s.net (journal_by s before ++ change.Order order ∷ []) → Stands s before acts → Stands s (Places order ∷ before) (act.Places ∷ acts)
stands-places s before acts order marked wants follows st =
    let o = over s in
    let one = act.Places in
    let air = centre_by s before in
    let all = all_by s before in
    let n = st.centre in
    record {
      stamped = (may-order o acts (with_plans air all) n.at (subst (λ (w : Option Order). IsSome w) (sym wants) refl), st.stamped);
      satellite = satellite-kept o acts one (satellite_by s before) refl st.satellite;
      terminals = λ number. terminal-kept o acts one number (terminal_by s number before) (reached_by s (site.Terminal number) before) refl (st.terminals number);
      started = st.started;
      named = st.named;
      standby = standby-kept o acts one (standby_by s before) (reached_by s site.Standby before) refl st.standby;
      centre = near-as o (one ∷ acts) (having_apart air Ordered) all (plans_over (journal_by s before ++ change.Order order ∷ [])) (order ∷ placed_by s before)
          (orders_over (journal_by s before ++ change.Order order ∷ [])) (reached_by s site.Centre (Places order ∷ before)) (plans-order (journal_by s before) order) (orders-order (journal_by s before) order)
          (near-placed o acts air all (placed_by s before) (reached_by s site.Centre before) order marked wants n);
      said = within-both (radios air.mark.0 air.plans (says_apart air Ordered)) (lines_said s before) (lines_by o acts one) (act_lines o acts)
          (λ line has. subst (λ (list : List Line). HasLine list line) (order-lines o acts (with_plans air all) n.at marked) (order-within air all n.agree n.next line has)) st.said;
      follows = follows;
      starts = subst (λ (list : List Plan). StartsEmpty list) (plans-order (journal_by s before) order) st.starts;
    }

-- it learns of the newest plan
stands-learns : (s : Start) (before : List Deed) (acts : List Act) (plan : Plan) → plan ≡ newest (journal_by s before) → Stands s before acts → Stands s (Learns plan ∷ before) acts
stands-learns s before acts plan is st =
    let o = over s in
    let journal = journal_by s before in
    let first = newest-first journal in
    let own = newest-own (newest journal) first.rest (subst (λ (list : List Plan). StartsEmpty list) first.is st.starts) in
    let found : plan_of (plans_over journal) plan.edition ≡ Some plan =
    subst (λ (p : Plan). plan_of (plans_over journal) p.edition ≡ Some p) (sym is) (subst (λ (list : List Plan). plan_of list (newest journal).edition ≡ Some (newest journal)) (sym first.is) own) in
    record {
      stamped = st.stamped;
      satellite = st.satellite;
      terminals = λ number. terminal-idle o acts number (terminal_by s number before) (terminal_by s number before) (reached_by s (site.Terminal number) before) refl (st.terminals number);
      started = st.started;
      named = st.named;
      standby = standby-idle o acts (standby_by s before) (standby_by s before) (reached_by s site.Standby before) refl st.standby;
      centre = near-learns o acts (centre_by s before) (all_by s before) (placed_by s before) (reached_by s site.Centre before) plan found st.centre;
      said = st.said;
      follows = st.follows;
      starts = st.starts;
    }

-- it goes back or ahead
stands-goes : (s : Start) (before : List Deed) (acts : List Act) (back : Option EditionNo) → Stands s before acts → Stands s (Goes back ∷ before) acts
stands-goes s before acts back st =
    let o = over s in
    record {
      stamped = st.stamped;
      satellite = st.satellite;
      terminals = λ number. terminal-idle o acts number (terminal_by s number before) (terminal_by s number before) (reached_by s (site.Terminal number) before) refl (st.terminals number);
      started = st.started;
      named = st.named;
      standby = standby-idle o acts (standby_by s before) (standby_by s before) (reached_by s site.Standby before) refl st.standby;
      centre = near-idle o acts (going_apart (centre_by s before) back) (all_by s before) (placed_by s before) (reached_by s site.Centre before)
          (near-goes o acts (centre_by s before) (all_by s before) (placed_by s before) (reached_by s site.Centre before) back st.centre);
      said = st.said;
      follows = st.follows;
      starts = st.starts;
    }

-- it hears a line, and takes it up
begins-some : (o : Opening) (acts : List Act) (line : Line) → HasLine (act_lines o acts) line → BeginsSome line
begins-some o acts (Begun stamp) has = begun-past o acts stamp has
begins-some o acts (Radio stamp bytes) has = tt

taken-up : (o : Opening) (acts : List Act) (air : ApartAir) (all : List Plan) (line : Line) → IsCentreAt o acts (with_plans air all) → takes_up air line ≡ true → BeginsSome line
    → IsTakenUp (known site.Centre acts) line
taken-up o acts air all (Begun stamp) at takes some = some
taken-up o acts air all (Radio stamp bytes) at takes some = known-some o acts (with_plans air all) at takes

stands-centre_takes : (s : Start) (before : List Deed) (acts : List Act) (line : Line) (text : List ℕ) → takes_up (centre_by s before) line ≡ true → bus_line_of text ≡ Some (heard_as line)
    → HasLine (lines_said s before) line → GoesOnBy s before site.Centre line → Stands s before acts → Stands s (Hears site.Centre line text ∷ before) (act.Hears site.Centre line ∷ acts)
stands-centre_takes s before acts line text takes heard said goes st =
    let o = over s in
    let one = act.Hears site.Centre line in
    let air = centre_by s before in
    let all = all_by s before in
    let n = st.centre in
    let some = begins-some o acts line (st.said line said) in
    record {
      stamped = ((st.said line said, goes-on s before acts site.Centre line n.at.knows n.reached (taken-up o acts air all line n.at takes some) goes), st.stamped);
      satellite = satellite-kept o acts one (satellite_by s before) refl st.satellite;
      terminals = λ number. terminal-kept o acts one number (terminal_by s number before) (reached_by s (site.Terminal number) before) refl (st.terminals number);
      started = st.started;
      named = st.named;
      standby = standby-kept o acts one (standby_by s before) (reached_by s site.Standby before) refl st.standby;
      centre = subst (λ (a : ApartAir). IsNear o (one ∷ acts) a all (placed_by s before) (max (reached_by s site.Centre before) (known_in a))) (sym (ap (λ (b : Option BusLine). having_heard air b) heard))
          (near-heard o acts air all (placed_by s before) (reached_by s site.Centre before) line takes some n);
      said = within-both [] (lines_said s before) (lines_by o acts one) (act_lines o acts) (within-none (lines_by o acts one)) st.said;
      follows = st.follows;
      starts = st.starts;
    }

-- or passes it over
stands-centre_passes : (s : Start) (before : List Deed) (acts : List Act) (line : Line) (text : List ℕ) → takes_up (centre_by s before) line ≡ false → bus_line_of text ≡ Some (heard_as line)
    → Stands s before acts → Stands s (Hears site.Centre line text ∷ before) acts
stands-centre_passes s before acts line text takes heard st =
    let o = over s in
    let air = centre_by s before in
    let all = all_by s before in
    record {
      stamped = st.stamped;
      satellite = st.satellite;
      terminals = λ number. terminal-idle o acts number (terminal_by s number before) (terminal_by s number before) (reached_by s (site.Terminal number) before) refl (st.terminals number);
      started = st.started;
      named = st.named;
      standby = standby-idle o acts (standby_by s before) (standby_by s before) (reached_by s site.Standby before) refl st.standby;
      centre = subst (λ (a : ApartAir). IsNear o acts a all (placed_by s before) (max (reached_by s site.Centre before) (known_in a)))
          (sym (ap (λ (b : Option BusLine). having_heard air b) heard ∙ passes-over air line takes)) (near-idle o acts air all (placed_by s before) (reached_by s site.Centre before) st.centre);
      said = st.said;
      follows = st.follows;
      starts = st.starts;
    }

stands-centre_hears : (s : Start) (before : List Deed) (acts : List Act) (line : Line) (text : List ℕ) (test : Bool) → takes_up (centre_by s before) line ≡ test → bus_line_of text ≡ Some (heard_as line)
    → HasLine (lines_said s before) line → MayHear s before site.Centre line → Stands s before acts
    → Stands s (Hears site.Centre line text ∷ before) ((if test then act.Hears site.Centre line ∷ [] else []) ++ acts)
stands-centre_hears s before acts line text true takes heard said may st = stands-centre_takes s before acts line text takes heard said (may takes) st
stands-centre_hears s before acts line text false takes heard said may st = stands-centre_passes s before acts line text takes heard st

-- it has no input that makes an act but what it does
stands-centre_asks : (s : Start) (before : List Deed) (acts : List Act) (text : List ℕ) → Stands s before acts → Stands s (Asks site.Centre text ∷ before) acts
stands-centre_asks s before acts text st =
    let o = over s in
    record {
      stamped = st.stamped;
      satellite = st.satellite;
      terminals = λ number. terminal-idle o acts number (terminal_by s number before) (terminal_by s number before) (reached_by s (site.Terminal number) before) refl (st.terminals number);
      started = st.started;
      named = st.named;
      standby = standby-idle o acts (standby_by s before) (standby_by s before) (reached_by s site.Standby before) refl st.standby;
      centre = near-idle o acts (centre_by s before) (all_by s before) (placed_by s before) (reached_by s site.Centre before) st.centre;
      said = st.said;
      follows = st.follows;
      starts = st.starts;
    }

-- a plan that is made may be installed
newer-over : (s : Start) (before : List Deed) (plan : Plan) → Follows s.net (journal_by s before ++ change.Install plan ∷ []) → (newest_of (all_by s before)).0 < plan.edition.0
newer-over s before plan follows =
    let good = (FollowFrom-at s.net [] (journal_by s before) (change.Install plan) [] follows).1 in
    subst (λ (edition : EditionNo). edition.0 < plan.edition.0) (sym (newest-over (journal_by s before))) good.0

flies-over : (s : Start) (before : List Deed) (plan : Plan) → IsSound s.net → Follows s.net (journal_by s before) → Follows s.net (journal_by s before ++ change.Install plan ∷ []) → IsFlyable s.net plan
flies-over s before plan sound follows more =
    install_flies s.net (journal_by s before) plan sound follows (FollowFrom-at s.net [] (journal_by s before) (change.Install plan) [] more).1

may-installed : (s : Start) (before : List Deed) (acts : List Act) (plan : Plan) → IsSound s.net → Follows s.net (journal_by s before ++ change.Install plan ∷ []) → Stands s before acts
    → MayAct (over s) acts (act.Installs plan)
may-installed s before acts plan sound follows st =
    let air = with_plans (centre_by s before) (all_by s before) in
    may-install (over s) acts air plan st.centre.at (newer-over s before plan follows)
    (subst (λ net. IsFlyable net plan) (sym st.centre.at.net) (flies-over s before plan sound st.follows follows))

starts-installed : (s : Start) (before : List Deed) (plan : Plan) → StartsEmpty (all_by s before) → Follows s.net (journal_by s before ++ change.Install plan ∷ [])
    → StartsEmpty (plans_over (journal_by s before ++ change.Install plan ∷ []))
starts-installed s before plan starts follows =
    subst (λ (list : List Plan). StartsEmpty list) (plans-install (journal_by s before) plan) (starts-more (all_by s before) plan starts (newer-over s before plan follows))

-- its book makes a change
stands-edits : (s : Start) (before : List Deed) (acts : List Act) (edit : Edit) → Follows s.net (journal_by s before ++ change.Edit edit ∷ []) → Stands s before acts
    → Stands s (Makes (change.Edit edit) ∷ before) acts
stands-edits s before acts edit follows st =
    let o = over s in
    let journal = journal_by s before in
    record {
      stamped = st.stamped;
      satellite = st.satellite;
      terminals = λ number. terminal-idle o acts number (terminal_by s number before) (terminal_by s number before) (reached_by s (site.Terminal number) before) refl (st.terminals number);
      started = st.started;
      named = st.named;
      standby = standby-idle o acts (standby_by s before) (standby_by s before) (reached_by s site.Standby before) refl st.standby;
      centre = near-as o acts (centre_by s before) (all_by s before) (plans_over (journal ++ change.Edit edit ∷ [])) (placed_by s before) (orders_over (journal ++ change.Edit edit ∷ []))
          (reached_by s site.Centre (Makes (change.Edit edit) ∷ before)) (plans-edit journal edit) (orders-edit journal edit)
          (near-idle o acts (centre_by s before) (all_by s before) (placed_by s before) (reached_by s site.Centre before) st.centre);
      said = st.said;
      follows = follows;
      starts = subst (λ (list : List Plan). StartsEmpty list) (plans-edit journal edit) st.starts;
    }

stands-installs : (s : Start) (before : List Deed) (acts : List Act) (plan : Plan) → IsSound s.net → Follows s.net (journal_by s before ++ change.Install plan ∷ []) → Stands s before acts
    → Stands s (Makes (change.Install plan) ∷ before) (act.Installs plan ∷ acts)
stands-installs s before acts plan sound follows st =
    let o = over s in
    let one = act.Installs plan in
    let journal = journal_by s before in
    record {
      stamped = (may-installed s before acts plan sound follows st, st.stamped);
      satellite = satellite-kept o acts one (satellite_by s before) refl st.satellite;
      terminals = λ number. terminal-kept o acts one number (terminal_by s number before) (reached_by s (site.Terminal number) before) refl (st.terminals number);
      started = st.started;
      named = st.named;
      standby = standby-kept o acts one (standby_by s before) (reached_by s site.Standby before) refl st.standby;
      centre = near-as o (one ∷ acts) (centre_by s before) (plan ∷ all_by s before) (plans_over (journal ++ change.Install plan ∷ [])) (placed_by s before) (orders_over (journal ++ change.Install plan ∷ []))
          (reached_by s site.Centre (Makes (change.Install plan) ∷ before)) (plans-install journal plan) (orders-install journal plan)
          (near-idle o (one ∷ acts) (centre_by s before) (plan ∷ all_by s before) (placed_by s before) (reached_by s site.Centre before)
          (near-installed o acts (centre_by s before) (all_by s before) (placed_by s before) (reached_by s site.Centre before) plan st.centre));
      said = within-both [] (lines_said s before) (lines_by o acts one) (act_lines o acts) (within-none (lines_by o acts one)) st.said;
      follows = follows;
      starts = starts-installed s before plan st.starts follows;
    }

stands-makes : (s : Start) (before : List Deed) (acts : List Act) (one : Change) → IsSound s.net → MayDo s before (Makes one) → Stands s before acts
    → Stands s (Makes one ∷ before) (installs_by (Some one) ++ acts)
stands-makes s before acts (change.Edit edit) sound may st = stands-edits s before acts edit may.1 st
stands-makes s before acts (change.Install plan) sound may st = stands-installs s before acts plan sound may.1 st
stands-makes s before acts (change.Order order) sound may st = absurd may.0

-- what holds before a restart, with the plan that is in the journal by then
record Readied (s : Start) (before : List Deed) (acts : List Act) : Type 0 where
  stamped : AreStamped (over s) acts
  satellite : IsSatelliteAt (over s) acts (satellite_by s before)
  terminals : (number : TermNo) → IsTerminalAt (over s) acts number (terminal_by s number before) (max (reached_by s (site.Terminal number) before) (present_in (terminal_by s number before)))
  started : (number : TermNo) → has_started number acts ≡ is_started number before
  standby : IsStandbyAt (over s) acts (standby_by s before) (max (reached_by s site.Standby before) (present_in (standby_by s before)))
  said : AreWithin (lines_said s before) (act_lines (over s) acts)

readied : (s : Start) (before : List Deed) (acts : List Act) → Stands s before acts → Readied s before acts
readied s before acts st =
    let o = over s in
    record {
      stamped = st.stamped;
      satellite = st.satellite;
      terminals = λ number. terminal-idle o acts number (terminal_by s number before) (terminal_by s number before) (reached_by s (site.Terminal number) before) refl (st.terminals number);
      started = st.started;
      standby = standby-idle o acts (standby_by s before) (standby_by s before) (reached_by s site.Standby before) refl st.standby;
      said = st.said;
    }

readied-installed : (s : Start) (before : List Deed) (acts : List Act) (plan : Plan) → MayAct (over s) acts (act.Installs plan) → Stands s before acts → Readied s before (act.Installs plan ∷ acts)
readied-installed s before acts plan may st =
    let o = over s in
    let one = act.Installs plan in
    record {
      stamped = (may, st.stamped);
      satellite = satellite-kept o acts one (satellite_by s before) refl st.satellite;
      terminals = λ number. terminal-kept o acts one number (terminal_by s number before) (reached_by s (site.Terminal number) before) refl (st.terminals number);
      started = st.started;
      standby = standby-kept o acts one (standby_by s before) (reached_by s site.Standby before) refl st.standby;
      said = within-both [] (lines_said s before) (lines_by o acts one) (act_lines o acts) (within-none (lines_by o acts one)) st.said;
    }

-- the centre behind a restart, but for where it goes back
abbrev restarted : ApartAir → Bool → ApartAir
restarted air kept = going_apart (having_apart air (RestartCentre kept)) None

-- it restarts within its process
stands-restarts_by : (s : Start) (before : List Deed) (acts : List Act) (one : Option Change) → MayAct (over s) acts (act.Restarts (is_order one)) → Readied s before acts
    → ((number : TermNo) → is_started number before ≡ true → IsTerminal s.net number)
    → IsNear (over s) (act.Restarts (is_order one) ∷ acts) (restarted (centre_by s before) (is_order one)) (plans_over (with_one (journal_by s before) one)) (orders_over (with_one (journal_by s before) one))
    (reached_by s site.Centre (Restarts one ∷ before))
    → Follows s.net (with_one (journal_by s before) one) → StartsEmpty (plans_over (with_one (journal_by s before) one)) → Stands s (Restarts one ∷ before) (act.Restarts (is_order one) ∷ acts)
stands-restarts_by s before acts one may r named near follows starts =
    let o = over s in
    let does = act.Restarts (is_order one) in
    let journal = with_one (journal_by s before) one in
    record {
      stamped = (may, r.stamped);
      satellite = satellite-kept o acts does (satellite_by s before) refl r.satellite;
      terminals = λ number.
          let x = terminal_by s number before in
          let reach = reached_by s (site.Terminal number) before in
          terminal-lower o (does ∷ acts) number x (max (max reach (present_in x)) (present_in x)) (max reach (present_in x)) (max-le (omega arith) (le-max_right reach (present_in x)))
          (terminal-kept o acts does number x (max reach (present_in x)) refl (r.terminals number));
      started = r.started;
      named = named;
      standby =
          let x = standby_by s before in
          let reach = reached_by s site.Standby before in
          standby-lower o (does ∷ acts) x (max (max reach (present_in x)) (present_in x)) (max reach (present_in x)) (max-le (omega arith) (le-max_right reach (present_in x)))
          (standby-kept o acts does x (max reach (present_in x)) refl r.standby);
      centre = near-goes o (does ∷ acts) (restarted (centre_by s before) (is_order one)) (plans_over journal) (orders_over journal) (reached_by s site.Centre (Restarts one ∷ before))
          (back_lasting (centre_by s before).plans (orders_over journal)) near;
      said = within-both [] (lines_said s before) (lines_by o acts does) (act_lines o acts) (within-none (lines_by o acts does)) r.said;
      follows = follows;
      starts = starts;
    }

stands-restarts : (s : Start) (before : List Deed) (acts : List Act) (one : Option Change) → IsSound s.net → IsUnderWay s before one → Stands s before acts
    → Stands s (Restarts one ∷ before) (act.Restarts (is_order one) ∷ (installs_by one ++ acts))
stands-restarts s before acts None sound way st =
    stands-restarts_by s before acts None tt (readied s before acts st) st.named
    (near-restarts (over s) acts (centre_by s before) (all_by s before) (placed_by s before) (reached_by s site.Centre before) None tt st.centre) way.follows st.starts
stands-restarts s before acts (Some (change.Edit edit)) sound way st =
    let journal = journal_by s before in
    let more = journal ++ change.Edit edit ∷ [] in
    stands-restarts_by s before acts (Some (change.Edit edit)) tt (readied s before acts st) st.named
    (near-as (over s) (act.Restarts false ∷ acts) (restarted (centre_by s before) false) (plans_over journal) (plans_over more) (orders_over journal) (orders_over more)
    (reached_by s site.Centre (Restarts None ∷ before)) (plans-edit journal edit) (orders-edit journal edit)
    (near-restarts (over s) acts (centre_by s before) (all_by s before) (placed_by s before) (reached_by s site.Centre before) None tt st.centre))
    way.follows (subst (λ (list : List Plan). StartsEmpty list) (plans-edit journal edit) st.starts)
stands-restarts s before acts (Some (change.Install plan)) sound way st =
    let o = over s in
    let journal = journal_by s before in
    let more = journal ++ change.Install plan ∷ [] in
    stands-restarts_by s before (act.Installs plan ∷ acts) (Some (change.Install plan)) tt (readied-installed s before acts plan (may-installed s before acts plan sound way.follows st) st) st.named
    (near-as o (act.Restarts false ∷ act.Installs plan ∷ acts) (restarted (centre_by s before) false) (plan ∷ plans_over journal) (plans_over more) (orders_over journal) (orders_over more)
    (reached_by s site.Centre (Restarts None ∷ before)) (plans-install journal plan) (orders-install journal plan)
    (near-restarts o (act.Installs plan ∷ acts) (centre_by s before) (plan ∷ plans_over journal) (placed_by s before) (reached_by s site.Centre before) None tt
    (near-installed o acts (centre_by s before) (all_by s before) (placed_by s before) (reached_by s site.Centre before) plan st.centre)))
    way.follows (starts-installed s before plan st.starts way.follows)
stands-restarts s before acts (Some (change.Order order)) sound way st =
    let o = over s in
    let journal = journal_by s before in
    let more = journal ++ change.Order order ∷ [] in
    stands-restarts_by s before acts (Some (change.Order order))
    (may-restart o acts (with_plans (centre_by s before) (all_by s before)) true st.centre.at (λ is. subst (λ (w : Option Order). IsSome w) (sym way.wanted) refl)) (readied s before acts st) st.named
    (near-as o (act.Restarts true ∷ acts) (restarted (centre_by s before) true) (plans_over journal) (plans_over more) (order ∷ orders_over journal) (orders_over more)
    (reached_by s site.Centre (Restarts (Some (change.Order order)) ∷ before)) (plans-order journal order) (orders-order journal order)
    (near-restarts o acts (centre_by s before) (all_by s before) (placed_by s before) (reached_by s site.Centre before) (Some order) way.wanted st.centre))
    way.follows (subst (λ (list : List Plan). StartsEmpty list) (plans-order journal order) st.starts)

-- a new process opens: but for what it knows it stands as after a restart
abbrev opened : Start → List Plan → List Order → ApartAir
opened s all placed = apart_at_start (record { net = s.net; plans = all; orders = placed })

abbrev NearOpened : Start → List Act → ℕ → List Plan → List Order → Type 0
NearOpened s acts reach all placed = IsNear (over s) acts (opened s all placed) all placed (max reach (known_in (opened s all placed)))

opened-as : (s : Start) (acts : List Act) (reach : ℕ) (all more : List Plan) (placed others : List Order) → all ≡ more → placed ≡ others → NearOpened s acts reach all placed → NearOpened s acts reach more others
opened-as s acts reach all more placed others plans orders n =
    subst (λ (list : List Order). NearOpened s acts reach more list) orders (subst (λ (list : List Plan). NearOpened s acts reach list placed) plans n)

opens-as : (s : Start) (before : List Deed) (acts : List Act) (one : Option Change) → Stands s (Restarts one ∷ before) acts
    → NearOpened s acts (reached_by s site.Centre before) (plans_over (with_one (journal_by s before) one)) (orders_over (with_one (journal_by s before) one)) → Stands s (Opens one ∷ before) acts
opens-as s before acts one st near = record {
  stamped = st.stamped;
  satellite = st.satellite;
  terminals = st.terminals;
  started = st.started;
  named = st.named;
  standby = st.standby;
  centre = near;
  said = st.said;
  follows = st.follows;
  starts = st.starts;
}

stands-opens : (s : Start) (before : List Deed) (acts : List Act) (one : Option Change) → IsSound s.net → IsUnderWay s before one → Stands s before acts
    → Stands s (Opens one ∷ before) (act.Restarts (is_order one) ∷ (installs_by one ++ acts))
stands-opens s before acts None sound way st =
    opens-as s before (act.Restarts false ∷ acts) None (stands-restarts s before acts None sound way st)
    (near-opens (over s) acts (centre_by s before) (all_by s before) (placed_by s before) (reached_by s site.Centre before) None tt st.centre)
stands-opens s before acts (Some (change.Edit edit)) sound way st =
    let journal = journal_by s before in
    opens-as s before (act.Restarts false ∷ acts) (Some (change.Edit edit)) (stands-restarts s before acts (Some (change.Edit edit)) sound way st)
    (opened-as s (act.Restarts false ∷ acts) (reached_by s site.Centre before) (plans_over journal) (plans_over (journal ++ change.Edit edit ∷ [])) (orders_over journal)
    (orders_over (journal ++ change.Edit edit ∷ [])) (plans-edit journal edit) (orders-edit journal edit)
    (near-opens (over s) acts (centre_by s before) (all_by s before) (placed_by s before) (reached_by s site.Centre before) None tt st.centre))
stands-opens s before acts (Some (change.Install plan)) sound way st =
    let journal = journal_by s before in
    opens-as s before (act.Restarts false ∷ act.Installs plan ∷ acts) (Some (change.Install plan)) (stands-restarts s before acts (Some (change.Install plan)) sound way st)
    (opened-as s (act.Restarts false ∷ act.Installs plan ∷ acts) (reached_by s site.Centre before) (plan ∷ plans_over journal) (plans_over (journal ++ change.Install plan ∷ [])) (orders_over journal)
    (orders_over (journal ++ change.Install plan ∷ [])) (plans-install journal plan) (orders-install journal plan)
    (near-opens (over s) (act.Installs plan ∷ acts) (centre_by s before) (plan ∷ plans_over journal) (placed_by s before) (reached_by s site.Centre before) None tt
    (near-installed (over s) acts (centre_by s before) (all_by s before) (placed_by s before) (reached_by s site.Centre before) plan st.centre)))
stands-opens s before acts (Some (change.Order order)) sound way st =
    let journal = journal_by s before in
    opens-as s before (act.Restarts true ∷ acts) (Some (change.Order order)) (stands-restarts s before acts (Some (change.Order order)) sound way st)
    (opened-as s (act.Restarts true ∷ acts) (reached_by s site.Centre before) (plans_over journal) (plans_over (journal ++ change.Order order ∷ [])) (order ∷ orders_over journal)
    (orders_over (journal ++ change.Order order ∷ [])) (plans-order journal order) (orders-order journal order)
    (near-opens (over s) acts (centre_by s before) (all_by s before) (placed_by s before) (reached_by s site.Centre before) (Some order) way.wanted st.centre))

-- all processes, after whatever deeds
pub stands : (s : Start) → IsSound s.net → (deeds : List Deed) → AreProcesses s deeds → Stands s deeds (acts_of s deeds)
stands s sound [] are = stands-start s are
stands s sound (Starts number ∷ before) are = stands-starts s before (acts_of s before) number are.0 (stands s sound before are.1)
stands s sound (StandbyStarts ∷ before) are = stands-standby_starts s before (acts_of s before) (stands s sound before are.1)
stands s sound (Opens one ∷ before) are = stands-opens s before (acts_of s before) one sound are.0 (stands s sound before are.1)
stands s sound (Hears site.Satellite line text ∷ before) are = stands-satellite_hears s before (acts_of s before) line text are.0.0 are.0.1 (stands s sound before are.1)
stands s sound (Hears site.Centre line text ∷ before) are =
    stands-centre_hears s before (acts_of s before) line text (takes_up (centre_by s before) line) refl are.0.0 are.0.1 are.0.2 (stands s sound before are.1)
stands s sound (Hears (site.Terminal number) line text ∷ before) are =
    stands-terminal_hears s before (acts_of s before) number (present_in (terminal_by s number before)) line text refl are.0.0 are.0.1 are.0.2 (stands s sound before are.1)
stands s sound (Hears site.Standby line text ∷ before) are =
    stands-standby_hears s before (acts_of s before) (present_in (standby_by s before)) line text refl are.0.0 are.0.1 are.0.2 (stands s sound before are.1)
stands s sound (Asks site.Satellite text ∷ before) are = stands-satellite_asks s before (acts_of s before) text (asked_of s.net text) refl are.0 (stands s sound before are.1)
stands s sound (Asks site.Centre text ∷ before) are = stands-centre_asks s before (acts_of s before) text (stands s sound before are.1)
stands s sound (Asks (site.Terminal number) text ∷ before) are = stands-terminal_asks s before (acts_of s before) number text (asked_of s.net text) refl are.0 (stands s sound before are.1)
stands s sound (Asks site.Standby text ∷ before) are = stands-standby_asks s before (acts_of s before) text (asked_of s.net text) refl are.0 (stands s sound before are.1)
stands s sound (Turns target ∷ before) are = stands-turns s before (acts_of s before) target are.0.0 are.0.1 (stands s sound before are.1)
stands s sound (Places order ∷ before) are = stands-places s before (acts_of s before) order are.0.0 are.0.1 are.0.2 (stands s sound before are.1)
stands s sound (Learns plan ∷ before) are = stands-learns s before (acts_of s before) plan are.0.0 (stands s sound before are.1)
stands s sound (Goes back ∷ before) are = stands-goes s before (acts_of s before) back (stands s sound before are.1)
stands s sound (Restarts one ∷ before) are = stands-restarts s before (acts_of s before) one sound are.0 (stands s sound before are.1)
stands s sound (Makes one ∷ before) are = stands-makes s before (acts_of s before) one sound are.0 (stands s sound before are.1)

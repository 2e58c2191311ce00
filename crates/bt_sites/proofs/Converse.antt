-- Each world is what some run of sites makes.
use Rattle.std.proofs.Common.{◌≡◌, ℕ, ◌<◌, ◌==◌, true, false, List, [], ◌∷◌, length, map, Option, Some, None, refl, sym, ◌∙◌, ap, subst}
use Rattle.std.specs.Prelude.{IsSome}
use Rattle.std.proofs.lemmas.List.{append-nil}
use Rattle.bt_frame.specs.declared.limits.TheConstants.{LAST_MARK}
use Rattle.bt_frame.specs.declared.numbers.EditionNo.{EditionNo}
use Rattle.bt_net.specs.Network.{IsSound}
use Rattle.bt_demand.specs.declared.plan.Plan.{Plan}
use Rattle.bt_demand.specs.Flyable.{IsFlyable}
use Rattle.bt_air.specs.declared.message.Message.{Message}
use Rattle.bt_air.specs.declared.order.Order.{Order}
use Rattle.bt_air.specs.declared.sent.Aired.{Aired}
use Rattle.bt_air.specs.declared.sent.Aired.TheVariants as sends
use Rattle.bt_air.specs.declared.sent.Place.TheVariants.{Satellite, Centre, Terminal}
use Rattle.bt_machines.specs.Satellite.{State as Onboard}
use Rattle.bt_machines.specs.Centre.{State}
use Rattle.bt_machines.specs.Standby.{named}
use Rattle.bt_machines.specs.Plans.{newest_of, plan_of}
use Rattle.bt_machines.specs.Says.{carried}
use Rattle.bt_site.specs.Event.{Opening, Event, Tick, Turn, Ordered, Deliver, Second, Frame, ResetTerminal, RestartCentre, Install}
use Rattle.bt_site.specs.Fits.{AreStored, IsWorld, Meets}
use Rattle.bt_site.specs.World.{is_told, log, mark, plans, sent, wanted}
use Rattle.bt_sites.specs.Acts.{AreLedEvents, HasActsOf, resets_in, starts_in}
use Rattle.bt_sites.specs.Behind.{HasSites, IsWorldBehind}
use Rattle.bt_sites.specs.Fits.{AreSites, IsNow}
use Rattle.bt_sites.specs.Sites.{bytes_of, centre_after, plans_after, said, satellite_after, standby_after, standby_with}
use Rattle.bt_sites.specs.Step.{Step, Begins, SatelliteHears, Starts, TerminalHears, CentreHears, Turns, Places, Installs, Restarts, StandbyStarts, StandbyHears, Seconds}
use Rattle.bt_site.proofs.Ranges.{stored-before}
use Rattle.bt_sites.proofs.Follows.{HasSitesOf, Leads, Stands, sent-still}
use Rattle.bt_sites.proofs.Heard.{Told, found-of, told-said}
use Rattle.bt_sites.proofs.Seconds.{names-heard, some-same, teller}
use Rattle.bt_sites.proofs.Small.{none-more}
use Rattle.bt_sites.proofs.Acts.{acts-of, or-more}
use Rattle.bt_sites.proofs.Cited.{Cited}
use Rattle.bt_sites.proofs.Events.{begins, centre-hearing, installs, now-behind, places, restarts-with, restarts-without, satellite-hearing, seconds, standby-hearing, standby-starts, starts, terminal-hearing, turns}

-- by what is said of worlds
module _ (w : Cited) where
  -- what a world sent was said
  told : (o : Opening) (before : List Step) (events : List Event) (number : ℕ) → IsSound o.net → AreStored o (log o events) → Stands o before events → number < length (sent o (log o events))
      → Told (plans o (log o events)) (sent o (log o events)) (said o before) number
  told o before events number sound stored stands within =
      let past = log o events in
      told-said w.reads (plans o past) (sent o past) (said o before) number stands.behind.said (w.in_range o events sound stands.behind.world stored) within

  -- a second reference burst that names an edition: the standby hears the status that told it
  second-more : (o : Opening) (steps : List Step) (events : List Event) (edition : EditionNo) → IsSound o.net → AreStored o (log o events) → AreSites o steps → Stands o steps events → Leads events steps
      → is_told (sent o (log o events)) (mark o (log o events)) edition ≡ true → HasSitesOf o (Second (Some edition) ∷ events)
  second-more o steps events edition sound stored sites stands l meets =
      let past = log o events in
      let m = (satellite_after o steps).mark in
      let now : m.0 ≡ mark o past = ap (λ (s : Onboard). s.mark.0) stands.behind.satellite ∙ w.on_mark o past in
      let by = teller (sent o past) (mark o past) edition meets in
      let t = told o steps events by.number sound stored stands by.within in
      let is : t.one ≡ sends.Status by.status = some-same t.one (sends.Status by.status) (sym t.there ∙ by.there) in
      let more = StandbyHears m t.bytes ∷ steps in
      let names : named (standby_after more) m ≡ Some edition =
      ap (λ (r : Option Message). named (standby_with (standby_after steps) m r) m) (t.reads ∙ ap (λ (one : Aired). Some (carried (plans o past) one)) is)
      ∙ names-heard (standby_after steps) m by.status (ap (λ (n : ℕ). by.status.mark.0 == n) now ∙ by.present) ∙ ap (λ (e : EditionNo). Some e) by.fore in
      let heard = seconds w o more events m (standby-hearing w o steps events m t.bytes stands (found-of t)) refl in
      record { steps = Seconds m ∷ more; sites = (refl, ((refl, t.was), sites)); stands = subst (λ (x : Option EditionNo). Stands o (Seconds m ∷ more) (Second x ∷ events)) names heard; leads = record { begun = l.begun; started = l.started; led = λ e. (l.begun e.0, (l.begun e.0, l.led e.1)) } }

  -- one event more
  event-more : (o : Opening) (steps : List Step) (events : List Event) (event : Event) → IsSound o.net → AreStored o (log o events) → AreSites o steps → Stands o steps events → Leads events steps → Meets o (log o events) event
      → HasSitesOf o (event ∷ events)
  event-more o steps events Tick sound stored sites stands l meets =
      let may = subst (λ (n : ℕ). n < LAST_MARK) (sym (ap (λ (s : Onboard). s.mark.0) stands.behind.satellite ∙ w.on_mark o (log o events))) meets in
      record { steps = Begins ∷ steps; sites = (may, sites); stands = begins w o steps events stands may; leads = record { begun = λ e. refl; started = l.started; led = λ e. (tt, l.led e.1) } }
  event-more o steps events (Turn target) sound stored sites stands l meets =
      let m = (satellite_after o steps).mark in
      let may : IsNow o steps m × IsSome (plan_of (plans_after o steps) target) = (refl, subst (λ (all : List Plan). IsSome (plan_of all target)) (sym stands.behind.plans) meets) in
      record { steps = Turns m target ∷ steps; sites = (may, sites); stands = turns w o steps events m target sound stored stands may; leads = record { begun = l.begun; started = l.started; led = λ e. (l.begun e.0, l.led e.1) } }
  event-more o steps events (Second None) sound stored sites stands l meets =
      let m = (satellite_after o steps).mark in
      record { steps = Seconds m ∷ (StandbyStarts ∷ steps); sites = (refl, (tt, sites)); stands = seconds w o (StandbyStarts ∷ steps) events m (standby-starts w o steps events stands) refl; leads = record { begun = l.begun; started = l.started; led = λ e. (l.begun e.0, (tt, l.led e.1)) } }
  event-more o steps events (Second (Some edition)) sound stored sites stands l meets = second-more o steps events edition sound stored sites stands l meets
  event-more o steps events Ordered sound stored sites stands l meets =
      let is = w.centre_said o events sound stands.behind.world stored in
      let next : (centre_after o steps).wanted ≡ wanted (log o events) = ap (λ (t : State). t.wanted) stands.behind.centre ∙ is.wanted in
      let may = subst (λ (x : Option Order). IsSome x) (sym next) meets in
      record { steps = Places ∷ steps; sites = (may, sites); stands = places w o steps events sound stored stands may; leads = record { begun = l.begun; started = l.started; led = λ e. (l.begun e.0, l.led e.1) } }
  event-more o steps events (Deliver number Satellite) sound stored sites stands l meets =
      let t = told o steps events number sound stored stands meets.0 in
      record { steps = SatelliteHears t.bytes ∷ steps; sites = (t.was, sites); stands = satellite-hearing w o steps events t.bytes stands (found-of t); leads = record { begun = l.begun; started = l.started; led = λ e. (tt, l.led e.1) } }
  event-more o steps events (Deliver number Centre) sound stored sites stands l meets =
      let t = told o steps events number sound stored stands meets.0 in
      let m = (satellite_after o steps).mark in
      record {
        steps = CentreHears m t.bytes ∷ steps;
        sites = ((refl, t.was), sites);
        stands = centre-hearing w o steps events m t.bytes stands (now-behind o steps (log o events) m w.on_mark stands.behind.satellite refl) (found-of t);
        leads = record { begun = l.begun; started = l.started; led = λ e. (l.begun e.0, l.led e.1) };
      }
  event-more o steps events (Deliver number (Terminal to)) sound stored sites stands l meets =
      let t = told o steps events number sound stored stands meets.0 in
      let m = (satellite_after o steps).mark in
      record {
        steps = TerminalHears to m t.bytes ∷ steps;
        sites = ((meets.1, refl, t.was), sites);
        stands = terminal-hearing w o steps events to m t.bytes stands meets.1 (now-behind o steps (log o events) m w.on_mark stands.behind.satellite refl) (found-of t);
        leads = record { begun = l.begun; started = l.started; led = λ e. ((l.started to e.0.0, l.begun e.0.1), l.led e.1) };
      }
  event-more o steps events Frame sound stored sites stands l meets =
      let b = stands.behind in
      record {
        steps = steps;
        sites = sites;
        stands = record {
          behind = record { world = (meets, b.world); satellite = b.satellite; terminals = b.terminals; said = b.said ∙ ap (λ (list : List Aired). map (λ (one : Aired). bytes_of (plans o (log o events)) one) list) (sym (append-nil (sent o (log o events)))); plans = b.plans; centre = b.centre };
          few = stands.few;
          kept = sent-still (standby_after steps) (sent o (log o events)) [] stands.kept;
        };
        leads = record { begun = l.begun; started = l.started; led = λ e. l.led e.1 };
      }
  event-more o steps events (ResetTerminal number) sound stored sites stands l meets =
      record { steps = Starts number ∷ steps; sites = (meets, sites); stands = starts w o steps events number stands meets; leads = record { begun = l.begun; started = λ other e. or-more (number.0 == other.0) (resets_in other events) (starts_in other steps) (l.started other) e; led = λ e. (tt, l.led e.1) } }
  event-more o steps events (RestartCentre true) sound stored sites stands l meets =
      let is = w.centre_said o events sound stands.behind.world stored in
      let next : (centre_after o steps).wanted ≡ wanted (log o events) = ap (λ (t : State). t.wanted) stands.behind.centre ∙ is.wanted in
      let may = subst (λ (x : Option Order). IsSome x) (sym next) meets in
      record { steps = Restarts true ∷ steps; sites = (may, sites); stands = restarts-with w o steps events sound stored stands may; leads = record { begun = l.begun; started = l.started; led = λ e. (tt, l.led e.1) } }
  event-more o steps events (RestartCentre false) sound stored sites stands l meets =
      record { steps = Restarts false ∷ steps; sites = (tt, sites); stands = restarts-without w o steps events stands; leads = record { begun = l.begun; started = l.started; led = λ e. (tt, l.led e.1) } }
  event-more o steps events (Install plan) sound stored sites stands l meets =
      let may : ((newest_of (plans_after o steps)).0 < plan.edition.0) × IsFlyable o.net plan =
      (subst (λ (all : List Plan). (newest_of all).0 < plan.edition.0) (sym stands.behind.plans) meets.0, meets.1) in
      record { steps = Installs plan ∷ steps; sites = (may, sites); stands = installs w o steps events plan stands may; leads = record { begun = l.begun; started = l.started; led = λ e. (tt, l.led e.1) } }

  all-sites : (o : Opening) (events : List Event) → IsSound o.net → IsWorld o events → AreStored o (log o events) → HasSitesOf o events
  all-sites o [] sound opening stored = record {
    steps = [];
    sites = opening;
    stands = record {
      behind = record { world = opening; satellite = refl; terminals = λ number. refl; said = refl; plans = refl; centre = refl };
      few = none-more (length o.orders);
      kept = tt;
    };
    leads = record { begun = λ e. e; started = λ number e. e; led = λ e. tt };
  }
  all-sites o (event ∷ earlier) sound world stored =
      let before = stored-before o (log o earlier) event stored in
      let h = all-sites o earlier sound world.1 before in
      event-more o h.steps earlier event sound before h.sites h.stands h.leads world.0

  pub sites-of : (o : Opening) (events : List Event) → IsSound o.net → IsWorld o events → AreStored o (log o events) → HasSites o events
  sites-of o events sound world stored =
      let h = all-sites o events sound world stored in record { steps = h.steps; sites = h.sites; behind = h.stands.behind }

  -- and by lines with stamps
  pub acts-of-world : (o : Opening) (events : List Event) → IsSound o.net → IsWorld o events → AreStored o (log o events) → AreLedEvents events → HasActsOf o events
  acts-of-world o events sound world stored led =
      let h = all-sites o events sound world stored in
      let made = acts-of o h.steps h.sites (h.leads.led led) in
      record { acts = made.acts; stamped = made.stamped; behind = subst (λ (steps : List Step). IsWorldBehind o steps events) (sym made.are) h.stands.behind }

-- Each step of a site is an event of the world behind the run, or none.
use Rattle.std.proofs.Common.{◌≡◌, ℕ, ◌+◌, ◌<◌, ◌==◌, if◌then◌else◌, true, false, List, [], ◌∷◌, ◌++◌, map, slice_get, Option, Some, None, IfSome, refl, sym, ◌∙◌, ap, subst}
use Rattle.std.specs.Prelude.{IsSome}
use Rattle.std.proofs.lemmas.List.{append-nil}
use Rattle.bt_frame.specs.declared.limits.TheConstants.{LAST_MARK}
use Rattle.bt_frame.specs.declared.numbers.EditionNo.{EditionNo}
use Rattle.bt_frame.specs.declared.numbers.Mark.{Mark}
use Rattle.bt_frame.specs.declared.numbers.TermNo.{TermNo}
use Rattle.bt_net.specs.Network.{IsSound}
use Rattle.bt_net.specs.Terminals.{IsTerminal}
use Rattle.bt_demand.specs.declared.plan.Plan.{Plan}
use Rattle.bt_air.specs.declared.message.Message.{Message}
use Rattle.bt_air.specs.declared.order.Order.{Order}
use Rattle.bt_air.specs.declared.order.Status.{Status}
use Rattle.bt_air.specs.declared.sent.Aired.{Aired}
use Rattle.bt_air.specs.declared.sent.Aired.TheVariants as sends
use Rattle.bt_air.specs.declared.sent.Place.{Place}
use Rattle.bt_air.specs.declared.sent.Place.TheVariants.{Satellite, Centre, Terminal}
use Rattle.bt_machines.specs.Orders.{telling}
use Rattle.bt_machines.specs.SatelliteRun.{Begins as Starts_anew, Hears as Takes, oldest_first}
use Rattle.bt_machines.specs.Satellite.{State as Onboard, new_at, status_of, ticked, step_of as take}
use Rattle.bt_machines.proofs.SatelliteByEvents.{state_more}
use Rattle.bt_machines.specs.Terminal.{State as Ground, new_of, step_of as hear}
use Rattle.bt_machines.specs.Centre.{State, after_turn}
use Rattle.bt_machines.specs.Standby.{named}
use Rattle.bt_machines.specs.CentreSteps.{beginning, once_heard, once_placed, with_wanted}
use Rattle.bt_machines.specs.Plans.{newest_of, plan_of}
use Rattle.bt_machines.specs.Says.{carried, sent_by_order, confirmed_by, told_by}
use Rattle.bt_site.specs.Centre.{centre}
use Rattle.bt_site.specs.Event.{Opening, Event, Tick, Turn, Ordered, Deliver, Second, ResetTerminal, RestartCentre, Install, Happening, Ticks, Hears, Turns as Happens_turn}
use Rattle.bt_site.specs.Fits.{AreStored, IsWorld, Meets}
use Rattle.bt_site.specs.Ground.{terminal}
use Rattle.bt_site.specs.Satellite.{satellite, to_satellite}
use Rattle.bt_site.specs.World.{accepted, act, is_told, greatest_due, log, mark, orders, plans, sent, sent_by_hearing, sent_with, terminals, wanted}
use Rattle.bt_sites.specs.Fits.{IsNow, WasSaid, MayStep, order_count}
use Rattle.bt_sites.specs.Sites.{bytes_of, centre_after, centre_with, plans_after, read_of, said, satellite_after, satellite_says, satellite_with, standby_after, standby_with, terminal_after, terminal_says, terminal_with, turn_says}
use Rattle.bt_sites.specs.Step.{Step, Begins, SatelliteHears, Starts, TerminalHears, CentreHears, Turns, Places, Installs, Restarts, StandbyStarts, StandbyHears, Seconds}
use Rattle.bt_sites.proofs.Carries.{bytes-stay}
use Rattle.bt_sites.proofs.Follows.{Follows, Stands, WasSent, confirmed-bare, said-more, stands-more, told-bare}
use Rattle.bt_sites.proofs.Heard.{Found, aired-back, found-said}
use Rattle.bt_sites.proofs.Seconds.{kept-hears, named-told}
use Rattle.bt_sites.proofs.Small.{wanted-one}
use Rattle.bt_sites.proofs.Turned.{same-mark, turn-said}
use Rattle.bt_sites.proofs.Cited.{Cited}

satellite-ticks : (o : Opening) (past : List Happening) → satellite o (Ticks ∷ past) ≡ ticked (satellite o past)
satellite-ticks o past = state_more (new_at (record { 0 = greatest_due o.orders })) (oldest_first (to_satellite o past)) Starts_anew

satellite-hears : (o : Opening) (past : List Happening) (one : Aired) → satellite o (Hears (Some one) Satellite ∷ past) ≡ (take (satellite o past) (carried (plans o past) one)).1
satellite-hears o past one = state_more (new_at (record { 0 = greatest_due o.orders })) (oldest_first (to_satellite o past)) (Takes (carried (plans o past) one))

-- the present superframe is that of the world
pub now-behind : (o : Opening) (before : List Step) (past : List Happening) (m : Mark) → ((o : Opening) (past : List Happening) → (satellite o past).mark.0 ≡ mark o past)
    → satellite_after o before ≡ satellite o past → IsNow o before m → m ≡ record { 0 = mark o past }
now-behind o before past m on_mark same now = same-mark m (mark o past) (ap (λ (k : Mark). k.0) now ∙ ap (λ (s : Onboard). s.mark.0) same ∙ on_mark o past)

-- a terminal hears
terminal-more : (o : Opening) (past : List Happening) (before : List Step) (to : TermNo) (m : Mark) (bytes : List ℕ) (one : Aired) → m ≡ record { 0 = mark o past }
    → read_of bytes ≡ Some (carried (plans o past) one) → ((number : TermNo) → terminal_after number before ≡ terminal o past number)
    → (number : TermNo) → terminal_after number (TerminalHears to m bytes ∷ before) ≡ terminal o (Hears (Some one) (Terminal to) ∷ past) number
terminal-more o past before to m bytes one marked reads same number =
    let message = carried (plans o past) one in
    ap (λ (r : Option Message). if to.0 == number.0 then terminal_with (terminal_after number before) m r else terminal_after number before) reads
    ∙ ap (λ (k : Mark). if to.0 == number.0 then (hear (terminal_after number before) k message).1 else terminal_after number before) marked
    ∙ ap (λ (s : Ground). if to.0 == number.0 then (hear s (record { 0 = mark o past }) message).1 else s) (same number)

-- the event of a message that was found
pub heard-more : (o : Opening) (steps : List Step) (events : List Event) (place : Place) (number : ℕ) (one : Aired) → IsWorld o events → WasSent (standby_after steps) (sent o (log o events)) → Meets o (log o events) (Deliver number place)
    → slice_get (sent o (log o events)) number ≡ Some one → Follows o steps (Hears (Some one) place ∷ log o events) → Stands o steps (Deliver number place ∷ events)
heard-more o steps events place number one world kept meets found follows =
    stands-more o steps events (Deliver number place) world kept meets
    (subst (λ (x : Option Aired). Follows o steps (Hears x place ∷ log o events)) (sym found) follows)

-- by what is said of worlds
module _ (w : Cited) where
  -- what was said is found
  pub found : (o : Opening) (before : List Step) (events : List Event) (bytes : List ℕ) → IsSound o.net → AreStored o (log o events) → Stands o before events → WasSaid (said o before) bytes
      → Found (plans o (log o events)) (sent o (log o events)) bytes
  found o before events bytes sound stored stands was =
      let past = log o events in
      found-said w.reads (plans o past) (sent o past) (said o before) bytes stands.behind.said (w.in_range o events sound stands.behind.world stored) was

  pub begins : (o : Opening) (before : List Step) (events : List Event) → Stands o before events → MayStep o before Begins → Stands o (Begins ∷ before) (Tick ∷ events)
  begins o before events stands may =
      let b = stands.behind in
      let past = log o events in
      stands-more o (Begins ∷ before) events Tick b.world stands.kept
      (subst (λ (n : ℕ). n < LAST_MARK) (ap (λ (s : Onboard). s.mark.0) b.satellite ∙ w.on_mark o past) may)
      (record {
        satellite = ap ticked b.satellite ∙ sym (satellite-ticks o past);
        terminals = b.terminals;
        said = said-more o before Begins past (sends.Status (telling (accepted o past) (mark o past + 1)) ∷ []) b.said
            (ap (λ (s : Onboard). bytes_of [] (sends.Status (status_of (ticked s))) ∷ []) b.satellite
            ∙ ap (λ (s : Onboard). bytes_of [] (sends.Status (status_of s)) ∷ []) (sym (satellite-ticks o past))
            ∙ ap (λ (status : Status). bytes_of [] (sends.Status status) ∷ []) (w.on_status o (Ticks ∷ past)));
        plans = b.plans;
        centre = b.centre;
        few = stands.few;
      })

  pub satellite-hearing : (o : Opening) (before : List Step) (events : List Event) (bytes : List ℕ) → Stands o before events
      → (f : Found (plans o (log o events)) (sent o (log o events)) bytes) → Stands o (SatelliteHears bytes ∷ before) (Deliver f.number Satellite ∷ events)
  satellite-hearing o before events bytes stands f =
      let b = stands.behind in
      let past = log o events in
      let message = carried (plans o past) f.one in
      heard-more o (SatelliteHears bytes ∷ before) events Satellite f.number f.one b.world stands.kept (f.within, tt) f.found
      (record {
        satellite = ap (λ (r : Option Message). satellite_with (satellite_after o before) r) f.reads
            ∙ ap (λ (s : Onboard). (take s message).1) b.satellite ∙ sym (satellite-hears o past f.one);
        terminals = b.terminals;
        said = said-more o before (SatelliteHears bytes) past (sent_by_hearing o past (Some f.one) Satellite) b.said
            (ap (λ (r : Option Message). map (λ (one : Aired). bytes_of [] one) (satellite_says (satellite_after o before) r)) f.reads
            ∙ ap (λ (s : Onboard). map (λ (one : Aired). bytes_of [] one) (told_by (take s message))) b.satellite
            ∙ told-bare (plans o past) (take (satellite o past) message)
            ∙ ap (λ (list : List Aired). map (λ (one : Aired). bytes_of (plans o past) one) list) (sym (w.satellite_answers o past f.one)));
        plans = b.plans;
        centre = b.centre;
        few = stands.few;
      })

  pub starts : (o : Opening) (before : List Step) (events : List Event) (number : TermNo) → Stands o before events → MayStep o before (Starts number) → Stands o (Starts number ∷ before) (ResetTerminal number ∷ events)
  starts o before events number stands may =
      let b = stands.behind in
      let past = log o events in
      stands-more o (Starts number ∷ before) events (ResetTerminal number) b.world stands.kept may
      (record {
        satellite = b.satellite;
        terminals = λ other. ap (λ (s : Ground). if number.0 == other.0 then new_of other else s) (b.terminals other);
        said = said-more o before (Starts number) past (sends.Lost number ∷ []) b.said refl;
        plans = b.plans;
        centre = b.centre;
        few = stands.few;
      })

  pub terminal-hearing : (o : Opening) (before : List Step) (events : List Event) (number : TermNo) (m : Mark) (bytes : List ℕ) → Stands o before events
      → IsTerminal o.net number → m ≡ record { 0 = mark o (log o events) } → (f : Found (plans o (log o events)) (sent o (log o events)) bytes)
      → Stands o (TerminalHears number m bytes ∷ before) (Deliver f.number (Terminal number) ∷ events)
  terminal-hearing o before events number m bytes stands known marked f =
      let b = stands.behind in
      let past = log o events in
      let message = carried (plans o past) f.one in
      let s = terminal_after number before in
      heard-more o (TerminalHears number m bytes ∷ before) events (Terminal number) f.number f.one b.world stands.kept (f.within, known) f.found
      (record {
        satellite = b.satellite;
        terminals = terminal-more o past before number m bytes f.one marked f.reads b.terminals;
        said = said-more o before (TerminalHears number m bytes) past (sent_by_hearing o past (Some f.one) (Terminal number)) b.said
            (ap (λ (list : List Aired). map (λ (one : Aired). bytes_of [] one) list)
            (ap (λ (r : Option Message). terminal_says number s m r) f.reads
            ∙ ap (λ (one : Aired). confirmed_by number one (hear s m message)) (aired-back (plans o past) f.one)
            ∙ ap (λ (k : Mark). confirmed_by number f.one (hear s k message)) marked
            ∙ ap (λ (t : Ground). confirmed_by number f.one (hear t (record { 0 = mark o past }) message)) (b.terminals number))
            ∙ confirmed-bare (plans o past) number f.one (hear (terminal o past number) (record { 0 = mark o past }) message)
            ∙ ap (λ (list : List Aired). map (λ (one : Aired). bytes_of (plans o past) one) list) (sym (w.terminal_answers o past f.one number)));
        plans = b.plans;
        centre = b.centre;
        few = stands.few;
      })

  pub centre-hearing : (o : Opening) (before : List Step) (events : List Event) (m : Mark) (bytes : List ℕ) → Stands o before events
      → m ≡ record { 0 = mark o (log o events) } → (f : Found (plans o (log o events)) (sent o (log o events)) bytes) → Stands o (CentreHears m bytes ∷ before) (Deliver f.number Centre ∷ events)
  centre-hearing o before events m bytes stands marked f =
      let b = stands.behind in
      let past = log o events in
      let s = centre_after o before in
      heard-more o (CentreHears m bytes ∷ before) events Centre f.number f.one b.world stands.kept (f.within, tt) f.found
      (record {
        satellite = b.satellite;
        terminals = b.terminals;
        said = said-more o before (CentreHears m bytes) past [] b.said refl;
        plans = b.plans;
        centre = ap (λ (r : Option Message). centre_with s m r) f.reads
            ∙ ap (λ (one : Aired). once_heard s m.0 (Some one)) (aired-back (plans o past) f.one)
            ∙ ap (λ (k : Mark). once_heard s k.0 (Some f.one)) marked
            ∙ ap (λ (t : State). once_heard t (mark o past) (Some f.one)) b.centre;
        few = stands.few;
      })

  pub turns : (o : Opening) (before : List Step) (events : List Event) (m : Mark) (target : EditionNo) → IsSound o.net → AreStored o (log o events) → Stands o before events
      → MayStep o before (Turns m target) → Stands o (Turns m target ∷ before) (Turn target ∷ events)
  turns o before events m target sound stored stands may =
      let b = stands.behind in
      let past = log o events in
      let now : Mark = record { 0 = mark o past } in
      let marked = now-behind o before past m w.on_mark b.satellite may.0 in
      stands-more o (Turns m target ∷ before) events (Turn target) b.world stands.kept
      (subst (λ (all : List Plan). IsSome (plan_of all target)) b.plans may.1)
      (record {
        satellite = b.satellite;
        terminals = b.terminals;
        said = said-more o before (Turns m target) past (sent_with o past (Happens_turn target (act o past target))) b.said
            (ap (λ (all : List Plan). map (λ (one : Aired). bytes_of all one) (turn_says o (centre_after o before) all m target)) b.plans
            ∙ ap (λ (list : List Aired). map (λ (one : Aired). bytes_of (plans o past) one) list)
            (ap (λ (t : State). turn_says o t (plans o past) m target) b.centre
            ∙ ap (λ (k : Mark). turn_says o (centre o past) (plans o past) k target) marked
            ∙ turn-said o past target (w.centre_said o events sound b.world stored)));
        plans = b.plans;
        centre = ap (λ (t : State). after_turn t m target o.net.lead o.net.patience) b.centre
            ∙ ap (λ (k : Mark). after_turn (centre o past) k target o.net.lead o.net.patience) marked;
        few = stands.few;
      })

  pub places : (o : Opening) (before : List Step) (events : List Event) → IsSound o.net → AreStored o (log o events) → Stands o before events → MayStep o before Places → Stands o (Places ∷ before) (Ordered ∷ events)
  places o before events sound stored stands may =
      let b = stands.behind in
      let past = log o events in
      let is = w.centre_said o events sound b.world stored in
      let next : (centre_after o before).wanted ≡ wanted past = ap (λ (t : State). t.wanted) b.centre ∙ is.wanted in
      stands-more o (Places ∷ before) events Ordered b.world stands.kept
      (subst (λ (x : Option Order). IsSome x) next may)
      (record {
        satellite = b.satellite;
        terminals = b.terminals;
        said = said-more o before Places past (sent_by_order (plans o past) (terminals o) (wanted past)) b.said
            (ap (λ (all : List Plan). map (λ (one : Aired). bytes_of all one) (sent_by_order all (terminals o) (centre_after o before).wanted)) b.plans
            ∙ ap (λ (x : Option Order). map (λ (one : Aired). bytes_of (plans o past) one) (sent_by_order (plans o past) (terminals o) x)) next);
        plans = b.plans;
        centre = ap (λ (t : State). once_placed t (terminals o) (plans_after o before) t.wanted) b.centre
            ∙ ap (λ (all : List Plan). once_placed (centre o past) (terminals o) all (centre o past).wanted) b.plans;
        few = wanted-one (wanted past) (orders o past) (order_count o before) stands.few;
      })

  pub installs : (o : Opening) (before : List Step) (events : List Event) (plan : Plan) → Stands o before events → MayStep o before (Installs plan) → Stands o (Installs plan ∷ before) (Install plan ∷ events)
  installs o before events plan stands may =
      let b = stands.behind in
      let past = log o events in
      let none : said o before ++ [] ≡ map (λ (one : Aired). bytes_of (plan ∷ plans o past) one) (sent o past ++ []) =
      append-nil (said o before) ∙ b.said ∙ sym (bytes-stay (plan ∷ plans o past) (plans o past) (sent o past) (w.carried_alike o events plan b.world))
      ∙ ap (λ (list : List Aired). map (λ (one : Aired). bytes_of (plan ∷ plans o past) one) list) (sym (append-nil (sent o past))) in
      stands-more o (Installs plan ∷ before) events (Install plan) b.world stands.kept
      (subst (λ (all : List Plan). (newest_of all).0 < plan.edition.0) b.plans may.0, may.1)
      (record {
        satellite = b.satellite;
        terminals = b.terminals;
        said = none;
        plans = ap (λ (all : List Plan). plan ∷ all) b.plans;
        centre = b.centre;
        few = stands.few;
      })

  pub restarts-with : (o : Opening) (before : List Step) (events : List Event) → IsSound o.net → AreStored o (log o events) → Stands o before events
      → MayStep o before (Restarts true) → Stands o (Restarts true ∷ before) (RestartCentre true ∷ events)
  restarts-with o before events sound stored stands may =
      let b = stands.behind in
      let past = log o events in
      let is = w.centre_said o events sound b.world stored in
      let next : (centre_after o before).wanted ≡ wanted past = ap (λ (t : State). t.wanted) b.centre ∙ is.wanted in
      stands-more o (Restarts true ∷ before) events (RestartCentre true) b.world stands.kept
      (subst (λ (x : Option Order). IsSome x) next may)
      (record {
        satellite = b.satellite;
        terminals = b.terminals;
        said = said-more o before (Restarts true) past [] b.said refl;
        plans = b.plans;
        centre = ap (λ (t : State). beginning (terminals o) (plans_after o before) (with_wanted t.wanted t.orders)) b.centre
            ∙ ap (λ (all : List Plan). beginning (terminals o) all (with_wanted (centre o past).wanted (centre o past).orders)) b.plans;
        few = wanted-one (wanted past) (orders o past) (order_count o before) stands.few;
      })

  pub restarts-without : (o : Opening) (before : List Step) (events : List Event) → Stands o before events → Stands o (Restarts false ∷ before) (RestartCentre false ∷ events)
  restarts-without o before events stands =
      let b = stands.behind in
      let past = log o events in
      stands-more o (Restarts false ∷ before) events (RestartCentre false) b.world stands.kept tt
      (record {
        satellite = b.satellite;
        terminals = b.terminals;
        said = said-more o before (Restarts false) past [] b.said refl;
        plans = b.plans;
        centre = ap (λ (t : State). beginning (terminals o) (plans_after o before) t.orders) b.centre
            ∙ ap (λ (all : List Plan). beginning (terminals o) all (centre o past).orders) b.plans;
        few = stands.few;
      })

  pub standby-starts : (o : Opening) (before : List Step) (events : List Event) → Stands o before events → Stands o (StandbyStarts ∷ before) events
  standby-starts o before events stands =
      let b = stands.behind in
      record {
        behind = record { world = b.world; satellite = b.satellite; terminals = b.terminals; said = append-nil (said o before) ∙ b.said; plans = b.plans; centre = b.centre };
        few = stands.few;
        kept = tt;
      }

  pub standby-hearing : (o : Opening) (before : List Step) (events : List Event) (m : Mark) (bytes : List ℕ) → Stands o before events → Found (plans o (log o events)) (sent o (log o events)) bytes
      → Stands o (StandbyHears m bytes ∷ before) events
  standby-hearing o before events m bytes stands f =
      let b = stands.behind in
      let past = log o events in
      record {
        behind = record { world = b.world; satellite = b.satellite; terminals = b.terminals; said = append-nil (said o before) ∙ b.said; plans = b.plans; centre = b.centre };
        few = stands.few;
        kept = subst (λ (r : Option Message). WasSent (standby_with (standby_after before) m r) (sent o past)) (sym f.reads)
            (kept-hears (sent o past) f.number (plans o past) f.one (standby_after before) m f.found stands.kept);
      }

  pub seconds : (o : Opening) (before : List Step) (events : List Event) (m : Mark) → Stands o before events → MayStep o before (Seconds m)
      → Stands o (Seconds m ∷ before) (Second (named (standby_after before) m) ∷ events)
  seconds o before events m stands may =
      let b = stands.behind in
      let past = log o events in
      let in_force = named (standby_after before) m in
      let marked = now-behind o before past m w.on_mark b.satellite may in
      let meets : Meets o past (Second in_force) =
      subst (λ (k : Mark). IfSome in_force (λ (edition : EditionNo). is_told (sent o past) k.0 edition ≡ true)) marked (named-told (sent o past) (standby_after before) m stands.kept) in
      stands-more o (Seconds m ∷ before) events (Second in_force) b.world stands.kept meets
      (subst (λ (h : Happening). Follows o (Seconds m ∷ before) (h ∷ past)) (sym (w.second_said o past in_force meets))
      (record {
        satellite = b.satellite;
        terminals = b.terminals;
        said = said-more o before (Seconds m) past (sends.Reference (record { 0 = mark o past }) in_force None ∷ []) b.said
            (ap (λ (k : Mark). bytes_of [] (sends.Reference k in_force None) ∷ []) marked);
        plans = b.plans;
        centre = b.centre;
        few = stands.few;
      }))

-- Each run of sites has a world behind it.
use Rattle.std.proofs.Common.{true, false, List, [], ◌∷◌, length, refl}
use Rattle.bt_net.specs.Network.{IsSound}
use Rattle.bt_air.specs.declared.sent.Place.TheVariants.{Satellite, Centre, Terminal}
use Rattle.bt_machines.specs.Standby.{named}
use Rattle.bt_site.specs.Event.{Opening, Event, Tick, Turn, Ordered, Deliver, Second, ResetTerminal, RestartCentre, Install}
use Rattle.bt_site.specs.Fits.{AreStored}
use Rattle.bt_site.specs.World.{log}
use Rattle.bt_sites.specs.Behind.{HasWorldBehind}
use Rattle.bt_sites.specs.Fits.{AreSites, AreSmall, MayStep}
use Rattle.bt_sites.specs.Sites.{standby_after}
use Rattle.bt_sites.specs.Step.{Step, Begins, SatelliteHears, Starts, TerminalHears, CentreHears, Turns, Places, Installs, Restarts, StandbyStarts, StandbyHears, Seconds}
use Rattle.bt_sites.proofs.Follows.{HasStand, Stands}
use Rattle.bt_sites.proofs.Small.{none-more, small-before, stored-behind}
use Rattle.bt_sites.proofs.Cited.{Cited}
use Rattle.bt_sites.proofs.Events.{begins, centre-hearing, found, installs, now-behind, places, restarts-with, restarts-without, satellite-hearing, seconds, standby-hearing, standby-starts, starts, terminal-hearing, turns}

-- by what is said of worlds
module _ (w : Cited) where
  -- one step more
  step-stands : (o : Opening) (before : List Step) (step : Step) (events : List Event) → IsSound o.net → AreStored o (log o events) → Stands o before events → MayStep o before step → HasStand o (step ∷ before)
  step-stands o before Begins events sound stored stands may = record { events = Tick ∷ events; stands = begins w o before events stands may }
  step-stands o before (SatelliteHears bytes) events sound stored stands may =
      let f = found w o before events bytes sound stored stands may in
      record { events = Deliver f.number Satellite ∷ events; stands = satellite-hearing w o before events bytes stands f }
  step-stands o before (Starts number) events sound stored stands may = record { events = ResetTerminal number ∷ events; stands = starts w o before events number stands may }
  step-stands o before (TerminalHears number m bytes) events sound stored stands may =
      let f = found w o before events bytes sound stored stands may.2 in
      record {
        events = Deliver f.number (Terminal number) ∷ events;
        stands = terminal-hearing w o before events number m bytes stands may.0 (now-behind o before (log o events) m w.on_mark stands.behind.satellite may.1) f;
      }
  step-stands o before (CentreHears m bytes) events sound stored stands may =
      let f = found w o before events bytes sound stored stands may.1 in
      record {
        events = Deliver f.number Centre ∷ events;
        stands = centre-hearing w o before events m bytes stands (now-behind o before (log o events) m w.on_mark stands.behind.satellite may.0) f;
      }
  step-stands o before (Turns m target) events sound stored stands may = record { events = Turn target ∷ events; stands = turns w o before events m target sound stored stands may }
  step-stands o before Places events sound stored stands may = record { events = Ordered ∷ events; stands = places w o before events sound stored stands may }
  step-stands o before (Installs plan) events sound stored stands may = record { events = Install plan ∷ events; stands = installs w o before events plan stands may }
  step-stands o before (Restarts true) events sound stored stands may = record { events = RestartCentre true ∷ events; stands = restarts-with w o before events sound stored stands may }
  step-stands o before StandbyStarts events sound stored stands may = record { events = events; stands = standby-starts w o before events stands }
  step-stands o before (StandbyHears m bytes) events sound stored stands may =
      record { events = events; stands = standby-hearing w o before events m bytes stands (found w o before events bytes sound stored stands may.1) }
  step-stands o before (Seconds m) events sound stored stands may = record { events = Second (named (standby_after before) m) ∷ events; stands = seconds w o before events m stands may }
  step-stands o before (Restarts false) events sound stored stands may = record { events = RestartCentre false ∷ events; stands = restarts-without w o before events stands }

  all-stand : (o : Opening) (steps : List Step) → IsSound o.net → AreSites o steps → AreSmall o steps → HasStand o steps
  all-stand o [] sound opening small = record {
    events = [];
    stands = record {
      behind = record { world = opening; satellite = refl; terminals = λ number. refl; said = refl; plans = refl; centre = refl };
      few = none-more (length o.orders);
      kept = tt;
    };
  }
  all-stand o (step ∷ before) sound sites small =
      let earlier = small-before o before step small in
      let h = all-stand o before sound sites.1 earlier in
      step-stands o before step h.events sound (stored-behind o before (log o h.events) earlier h.stands.behind.plans h.stands.few) h.stands sites.0

  pub world-behind : (o : Opening) (steps : List Step) → IsSound o.net → AreSites o steps → AreSmall o steps → HasWorldBehind o steps
  world-behind o steps sound sites small =
      let h = all-stand o steps sound sites small in record { events = h.events; behind = h.stands.behind }

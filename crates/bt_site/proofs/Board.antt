-- A frame is safe through the switch that is on board.
use Rattle.std.proofs.Common.{◌≡◌, ℕ, List, AllPairs, sym, ◌∙◌, ap, subst}
use Rattle.bt_frame.specs.declared.mode.Mode.{Mode}
use Rattle.bt_frame.specs.declared.numbers.EditionNo.{EditionNo}
use Rattle.bt_net.specs.Network.{Net}
use Rattle.bt_demand.specs.declared.burst.Burst.{Burst}
use Rattle.bt_demand.specs.Apart.{AreApart}
use Rattle.bt_demand.specs.Plan.{Meet, all_triples}
use Rattle.bt_air.specs.Orders.{fore_at}
use Rattle.bt_machines.specs.Orders.{StandsFor}
use Rattle.bt_site.specs.Air.{IsAir, IsSafe, fore}
use Rattle.bt_site.specs.Event.{Opening, Event, Happening}
use Rattle.bt_site.specs.Fits.{IsWorld}
use Rattle.bt_site.specs.Satellite.{satellite}
use Rattle.bt_site.specs.World.{mark, plans, accepted, log}
use Rattle.bt_machines.specs.Plans.{plan_of, modes_of}
use Rattle.bt_site.proofs.Banks.{banks-hold}
use Rattle.bt_site.proofs.Frames.{frame-safe}
use Rattle.bt_site.proofs.WorldPlans.{flies-each}

module _
    (triples : (net : Net) (bursts : List Burst) → AreApart net bursts → AllPairs (λ a b. ¬ (Meet net a b)) (all_triples bursts))
    (stands : (o : Opening) (past : List Happening) → StandsFor (accepted o past) (satellite o past))
    (on_mark : (o : Opening) (past : List Happening) → (satellite o past).mark.0 ≡ mark o past)
  where
    -- the modes in front on board are those of the plan in front
    modes-in-front : (o : Opening) (events : List Event) → IsWorld o events
        → (satellite o (log o events)).fore.modes ≡ modes_of (plan_of (plans o (log o events)) (fore o (log o events)))
    modes-in-front o events world =
        let past = log o events in
        (banks-hold o events world).fore
        ∙ ap (λ (edition : EditionNo). modes_of (plan_of (plans o past) edition)) ((stands o past).fore ∙ ap (λ (n : ℕ). fore_at (accepted o past) n) (on_mark o past))

    pub safe-on-board : (o : Opening) (events : List Event) (bursts : List Burst) → IsWorld o events → IsAir o (log o events) bursts
        → IsSafe o.net (satellite o (log o events)).fore.modes bursts
    safe-on-board o events bursts world air =
        subst (λ (modes : List Mode). IsSafe o.net modes bursts) (sym (modes-in-front o events world))
        (frame-safe triples o events bursts (flies-each o events world) air)

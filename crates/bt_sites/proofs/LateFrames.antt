-- A superframe of late sites is safe.
use Rattle.std.proofs.Common.{◌≡◌, ◌⊎◌, inl, inr, ℕ, List, [], ◌∷◌, ◌++◌, All, Option, IfSome, refl, sym, ◌∙◌, ap, subst}
use Rattle.std.specs.Prelude.{IsSome}
use Rattle.std.specs.List.{flat_map}
use Rattle.std.specs.List.Sorted.{IsPermutation}
use Rattle.bt_frame.specs.declared.mode.Mode.{Mode}
use Rattle.bt_frame.specs.declared.numbers.EditionNo.{EditionNo}
use Rattle.bt_frame.specs.declared.numbers.TermNo.{TermNo}
use Rattle.bt_net.specs.Network.{IsSound}
use Rattle.bt_demand.specs.declared.burst.Burst.{Burst}
use Rattle.bt_demand.specs.declared.plan.Plan.{Plan}
use Rattle.bt_demand.specs.Flyable.{IsFlyable}
use Rattle.bt_sites.specs.Step.{Satellite, Centre, Terminal, Step}
use Rattle.bt_air.specs.Orders.{fore_at}
use Rattle.bt_air.specs.Range.{IsWord}
use Rattle.bt_machines.specs.declared.mode_bank.Bank.{Bank}
use Rattle.bt_machines.specs.Orders.{StandsFor}
use Rattle.bt_machines.specs.Satellite.{State as Onboard}
use Rattle.bt_machines.specs.Terminal.{State as Ground, transmitted}
use Rattle.bt_machines.specs.Plans.{IsStored, bursts_for, modes_of, plan_of}
use Rattle.bt_site.specs.Air.{AreOfPlan, IsSafe, fore, transmits}
use Rattle.bt_site.specs.Event.{Opening, Event, Happening}
use Rattle.bt_site.specs.Ground.{terminal}
use Rattle.bt_site.specs.Satellite.{satellite}
use Rattle.bt_site.specs.World.{accepted, log, mark, plans, terminals}
use Rattle.bt_site.proofs.Banks.{world-banked}
use Rattle.bt_site.proofs.WorldPlans.{flies-each, plan-holds, plans-flyable}
use Rattle.bt_sites.specs.Behind.{HasWorldBehind}
use Rattle.bt_sites.specs.Fits.{AreSites, AreSmall}
use Rattle.bt_sites.specs.Late.{AreLate, AreOnAir, IsMoment, Late, TransmitsIn, now_of, steps_of}
use Rattle.bt_sites.specs.Sites.{plans_after, satellite_after, terminal_after}
use Rattle.bt_sites.proofs.Moments.{Before, Behind, Goes, Moment, goes}
use Rattle.bt_sites.proofs.Onward.{front-onward, plan-onward, sites-behind, small-behind}
use Rattle.bt_sites.proofs.Ordered.{late-timed}

-- what is in front at two ends of one superframe
front-same : (o : Opening) (a b c d : List Step) → now_of o b ≡ now_of o d → Goes a b c d → (satellite_after o b).fore ≡ (satellite_after o d).fore
front-same o a b c d same (Before k e) =
    let whole = ap (λ (list : List Step). now_of o list) e in
    sym (ap (λ (list : List Step). (satellite_after o list).fore) e ∙ front-onward o k b (sym whole ∙ sym same))
front-same o a b c d same (Behind x k e f) =
    let whole = ap (λ (list : List Step). now_of o list) e in
    ap (λ (list : List Step). (satellite_after o list).fore) e ∙ front-onward o (x ∷ k) d (sym whole ∙ same)

-- by what is said of a world, and by the world behind each run of sites
module _
    (of_plan_safe : (o : Opening) (plan : Option Plan) (sends : TermNo → List Burst) (bursts : List Burst) → IfSome plan (IsFlyable o.net)
    → AreOfPlan plan sends → IsPermutation (flat_map sends (terminals o)) bursts → IsSafe o.net (modes_of plan) bursts)
    (stands : (o : Opening) (past : List Happening) → StandsFor (accepted o past) (satellite o past))
    (on_mark : (o : Opening) (past : List Happening) → (satellite o past).mark.0 ≡ mark o past)
    (on_air : (o : Opening) (events : List Event) (number : TermNo) → transmitted (terminal o (log o events) number) (record { 0 = mark o (log o events) }) ≡ transmits o (log o events) number)
    (own : (o : Opening) (events : List Event) (number : TermNo) → (transmits o (log o events) number ≡ [])
    ⊎ (transmits o (log o events) number ≡ bursts_for number (plan_of (plans o (log o events)) (fore o (log o events)))))
    (behind : (o : Opening) (steps : List Step) → IsSound o.net → AreSites o steps → AreSmall o steps → HasWorldBehind o steps)
  where
    -- the plan in front after some steps
    front-some : (o : Opening) (steps : List Step) → HasWorldBehind o steps → IsSome (plan_of (plans_after o steps) (satellite_after o steps).fore.edition)
    front-some o steps has =
        let b = has.behind in
        subst (λ (all : List Plan). IsSome (plan_of all (satellite_after o steps).fore.edition)) (sym b.plans)
        (subst (λ (s : Onboard). IsSome (plan_of (plans o (log o has.events)) s.fore.edition)) (sym b.satellite) (world-banked o has.events b.world).fore)

    front-modes : (o : Opening) (steps : List Step) → HasWorldBehind o steps → (satellite_after o steps).fore.modes ≡ modes_of (plan_of (plans_after o steps) (satellite_after o steps).fore.edition)
    front-modes o steps has =
        let b = has.behind in
        subst (λ (all : List Plan). (satellite_after o steps).fore.modes ≡ modes_of (plan_of all (satellite_after o steps).fore.edition)) (sym b.plans)
        (subst (λ (s : Onboard). s.fore.modes ≡ modes_of (plan_of (plans o (log o has.events)) s.fore.edition)) (sym b.satellite) (world-banked o has.events b.world).hold.fore)

    -- what a terminal transmits after some steps, in the superframe of the satellite
    own-after : (o : Opening) (steps : List Step) (number : TermNo) → HasWorldBehind o steps
        → (transmitted (terminal_after number steps) (record { 0 = now_of o steps }) ≡ [])
        ⊎ (transmitted (terminal_after number steps) (record { 0 = now_of o steps }) ≡ bursts_for number (plan_of (plans_after o steps) (satellite_after o steps).fore.edition))
    own-after o steps number has =
        let b = has.behind in
        let past = log o has.events in
        let now : now_of o steps ≡ mark o past = ap (λ (s : Onboard). s.mark.0) b.satellite ∙ on_mark o past in
        let same : transmitted (terminal_after number steps) (record { 0 = now_of o steps }) ≡ transmits o past number =
        ap (λ (n : ℕ). transmitted (terminal_after number steps) (record { 0 = n })) now
        ∙ ap (λ (s : Ground). transmitted s (record { 0 = mark o past })) (b.terminals number) ∙ on_air o has.events number in
        let front : (satellite_after o steps).fore.edition ≡ fore o past =
        ap (λ (s : Onboard). s.fore.edition) b.satellite ∙ (stands o past).fore ∙ ap (λ (n : ℕ). fore_at (accepted o past) n) (on_mark o past) in
        elim (own o has.events number) [
          | inl none ↦ inl (same ∙ none)
          | inr all ↦ inr (same ∙ all ∙ ap (λ (list : List Plan). bursts_for number (plan_of list (fore o past))) (sym b.plans)
              ∙ ap (λ (edition : EditionNo). bursts_for number (plan_of (plans_after o steps) edition)) (sym front))
        ]

    -- at the end of a superframe of a longer run
    own-at : (o : Opening) (later earlier all board rest : List Step) (number : TermNo) → later ++ earlier ≡ all → rest ++ board ≡ all → now_of o earlier ≡ now_of o board → HasWorldBehind o earlier
        → (transmitted (terminal_after number earlier) (record { 0 = now_of o earlier }) ≡ [])
        ⊎ (transmitted (terminal_after number earlier) (record { 0 = now_of o earlier }) ≡ bursts_for number (plan_of (plans_after o all) (satellite_after o board).fore.edition))
    own-at o later earlier all board rest number is there now has =
        let front = ap (λ (b : Bank). b.edition) (front-same o later earlier rest board now (goes later earlier rest board (is ∙ sym there))) in
        let stays : plan_of (plans_after o all) (satellite_after o earlier).fore.edition ≡ plan_of (plans_after o earlier) (satellite_after o earlier).fore.edition =
        ap (λ (list : List Step). plan_of (plans_after o list) (satellite_after o earlier).fore.edition) (sym is) ∙ plan-onward o later earlier (satellite_after o earlier).fore.edition (front-some o earlier has) in
        elim (own-after o earlier number has) [
          | inl none ↦ inl none
          | inr own_all ↦ inr (own_all ∙ ap (λ (p : Option Plan). bursts_for number p) (sym stays)
              ∙ ap (λ (edition : EditionNo). bursts_for number (plan_of (plans_after o all) edition)) front)
        ]

    -- what a terminal transmits at a moment of its own
    own-here : (o : Opening) (late : List Late) (all : List Step) (now : ℕ) (number : TermNo) (board rest : List Step) → rest ++ board ≡ all → now_of o board ≡ now → (sent : List Burst)
        → (t : TransmitsIn o late now number sent) → Moment o all (Terminal number) now t.done → ((later earlier : List Step) → later ++ earlier ≡ all → HasWorldBehind o earlier)
        → (sent ≡ []) ⊎ (sent ≡ bursts_for number (plan_of (plans_after o all) (satellite_after o board).fore.edition))
    own-here o late all now number board rest there at sent t m world =
        let same : sent ≡ transmitted (terminal_after number m.earlier) (record { 0 = now_of o m.earlier }) =
        t.is ∙ ap (λ (s : Ground). transmitted s (record { 0 = now })) (sym m.same) ∙ ap (λ (n : ℕ). transmitted (terminal_after number m.earlier) (record { 0 = n })) (sym m.at) in
        elim (own-at o m.later m.earlier all board rest number m.is there (m.at ∙ sym at) (world m.later m.earlier m.is)) [
          | inl none ↦ inl (same ∙ none)
          | inr own_all ↦ inr (same ∙ own_all)
        ]

    pub late-safe : (o : Opening) (late board : List Late) (now : ℕ) (sends : TermNo → List Burst) (bursts : List Burst) → IsSound o.net → AreLate o late → AreSmall o (steps_of late)
        → IsMoment o late Satellite now board → AreOnAir o late now sends → IsPermutation (flat_map sends (terminals o)) bursts → IsSafe o.net (satellite_after o (steps_of board)).fore.modes bursts
    late-safe o late board now sends bursts sound are small at_board on_the_air of_all =
        let has = late-timed o late are in
        let all = has.steps in
        let order = has.timed.order in
        let all_small : AreSmall o all = record {
          plans = subst (λ (list : List Plan). All IsStored list) (sym ((order.same Centre).1)) small.plans;
          orders = subst (λ (n : ℕ). IsWord n) (sym order.count) small.orders;
        } in
        let at = has.timed.moments Satellite now board at_board in
        let world : (later earlier : List Step) → later ++ earlier ≡ all → HasWorldBehind o earlier
        = λ later earlier is. behind o earlier sound (sites-behind o later earlier (subst (λ (list : List Step). AreSites o list) (sym is) order.sites))
        (small-behind o later earlier (subst (λ (list : List Step). AreSmall o list) (sym is) all_small)) in
        let here = world at.later at.earlier at.is in
        let edition = (satellite_after o at.earlier).fore.edition in
        let front = plan_of (plans_after o all) edition in
        let stays : front ≡ plan_of (plans_after o at.earlier) edition =
        ap (λ (list : List Step). plan_of (plans_after o list) edition) (sym at.is) ∙ plan-onward o at.later at.earlier edition (front-some o at.earlier here) in
        let whole = world [] all refl in
        let flies : IfSome front (IsFlyable o.net) =
        plan-holds (IsFlyable o.net) (plans_after o all) edition
        (subst (λ (list : List Plan). All (IsFlyable o.net) list) (sym whole.behind.plans) (plans-flyable o whole.events (flies-each o whole.events whole.behind.world))) in
        let each : AreOfPlan front sends
        = λ number. elim (on_the_air number) [
          | inl none ↦ inl none
          | inr transmits_in ↦ own-here o late all now number at.earlier at.later at.is at.at (sends number) transmits_in
              (has.timed.moments (Terminal number) now transmits_in.done transmits_in.moment) world
        ] in
        subst (λ (modes : List Mode). IsSafe o.net modes bursts)
        (ap modes_of stays ∙ sym (front-modes o at.earlier here) ∙ ap (λ (s : Onboard). s.fore.modes) at.same)
        (of_plan_safe o front sends bursts flies each of_all)

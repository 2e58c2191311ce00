-- A frame of sites is safe.
use Rattle.std.proofs.Common.{◌≡◌, List, [], ◌∷◌, ◌++◌, refl, sym, ◌∙◌, ap, subst}
use Rattle.std.specs.List.{flat_map}
use Rattle.std.specs.List.Sorted.{IsPermutation}
use Rattle.bt_frame.specs.declared.numbers.Mark.{Mark}
use Rattle.bt_frame.specs.declared.numbers.TermNo.{TermNo}
use Rattle.bt_demand.specs.declared.burst.Burst.{Burst}
use Rattle.bt_machines.specs.Satellite.{State as Onboard}
use Rattle.bt_machines.specs.Terminal.{State as Ground, transmitted}
use Rattle.bt_site.specs.Air.{IsAir, IsSafe, transmits}
use Rattle.bt_site.specs.Event.{Opening, Event, Happening}
use Rattle.bt_site.specs.Fits.{IsWorld}
use Rattle.bt_site.specs.Ground.{terminal}
use Rattle.bt_site.specs.Satellite.{satellite}
use Rattle.bt_site.specs.World.{log, mark, terminals}
use Rattle.bt_sites.specs.Behind.{HasWorldBehind, IsAirOf, sends_now}
use Rattle.bt_sites.specs.Sites.{satellite_after, terminal_after}
use Rattle.bt_sites.specs.Step.{Step}
use Rattle.bt_sites.proofs.Turned.{same-mark}

same-flat : (f g : TermNo → List Burst) (list : List TermNo) → ((number : TermNo) → f number ≡ g number) → flat_map f list ≡ flat_map g list
same-flat f g [] same = refl
same-flat f g (x ∷ xs) same =
    ap (λ (bursts : List Burst). bursts ++ flat_map f xs) (same x) ∙ ap (λ (bursts : List Burst). g x ++ bursts) (same-flat f g xs same)

pub sites-safe : ((o : Opening) (past : List Happening) → (satellite o past).mark.0 ≡ mark o past)
    → ((o : Opening) (events : List Event) (number : TermNo) → transmitted (terminal o (log o events) number) (record { 0 = mark o (log o events) }) ≡ transmits o (log o events) number)
    → ((o : Opening) (events : List Event) (bursts : List Burst) → IsWorld o events → IsAir o (log o events) bursts → IsSafe o.net (satellite o (log o events)).fore.modes bursts)
    → (o : Opening) (steps : List Step) (bursts : List Burst) → HasWorldBehind o steps → IsAirOf o steps bursts → IsSafe o.net (satellite_after o steps).fore.modes bursts
sites-safe on_mark on_air on_board o steps bursts has air =
    let past = log o has.events in
    let b = has.behind in
    let marked : (satellite_after o steps).mark ≡ record { 0 = mark o past } = same-mark (satellite_after o steps).mark (mark o past) (ap (λ (s : Onboard). s.mark.0) b.satellite ∙ on_mark o past) in
    let same : (number : TermNo) → sends_now o steps number ≡ transmits o past number
    = λ number. ap (λ (m : Mark). transmitted (terminal_after number steps) m) marked
    ∙ ap (λ (s : Ground). transmitted s (record { 0 = mark o past })) (b.terminals number) ∙ on_air o has.events number in
    let whole = same-flat (λ (number : TermNo). sends_now o steps number) (λ (number : TermNo). transmits o past number) (terminals o) same in
    subst (λ (s : Onboard). IsSafe o.net s.fore.modes bursts) (sym b.satellite)
    (on_board o has.events bursts b.world
    (record { ordered = air.ordered; of_all = subst (λ (list : List Burst). IsPermutation list bursts) whole air.of_all }))

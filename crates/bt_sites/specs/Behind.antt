-- The world behind a run of sites.
use Rattle.std.specs.Prelude.{◌≡◌, List, map, AllPairs}
use Rattle.std.specs.List.{flat_map}
use Rattle.std.specs.List.Sorted.{IsPermutation}
use Rattle.bt_frame.specs.declared.numbers.TermNo.{TermNo}
use Rattle.bt_demand.specs.declared.burst.Burst.{Burst}
use Rattle.bt_demand.specs.Burst.{IsNotAfter}
use Rattle.bt_air.specs.declared.sent.Aired.{Aired}
use Rattle.bt_machines.specs.Terminal.{transmitted}
use Rattle.bt_site.specs.Centre.{centre}
use Rattle.bt_site.specs.Event.{Opening, Event}
use Rattle.bt_site.specs.Fits.{IsWorld}
use Rattle.bt_site.specs.Ground.{terminal}
use Rattle.bt_site.specs.Satellite.{satellite}
use Rattle.bt_site.specs.World.{log, plans, sent, terminals}
use Rattle.bt_sites.specs.Fits.{AreSites}
use Rattle.bt_sites.specs.Step.{Step}
use Rattle.bt_sites.specs.Sites.{bytes_of, centre_after, plans_after, said, satellite_after, terminal_after}

-- the events of a world in which each site is what it is after its own steps, and the same was said
pub record IsWorldBehind (o : Opening) (steps : List Step) (events : List Event) : Type 0 where
  pub world : IsWorld o events
  pub satellite : satellite_after o steps ≡ satellite o (log o events)
  pub terminals : (number : TermNo) → terminal_after number steps ≡ terminal o (log o events) number
  pub said : said o steps ≡ map (λ (one : Aired). bytes_of (plans o (log o events)) one) (sent o (log o events))
  pub plans : plans_after o steps ≡ plans o (log o events)
  pub centre : centre_after o steps ≡ centre o (log o events)

-- there is such a world
pub record HasWorldBehind (o : Opening) (steps : List Step) : Type 0 where
  pub events : List Event
  pub behind : IsWorldBehind o steps events

-- sites that do what happens in a world
pub record HasSites (o : Opening) (events : List Event) : Type 0 where
  pub steps : List Step
  pub sites : AreSites o steps
  pub behind : IsWorldBehind o steps events

-- what a terminal transmits in the present superframe
abbrev pub sends_now : Opening → List Step → TermNo → List Burst
sends_now o steps number = transmitted (terminal_after number steps) (satellite_after o steps).mark

-- the bursts of a frame of the present superframe: those of all terminals, in order
pub record IsAirOf (o : Opening) (steps : List Step) (bursts : List Burst) : Type 0 where
  pub ordered : AllPairs IsNotAfter bursts
  pub of_all : IsPermutation (flat_map (λ (number : TermNo). sends_now o steps number) (terminals o)) bursts

-- Sites of which each is as late as it likes: the superframe that it takes for the present one may have passed long ago.
use Rattle.std.specs.Prelude.{◌≡◌, ◌⊎◌, ℕ, ◌+◌, ◌<◌, ◌≤◌, true, false, List, [], ◌∷◌, ◌++◌, IsSome}
use Rattle.bt_frame.specs.declared.limits.TheConstants.{LAST_MARK}
use Rattle.bt_frame.specs.declared.numbers.TermNo.{TermNo}
use Rattle.bt_sites.specs.Step.{Site, Satellite, Centre, Terminal, Standby, Step, Begins, SatelliteHears, Starts, TerminalHears, CentreHears, Turns, Places, Installs, Restarts, StandbyStarts, StandbyHears, Seconds}
use Rattle.bt_demand.specs.declared.burst.Burst.{Burst}
use Rattle.bt_demand.specs.Flyable.{IsFlyable}
use Rattle.bt_machines.specs.Terminal.{transmitted}
use Rattle.bt_net.specs.Terminals.{IsTerminal}
use Rattle.bt_machines.specs.Plans.{newest_of, plan_of}
use Rattle.bt_site.specs.Event.{Opening}
use Rattle.bt_site.specs.Fits.{IsOpening}
use Rattle.bt_site.specs.World.{greatest_due}
use Rattle.bt_sites.specs.Fits.{AreSites, WasSaid, order_count}
use Rattle.bt_sites.specs.Sites.{centre_after, plans_after, said, said_with, satellite_after, standby_after, terminal_after}

-- A step, and the superframe that its site takes for the present one. Lists of them have the latest first, in the order in which
-- they were made.
pub record Late : Type 0 where
  pub mark : ℕ
  pub step : Step

-- whose step it is
abbrev pub site_of : Step → Site
site_of Begins = Satellite
site_of (SatelliteHears bytes) = Satellite
site_of (Starts number) = Terminal number
site_of (TerminalHears number mark bytes) = Terminal number
site_of (CentreHears mark bytes) = Centre
site_of (Turns mark target) = Centre
site_of Places = Centre
site_of (Installs plan) = Centre
site_of (Restarts kept) = Centre
site_of StandbyStarts = Standby
site_of (StandbyHears mark bytes) = Standby
site_of (Seconds mark) = Standby

-- the steps alone
abbrev pub steps_of : List Late → List Step
steps_of [] = []
steps_of (one ∷ before) = one.step ∷ steps_of before

-- the superframe in which the satellite is
abbrev pub now_of : Opening → List Step → ℕ
now_of o steps = (satellite_after o steps).mark.0

-- a site does not go back: no earlier step of its own was in a later superframe
abbrev pub IsForward : Site → ℕ → List Late → Type 0
IsForward site mark [] = Unit {0}
IsForward site mark (one ∷ before) = (site_of one.step ≡ site → one.mark ≤ mark) × IsForward site mark before

-- the bytes were said by a site for which this superframe, or one before it, was the present one
abbrev pub WasSaidBy : Opening → ℕ → List Late → List ℕ → Type 0
WasSaidBy o mark [] bytes = ⊥
WasSaidBy o mark (one ∷ before) bytes = WasSaidBy o mark before bytes ⊎ ((one.mark ≤ mark) × WasSaid (said_with o (steps_of before) one.step) bytes)

-- the superframe has begun on board
pub record HasBegun (o : Opening) (before : List Late) (mark : ℕ) : Type 0 where
  pub opened : greatest_due o.orders ≤ mark
  pub begun : mark ≤ now_of o (steps_of before)

-- what must hold of a step of each kind with the superframe of its site
abbrev pub MayBeLate : Opening → List Late → ℕ → Step → Type 0
MayBeLate o before mark Begins = (mark ≡ now_of o (steps_of before) + 1) × (now_of o (steps_of before) < LAST_MARK)
MayBeLate o before mark (SatelliteHears bytes) = (mark ≡ now_of o (steps_of before)) × WasSaidBy o mark before bytes
MayBeLate o before mark (Starts number) = HasBegun o before mark × IsTerminal o.net number
MayBeLate o before mark (TerminalHears number present bytes) = HasBegun o before mark × IsTerminal o.net number × (present.0 ≡ mark) × WasSaidBy o mark before bytes
MayBeLate o before mark (CentreHears present bytes) = HasBegun o before mark × (present.0 ≡ mark) × WasSaidBy o mark before bytes
MayBeLate o before mark (Turns present target) = HasBegun o before mark × (present.0 ≡ mark) × IsSome (plan_of (plans_after o (steps_of before)) target)
MayBeLate o before mark Places = HasBegun o before mark × IsSome (centre_after o (steps_of before)).wanted
MayBeLate o before mark (Installs plan) = HasBegun o before mark × ((newest_of (plans_after o (steps_of before))).0 < plan.edition.0) × IsFlyable o.net plan
MayBeLate o before mark (Restarts true) = HasBegun o before mark × IsSome (centre_after o (steps_of before)).wanted
MayBeLate o before mark (Restarts false) = HasBegun o before mark × Unit {0}
MayBeLate o before mark StandbyStarts = HasBegun o before mark × Unit {0}
MayBeLate o before mark (StandbyHears present bytes) = HasBegun o before mark × (present.0 ≡ mark) × WasSaidBy o mark before bytes
MayBeLate o before mark (Seconds present) = HasBegun o before mark × (present.0 ≡ mark)

-- a run of late sites
abbrev pub AreLate : Opening → List Late → Type 0
AreLate o [] = IsOpening o
AreLate o (one ∷ before) = IsForward (site_of one.step) one.mark before × MayBeLate o before one.mark one.step × AreLate o before

-- no step of the site was in an earlier superframe
abbrev pub IsFrom : Site → ℕ → List Late → Type 0
IsFrom site mark [] = Unit {0}
IsFrom site mark (one ∷ before) = (site_of one.step ≡ site → mark ≤ one.mark) × IsFrom site mark before

-- a moment of a run, with what was done up to it, at which a site may take this superframe for the present one
pub record IsMoment (o : Opening) (late : List Late) (site : Site) (mark : ℕ) (done : List Late) : Type 0 where
  pub later : List Late
  pub is : later ++ done ≡ late
  pub has : HasBegun o done mark
  pub forward : IsForward site mark done
  pub from : IsFrom site mark later

-- a terminal transmits this in a superframe: what it does at a moment at which that is the present one for it, or nothing
pub record TransmitsIn (o : Opening) (late : List Late) (mark : ℕ) (number : TermNo) (bursts : List Burst) : Type 0 where
  pub done : List Late
  pub moment : IsMoment o late (Terminal number) mark done
  pub is : bursts ≡ transmitted (terminal_after number (steps_of done)) (record { 0 = mark })

-- what each terminal transmits in a superframe
abbrev pub AreOnAir : Opening → List Late → ℕ → (TermNo → List Burst) → Type 0
AreOnAir o late mark sends = (number : TermNo) → (sends number ≡ []) ⊎ TransmitsIn o late mark number (sends number)

-- the same steps in another order are a run of sites that go by the present superframe, in which each site is what it was, and
-- all is said that was said
pub record HasOrder (o : Opening) (late : List Late) : Type 0 where
  pub steps : List Step
  pub sites : AreSites o steps
  pub satellite : satellite_after o steps ≡ satellite_after o (steps_of late)
  pub terminals : (number : TermNo) → terminal_after number steps ≡ terminal_after number (steps_of late)
  pub plans : plans_after o steps ≡ plans_after o (steps_of late)
  pub centre : centre_after o steps ≡ centre_after o (steps_of late)
  pub standby : standby_after steps ≡ standby_after (steps_of late)
  pub said : (bytes : List ℕ) → WasSaid (said o (steps_of late)) bytes → WasSaid (said o steps) bytes
  pub count : order_count o steps ≡ order_count o (steps_of late)

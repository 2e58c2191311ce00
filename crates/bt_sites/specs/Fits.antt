-- What must hold of each step of sites.
use Rattle.std.specs.Prelude.{◌≡◌, ◌⊎◌, ℕ, ◌+◌, ◌<◌, true, false, List, [], ◌∷◌, length, All, IsSome}
use Rattle.bt_frame.specs.declared.limits.TheConstants.{LAST_MARK}
use Rattle.bt_frame.specs.declared.numbers.Mark.{Mark}
use Rattle.bt_demand.specs.Flyable.{IsFlyable}
use Rattle.bt_air.specs.Range.{IsWord}
use Rattle.bt_net.specs.Terminals.{IsTerminal}
use Rattle.bt_machines.specs.Plans.{IsStored, newest_of, plan_of}
use Rattle.bt_site.specs.Event.{Opening}
use Rattle.bt_site.specs.Fits.{IsOpening}
use Rattle.bt_sites.specs.Step.{Step, Begins, SatelliteHears, Starts, TerminalHears, CentreHears, Turns, Places, Installs, Restarts, StandbyStarts, StandbyHears, Seconds}
use Rattle.bt_sites.specs.Sites.{centre_after, plans_after, said, satellite_after}

-- these bytes are among those that were said
abbrev pub WasSaid : List (List ℕ) → List ℕ → Type 0
WasSaid [] bytes = ⊥
WasSaid (one ∷ others) bytes = (bytes ≡ one) ⊎ WasSaid others bytes

-- a superframe is the present one: that of the satellite
abbrev pub IsNow : Opening → List Step → Mark → Type 0
IsNow o before mark = mark ≡ (satellite_after o before).mark

-- what must hold of a step of each kind: what is heard was said, and a site goes by the present superframe
abbrev pub MayStep : Opening → List Step → Step → Type 0
MayStep o before Begins = (satellite_after o before).mark.0 < LAST_MARK
MayStep o before (SatelliteHears bytes) = WasSaid (said o before) bytes
MayStep o before (Starts number) = IsTerminal o.net number
MayStep o before (TerminalHears number mark bytes) = IsTerminal o.net number × IsNow o before mark × WasSaid (said o before) bytes
MayStep o before (CentreHears mark bytes) = IsNow o before mark × WasSaid (said o before) bytes
MayStep o before (Turns mark target) = IsNow o before mark × IsSome (plan_of (plans_after o before) target)
MayStep o before Places = IsSome (centre_after o before).wanted
MayStep o before (Installs plan) = ((newest_of (plans_after o before)).0 < plan.edition.0) × IsFlyable o.net plan
MayStep o before (Restarts true) = IsSome (centre_after o before).wanted
MayStep o before (Restarts false) = Unit {0}
MayStep o before StandbyStarts = Unit {0}
MayStep o before (StandbyHears mark bytes) = IsNow o before mark × WasSaid (said o before) bytes
MayStep o before (Seconds mark) = IsNow o before mark

-- a run of sites: an opening, and steps of which each meets what must hold of it
abbrev pub AreSites : Opening → List Step → Type 0
AreSites o [] = IsOpening o
AreSites o (step ∷ before) = MayStep o before step × AreSites o before

-- how many orders were placed
abbrev pub order_count : Opening → List Step → ℕ
order_count o [] = length o.orders
order_count o (Places ∷ before) = order_count o before + 1
order_count o (Restarts true ∷ before) = order_count o before + 1
order_count o (_ ∷ before) = order_count o before

-- no number is too great for the messages: the plans are stored ones, and the orders fit four bytes
pub record AreSmall (o : Opening) (steps : List Step) : Type 0 where
  pub plans : All IsStored (plans_after o steps)
  pub orders : IsWord (order_count o steps)

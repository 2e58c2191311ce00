-- The sites of the system, processes of their own, and what a site does.
use Rattle.std.specs.Prelude.{ℕ, Bool, List}
use Rattle.bt_frame.specs.declared.numbers.EditionNo.{EditionNo}
use Rattle.bt_frame.specs.declared.numbers.Mark.{Mark}
use Rattle.bt_frame.specs.declared.numbers.TermNo.{TermNo}
use Rattle.bt_demand.specs.declared.plan.Plan.{Plan}

-- a site: the satellite, the centre, a terminal, or the standby, which sends the second reference burst
pub data Site : Type 0 where
  Satellite : Site
  Centre : Site
  Terminal : TermNo → Site
  Standby : Site

-- One step of one site, with what comes to it from outside: the bytes that it hears, and where it goes by a superframe,
-- the superframe that it takes for the present one.
pub data Step : Type 0 where
  Begins : Step
  SatelliteHears : List ℕ → Step
  Starts : TermNo → Step
  TerminalHears : TermNo → Mark → List ℕ → Step
  CentreHears : Mark → List ℕ → Step
  Turns : Mark → EditionNo → Step
  Places : Step
  Installs : Plan → Step
  Restarts : Bool → Step
  StandbyStarts : Step
  StandbyHears : Mark → List ℕ → Step
  Seconds : Mark → Step

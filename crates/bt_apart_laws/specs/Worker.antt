-- The turn of the centre's worker (`bt_round`), alone in its round, as deeds of its process.
use Rattle.std.specs.Prelude.{◌≡◌, List, ◌++◌}
use Rattle.bt_round.specs.AirLines.{AirState}
use Rattle.bt_round.specs.declared.worker.CentreOver.TheVariants.{Apart}
use Rattle.bt_apart_laws.specs.Premises.{AreProcesses}
use Rattle.bt_apart_laws.specs.Processes.{Deed, Start, centre_by}

-- there are deeds behind these by which the centre is so
pub record ComesByDeeds (s : Start) (before : List Deed) (after : AirState) : Type 0 where
  pub deeds : List Deed
  pub are : AreProcesses s (deeds ++ before)
  pub stands : after ≡ Apart (centre_by s (deeds ++ before))

-- A world whose messages can be spelled.
use Rattle.std.specs.Prelude.{◌≤◌, List, length}
use Rattle.bt_frame.specs.declared.limits.TheConstants.{LAST_MESSAGE}
use Rattle.bt_air.specs.declared.event.Event.{Event}
use Rattle.bt_site.specs.Event.{Opening}
use Rattle.bt_site.specs.Fits.{AreStored, IsWorld}
use Rattle.bt_site.specs.World.{log, sent}

-- a world, the latest event first, in which each plan is a stored one, and four bytes count the orders and number the messages
pub record IsSpelledWorld (opening : Opening) (events : List Event) : Type 0 where
  pub world : IsWorld opening events
  pub stored : AreStored opening (log opening events)
  pub few : length (sent opening (log opening events)) ≤ LAST_MESSAGE

use Rattle.bt_history.proofs.Occupied.{heaviest-kept}
use Rattle.bt_history.proofs.occupancy.Occupancy.length.Goals as goal

-- by the first line that has it
pub returns : goal.returns
returns c = record { heaviest = heaviest-kept c.self.inside.matrix.rows _ _ _ _ c.self.view_is c.self.invariant.0 c.self.invariant.3.1 }

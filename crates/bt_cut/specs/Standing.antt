-- What holds of the demand and its matrix between two attempts.
use Rattle.std.specs.Prelude.{◌≡◌}
use Rattle.bt_net.specs.Network.{Net}
use Rattle.bt_demand.specs.Traffic.{matrix_of, AreOfNetwork, HasSumsTo}
use Rattle.bt_cut.specs.declared.made.Made.{Made}

-- the demand is one on the network, it fits the frame, and the matrix is its matrix
pub record Stands (net : Net) (made : Made) : Type 0 where
  pub terminals : AreOfNetwork net made.demand
  pub fits : HasSumsTo net.slots (matrix_of net made.demand)
  pub matrix : made.matrix ≡ matrix_of net made.demand

use Rattle.std.proofs.Common.{ℕ, ◌<◌, length}
use Rattle.bt_demand.specs.Short.{CarriesBelow}
use Rattle.bt_demand.proofs.shortages.first_short.Given as goal

-- the connections from the uplink beams so far get the slots that they want
abbrev pub invariant-loop-up : goal.invariant-loop-up
invariant-loop-up g l = (up : ℕ) → up < l.up → CarriesBelow (g.M.Rows.rows l.matrix) l.schedule up (length (g.M.Rows.rows l.matrix))

-- and so do those from this one to the downlink beams so far
abbrev pub invariant-loop-down : goal.invariant-loop-down
invariant-loop-down g l = CarriesBelow (g.M.Rows.rows l.matrix) l.schedule l.up l.down

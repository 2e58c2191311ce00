use Rattle.std.proofs.Common.{◌∙◌, sym, arith}
use Rattle.bt_demand.proofs.BySender.{units_past, units_read_in}
use Rattle.bt_demand.proofs.demand.Demand.units.Goals as goal

-- by the row of the sender
pub returns-then-place-len : goal.returns-then-place-len
returns-then-place-len c =
    let read = units_read_in c.self.inside.rows.items c.args.self.now c.from-place.result c.args.from c.args.to c.index.result.now c.self.view_is c.self.invariant
    (record { place_is = c.from-place.ensures; within = omega arith; row_is = c.index.ensures }) in
    record { units = c.units.ensures.units ∙ read }

-- a terminal without a row sends nothing
pub returns-else-place-len : goal.returns-else-place-len
returns-else-place-len c =
    record { units = sym (units_past c.self.inside.rows.items c.args.self.now c.args.from c.args.to c.self.view_is c.self.invariant (omega (arith, c.from-place.ensures))) }

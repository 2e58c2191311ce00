use Rattle.std.proofs.Common.{sym}
use Rattle.bt_demand.proofs.Links.{units_read, units_of_gap}
use Rattle.bt_demand.proofs.row.LinkRow.units.Goals as goal

-- the link was read at its place
pub returns-in-Ok : goal.returns-in-Ok
returns-in-Ok c =
    record { units = rw (← c.self.view_is) (sym (units_read c.self.inside.links.items c.args.from c.args.to c.in-Ok.place c.index.result.now c.self.invariant (rw c.self.view_is c.in-Ok.ensures.found) c.index.ensures)) }

pub returns-in-Err : goal.returns-in-Err
returns-in-Err c = record { units = sym (units_of_gap _ _ _ _ c.in-Err.ensures.absent) }

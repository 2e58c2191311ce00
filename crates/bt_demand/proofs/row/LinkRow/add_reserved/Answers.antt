use Rattle.std.proofs.Common.{arith}
use Rattle.bt_demand.proofs.Links.{IsDemand-add, IsDemand-insert}
use Rattle.bt_demand.proofs.row.LinkRow.add_reserved.Goals as goal

-- the link was there, and gains
pub invariant_of-self : goal.invariant_of-self
invariant_of-self c =
    IsDemand-add c.self.inside.links.items c.args.self.now c.args.from c.args.to c.in-Ok.place c.args.units c.index_mut.result.now c.self.view_is c.self.invariant c.in-Ok.ensures.found c.index_mut.ensures.value c.requires.fits

pub returns-in-Ok-clause-demand : goal.returns-in-Ok-clause-demand
returns-in-Ok-clause-demand c =
    IsDemand-add c.self.inside.links.items c.args.self.now c.args.from c.args.to c.in-Ok.place c.args.units c.index_mut.result.now c.self.view_is c.self.invariant c.in-Ok.ensures.found c.index_mut.ensures.value c.requires.fits

-- the link is put into its gap
pub invariant_of-self-in-Err : goal.invariant_of-self-in-Err
invariant_of-self-in-Err c =
    rw c.insert_within.ensures.items (IsDemand-insert c.self.inside.links.items c.args.from c.args.to c.in-Err.place c.args.units c.self.invariant (rw c.self.view_is c.in-Err.ensures.absent) c.requires.differ c.requires.positive (omega (arith, c.requires.fits)))

pub returns-in-Err-clause-demand : goal.returns-in-Err-clause-demand
returns-in-Err-clause-demand c =
    rw c.insert_within.ensures.items (IsDemand-insert c.self.inside.links.items c.args.from c.args.to c.in-Err.place c.args.units c.self.invariant (rw c.self.view_is c.in-Err.ensures.absent) c.requires.differ c.requires.positive (omega (arith, c.requires.fits)))

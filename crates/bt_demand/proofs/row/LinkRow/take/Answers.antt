use Rattle.std.proofs.Common.{◌<◌, length, arith}
use Rattle.bt_demand.proofs.Links.{units_of_gap, IsDemand-remove, enough, taken}
use Rattle.bt_demand.proofs.row.LinkRow.take.Goals as goal

-- a link with slots is in the list
pub unreachable-requires : goal.unreachable-requires
unreachable-requires c = omega (arith, c.requires.held, units_of_gap c.args.self.now c.args.from c.args.to c.in_default.field-0 c.in_default.ensures.absent)

-- the link leaves
pub invariant_of-self : goal.invariant_of-self
invariant_of-self c =
    let inside : c.in-Ok.place < length c.self.inside.links.items = rw c.self.view_is c.in-Ok.ensures.found.in_range in
    rw c.remove.ensures.items (IsDemand-remove c.self.inside.links.items _ c.self.invariant (omega (arith, inside)))

pub returns-then-held-units-clause-demand : goal.returns-then-held-units-clause-demand
returns-then-held-units-clause-demand c =
    let inside : c.in-Ok.place < length c.self.inside.links.items = rw c.self.view_is c.in-Ok.ensures.found.in_range in
    rw c.remove.ensures.items (IsDemand-remove c.self.inside.links.items _ c.self.invariant (omega (arith, inside)))

-- the link keeps some slots
pub overflow_sub-held : goal.overflow_sub-held
overflow_sub-held c =
    enough c.self.inside.links.items c.args.self.now c.args.from c.args.to c.in-Ok.place c.args.units c.index.result.now c.self.view_is c.self.invariant c.in-Ok.ensures.found c.index.ensures c.requires.held

pub invariant_of-self-else-held-units : goal.invariant_of-self-else-held-units
invariant_of-self-else-held-units c =
    let fits = enough c.self.inside.links.items c.args.self.now c.args.from c.args.to c.in-Ok.place c.args.units c.index.result.now c.self.view_is c.self.invariant c.in-Ok.ensures.found c.index.ensures c.requires.held in
    (taken c.self.inside.links.items c.args.self.now c.args.from c.args.to c.in-Ok.place c.args.units c.index.result.now c.index_mut.result.now c.self.view_is c.self.invariant c.in-Ok.ensures.found c.index.ensures c.index_mut.ensures.value fits c.if-held-units.false).demand

pub returns-else-held-units : goal.returns-else-held-units
returns-else-held-units c =
    let fits = enough c.self.inside.links.items c.args.self.now c.args.from c.args.to c.in-Ok.place c.args.units c.index.result.now c.self.view_is c.self.invariant c.in-Ok.ensures.found c.index.ensures c.requires.held in
    let left = taken c.self.inside.links.items c.args.self.now c.args.from c.args.to c.in-Ok.place c.args.units c.index.result.now c.index_mut.result.now c.self.view_is c.self.invariant c.in-Ok.ensures.found c.index.ensures c.index_mut.ensures.value fits c.if-held-units.false in
    record { loses = left.gains; demand = left.demand }

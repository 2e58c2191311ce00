use Rattle.std.proofs.Common.{arith}
use Rattle.bt_demand.proofs.BySender.{IsRead, lost, row_held, units_read_in}
use Rattle.bt_demand.proofs.demand.Demand.take.Goals as goal

-- a link with slots has a row
pub index_mut-row-requires : goal.index_mut-row-requires
index_mut-row-requires c =
    omega (arith, c.from.ensures, row_held c.self.inside.rows.items c.args.self.now c.args.from c.args.to c.args.units c.self.view_is c.self.invariant c.requires.positive c.requires.held)

-- its slots stand there
pub take-requires-clause-held : goal.take-requires-clause-held
take-requires-clause-held c =
    let held = row_held c.self.inside.rows.items c.args.self.now c.args.from c.args.to c.args.units c.self.view_is c.self.invariant c.requires.positive c.requires.held in
    let read : IsRead c.self.inside.rows.items c.from.result c.args.from c.index_mut-row.result.now = record { place_is = c.from.ensures; within = omega (arith, held); row_is = c.index_mut-row.ensures.value } in
    omega (arith, c.requires.held, units_read_in c.self.inside.rows.items c.args.self.now c.from.result c.args.from c.args.to c.index_mut-row.result.now c.self.view_is c.self.invariant read)

-- that row has lost
pub invariant_of-self : goal.invariant_of-self
invariant_of-self c =
    let held = row_held c.self.inside.rows.items c.args.self.now c.args.from c.args.to c.args.units c.self.view_is c.self.invariant c.requires.positive c.requires.held in
    let read : IsRead c.self.inside.rows.items c.from.result c.args.from c.index_mut-row.result.now = record { place_is = c.from.ensures; within = omega (arith, held); row_is = c.index_mut-row.ensures.value } in
    (lost c.self.inside.rows.items c.args.self.now c.from.result c.index_mut-row.result.now c.take.new.self c.args.from c.args.to c.args.units c.self.view_is c.self.invariant read c.take.ensures.demand c.take.ensures.loses).still

pub returns-clause-loses : goal.returns-clause-loses
returns-clause-loses c =
    let held = row_held c.self.inside.rows.items c.args.self.now c.args.from c.args.to c.args.units c.self.view_is c.self.invariant c.requires.positive c.requires.held in
    let read : IsRead c.self.inside.rows.items c.from.result c.args.from c.index_mut-row.result.now = record { place_is = c.from.ensures; within = omega (arith, held); row_is = c.index_mut-row.ensures.value } in
    (lost c.self.inside.rows.items c.args.self.now c.from.result c.index_mut-row.result.now c.take.new.self c.args.from c.args.to c.args.units c.self.view_is c.self.invariant read c.take.ensures.demand c.take.ensures.loses).loses

pub returns-clause-demand : goal.returns-clause-demand
returns-clause-demand c =
    let held = row_held c.self.inside.rows.items c.args.self.now c.args.from c.args.to c.args.units c.self.view_is c.self.invariant c.requires.positive c.requires.held in
    let read : IsRead c.self.inside.rows.items c.from.result c.args.from c.index_mut-row.result.now = record { place_is = c.from.ensures; within = omega (arith, held); row_is = c.index_mut-row.ensures.value } in
    (lost c.self.inside.rows.items c.args.self.now c.from.result c.index_mut-row.result.now c.take.new.self c.args.from c.args.to c.args.units c.self.view_is c.self.invariant read c.take.ensures.demand c.take.ensures.loses).demand

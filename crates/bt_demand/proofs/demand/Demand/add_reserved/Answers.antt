use Rattle.std.proofs.Common.{List, length, ap, arith}
use Rattle.bt_demand.specs.declared.demand.Link.{Link}
use Rattle.bt_demand.proofs.BySender.{IsRead, kept_links, gained, sent_read, units_read_in}
use Rattle.bt_demand.proofs.demand.Demand.add_reserved.Goals as goal

-- the room is for the row
pub add_reserved-requires-clause-room : goal.add_reserved-requires-clause-room
add_reserved-requires-clause-room c =
    let keep = c.add_rows_within.ensures.keep in
    let are = keep.rows c.self.invariant in
    let view = kept_links c.self.inside.rows.items c.add_rows_within.new.rows.items c.args.self.now c.self.view_is keep in
    let read : IsRead c.add_rows_within.new.rows.items c.from-place.result c.args.from c.index_mut-row.result.now = record { place_is = c.from-place.ensures; within = omega (arith, c.add_rows_within.ensures.count); row_is = c.index_mut-row.ensures.value } in
    let sent = sent_read c.add_rows_within.new.rows.items c.args.self.now c.from-place.result c.args.from c.index_mut-row.result.now view are read in
    omega (arith, ap (λ (links : List Link). length links) sent, c.requires.links)

-- the link's slots stand in its sender's row
pub add_reserved-requires-clause-fits : goal.add_reserved-requires-clause-fits
add_reserved-requires-clause-fits c =
    let keep = c.add_rows_within.ensures.keep in
    let are = keep.rows c.self.invariant in
    let view = kept_links c.self.inside.rows.items c.add_rows_within.new.rows.items c.args.self.now c.self.view_is keep in
    let read : IsRead c.add_rows_within.new.rows.items c.from-place.result c.args.from c.index_mut-row.result.now = record { place_is = c.from-place.ensures; within = omega (arith, c.add_rows_within.ensures.count); row_is = c.index_mut-row.ensures.value } in
    omega (arith, c.requires.fits, units_read_in c.add_rows_within.new.rows.items c.args.self.now c.from-place.result c.args.from c.args.to c.index_mut-row.result.now view are read)

-- that row has gained
pub invariant_of-self : goal.invariant_of-self
invariant_of-self c =
    let keep = c.add_rows_within.ensures.keep in
    let are = keep.rows c.self.invariant in
    let view = kept_links c.self.inside.rows.items c.add_rows_within.new.rows.items c.args.self.now c.self.view_is keep in
    let read : IsRead c.add_rows_within.new.rows.items c.from-place.result c.args.from c.index_mut-row.result.now = record { place_is = c.from-place.ensures; within = omega (arith, c.add_rows_within.ensures.count); row_is = c.index_mut-row.ensures.value } in
    (gained c.add_rows_within.new.rows.items c.args.self.now c.from-place.result c.index_mut-row.result.now c.add_reserved.new.self c.args.from c.args.to c.args.units view are read c.add_reserved.ensures.demand c.add_reserved.ensures.gains).still

pub returns-clause-gains : goal.returns-clause-gains
returns-clause-gains c =
    let keep = c.add_rows_within.ensures.keep in
    let are = keep.rows c.self.invariant in
    let view = kept_links c.self.inside.rows.items c.add_rows_within.new.rows.items c.args.self.now c.self.view_is keep in
    let read : IsRead c.add_rows_within.new.rows.items c.from-place.result c.args.from c.index_mut-row.result.now = record { place_is = c.from-place.ensures; within = omega (arith, c.add_rows_within.ensures.count); row_is = c.index_mut-row.ensures.value } in
    (gained c.add_rows_within.new.rows.items c.args.self.now c.from-place.result c.index_mut-row.result.now c.add_reserved.new.self c.args.from c.args.to c.args.units view are read c.add_reserved.ensures.demand c.add_reserved.ensures.gains).gains

pub returns-clause-demand : goal.returns-clause-demand
returns-clause-demand c =
    let keep = c.add_rows_within.ensures.keep in
    let are = keep.rows c.self.invariant in
    let view = kept_links c.self.inside.rows.items c.add_rows_within.new.rows.items c.args.self.now c.self.view_is keep in
    let read : IsRead c.add_rows_within.new.rows.items c.from-place.result c.args.from c.index_mut-row.result.now = record { place_is = c.from-place.ensures; within = omega (arith, c.add_rows_within.ensures.count); row_is = c.index_mut-row.ensures.value } in
    (gained c.add_rows_within.new.rows.items c.args.self.now c.from-place.result c.index_mut-row.result.now c.add_reserved.new.self c.args.from c.args.to c.args.units view are read c.add_reserved.ensures.demand c.add_reserved.ensures.gains).demand

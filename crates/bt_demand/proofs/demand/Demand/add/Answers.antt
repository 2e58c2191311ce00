use Rattle.std.proofs.Common.{List, sym, subst, arith}
use Rattle.bt_demand.specs.declared.demand.Link.{Link}
use Rattle.bt_demand.specs.Demand.{IsDemand}
use Rattle.bt_demand.specs.Rows.{all_links, AreRows}
use Rattle.bt_demand.proofs.BySender.{IsRead, IsDemand-kept, IsDemand-all, kept_links, gained, same_row, units_read_in}
use Rattle.bt_demand.proofs.demand.Demand.add.Goals as goal

-- rows were added, and no link
pub invariant_of-self : goal.invariant_of-self
invariant_of-self c = c.in_err-add_rows.ensures.keep.rows c.self.invariant

pub returns-in_err-add_rows-clause-demand : goal.returns-in_err-add_rows-clause-demand
returns-in_err-add_rows-clause-demand c = IsDemand-kept c.self.inside.rows.items c.add_rows.new.rows.items c.self.invariant c.in_err-add_rows.ensures.keep

-- the link's slots stand in its sender's row
pub add-requires-clause-fits : goal.add-requires-clause-fits
add-requires-clause-fits c =
    let keep = c.in_ok-add_rows.ensures.keep in
    let are = keep.rows c.self.invariant in
    let view = kept_links c.self.inside.rows.items c.add_rows.new.rows.items c.args.self.now c.self.view_is keep in
    let read : IsRead c.add_rows.new.rows.items c.from-place.result c.args.from c.index_mut-row.result.now = record { place_is = c.from-place.ensures; within = omega (arith, c.in_ok-add_rows.ensures.count); row_is = c.index_mut-row.ensures.value } in
    omega (arith, c.requires.fits, units_read_in c.add_rows.new.rows.items c.args.self.now c.from-place.result c.args.from c.args.to c.index_mut-row.result.now view are read)

-- the row stayed as it was
pub invariant_of-self-in_err-add : goal.invariant_of-self-in_err-add
invariant_of-self-in_err-add c =
    let keep = c.in_ok-add_rows.ensures.keep in
    let are = keep.rows c.self.invariant in
    let view = kept_links c.self.inside.rows.items c.add_rows.new.rows.items c.args.self.now c.self.view_is keep in
    let read : IsRead c.add_rows.new.rows.items c.from-place.result c.args.from c.index_mut-row.result.now = record { place_is = c.from-place.ensures; within = omega (arith, c.in_ok-add_rows.ensures.count); row_is = c.index_mut-row.ensures.value } in
    let same = same_row c.add_rows.new.rows.items c.from-place.result c.index_mut-row.result.now c.add.new.self read.within read.row_is c.in_err-add.ensures.err in
    subst (λ (rows : List (List Link)). AreRows rows) (sym same) are

pub returns-in_err-add-clause-demand : goal.returns-in_err-add-clause-demand
returns-in_err-add-clause-demand c =
    let keep = c.in_ok-add_rows.ensures.keep in
    let are = keep.rows c.self.invariant in
    let view = kept_links c.self.inside.rows.items c.add_rows.new.rows.items c.args.self.now c.self.view_is keep in
    let read : IsRead c.add_rows.new.rows.items c.from-place.result c.args.from c.index_mut-row.result.now = record { place_is = c.from-place.ensures; within = omega (arith, c.in_ok-add_rows.ensures.count); row_is = c.index_mut-row.ensures.value } in
    let same = same_row c.add_rows.new.rows.items c.from-place.result c.index_mut-row.result.now c.add.new.self read.within read.row_is c.in_err-add.ensures.err in
    subst (λ (rows : List (List Link)). IsDemand (all_links rows)) (sym same) (IsDemand-all c.add_rows.new.rows.items are)

-- that row has gained
pub invariant_of-self-2 : goal.invariant_of-self-2
invariant_of-self-2 c =
    let keep = c.in_ok-add_rows.ensures.keep in
    let are = keep.rows c.self.invariant in
    let view = kept_links c.self.inside.rows.items c.add_rows.new.rows.items c.args.self.now c.self.view_is keep in
    let read : IsRead c.add_rows.new.rows.items c.from-place.result c.args.from c.index_mut-row.result.now = record { place_is = c.from-place.ensures; within = omega (arith, c.in_ok-add_rows.ensures.count); row_is = c.index_mut-row.ensures.value } in
    (gained c.add_rows.new.rows.items c.args.self.now c.from-place.result c.index_mut-row.result.now c.add.new.self c.args.from c.args.to c.args.units view are read c.in_ok-add.ensures.demand c.in_ok-add.ensures.ok).still

pub returns-clause-ok : goal.returns-clause-ok
returns-clause-ok c =
    let keep = c.in_ok-add_rows.ensures.keep in
    let are = keep.rows c.self.invariant in
    let view = kept_links c.self.inside.rows.items c.add_rows.new.rows.items c.args.self.now c.self.view_is keep in
    let read : IsRead c.add_rows.new.rows.items c.from-place.result c.args.from c.index_mut-row.result.now = record { place_is = c.from-place.ensures; within = omega (arith, c.in_ok-add_rows.ensures.count); row_is = c.index_mut-row.ensures.value } in
    (gained c.add_rows.new.rows.items c.args.self.now c.from-place.result c.index_mut-row.result.now c.add.new.self c.args.from c.args.to c.args.units view are read c.in_ok-add.ensures.demand c.in_ok-add.ensures.ok).gains

pub returns-clause-demand : goal.returns-clause-demand
returns-clause-demand c =
    let keep = c.in_ok-add_rows.ensures.keep in
    let are = keep.rows c.self.invariant in
    let view = kept_links c.self.inside.rows.items c.add_rows.new.rows.items c.args.self.now c.self.view_is keep in
    let read : IsRead c.add_rows.new.rows.items c.from-place.result c.args.from c.index_mut-row.result.now = record { place_is = c.from-place.ensures; within = omega (arith, c.in_ok-add_rows.ensures.count); row_is = c.index_mut-row.ensures.value } in
    (gained c.add_rows.new.rows.items c.args.self.now c.from-place.result c.index_mut-row.result.now c.add.new.self c.args.from c.args.to c.args.units view are read c.in_ok-add.ensures.demand c.in_ok-add.ensures.ok).demand

use Rattle.std.proofs.Common.{List, sym, subst, arith}
use Rattle.bt_demand.specs.declared.demand.Link.{Link}
use Rattle.bt_demand.specs.Rows.{AreRows}
use Rattle.bt_demand.proofs.BySender.{IsRead, kept_links, same_row}
use Rattle.bt_demand.proofs.Pushed.{pushed, read-pushed}
use Rattle.bt_demand.proofs.demand.Demand.push.Goals as goal

-- rows were added, and no link
pub invariant_of-self : goal.invariant_of-self
invariant_of-self c = c.in_err-add_rows.ensures.keep.rows c.self.invariant

-- the link stands behind those of its sender's row
pub push-requires : goal.push-requires
push-requires c =
    let keep = c.in_ok-add_rows.ensures.keep in
    let are = keep.rows c.self.invariant in
    let view = kept_links c.self.inside.rows.items c.add_rows.new.rows.items c.args.self.now c.self.view_is keep in
    let read : IsRead c.add_rows.new.rows.items c.from-place.result c.args.link.from c.index_mut-row.result.now = record { place_is = c.from-place.ensures; within = omega (arith, c.in_ok-add_rows.ensures.count); row_is = c.index_mut-row.ensures.value } in
    record { demand = read-pushed c.add_rows.new.rows.items c.args.self.now c.from-place.result c.index_mut-row.result.now c.args.link view are read c.requires.demand }

-- the row stayed as it was
pub invariant_of-self-in_err-push : goal.invariant_of-self-in_err-push
invariant_of-self-in_err-push c =
    let keep = c.in_ok-add_rows.ensures.keep in
    let are = keep.rows c.self.invariant in
    let read : IsRead c.add_rows.new.rows.items c.from-place.result c.args.link.from c.index_mut-row.result.now = record { place_is = c.from-place.ensures; within = omega (arith, c.in_ok-add_rows.ensures.count); row_is = c.index_mut-row.ensures.value } in
    let same = same_row c.add_rows.new.rows.items c.from-place.result c.index_mut-row.result.now c.push.new.self read.within read.row_is c.in_err-push.ensures.err in
    subst (λ (rows : List (List Link)). AreRows rows) (sym same) are

-- that row has the link, and all links together have it
pub invariant_of-self-2 : goal.invariant_of-self-2
invariant_of-self-2 c =
    let keep = c.in_ok-add_rows.ensures.keep in
    let are = keep.rows c.self.invariant in
    let view = kept_links c.self.inside.rows.items c.add_rows.new.rows.items c.args.self.now c.self.view_is keep in
    let read : IsRead c.add_rows.new.rows.items c.from-place.result c.args.link.from c.index_mut-row.result.now = record { place_is = c.from-place.ensures; within = omega (arith, c.in_ok-add_rows.ensures.count); row_is = c.index_mut-row.ensures.value } in
    (pushed c.add_rows.new.rows.items c.args.self.now c.from-place.result c.index_mut-row.result.now c.push.new.self c.args.link view are read c.requires.demand c.in_ok-push.ensures.ok).still

pub returns-clause-ok : goal.returns-clause-ok
returns-clause-ok c =
    let keep = c.in_ok-add_rows.ensures.keep in
    let are = keep.rows c.self.invariant in
    let view = kept_links c.self.inside.rows.items c.add_rows.new.rows.items c.args.self.now c.self.view_is keep in
    let read : IsRead c.add_rows.new.rows.items c.from-place.result c.args.link.from c.index_mut-row.result.now = record { place_is = c.from-place.ensures; within = omega (arith, c.in_ok-add_rows.ensures.count); row_is = c.index_mut-row.ensures.value } in
    (pushed c.add_rows.new.rows.items c.args.self.now c.from-place.result c.index_mut-row.result.now c.push.new.self c.args.link view are read c.requires.demand c.in_ok-push.ensures.ok).links

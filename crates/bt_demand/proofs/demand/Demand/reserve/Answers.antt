use Rattle.std.proofs.Common.{List, length, ap, arith}
use Rattle.bt_demand.specs.declared.demand.Link.{Link}
use Rattle.bt_demand.proofs.BySender.{sent_past, sent_read}
use Rattle.bt_demand.proofs.demand.Demand.reserve.Goals as goal

-- the row has the links of the sender
pub returns-then-place-len-clause-links : goal.returns-then-place-len-clause-links
returns-then-place-len-clause-links c =
    let read = sent_read c.self.inside.rows.items c.args.self.now c.from-place.result c.args.from c.index.result.now c.self.view_is c.self.invariant
    (record { place_is = c.from-place.ensures; within = omega arith; row_is = c.index.ensures }) in
    rw (← read) c.reserve-then-place-len.ensures.room

-- a terminal without a row sends on none
pub returns-in_ok-reserve-2-clause-links : goal.returns-in_ok-reserve-2-clause-links
returns-in_ok-reserve-2-clause-links c =
    let none = sent_past c.self.inside.rows.items c.args.self.now c.args.from c.self.view_is c.self.invariant (omega (arith, c.from-place.ensures)) in
    omega (arith, ap (λ (links : List Link). length links) none, c.in_ok-reserve-2.ensures.ok)

-- the world, or the air of sites apart, may open so
use Rattle.std.proofs.Common.{rules, arith}
use Rattle.bt_net.specs.Network.{IsSound}
use Rattle.bt_centre.proofs.Opens.{opens_with_copies}
use Rattle.bt_centre.proofs.open.open_air.Goals as goal

pub start-requires : goal.start-requires
start-requires g c =
    let changes = c.args.book.now.state.changes in
    let sound : IsSound c.args.net.now = search rules in
    record {
      opening = opens_with_copies c.args.net.now changes _ _ c.requires.follow (c.installed_plans_can_be_flown.ensures.all c.args.net.now changes sound c.requires.follow)
          (omega (arith, c.order_count-orders.ensures.count, c.order_count-orders.ensures.few)) c.in_ok-plans.ensures c.in_ok-orders.ensures;
    }

pub start-requires-in-Apart : goal.start-requires-in-Apart
start-requires-in-Apart g c =
    let changes = c.args.book.now.state.changes in
    let sound : IsSound c.args.net.now = search rules in
    record {
      opening = opens_with_copies c.args.net.now changes _ _ c.requires.follow (c.installed_plans_can_be_flown.ensures.all c.args.net.now changes sound c.requires.follow)
          (omega (arith, c.order_count-orders.ensures.count, c.order_count-orders.ensures.few)) c.in_ok-plans.ensures c.in_ok-orders.ensures;
    }

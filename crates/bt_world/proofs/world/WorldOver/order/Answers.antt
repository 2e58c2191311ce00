use Rattle.std.proofs.Common.{◌≡◌, ◌++◌, List, Option, refl, sym, subst, ap, ◌∙◌, arith}
use Rattle.std.specs.Prelude.{IsSome}
use Rattle.bt_air.specs.declared.order.Order.{Order}
use Rattle.bt_air.specs.declared.sent.Aired.{Aired}
use Rattle.bt_site.specs.Event.{Ordered}
use Rattle.bt_machines.specs.Says.{sent_by_order}
use Rattle.bt_machines.specs.Terminals.{terminals_of}
use Rattle.bt_world.specs.Life.{Life, MayCome, having_had, life_of}
use Rattle.bt_world.proofs.Placed.{centre-says, order-kept}
use Rattle.bt_world.proofs.world.WorldOver.order.Goals as goal

pub place-requires-clause-wanted : goal.place-requires-clause-wanted
place-requires-clause-wanted g c =
    let may = subst (λ (life : Life). MayCome life Ordered) (sym c.self.view_is) c.requires in
    let says = centre-says c.centre_is_said.ensures.said _ _ c.self.invariant in
    subst (λ (order : Option Order). IsSome order) (sym says.wanted) may.meets

pub place-requires-clause-room : goal.place-requires-clause-room
place-requires-clause-room g c =
    omega (arith, c.in_ok-reserve-2.ensures.ok, c.self.invariant.terminal_count, c.self.invariant.sound.terminals.count.1)

pub invariant_of-self-2 : goal.invariant_of-self-2
invariant_of-self-2 g c =
    let inside = c.self.inside in
    let may = subst (λ (life : Life). MayCome life Ordered) (sym c.self.view_is) c.requires in
    let opening = c.push.ensures.opening ∙ c.reserve.ensures.opening in
    let events = c.push.ensures.events in
    let room = c.reserve.ensures.events in
    let now : life_of inside.net inside.orders.items c.push.new.self ≡ having_had (life_of inside.net inside.orders.items inside.log) Ordered = cc in
    let told = c.in_ok-order.ensures.said
    ∙ ap (λ (list : List Aired). list ++ sent_by_order inside.centre.plans (terminals_of inside.centre.terminals) inside.centre.centre.wanted) c.reserve-2.ensures.items in
    order-kept c.centre_is_said.ensures.said _ _ c.in_ok-order.order _ _ c.self.invariant may now c.in_ok-order.ensures.order c.in_ok-order.ensures.terminals c.in_ok-order.ensures.plans told refl refl c.in_ok-order.ensures.state refl

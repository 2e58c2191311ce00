use Rattle.std.proofs.Common.{◌≡◌, ◌++◌, ℕ, List, length, refl, sym, subst, ap, ◌∙◌, arith}
use Rattle.bt_air.specs.declared.order.Order.{Order}
use Rattle.bt_air.specs.declared.order.Status.{Status}
use Rattle.bt_air.specs.declared.sent.Aired.{Aired}
use Rattle.bt_machines.specs.Centre.{after_turn}
use Rattle.bt_machines.specs.Satellite.{State as Onboard}
use Rattle.bt_machines.specs.Terminals.{terminals_of}
use Rattle.bt_site.specs.Event.{Turn}
use Rattle.bt_site.specs.Sites.{turn_says}
use Rattle.bt_world.specs.Life.{Life, MayCome, having_had, life_of, past_of}
use Rattle.bt_world.proofs.Placed.{centre-says}
use Rattle.bt_world.proofs.Turned.{mark-few, turn-kept}
use Rattle.bt_world.proofs.world.WorldOver.turn.Goals as goal

pub turn-act-requires-clause-mark : goal.turn-act-requires-clause-mark
turn-act-requires-clause-mark g c =
    let life = life_of c.self.inside.net c.self.inside.orders.items c.self.inside.log in
    let at = ap (λ (s : Status). s.mark.0) c.status.ensures.status ∙ ap (λ (s : Onboard). s.mark.0) c.self.invariant.satellite ∙ c.satellite_is_said.ensures.mark life.opening (past_of life) in
    omega (arith, at, mark-few _ _ c.self.invariant)

pub turn-act-requires-clause-few : goal.turn-act-requires-clause-few
turn-act-requires-clause-few g c =
    let may = subst (λ (l : Life). MayCome l (Turn c.args.target)) (sym c.self.view_is) c.requires in
    let says = centre-says c.centre_is_said.ensures.said _ _ c.self.invariant in
    omega (arith, ap (λ (list : List Order). length list) says.orders, may.few_orders)

pub turn-act-requires-clause-room : goal.turn-act-requires-clause-room
turn-act-requires-clause-room g c =
    omega (arith, c.in_ok-reserve-2.ensures.ok, c.self.invariant.terminal_count, c.self.invariant.sound.terminals.count.1)

pub invariant_of-self-2 : goal.invariant_of-self-2
invariant_of-self-2 g c =
    let inside = c.self.inside in
    let life = life_of inside.net inside.orders.items inside.log in
    let event = Turn c.args.target in
    let may = subst (λ (l : Life). MayCome l event) (sym c.self.view_is) c.requires in
    let opening = c.push.ensures.opening ∙ c.reserve.ensures.opening in
    let events = c.push.ensures.events in
    let room = c.reserve.ensures.events in
    let now : life_of inside.net inside.orders.items c.push.new.self ≡ having_had life event = cc in
    let at = ap (λ (s : Status). s.mark.0) c.status.ensures.status ∙ ap (λ (s : Onboard). s.mark.0) c.self.invariant.satellite ∙ c.satellite_is_said.ensures.mark life.opening (past_of life) in
    let m = c.status.result.mark in
    let s = inside.centre.centre in
    let lead = c.lead-lead.ensures.same in
    let patience = c.patience-patience.ensures.same in
    let says : ℕ → ℕ → List Aired = λ (l p : ℕ). turn_says (terminals_of inside.centre.terminals) s inside.centre.plans m c.args.target l p in
    let told = c.turn-act.ensures.said ∙ ap (λ (list : List Aired). list ++ says c.lead-lead.result c.patience-patience.result) c.reserve-2.ensures.items
    ∙ ap (λ (l : ℕ). inside.sent.items ++ says l c.patience-patience.result) lead ∙ ap (λ (p : ℕ). inside.sent.items ++ says inside.net.lead p) patience in
    let turned = c.turn-act.ensures.state ∙ ap (λ (l : ℕ). after_turn s m c.args.target l c.patience-patience.result) lead ∙ ap (λ (p : ℕ). after_turn s m c.args.target inside.net.lead p) patience in
    turn-kept c.centre_is_said.ensures.said _ _ c.args.target m _ _ c.self.invariant may now at c.turn-act.ensures.terminals c.turn-act.ensures.plans told refl refl turned refl

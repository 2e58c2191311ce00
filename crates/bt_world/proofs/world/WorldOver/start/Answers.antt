use Rattle.std.proofs.Common.{arith, ◌≡◌, ℕ, List, All, map, length, reverse, refl, sym, ◌∙◌, ap, subst}
use Rattle.std.proofs.lemmas.List.{length-reverse}
use Rattle.bt_net.specs.Network.{Net}
use Rattle.bt_air.specs.declared.order.Order.{Order}
use Rattle.bt_demand.specs.declared.plan.Plan.{Plan}
use Rattle.bt_machines.specs.Centre.{AreNumbered}
use Rattle.bt_machines.specs.CentreSteps.{beginning}
use Rattle.bt_machines.specs.Plans.{IsStored, StartsEmpty}
use Rattle.bt_machines.specs.Satellite.{new_at}
use Rattle.bt_machines.specs.Terminal.{new_of}
use Rattle.bt_machines.specs.Terminals.{terminals_of}
use Rattle.bt_site.specs.Fits.{IsOpening}
use Rattle.bt_site.specs.World.{greatest_due}
use Rattle.bt_site.specs.Sites.{CentreAt}
use Rattle.bt_world.specs.Life.{opening_of}
use Rattle.bt_world.proofs.Started.{started}
use Rattle.bt_world.proofs.world.WorldOver.start.Goals as goal

pub invariant_of-result : goal.invariant_of-result
invariant_of-result g c =
    let net = c.in_ok-net.ensures.net in
    let count = c.terminal_count.ensures.count in
    let opens = subst (λ (n : Net). IsOpening (opening_of n c.args.plans.items c.args.orders.items)) (sym net) c.requires.opening in
    let mark : c.greatest_due-mark.result.0 ≡ greatest_due (reverse c.args.orders.items) = c.greatest_due-mark.ensures.due ∙ ap (λ (list : List Order). greatest_due (reverse list)) c.as_slice.ensures.value in
    let placed = c.in_ok-net.ensures.placed ∙ c.as_slice-2.ensures.value in
    let made = c.in_ok-centre.ensures.made in
    let all : c.in_ok-centre.centre.plans ≡ reverse c.args.plans.items = ap (λ (s : CentreAt). s.plans) made ∙ ap (λ (list : List Plan). reverse list) c.as_slice-3.ensures.value in
    started c.in_ok-net.net c.args.plans.items c.args.orders.items c.open.result _ c.terminal_count.ensures.sound opens c.open.ensures.opening c.open.ensures.events
    (subst (λ (list : List Plan). All IsStored list) all c.in_ok-centre.ensures.stored)
    (ap (λ (s : CentreAt). s.terminals) made ∙ count) all c.new.ensures.items
    (c.start-2.ensures.made ∙ ap (λ (n : ℕ). new_at (record { 0 = n })) mark)
    (c.in_ok-net.ensures.terminals ∙ ap (λ (n : Net). map new_of (terminals_of (length n.terminals))) (sym net))
    (ap (λ (s : CentreAt). s.centre) made
    ∙ ap (λ (n : ℕ). beginning (terminals_of n) (reverse c.as_slice-3.result.now) (reverse c.in_ok-net.placed.items)) count
    ∙ ap (λ (list : List Plan). beginning (terminals_of (length c.in_ok-net.net.terminals)) (reverse list) (reverse c.in_ok-net.placed.items)) c.as_slice-3.ensures.value
    ∙ ap (λ (list : List Order). beginning (terminals_of (length c.in_ok-net.net.terminals)) (reverse c.args.plans.items) (reverse list)) placed)
    refl

pub start-requires : goal.start-requires
start-requires g c =
    let placed = c.in_ok-net.ensures.placed ∙ c.as_slice-2.ensures.value in record {
      few = c.terminal_count.ensures.in_range.1;
      starts = subst (λ (list : List Plan). StartsEmpty (reverse list)) (sym c.as_slice-3.ensures.value) c.requires.opening.starts;
      numbered = subst (λ (list : List Order). AreNumbered (reverse list)) (sym placed) c.requires.opening.numbered;
      few_orders = let long = ap (λ (list : List Order). length list) placed in omega (arith, long, length-reverse c.args.orders.items, c.requires.opening.few);
    }

pub returns : goal.returns
returns g c = record { made = λ i. record { opening = opening_of (c.in_ok-net.ensures.net i) (c.open.ensures.opening i) c.args.orders.items; events = c.open.ensures.events i } }

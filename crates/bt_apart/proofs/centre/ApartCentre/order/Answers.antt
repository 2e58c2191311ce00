use Rattle.std.proofs.Common.{◌≡◌, ℕ, List, ◌++◌, length, All, sym, ◌∙◌, ap, subst, arith}
use Rattle.bt_net.specs.Network.{Net}
use Rattle.bt_demand.specs.declared.plan.Plan.{Plan}
use Rattle.bt_air.specs.declared.sent.Aired.{Aired}
use Rattle.bt_machines.specs.Says.{sent_by_order}
use Rattle.bt_machines.specs.Terminals.{terminals_of}
use Rattle.bt_site.proofs.Carried.{bursts-carried, modes-carried}
use Rattle.bt_apart.specs.Apart.{ApartAir}
use Rattle.bt_apart.specs.Inside.{IsSayable}
use Rattle.bt_apart.proofs.Says.{order-sayable}
use Rattle.bt_apart.proofs.centre.ApartCentre.order.Goals as goal

-- each message has a line and a spelling
pub say_all-requires-clause-sayable : goal.say_all-requires-clause-sayable
say_all-requires-clause-sayable c =
    let inside = c.self.inside in
    let is = c.self.invariant in
    let small = c.flyable_plans_are_small.ensures in
    let all = inside.centre.plans in
    let wanted = inside.centre.centre.wanted in
    let says = sent_by_order all (terminals_of (length inside.net.terminals)) wanted in
    let net = ap (λ (a : ApartAir). a.opening.net) c.self.view_is ∙ sym c.requires.network in
    let told : c.as_slice.result.now ≡ says = c.as_slice.ensures.value ∙ c.in_ok-place.ensures.said
    ∙ ap (λ (list : List Aired). list ++ sent_by_order all (terminals_of inside.centre.terminals) wanted) c.in_ok-said.ensures.items
    ∙ ap (λ (n : ℕ). sent_by_order all (terminals_of n) wanted) is.terminals in
    let sayable = order-sayable inside.net all is.sound.terminals.count.1
    (λ edition. modes-carried small.modes small.few_modes small.bursts small.few_bursts small.ordered inside.net all edition is.sound is.flyable)
    (λ edition terminal. bursts-carried small.modes small.few_modes small.bursts small.few_bursts small.ordered inside.net all edition terminal is.sound is.flyable is.stored)
    inside.centre.centre is.stored (omega (arith, c.order_count.ensures.count, c.if-order_count-gt-MOST_COUNTED.false)) is.ready in
    subst (λ (list : List Aired). All (IsSayable c.args.net.now c.place.new.self.plans) list) (sym told)
    (subst (λ (list : List Plan). All (IsSayable c.args.net.now list) says) (sym c.place.ensures.plans)
    (subst (λ (n : Net). All (IsSayable n all) says) net sayable))

use Rattle.std.proofs.Common.{◌≡◌, ℕ, List, ◌++◌, length, All, refl, sym, ◌∙◌, ap, subst, arith}
use Rattle.bt_net.specs.Network.{Net}
use Rattle.bt_demand.specs.declared.plan.Plan.{Plan}
use Rattle.bt_air.specs.declared.sent.Aired.{Aired}
use Rattle.bt_machines.specs.Centre.{State as Centre}
use Rattle.bt_machines.specs.Terminals.{terminals_of}
use Rattle.bt_site.specs.Sites.{turn_says}
use Rattle.bt_site.proofs.Carried.{bursts-carried, modes-carried}
use Rattle.bt_apart.specs.Apart.{ApartAir, IsInstalled}
use Rattle.bt_apart.specs.Inside.{IsReady, IsSayable}
use Rattle.bt_apart.proofs.Kept.{still-apart}
use Rattle.bt_apart.proofs.Ready.{turned-ready}
use Rattle.bt_apart.proofs.Says.{turn-sayable}
use Rattle.bt_apart.proofs.centre.ApartCentre.turn.Goals as goal

-- its turn leaves it ready
pub invariant_of-self : goal.invariant_of-self
invariant_of-self c =
    let inside = c.self.inside in
    let is = c.self.invariant in
    let some = subst (λ (a : ApartAir). IsInstalled a.plans c.args.target) (sym c.self.view_is) c.requires.target in
    let ready = turned-ready inside.centre.plans inside.centre.centre inside.mark c.args.target c.lead-lead.result c.patience-patience.result
    (omega (arith, c.lead-lead.ensures.in_range.0)) some is.ready in
    still-apart _ _ _ _ _ _ is refl c.turn.ensures.plans c.turn.ensures.terminals refl (subst (λ (s : Centre). IsReady inside.centre.plans s) (sym c.turn.ensures.state) ready) is.mark is.back

-- each message has a line and a spelling
pub say_all-requires-clause-sayable : goal.say_all-requires-clause-sayable
say_all-requires-clause-sayable c =
    let inside = c.self.inside in
    let is = c.self.invariant in
    let small = c.flyable_plans_are_small.ensures in
    let all = inside.centre.plans in
    let s = inside.centre.centre in
    let in_turn : ℕ → List Aired = λ (n : ℕ). turn_says (terminals_of n) s all inside.mark c.args.target c.lead-lead.result c.patience-patience.result in
    let says = in_turn (length inside.net.terminals) in
    let net = ap (λ (a : ApartAir). a.opening.net) c.self.view_is ∙ sym c.requires.network in
    let told : c.as_slice.result.now ≡ says = c.as_slice.ensures.value ∙ c.turn.ensures.said
    ∙ ap (λ (list : List Aired). list ++ in_turn inside.centre.terminals) c.in_ok-said.ensures.items ∙ ap in_turn is.terminals in
    let sayable = turn-sayable inside.net all is.sound.terminals.count.1
    (λ edition. modes-carried small.modes small.few_modes small.bursts small.few_bursts small.ordered inside.net all edition is.sound is.flyable)
    (λ edition terminal. bursts-carried small.modes small.few_modes small.bursts small.few_bursts small.ordered inside.net all edition terminal is.sound is.flyable is.stored)
    s inside.mark c.args.target c.lead-lead.result c.patience-patience.result is.mark is.stored
    (omega (arith, c.order_count.ensures.count, c.if-order_count-gt-MOST_COUNTED.false)) is.ready in
    subst (λ (list : List Aired). All (IsSayable c.args.net.now c.turn.new.self.plans) list) (sym told)
    (subst (λ (list : List Plan). All (IsSayable c.args.net.now list) says) (sym c.turn.ensures.plans)
    (subst (λ (n : Net). All (IsSayable n all) says) net sayable))

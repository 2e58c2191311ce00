use Rattle.std.proofs.Common.{◌≡◌, ℕ, List, ◌++◌, false, length, reverse, All, sym, ◌∙◌, ap, subst}
use Rattle.std.proofs.lemmas.List.{append-nil, reverse-reverse}
use Rattle.bt_frame.specs.declared.numbers.Mark.{Mark}
use Rattle.bt_net.specs.Network.{Net, IsSound}
use Rattle.bt_demand.specs.declared.plan.Plan.{Plan}
use Rattle.bt_air.specs.declared.order.Order.{Order}
use Rattle.bt_machines.specs.CentreSteps.{beginning}
use Rattle.bt_machines.specs.Plans.{IsStored}
use Rattle.bt_machines.specs.Terminals.{terminals_of}
use Rattle.bt_site.specs.Plans.{Planned}
use Rattle.bt_site.specs.Sites.{CentreAt}
use Rattle.bt_site.specs.Event.{Opening}
use Rattle.bt_site.specs.World.{greatest_due}
use Rattle.bt_apart.specs.Apart.{apart_at_start}
use Rattle.bt_apart.specs.Back.{back_lasting}
use Rattle.bt_apart.proofs.Kept.{as-apart, begun}
use Rattle.bt_apart.proofs.centre.ApartCentre.start.Goals as goal

-- what it opened with
pub invariant_of-result : goal.invariant_of-result
invariant_of-result c =
    let o : Opening = record { net = c.args.net.now; plans = reverse c.args.plans.items; orders = reverse c.args.orders.items } in
    let net = c.in_ok-net.ensures.same in
    let made = c.in_ok-centre.ensures.made in
    let count = c.terminal_count.ensures.count ∙ ap (λ (n : Net). length n.terminals) net in
    let all = c.as_slice-3.ensures.value in
    let planned : c.in_ok-centre.centre.plans ≡ o.plans = ap (λ (s : CentreAt). s.plans) made ∙ ap (λ (list : List Plan). reverse list) all in
    let placed = c.in_ok-placed.ensures.items ∙ c.as_slice-2.ensures.value in
    let begins : c.in_ok-centre.centre.centre ≡ beginning (terminals_of (length o.net.terminals)) o.plans o.orders =
    ap (λ (s : CentreAt). s.centre) made
    ∙ ap (λ (n : ℕ). beginning (terminals_of n) (reverse c.as_slice-3.result.now) (reverse c.in_ok-placed.placed.items)) count
    ∙ ap (λ (list : List Plan). beginning (terminals_of (length o.net.terminals)) (reverse list) (reverse c.in_ok-placed.placed.items)) all
    ∙ ap (λ (list : List Order). beginning (terminals_of (length o.net.terminals)) o.plans (reverse list)) placed in
    let due = c.greatest_due-mark.ensures.due ∙ ap (λ (list : List Order). greatest_due (reverse list)) c.as_slice.ensures.value in
    let mark : c.greatest_due-mark.result ≡ record { 0 = greatest_due o.orders } = ap (λ (n : ℕ). let m : Mark = record { 0 = n } in m) due in
    let all_planned = ap (λ (p : Planned). p.all) c.plans.ensures.plans ∙ planned in
    let back : c.back_lasting-back.result ≡ back_lasting o.plans o.orders =
    c.back_lasting-back.ensures.back
    ∙ ap (λ (list : List Plan). back_lasting list (reverse c.as_slice-4.result.now)) all_planned
    ∙ ap (λ (list : List Order). back_lasting o.plans (reverse list)) c.as_slice-4.ensures.value in
    let same : record {
      opening = record { net = c.in_ok-net.net; plans = o.plans; orders = o.orders };
      plans = c.in_ok-centre.centre.plans;
      centre = c.in_ok-centre.centre.centre;
      mark = c.greatest_due-mark.result;
      marked = false;
      said = 0;
      back = c.back_lasting-back.result;
    } ≡ apart_at_start o = cc in
    let listed = ap (λ (list : List Plan). c.args.plans.items ++ list) c.new.ensures.items ∙ append-nil c.args.plans.items ∙ sym (reverse-reverse c.args.plans.items) in
    as-apart _ (apart_at_start o) _ (length o.net.terminals) _ (reverse o.plans) same (ap (λ (s : CentreAt). s.terminals) made ∙ count) listed
    (begun o (subst IsSound net c.terminal_count.ensures.sound) c.requires.opening (subst (λ (list : List Plan). All IsStored list) planned c.in_ok-centre.ensures.stored))

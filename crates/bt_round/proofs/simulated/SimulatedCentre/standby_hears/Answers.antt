use Rattle.std.proofs.Common.{◌≡◌, ◌<◌, ℕ, Option, Some, IfSome, refl, sym, ap, ◌∙◌, subst, slice_get}
use Rattle.std.proofs.lemmas.Result.{on_ok_weaker}
use Rattle.bt_air.specs.declared.order.Status.{Status}
use Rattle.bt_air.specs.declared.sent.Aired.TheVariants as sends
use Rattle.bt_round.specs.Simulated.{SimulatedAir, sent_count, sent_in}
use Rattle.bt_round.specs.Worker.{IsHeard}
use Rattle.bt_round.proofs.Bridging.{heard-there, keeps-heard, noticed-plays, other-plays, status-there}
use Rattle.bt_round.proofs.simulated.SimulatedCentre.standby_hears.Goals as goal

pub invariant_of-self : goal.invariant_of-self
invariant_of-self g c =
    let inside : SimulatedAir = record { life = c.self.inside.world; waiting = c.self.inside.waiting; back = c.self.inside.back; standby = c.self.inside.standby } in
    let within : c.args.number < sent_count inside = subst (λ (n : ℕ). c.args.number < n) (c.sent_count.ensures ∙ ap sent_count (sym c.self.view_is)) c.if-sent_count-number.false in
    let message : slice_get (sent_in inside) c.args.number ≡ Some (sends.Status c.in-Status.status) =
    status-there (sent_in inside) c.args.number c.sent.result.now c.in-Status.status within c.sent.ensures.sent c.in-Status.is in
    record {
      world = c.self.invariant.world;
      waiting = c.self.invariant.waiting;
      back = c.self.invariant.back;
      standby = subst (λ (kept : Option Status). IfSome kept (IsHeard c.self.inside.world)) (sym c.hear-noticed.ensures.state)
          (keeps-heard c.self.inside.world c.self.inside.standby c.mark-mark.result c.in-Status.status _ refl c.self.invariant.standby
          (heard-there c.self.inside.world c.args.number c.in-Status.status within message));
    }

pub returns-in-Status-clause-played : goal.returns-in-Status-clause-played
returns-in-Status-clause-played g c =
    let inside : SimulatedAir = record { life = c.self.inside.world; waiting = c.self.inside.waiting; back = c.self.inside.back; standby = c.self.inside.standby } in
    let within : c.args.number < sent_count inside = subst (λ (n : ℕ). c.args.number < n) (c.sent_count.ensures ∙ ap sent_count (sym c.self.view_is)) c.if-sent_count-number.false in
    let message : slice_get (sent_in inside) c.args.number ≡ Some (sends.Status c.in-Status.status) =
    status-there (sent_in inside) c.args.number c.sent.result.now c.in-Status.status within c.sent.ensures.sent c.in-Status.is in
    on_ok_weaker c.noticed_text.result
    (λ added. noticed-plays inside c.args.self.now _ c.args.number c.mark-mark.result c.in-Status.status c.hear-noticed.result c.hear-noticed.new.self
    c.args.text.now.items c.noticed_text.new.out.items c.self.view_is within message c.mark-mark.ensures.mark
    c.hear-noticed.ensures.answer c.hear-noticed.ensures.state refl added)
    c.noticed_text.ensures.added

pub returns-in_default : goal.returns-in_default
returns-in_default g c =
    let inner : SimulatedAir = record { life = c.self.inside.world; waiting = c.self.inside.waiting; back = c.self.inside.back; standby = c.self.inside.standby } in
    let few : c.args.number < sent_count inner = subst (λ (n : ℕ). c.args.number < n) (c.sent_count.ensures ∙ ap sent_count (sym c.self.view_is)) c.if-sent_count-number.false in
    record {
      played = on_ok_weaker c.unnoticed_text.result
          (λ added. other-plays inner c.args.self.now c.args.number c.sent.result.now c.args.text.now.items c.unnoticed_text.new.out.items
          c.self.view_is few c.sent.ensures.sent c.in_default.not-Status added)
          c.unnoticed_text.ensures.added;
      opening = refl;
    }

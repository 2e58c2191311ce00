use Rattle.std.proofs.Common.{◌≡◌, ◌+◌, ◌<◌, ◌≤◌, ℕ, inl, inr, refl, ap, ◌∙◌, subst, ◌++◌}
use Rattle.std.proofs.lemmas.Result.{on_ok_weaker}
use Rattle.bt_frame.specs.declared.numbers.Mark.{Mark}
use Rattle.bt_timeline.specs.Air.{last_tick_line, tick_line}
use Rattle.bt_site.specs.Event.{Tick}
use Rattle.bt_round.specs.Simulated.{SimulatedAir, mark_of, sends_text}
use Rattle.bt_round.proofs.Marks.{last-mark, mark-ticked}
use Rattle.bt_round.proofs.Running.{told}
use Rattle.bt_round.proofs.simulated.SimulatedCentre.tick.Goals as goal

pub returns-then-mark-ge-LAST_MARK-clause-played : goal.returns-then-mark-ge-LAST_MARK-clause-played
returns-then-mark-ge-LAST_MARK-clause-played g c =
    on_ok_weaker c.last_tick_text.result
    (λ added. record { own = last_tick_line; played = inl (last-mark c.args.self.now _ c.self.view_is c.self.invariant (subst (λ (n : ℕ). 4000000000 ≤ n) c.mark.ensures.mark c.if-mark-ge-LAST_MARK.true), refl, refl); added = added })
    c.last_tick_text.ensures.added

pub returns-clause-played : goal.returns-clause-played
returns-clause-played g c =
    let next : c.mark-2.result ≡ record { 0 = (mark_of c.args.self.now).0 + 1 } =
    c.mark-2.ensures.mark ∙ ap mark_of c.in_ok-happen.ensures.air ∙ mark-ticked c.args.self.now in
    let small : (mark_of c.args.self.now).0 < 4000000000 =
    subst (λ (a : SimulatedAir). (mark_of a).0 < 4000000000) c.self.view_is (subst (λ (n : ℕ). n < 4000000000) c.mark.ensures.mark c.if-mark-ge-LAST_MARK.false) in
    on_ok_weaker c.tell_sent.result
    (λ added. record {
      own = tick_line (record { 0 = (mark_of c.args.self.now).0 + 1 }) ++ sends_text c.args.net.now c.args.self.now Tick;
      played = inr (small, refl, c.in_ok-happen.ensures.air);
      added = told c.args.net.now c.args.self.now c.happen.new.self Tick c.sent_count-first.result c.args.text.now.items _ _ (tick_line (record { 0 = (mark_of c.args.self.now).0 + 1 }))
          c.in_ok-happen.ensures.air c.sent_count-first.ensures (c.in_ok-tick_text.ensures.added ∙ ap (λ (m : Mark). c.args.text.now.items ++ tick_line m) next) added;
    })
    c.tell_sent.ensures

use Rattle.std.proofs.Common.{◌≡◌, ℕ, ◌+◌, ◌-◌, ◌≤◌, List, [], ◌∷◌, ◌++◌, sym, ap, ◌∙◌, subst, inl, inr, ⊎_elim, arith}
use Rattle.bt_cut.specs.declared.connection.Span.{Span}
use Rattle.bt_cut.specs.Serving.{slots_in_all, taken_of, IsServedBy}
use Rattle.bt_cut.proofs.Served.{next_span, served_more}
use Rattle.bt_cut.proofs.connection.Connection.serve.Goals as goal

pub loop-left-preserved : goal.loop-left-preserved
loop-left-preserved c =
    let was = c.loop-left.invariant in
    let next = c.take-burst.ensures.next in
    let given = c.take-burst.ensures.given in
    let enough : taken_of c.loop-left.self + c.loop-left.left ≤ slots_in_all c.loop-left.self.spans.items =
    omega (arith, was.given.taken, c.requires.enough, was.within, ap slots_in_all was.given.spans) in
    let inside = next_span c.loop-left.self c.loop-left.left was.given.ready c.loop-left-test.true enough in
    let done : (c.args.link.units - c.loop-left.left) + c.take-burst.result.length ≡ c.args.link.units - (c.loop-left.left - c.take-burst.result.length) =
    omega (arith, was.within, next.few) in
    record {
      within = omega (arith, was.within);
      given = record {
        spans = given.spans ∙ was.given.spans;
        taken = omega (arith, given.taken, was.given.taken, done);
        ready = given.ready;
      };
      whole = ⊎_elim (λ (all : c.take-burst.result.length ≡ c.loop-left.left). inl (omega arith)) (λ (none : c.take-burst.new.self.used ≡ 0). inr (inl none)) next.whole;
      served =
          subst (λ (n : ℕ). IsServedBy c.args.self.now.spans.items c.args.link.from c.args.link.to (taken_of c.args.self.now) n c.args.bursts.now.items c.push.new.self.items) done
          (rw c.in_ok-push.ensures.items
          (subst (λ (spans : List Span). IsServedBy spans c.args.link.from c.args.link.to (taken_of c.args.self.now) ((c.args.link.units - c.loop-left.left) + c.take-burst.result.length) c.args.bursts.now.items (c.loop-left.bursts.items ++ c.take-burst.result ∷ []))
          was.given.spans
          (served_more c.args.link.from c.args.link.to (taken_of c.args.self.now) (c.args.link.units - c.loop-left.left) c.loop-left.left c.args.bursts.now.items c.loop-left.bursts.items
          c.loop-left.self c.take-burst.new.self c.take-burst.result
          (subst (λ (spans : List Span). IsServedBy spans c.args.link.from c.args.link.to (taken_of c.args.self.now) (c.args.link.units - c.loop-left.left) c.args.bursts.now.items c.loop-left.bursts.items)
          (sym was.given.spans) was.served)
          was.given.taken inside
          (⊎_elim (λ (all : c.loop-left.left ≡ 0). absurd (omega (arith, c.loop-left-test.true)))
          (⊎_elim (λ (start : c.loop-left.self.used ≡ 0). inl start) (λ (first : c.loop-left.left ≡ c.args.link.units). inr (omega arith))) was.whole)
          next)));
    }

use Rattle.std.proofs.Common.{None, Some, ap, sym, ◌∙◌}
use Rattle.bt_shared.specs.Plans.{last_of}
use Rattle.bt_shared.proofs.Beginnings.{last_snoc}
use Rattle.bt_shared.proofs.publisher.Publisher.post.Goals as goal

-- the plan is the last of the log that it was added to, whose editions ascend
pub invariant_of-shown : goal.invariant_of-shown
invariant_of-shown g c = record {
  last = ap (λ s. last_of s.log) c.again.ensures ∙ (ap last_of c.add.ensures.added ∙ (last_snoc None c.self.inside.seen.log c.plan-2.result.now ∙ ap Some (c.plan-2.ensures.same ∙ c.deref-2.ensures)));
  ascends = rw c.again.ensures c.add.ensures.ascends;
}

-- and it is what the board shows from now on
pub returns-clause-shown : goal.returns-clause-shown
returns-clause-shown g c =
    rw c.replace.ensures.after
    (sym c.show.result.desk.shown.value.last ∙ ap (λ s. last_of s.log) (c.show.ensures.shown ∙ c.again.ensures)
    ∙ (ap last_of c.add.ensures.added ∙ (last_snoc None c.self.inside.seen.log c.plan-2.result.now ∙ ap Some (c.plan-2.ensures.same ∙ c.deref-2.ensures ∙ c.in-Ok.ensures.ok ∙ c.in_ok-of.ensures.same))))

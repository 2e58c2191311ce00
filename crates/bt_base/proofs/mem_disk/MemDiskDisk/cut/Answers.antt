use Rattle.std.proofs.Common.{◌≡◌, ◌∙◌, sym, ap, subst}
use Rattle.bt_base.specs.Medium.{Steps}
use Rattle.bt_base.specs.MemoryDisk.{HeldDisk}
use Rattle.bt_base.specs.Moments.{Life, medium_of}
use Rattle.bt_base.proofs.Life.{same_steps}
use Rattle.bt_base.proofs.mem_disk.MemDiskDisk.cut.Goals.{then-fail-eq1+then-is_none+in_ok-leave-in-Some, else-fail-eq1, else-fail-eq1-via-then-fail-eq1+else-is_none, else-fail-eq1-via-else-fail-eq1}
use Rattle.bt_base.proofs.mem_disk.MemDiskDisk.cut.Goals as goal

-- a failed cut has cut, or changes nothing
pub returns-after-fail-eq1-clause-steps : goal.returns-after-fail-eq1-clause-steps
returns-after-fail-eq1-clause-steps c = elim c.if-fail-eq1.branch [
  | then-fail-eq1+then-is_none+in_ok-leave-in-Some w ↦
      let last : c.self-in-Some.inside.moments ≡ w.leave-then-is_none.new.self.life = ap (λ (disk : HeldDisk). disk.life) (c.self-in-Some.view_is ∙ w.self-is) in
      subst (λ (from : Life). Steps (medium_of from) (medium_of c.self-in-Some.inside.moments)) (ap (λ (disk : HeldDisk). disk.life) c.self.view_is)
      (subst (λ (to : Life). Steps (medium_of c.self.inside.moments) (medium_of to)) (sym last) w.leave-then-is_none.ensures.steps)
  | else-fail-eq1 w ↦
      let kept : w.else-fail-eq1.self ≡ record { life = c.self.inside.moments; calls = c.count.new.self } =
      elim w.else-fail-eq1.branch [ else-fail-eq1-via-then-fail-eq1+else-is_none v ↦ v.self-is | else-fail-eq1-via-else-fail-eq1 v ↦ v.self-is ] in
      same_steps c.args.self.now.life c.self-in-Some.inside.moments (ap (λ (disk : HeldDisk). disk.life) (c.self-in-Some.view_is ∙ w.self-is ∙ kept) ∙ ap (λ (disk : HeldDisk). disk.life) c.self.view_is)
]

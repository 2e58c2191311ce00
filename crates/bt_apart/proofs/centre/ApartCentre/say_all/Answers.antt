use Rattle.std.proofs.Common.{◌≡◌, ℕ, ◌+◌, ◌++◌, ◌∙◌, ap, arith}
use Rattle.bt_apart.specs.Apart.{ApartAir, having_said, said_line}
use Rattle.bt_apart.proofs.Lines.{said-next}
use Rattle.bt_apart.proofs.centre.ApartCentre.say_all.Goals as goal

-- one message more
pub loop-one-preserved : goal.loop-one-preserved
loop-one-preserved c =
    let old = c.args.self.now in
    let k = c.loop-one.one-index in
    let one = c.one-item.result in
    let so_far = c.loop-one.invariant.air in
    let count : old.said + k + 1 ≡ old.said + (k + 1) = omega arith in
    record {
      air = c.in_ok-say.ensures.air ∙ ap (λ (a : ApartAir). having_said a a.centre 1) so_far ∙ ap (λ (n : ℕ). let a : ApartAir = record old { said = n } in a) count;
      text = said-next c.args.net.now old.plans old.mark old.said c.args.said.now k one c.args.text.now.items c.loop-one.text.items c.say.new.text.items
          c.loop-one-test.true c.one-item.is c.loop-one.invariant.text
          (c.in_ok-say.ensures.text ∙ ap (λ (a : ApartAir). c.loop-one.text.items ++ said_line c.args.net.now a.plans a.mark a.said one) so_far);
    }

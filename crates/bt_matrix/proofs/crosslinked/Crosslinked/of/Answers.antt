use Rattle.std.proofs.Common.{◌≡◌, ℕ, length, arith, subst}
use Rattle.bt_matrix.specs.Copy.{IsCopied}
use Rattle.bt_matrix.proofs.Copies.{copied_all}
use Rattle.bt_matrix.proofs.crosslinked.Crosslinked.of.Goals as goal

pub returns : goal.returns
returns c =
    let all : c.loop-up.up ≡ length c.args.matrix.now = omega (arith, c.loop-up-test.false, c.loop-up.auto.up-end, c.size-size.ensures.size) in
    record {
      same = copied_all c.args.matrix.now c.loop-up.copy.rows c.size-size.ensures.traffic c.size-same.ensures.traffic
          (subst (λ (up : ℕ). IsCopied c.args.matrix.now c.loop-up.copy.rows up 0) all c.loop-up.invariant.0);
    }

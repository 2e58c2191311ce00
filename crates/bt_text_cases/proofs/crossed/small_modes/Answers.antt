use Rattle.std.proofs.Common.{ℕ, ◌+◌, ◌*◌, ◌≤◌, length, subst}
use Rattle.bt_text_cases.proofs.crossed.small_modes.Goals as goal

-- 2 * (2 + 2) looks
pub returns : goal.returns
returns g c =
    let rows = c.args.padded.matrix.rows in
    let first = c.args.steps.now in
    let after = c.decompose.new.steps in
    record {
      looks = λ beams entries. subst (λ (n : ℕ). after ≤ first + 2 * (2 + n)) beams
          (subst (λ (p : ℕ). after ≤ first + p * (p + length rows)) entries c.decompose.ensures.looks);
    }

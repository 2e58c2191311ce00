use Rattle.std.proofs.Common.{◌≡◌, ℕ, eq-eqb, subst, ap, ◌∙◌, arith}
use Rattle.std.specs.Int.{div_ceil}
use Rattle.std.proofs.lemmas.Bool.{eqb-true}
use Rattle.bt_trans.specs.declared.part.Bound.TheVariants.{Total}
use Rattle.bt_trans.specs.Part.{total_slots, IsReached}
use Rattle.bt_trans.proofs.LeastLengths.{share-reached, reached-share}
use Rattle.bt_trans.proofs.least.is_reached.Goals as goal

-- the total is shared
pub returns-in-Total : goal.returns-in-Total
returns-in-Total c =
    let rows = c.args.matrix.now in
    let k = c.args.k in
    let slots = c.args.slots in
    let share = c.div_ceil.result in
    let share_is : share ≡ div_ceil (total_slots rows) k = c.div_ceil.ensures ∙ ap (λ (t : ℕ). div_ceil t k) c.total_of.ensures.total in
    let Reached : ℕ → Type 0 = λ n. IsReached rows k n Total in
    rw c.in-Total.is (
      (λ yes. subst Reached (eqb-true share slots yes) (share-reached rows k share (omega (arith, c.requires.some)) share_is)),
      (λ reached. eq-eqb share slots (reached-share rows k share slots (omega (arith, c.requires.some)) share_is reached)),
    )

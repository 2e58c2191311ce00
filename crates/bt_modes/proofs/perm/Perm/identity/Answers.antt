use Rattle.std.proofs.Common.{◌∙◌, arith}
use Rattle.std.proofs.lemmas.List.{get_or-take}
use Rattle.bt_modes.proofs.Exchanges.{IsPermutation-places}
use Rattle.bt_modes.proofs.perm.Perm.identity.Goals as goal

pub invariant_of-result : goal.invariant_of-result
invariant_of-result c = (
  c.requires.some,
  c.requires.few,
  IsPermutation-places c.args.size c.loop-up.columns (omega arith)
      (λ k inside. omega (arith, c.loop-up.invariant.own k (omega arith)))
      (λ j k less inside same. omega (arith, c.loop-up.invariant.own j (omega arith), c.loop-up.invariant.own k (omega arith))),
)

pub returns-clause-own : goal.returns-clause-own
returns-clause-own c = λ up inside. get_or-take c.args.size c.loop-up.columns up 0 inside ∙ c.loop-up.invariant.own up (omega arith)

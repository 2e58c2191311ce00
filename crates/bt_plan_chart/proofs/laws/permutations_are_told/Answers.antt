use Rattle.bt_plan_chart.proofs.Permutations.{permutation, tells_permutation}
use Rattle.bt_plan_chart.proofs.laws.permutations_are_told.Goals as goal

pub returns : goal.returns
returns c = record { told = λ beams perm. (permutation beams perm, tells_permutation beams perm) }

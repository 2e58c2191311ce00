use Rattle.std.proofs.Common.{arith, rules, ℕ}
use Rattle.std.proofs.lemmas.List.{get_or-replicate}
use Rattle.bt_plan_chart.proofs.fullness.fullness.Goals as goal

-- no burst was looked at yet
pub loop-burst-init : goal.loop-burst-init
loop-burst-init c = record {
  wide = search rules;
  so_far = λ beam below. get_or-replicate {A = ℕ} 32 beam 0 0 below;
  small = λ beam below. omega (arith, get_or-replicate {A = ℕ} 32 beam 0 0 below);
}

use Rattle.std.proofs.Common.{rules}
use Rattle.bt_frame.specs.declared.mode.Mode.{Mode}
use Rattle.bt_matrix.specs.Good.{IsPermutation}
use Rattle.bt_frame.proofs.Walk.{All-next, All-whole}
use Rattle.bt_demand.proofs.mode_faults.first_bad.Goals as goal

pub loop-place-preserved : goal.loop-place-preserved
loop-place-preserved c = record {
  few = search rules;
  same = search rules;
  earlier = All-next (λ (m : Mode). IsPermutation c.args.size m.perm) c.args.modes.now c.loop-place.place c.mode-item.result (search rules) (search rules) c.loop-place.invariant.earlier (search rules);
}

pub returns : goal.returns
returns c = All-whole (λ (m : Mode). IsPermutation c.args.size m.perm) c.args.modes.now c.loop-place.place (search rules) c.loop-place.invariant.earlier

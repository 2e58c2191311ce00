use Rattle.std.proofs.Common.{rules}
use Rattle.bt_trans.specs.declared.part.PartMode.{PartMode}
use Rattle.bt_trans.specs.Part.{IsPartSwitching}
use Rattle.bt_frame.proofs.Walk.{All-next, All-whole}
use Rattle.bt_trans.proofs.mode_faults.first_bad.Goals as goal

pub loop-place-preserved : goal.loop-place-preserved
loop-place-preserved c = record {
  few = search rules;
  same = search rules;
  earlier = All-next (λ (m : PartMode). IsPartSwitching c.args.size m.perm) c.args.modes.now c.loop-place.place c.mode-item.result (search rules) (search rules) c.loop-place.invariant.earlier (search rules);
}

pub returns : goal.returns
returns c = All-whole (λ (m : PartMode). IsPartSwitching c.args.size m.perm) c.args.modes.now c.loop-place.place (search rules) c.loop-place.invariant.earlier

use Rattle.std.proofs.Common.{arith, ◌<◌, length}
use Rattle.bt_frame.specs.declared.schedule.Critical.TheVariants.{Column}
use Rattle.bt_trans.proofs.border.column_cuts.Goals as goal

pub overflow_sub-cuts : goal.overflow_sub-cuts
overflow_sub-cuts c =
    let inside : c.loop-down.down < length c.args.matrix.now = omega (arith, c.size-down-end.ensures.size) in
    omega (arith, c.requires.within (Column (record { 0 = c.loop-down.down })) inside, c.column_sum.ensures.sum)

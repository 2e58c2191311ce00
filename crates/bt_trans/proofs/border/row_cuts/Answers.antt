use Rattle.std.proofs.Common.{arith, ◌<◌, length}
use Rattle.bt_frame.specs.declared.schedule.Critical.TheVariants.{Row}
use Rattle.bt_trans.proofs.border.row_cuts.Goals as goal

pub overflow_sub-cuts : goal.overflow_sub-cuts
overflow_sub-cuts c =
    let inside : c.loop-up.up < length c.args.matrix.now = omega (arith, c.size-up-end.ensures.size) in
    omega (arith, c.requires.within (Row (record { 0 = c.loop-up.up })) inside, c.row_sum.ensures.sum)

use Rattle.std.proofs.Common.{ℕ, ◌+◌, Some, replicate, refl}
use Rattle.bt_frame.specs.declared.limits.TheConstants.{MOST_BEAMS}
use Rattle.bt_frame.specs.declared.numbers.BeamNo.{BeamNo}
use Rattle.bt_modes.proofs.Tables.{zeros}
use Rattle.bt_modes.proofs.Walked.{IsTold, IsRead, IsRead-first, IsRead-next}
use Rattle.bt_modes.proofs.table.slots_of_row.Goals as goal

-- no entry yet
pub loop-next-init : goal.loop-next-init
loop-next-init g c =
    let rows = g.M.Rows.rows c.args.matrix.now in
    let told : IsTold rows c.args.row 0 c.first-next.result c.args.steps.now c.first-next.new.steps =
    record { next = c.first-next.ensures.next; none = c.first-next.ensures.none; step = c.first-next.ensures.step; no_step = c.first-next.ensures.no_step } in
    IsRead-first rows c.args.row (replicate MOST_BEAMS 0) c.first-next.result c.args.steps.now c.first-next.new.steps refl (zeros MOST_BEAMS) told

-- one entry more
pub loop-next-preserved : goal.loop-next-preserved
loop-next-preserved g c =
    let rows = g.M.Rows.rows c.args.matrix.now in
    let found : BeamNo × ℕ = (c.in-Some.down, c.in-Some.units) in
    let read : IsRead rows c.args.row c.loop-next.slots (Some found) c.loop-next.steps c.args.steps.now = rw c.in-Some.is at c.loop-next.invariant in
    let told : IsTold rows c.args.row (c.in-Some.down.0 + 1) c.after-next.result c.loop-next.steps c.after-next.new.steps =
    record { next = c.after-next.ensures.next; none = c.after-next.ensures.none; step = c.after-next.ensures.step; no_step = c.after-next.ensures.no_step } in
    IsRead-next rows c.args.row c.loop-next.slots found c.after-next.result c.loop-next.steps c.after-next.new.steps c.args.steps.now read c.requires.few told

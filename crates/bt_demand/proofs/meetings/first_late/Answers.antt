use Rattle.std.proofs.Common.{◌≤◌, take, get_or, slice_index, arith, subst, rules}
use Rattle.std.proofs.lemmas.List.{take_all, take_more}
use Rattle.bt_demand.specs.PlanVerdict.{AreApart}
use Rattle.bt_demand.proofs.LatestEnds.{no_burst, is_first_late, IsWalked-none, IsWalked-skip, IsWalked-add}
use Rattle.bt_demand.proofs.meetings.first_late.Goals as goal
use Rattle.bt_demand.proofs.meetings.first_late.Goals.{then-burst-ne0+else-from-free, else-burst-ne0}

-- no burst was looked at yet
pub loop-place-init : goal.loop-place-init
loop-place-init c = IsWalked-none c.args.net.now

pub returns-then-from-free : goal.returns-then-from-free
returns-then-from-free c =
    is_first_late c.args.net.now c.args.bursts.now c.loop-place.place c.loop-place.up_ends c.loop-place.down_ends c.beam_of-up.result c.beam_of-down.result
    c.loop-place-test.true c.requires.ordered c.loop-place.invariant c.beam_of-up.ensures.beam c.beam_of-down.ensures.beam c.beam_of-up.ensures.few c.beam_of-down.ensures.few
    (omega arith) (search rules)

pub loop-place-preserved : goal.loop-place-preserved
loop-place-preserved c =
    rw (take_more c.args.bursts.now c.loop-place.place no_burst c.loop-place-test.true)
    (elim c.if-burst-ne0.branch [
      | then-burst-ne0+else-from-free w ↦
          let at_up : slice_index c.loop-place.up_ends c.beam_of-up.result.0 ≤ (get_or c.args.bursts.now c.loop-place.place no_burst).start = search rules in
          let at_down : slice_index c.loop-place.down_ends c.beam_of-down.result.0 ≤ (get_or c.args.bursts.now c.loop-place.place no_burst).start = search rules in
          rw (w.up_ends-is, w.down_ends-is) (IsWalked-add c.args.net.now (take c.loop-place.place c.args.bursts.now) c.loop-place.up_ends c.loop-place.down_ends (get_or c.args.bursts.now c.loop-place.place no_burst) c.beam_of-up.result c.beam_of-down.result w.end-end.result
          c.loop-place.invariant c.beam_of-up.ensures.beam c.beam_of-down.ensures.beam c.beam_of-up.ensures.few c.beam_of-down.ensures.few (omega arith) at_up at_down w.end-end.ensures.end)
      | else-burst-ne0 w ↦ rw (w.up_ends-is, w.down_ends-is) (IsWalked-skip c.args.net.now (take c.loop-place.place c.args.bursts.now) c.loop-place.up_ends c.loop-place.down_ends (get_or c.args.bursts.now c.loop-place.place no_burst) c.loop-place.invariant (omega arith))
    ])

pub returns : goal.returns
returns c = subst (AreApart c.args.net.now) (take_all c.loop-place.place c.args.bursts.now c.loop-place-test.false) c.loop-place.invariant.apart

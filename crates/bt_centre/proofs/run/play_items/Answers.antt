-- the parts were played and written, or the run stopped
use Rattle.std.proofs.Common.{List, ℕ, rules, arith, subst, sym}
use Rattle.std.proofs.lemmas.List.{take_all}
use Rattle.bt_outside.specs.Told.{GainsPrefix}
use Rattle.bt_script.specs.declared.script.Item.{Item}
use Rattle.bt_centre.specs.Progress.{IsTogether, ItemsWritten}
use Rattle.bt_centre.proofs.Ended.{err_is, not_begun, not_played, not_shown, same_end}
use Rattle.bt_centre.proofs.Played.{rounds_more, written_first, written_more}
use Rattle.bt_centre.proofs.Together.{together_item}
use Rattle.bt_centre.proofs.run.play_items.Goals as goal

pub loop-item-init : goal.loop-item-init
loop-item-init g c = record {
  later = c.write_start.ensures.later;
  together = subst IsTogether (sym c.requires.begun.air) tt;
  few = search rules;
  written = written_first c.args.net.now c.args.playing c.requires.begun _ _ (search rules);
}

pub returns-in-Err-clause-ended : goal.returns-in-Err-clause-ended
returns-in-Err-clause-ended g c =
    same_end c.args.net.now c.args.items.now _ c.args.playing.book c.stop.result _ _ _ _ _ _ c.unwritten.result c.end.ensures.told c.end.ensures.faults c.end.ensures.crashes c.end.ensures.histories c.end.ensures.events c.end.ensures.status
    (not_begun c.args.net.now c.args.items.now c.args.playing c.stop.result c.in-Err.fault _ _ _ _ c.unwritten.result (c.installed_plans_are_good.ensures.good c.args.net.now) c.requires.begun c.stop.ensures
    (λ is. c.in-Err.ensures.cause (err_is c.in-Err.fault is)) (λ is. c.in-Err.ensures.failed (err_is c.in-Err.fault is)) c.unwritten.ensures.memory c.unwritten.ensures.failed)

pub returns-in-Err-write-clause-ended : goal.returns-in-Err-write-clause-ended
returns-in-Err-write-clause-ended g c =
    let end = c.end-in-Err-write.ensures in
    let at = c.loop-item.invariant in
    let why = c.in-Err-write.fault in
    same_end c.args.net.now c.args.items.now _ c.args.playing.book c.stop-in-Err-write.result _ _ _ _ _ _ c.unwritten-in-Err-write.result end.told end.faults end.crashes end.histories end.events end.status
    (not_shown c.args.net.now c.args.items.now c.loop-item.item-index c.item-item.result c.args.playing.book c.loop-item.playing c.in-Ok.next c.in-Ok.text.items c.stop-in-Err-write.result why
    _ _ _ _ _ _ c.unwritten-in-Err-write.result (c.installed_plans_are_good.ensures.good c.args.net.now) c.loop-item-test.true c.item-item.is at.written at.later c.in-Ok.ensures.played c.stop-in-Err-write.ensures
    (λ is. c.in-Err-write.ensures.cause.failed (err_is why is))
    (λ is. subst (λ (t : List ℕ). GainsPrefix (g.O.Sink.told c.loop-item.out) t (g.O.Sink.told c.write.new.self)) c.as_slice.ensures.value (c.in-Err-write.ensures.failed (err_is why is)))
    c.unwritten-in-Err-write.ensures.memory c.unwritten-in-Err-write.ensures.failed)

pub returns-in-Err-play_item-clause-ended : goal.returns-in-Err-play_item-clause-ended
returns-in-Err-play_item-clause-ended g c =
    let end = c.end-in-Err-play_item.ensures in
    let at = c.loop-item.invariant in
    same_end c.args.net.now c.args.items.now _ c.args.playing.book c.in-Err-play_item.remains _ _ _ _ _ _ c.print_restart_fault.result end.told end.faults end.crashes end.histories end.events end.status
    (not_played c.args.net.now c.args.items.now c.loop-item.item-index c.item-item.result c.args.playing.book c.loop-item.playing c.in-Err-play_item.remains _ _ _ _ _ _ c.in-Err-play_item.fault
    c.print_restart_fault.result (c.installed_plans_are_good.ensures.good c.args.net.now) c.loop-item-test.true c.item-item.is at.written at.later c.in-Err-play_item.ensures.failed c.print_restart_fault.ensures.printed)

pub loop-item-preserved : goal.loop-item-preserved
loop-item-preserved g c =
    let at = c.loop-item.invariant in
    record {
      later = omega (arith, at.later, c.write.ensures.cause.later);
      together = together_item c.args.net.now c.item-item.result c.loop-item.playing c.in-Ok.next c.in-Ok.text.items c.in-Ok.ensures.played at.together;
      few = rounds_more c.args.net.now c.item-item.result c.loop-item.playing c.in-Ok.next c.in-Ok.text.items c.loop-item.item-index c.in-Ok.ensures.played at.few;
      written = written_more c.args.net.now c.args.playing.book c.args.items.now c.loop-item.item-index c.item-item.result c.loop-item.playing c.in-Ok.next c.in-Ok.text.items _ _ _
          c.loop-item-test.true c.item-item.is at.written c.in-Ok.ensures.played (search rules);
    }

pub returns-clause-written : goal.returns-clause-written
returns-clause-written g c =
    subst (λ (l : List Item). ItemsWritten c.args.net.now c.args.playing.book l c.loop-item.playing (g.O.Sink.told c.args.out.now) (g.O.Sink.told c.loop-item.out))
    (take_all c.loop-item.item-index c.args.items.now c.loop-item-test.false) c.loop-item.invariant.written

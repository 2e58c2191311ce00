-- the last line was written, or not
use Rattle.std.proofs.Common.{◌≡◌, List, ◌∙◌, ap, subst}
use Rattle.bt_outside.specs.Told.{GainsPrefix, gained}
use Rattle.bt_script.specs.declared.script.Item.{Item}
use Rattle.bt_centre.specs.declared.history.History.{History}
use Rattle.bt_centre.specs.Lines.{total_of}
use Rattle.bt_centre.specs.Progress.{ItemsWritten, Left}
use Rattle.bt_centre.specs.Run.{entries_of, status_after}
use Rattle.bt_centre.proofs.Ended.{err_is, not_totalled, same_end, totalled}
use Rattle.bt_centre.proofs.script.run_from.Goals as goal

pub returns-in-Ok-write_total : goal.returns-in-Ok-write_total
returns-in-Ok-write_total g c =
    let net = c.args.net.now in
    let items = c.args.script.now.items in
    let hand = c.in-Ok.playing in
    let left = c.stop-remains.result in
    let same : c.remains.inside.histories.items ≡ left.histories = ap (λ (l : Left). l.histories) c.remains.view_is in
    let written = subst (λ (l : List Item). ItemsWritten net c.args.playing.book l hand (g.O.Sink.told c.args.out.now) (g.O.Sink.told c.play_items.new.out)) c.as_slice.ensures.same c.in-Ok.ensures.written in
    record {
      ended = same_end net items _ c.args.playing.book left _ _ _ _ _ _ c.status_after-status.result c.end.ensures.told c.end.ensures.faults c.end.ensures.crashes
          c.end.ensures.histories c.end.ensures.events c.end.ensures.status
          (totalled net items c.args.playing.book hand left _ _ _ _ _ c.status_after-status.result (c.installed_plans_are_good.ensures.good net) written c.stop-remains.ensures
          (c.in-Ok-write_total.ensures.ok ∙ ap (λ (h : List History). gained (g.O.Sink.told c.play_items.new.out) (total_of (entries_of h))) (c.as_slice-in-Ok.ensures.value ∙ same))
          (c.status_after-status.ensures ∙ ap status_after (c.as_slice-in-Ok-write_total.ensures.value ∙ same)));
    }

pub returns-in-Err-write_total : goal.returns-in-Err-write_total
returns-in-Err-write_total g c =
    let net = c.args.net.now in
    let items = c.args.script.now.items in
    let hand = c.in-Ok.playing in
    let left = c.stop-remains.result in
    let why = c.in-Err-write_total.fault in
    let same : c.remains.inside.histories.items ≡ left.histories = ap (λ (l : Left). l.histories) c.remains.view_is in
    let end = c.end-in-Err-write_total.ensures in
    let written = subst (λ (l : List Item). ItemsWritten net c.args.playing.book l hand (g.O.Sink.told c.args.out.now) (g.O.Sink.told c.play_items.new.out)) c.as_slice.ensures.same c.in-Ok.ensures.written in
    record {
      ended = same_end net items _ c.args.playing.book left _ _ _ _ _ _ c.unwritten.result end.told end.faults end.crashes
          end.histories end.events end.status
          (not_totalled net items c.args.playing.book hand left why _ _ _ _ _ _ c.unwritten.result (c.installed_plans_are_good.ensures.good net) written c.play_items.ensures.later c.stop-remains.ensures
          (λ is. c.in-Err-write_total.ensures.cause (err_is why is))
          (λ is. subst (λ (h : List History). GainsPrefix (g.O.Sink.told c.play_items.new.out) (total_of (entries_of h)) (g.O.Sink.told c.write_total.new.out)) (c.as_slice-in-Ok.ensures.value ∙ same) (c.in-Err-write_total.ensures.failed (err_is why is)))
          c.unwritten.ensures.memory c.unwritten.ensures.failed);
    }

-- the time is over, and the centre restarted; or memory ran out, or the recovery failed
use Rattle.std.proofs.Common.{[], ◌∷◌, ◌++◌, subst, sym, ap, length}
use Rattle.bt_script.specs.declared.script.Item.TheVariants as item
use Rattle.bt_centre.specs.Handed.{with_front}
use Rattle.bt_centre.specs.Progress.{Hand, ItemFailed, Left, RestartPlayed, history_in}
use Rattle.bt_centre.specs.Whole.{whole, whole_left}
use Rattle.bt_centre.proofs.Whole.{failed_whole, one_of_failed, over_behind, restart_whole}
use Rattle.bt_centre.proofs.live.live_restart.Goals as goal

pub begun_again-requires : goal.begun_again-requires
begun_again-requires g c =
    let played = c.in-Ok.ensures.played in
    record { one = ap length (over_behind c.args.net.now c.live.inside.run c.in-Ok.next c.in-Ok.text.items c.live.invariant.over played); none = played.none }

pub returns-in-Ok-clause-played : goal.returns-in-Ok-clause-played
returns-in-Ok-clause-played g c =
    let log = c.live.inside.log in
    let run = c.live.inside.run in
    let net = c.args.net.now in
    let text = c.in-Ok.text.items in
    let played = c.in-Ok.ensures.played in
    subst (λ (new : Hand). RestartPlayed net c.args.live new text) (sym (c.begun_again.ensures (history_in run) (over_behind net run c.in-Ok.next text c.live.invariant.over played)))
    (subst (λ (old : Hand). RestartPlayed net old (whole (log.times ++ with_front log.front (history_in run) ∷ []) [] c.in-Ok.next) text) c.live.view_is (restart_whole net log.times log.front run c.in-Ok.next text c.live.invariant played))

pub left_behind-requires : goal.left_behind-requires
left_behind-requires g c = record {
  one = one_of_failed c.args.net.now item.Restart c.live.inside.run c.in-Err.remains c.in-Err.fault c.live.invariant.over c.in-Err.ensures.failed;
}

pub returns-in-Err-clause-failed : goal.returns-in-Err-clause-failed
returns-in-Err-clause-failed g c =
    let log = c.live.inside.log in
    let net = c.args.net.now in
    let fault = c.in-Err.fault in
    subst (λ (left : Left). ItemFailed net item.Restart c.args.live left fault) (sym c.left_behind.ensures)
    (subst (λ (old : Hand). ItemFailed net item.Restart old (whole_left log.times log.front c.in-Err.remains) fault) c.live.view_is
    (failed_whole net item.Restart log.times log.front c.live.inside.run c.in-Err.remains fault c.live.invariant c.in-Err.ensures.failed))

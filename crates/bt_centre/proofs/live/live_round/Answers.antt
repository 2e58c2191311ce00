-- a round was played, and the entries were handed over; or memory ran out over it
use Rattle.std.proofs.Common.{subst, sym}
use Rattle.bt_centre.specs.Progress.{Hand, IsLeftEarly, Left, RoundPlayed}
use Rattle.bt_centre.specs.Whole.{whole, whole_left}
use Rattle.bt_centre.proofs.Whole.{early_whole, live_round, one_of_early, round_whole}
use Rattle.bt_centre.proofs.live.live_round.Goals as goal

pub hand_over-requires : goal.hand_over-requires
hand_over-requires g c = record {
  live = live_round c.args.net.now c.args.round.now c.live.inside.log.front c.live.inside.run c.in-Ok.next c.in-Ok.text.items c.live.invariant c.in-Ok.ensures.played;
}

pub invariant_of-result : goal.invariant_of-result
invariant_of-result g c = c.hand_over.ensures.live

pub returns-in-Ok-clause-played : goal.returns-in-Ok-clause-played
returns-in-Ok-clause-played g c =
    let log = c.live.inside.log in
    let net = c.args.net.now in
    let round = c.args.round.now in
    let text = c.in-Ok.text.items in
    subst (λ (new : Hand). RoundPlayed net round c.args.live new text) (sym c.hand_over.ensures.same)
    (subst (λ (old : Hand). RoundPlayed net round old (whole log.times log.front c.in-Ok.next) text) c.live.view_is
    (round_whole net round log.times log.front c.live.inside.run c.in-Ok.next text c.live.invariant c.in-Ok.ensures.played))

pub left_behind-requires : goal.left_behind-requires
left_behind-requires g c = record { one = one_of_early c.live.inside.run c.in-Err.remains c.live.invariant.over c.in-Err.ensures.failed }

pub returns-in-Err-clause-failed : goal.returns-in-Err-clause-failed
returns-in-Err-clause-failed g c =
    let log = c.live.inside.log in
    subst (λ (left : Left). IsLeftEarly c.args.live left) (sym c.left_behind.ensures)
    (subst (λ (old : Hand). IsLeftEarly old (whole_left log.times log.front c.in-Err.remains)) c.live.view_is
    (early_whole log.times log.front c.live.inside.run c.in-Err.remains c.live.invariant c.in-Err.ensures.failed))

use Rattle.std.proofs.Common.{◌≡◌, ◌+◌, [], ◌∷◌, length, All, arith, ap, sym, subst, ◌∙◌, length-append}
use Rattle.std.proofs.lemmas.List.Elements.{All-append}
use Rattle.bt_shared.specs.Rule.{saw}
use Rattle.bt_shared.specs.Posted.{Posted, posted}
use Rattle.bt_shared.proofs.Beginnings.{all_one}
use Rattle.bt_shared.proofs.Rules.{saw_same}
use Rattle.bt_shared.proofs.opening.board.Goals as goal

pub loop-preserved : goal.loop-preserved
loop-preserved g c =
    let inv = c.loop.invariant in
    let seat = c.seat_one.ensures in
    let push = c.push_reserved.ensures in
    let P : Posted → Type 0 = λ r. r ≡ posted c.in_ok-head.shown.seen.book c.in_ok-head.shown.seen.log in
    let one : c.seat_one.result ≡ posted c.in_ok-head.shown.seen.book c.in_ok-head.shown.seen.log = seat.reader ∙ ap (λ s. posted s.book s.log) c.in-Ok.ensures.seen in (
      ap (λ p. p.value.seen) seat.shown ∙ inv.0,
      seat.pending ∙ inv.1,
      seat.view ∙ (inv.2 ∙ ap (λ p. saw p.value) (sym seat.shown)),
      omega (arith, ap length push.items, length-append c.loop.all.items (c.seat_one.result ∷ []), inv.3),
      push.len ∙ ap (λ n. n + 1) inv.4,
      push.capacity ∙ inv.5,
      subst (All P) (sym push.items) (All-append P c.loop.all.items (c.seat_one.result ∷ []) inv.6 (all_one P c.seat_one.result one)),
    )

pub seat_one-requires : goal.seat_one-requires
seat_one-requires g c = saw_same _ c.loop.writer.desk.shown.value c.in-Ok.kept c.loop.invariant.2 (c.loop.invariant.0 ∙ sym c.in-Ok.ensures.seen)

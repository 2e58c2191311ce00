-- round after round
use Rattle.std.proofs.Common.{◌≡◌, ℕ, ◌+◌, ◌++◌, ◌∷◌, [], ◌∙◌, List, ap, arith, subst, sym, take}
use Rattle.std.proofs.lemmas.List.{length-take-le}
use Rattle.bt_net.specs.Network.{Net}
use Rattle.bt_history.specs.Causes.{Follows}
use Rattle.bt_site.specs.Event.{Opening}
use Rattle.bt_script.specs.Named.{IsRoundFor}
use Rattle.bt_centre.specs.Answering.{RoundsPlayed}
use Rattle.bt_centre.proofs.Going.{left_behind_rounds, left_on, rounds_append, rounds_go_on}
use Rattle.bt_centre.proofs.InTurn.{extended, played_to, rounds_count}
use Rattle.bt_centre.proofs.live.play_rounds.Goals as goal

pub live_round-requires-clause-few : goal.live_round-requires-clause-few
live_round-requires-clause-few g c =
    let first = take c.loop-round.round-index c.args.rounds.now in
    omega (arith, rounds_count c.args.net.now first c.args.live c.loop-round.live c.loop-round.text.items c.loop-round.invariant.played, length-take-le c.loop-round.round-index c.args.rounds.now c.loop-round.auto.round-index-end, c.loop-round-test.true, c.requires.few)

pub live_round-requires-clause-network : goal.live_round-requires-clause-network
live_round-requires-clause-network g c κs within =
    (rounds_go_on c.args.net.now (take c.loop-round.round-index c.args.rounds.now) c.args.live c.loop-round.live c.loop-round.text.items c.requires.network c.requires.follow c.loop-round.invariant.played).ran.net ∙ c.requires.network

pub live_round-requires-clause-air_network : goal.live_round-requires-clause-air_network
live_round-requires-clause-air_network g c κs within =
    ap (λ (o : Opening). o.net) (rounds_go_on c.args.net.now (take c.loop-round.round-index c.args.rounds.now) c.args.live c.loop-round.live c.loop-round.text.items c.requires.network c.requires.follow c.loop-round.invariant.played).world
    ∙ c.requires.air_network

pub live_round-requires-clause-terminals : goal.live_round-requires-clause-terminals
live_round-requires-clause-terminals g c κs within =
    subst (IsRoundFor c.args.net.now) (sym c.round-item.is) (c.requires.terminals c.loop-round.round-index c.round-item.result c.loop-round-test.true)

pub live_round-requires-clause-follow : goal.live_round-requires-clause-follow
live_round-requires-clause-follow g c κs within =
    subst (λ (n : Net). Follows n c.loop-round.live.book.state.changes) c.requires.network
    (rounds_go_on c.args.net.now (take c.loop-round.round-index c.args.rounds.now) c.args.live c.loop-round.live c.loop-round.text.items c.requires.network c.requires.follow c.loop-round.invariant.played).ran.follows

pub returns-then-is_err-clause-failed : goal.returns-then-is_err-clause-failed
returns-then-is_err-clause-failed g c =
    let net = c.args.net.now in
    let first = take c.loop-round.round-index c.args.rounds.now in
    let all = rounds_append net first c.round-item.result c.args.live c.loop-round.live c.in-Ok.next c.loop-round.text.items c.in-Ok.own.items c.loop-round.invariant.played c.in-Ok.ensures.played c.store-store-in-Ok.ensures.last in
    left_on c.args.live c.in-Ok.next c.stop.result
    (rounds_go_on net (first ++ c.round-item.result ∷ []) c.args.live c.in-Ok.next (c.loop-round.text.items ++ c.in-Ok.own.items) c.requires.network c.requires.follow all) c.stop.ensures

pub returns-in-Err-clause-failed : goal.returns-in-Err-clause-failed
returns-in-Err-clause-failed g c =
    left_behind_rounds c.args.net.now (take c.loop-round.round-index c.args.rounds.now) c.args.live c.loop-round.live c.in-Err.remains c.loop-round.text.items c.requires.network c.requires.follow c.loop-round.invariant.lasts
    c.loop-round.invariant.played c.in-Err.ensures.failed

pub loop-round-preserved : goal.loop-round-preserved
loop-round-preserved g c =
    let net = c.args.net.now in
    let next = c.in-Ok.next in
    let text_is : c.extend_from_slice.new.self.items ≡ c.loop-round.text.items ++ c.in-Ok.own.items =
    extended c.extend_from_slice.result _ _ _ c.extend_from_slice.ensures.items (sym c.is_err.ensures.value ∙ c.if-is_err.false) ∙ ap (λ (a : List ℕ). c.loop-round.text.items ++ a) c.as_slice.ensures.value in
    record {
      played = subst (λ (t : List ℕ). RoundsPlayed net (take (c.loop-round.round-index + 1) c.args.rounds.now) c.args.live next t) (sym text_is)
          (played_to net c.args.rounds.now c.loop-round.round-index c.round-item.result c.args.live c.loop-round.live next c.loop-round.text.items c.in-Ok.own.items c.loop-round-test.true c.round-item.is
          c.loop-round.invariant.played c.in-Ok.ensures.played c.store-store-in-Ok.ensures.last);
      lasts = c.store-store-in-Ok.ensures.last;
    }

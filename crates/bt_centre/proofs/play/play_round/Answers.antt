-- a round was played, or memory ran out over it
use Rattle.std.proofs.Common.{◌≡◌, List, ℕ, rules, refl, subst, ◌+◌}
use Rattle.bt_timeline.specs.Timeline.{round_line}
use Rattle.bt_round.specs.Rounds.{RoundDone}
use Rattle.bt_round.proofs.OnOk.{when_ok}
use Rattle.bt_centre.specs.Progress.{Hand, IsLeftEarly, RoundPlayed}
use Rattle.bt_centre.proofs.Going.{left_early, left_on}
use Rattle.bt_centre.proofs.play.play_round.Goals as goal

pub returns-then-is_err-clause-failed : goal.returns-then-is_err-clause-failed
returns-then-is_err-clause-failed g c = left_early c.args.net.now c.args.playing c.stop.result c.requires.network c.requires.follow c.stop.ensures

pub returns-in-Ok-clause-played : goal.returns-in-Ok-clause-played
returns-in-Ok-clause-played g c =
    let station = c.playing.inside.station in
    let after = c.run_round-station.result.0 in
    let inside = c.playing.inside in
    let new : Hand = record { over = inside.over.items; before = inside.before; book = after.book; air = after.centre; rounds = inside.rounds + 1 } in
    let line : c.round_text.new.out.items ≡ round_line (c.playing.inside.rounds + 1) = search rules in
    subst (λ (old : Hand). RoundPlayed c.args.net.now c.args.round.now old new c.run_round-station.new.text.items) c.playing.view_is (record {
      goes = record { over = refl; before = refl; ran = c.run_round-station.ensures.ran; world = c.run_round-station.ensures.opening };
      rounds = refl;
      done = subst (λ (t : List ℕ). RoundDone c.args.net.now c.args.round.now station.centre after.centre station.book after.book t c.run_round-station.new.text.items) line
          (when_ok c.run_round-station.result.1 c.in-Ok.field-0 c.in-Ok.is c.run_round-station.ensures.done);
    })

pub returns-in-Err-clause-failed : goal.returns-in-Err-clause-failed
returns-in-Err-clause-failed g c =
    let inside = c.playing.inside in
    let after = c.run_round-station.result.0 in
    let old : Hand = record { over = inside.over.items; before = inside.before; book = inside.station.book; air = inside.station.centre; rounds = inside.rounds } in
    let new : Hand = record { over = inside.over.items; before = inside.before; book = after.book; air = after.centre; rounds = inside.rounds + 1 } in
    subst (λ (hand : Hand). IsLeftEarly hand c.leave.result) c.playing.view_is
    (left_on old new c.leave.result (record { over = refl; before = refl; ran = c.run_round-station.ensures.ran; world = c.run_round-station.ensures.opening }) (c.leave.ensures (inside.rounds + 1)))

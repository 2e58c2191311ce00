use Rattle.std.proofs.Common.{◌≡◌, ◌+◌, true, arith, rules}
use Rattle.std.proofs.lemmas.List.Elements.{All-more}
use Rattle.bt_demand.specs.Plan.{IsHeld}
use Rattle.bt_demand.proofs.LatestEnds.{no_burst}
use Rattle.bt_frame.proofs.Walk.{All-whole}
use Rattle.bt_demand.proofs.Begins.{is_first_unheld}
use Rattle.bt_demand.proofs.holding.first_unheld.Goals as goal

pub returns-then-not-is_held : goal.returns-then-not-is_held
returns-then-not-is_held c =
    is_first_unheld c.args.net.now c.args.modes.now c.args.bursts.now c.loop-place.place c.loop-place-test.true c.loop-place.invariant.held
    (λ held. let yes : c.is_held.result ≡ true = c.is_held.ensures.1 held in cc)

pub loop-place-preserved : goal.loop-place-preserved
loop-place-preserved c = record {
  stands = c.turn_at-turn.ensures.is;
  begun = λ more. omega (arith, c.turn_at-turn.ensures.begun, (c.requires.bursts.ordered c.loop-place.place (c.loop-place.place + 1) no_burst (omega arith) more).start);
  held = All-more (IsHeld c.args.net.now c.args.modes.now) c.args.bursts.now c.loop-place.place no_burst c.loop-place-test.true c.loop-place.invariant.held
      (c.is_held.ensures.0 (search rules));
}

pub returns : goal.returns
returns c = All-whole (IsHeld c.args.net.now c.args.modes.now) c.args.bursts.now c.loop-place.place c.loop-place-test.false c.loop-place.invariant.held

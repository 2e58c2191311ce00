use Rattle.std.proofs.Common.{◌<◌, ◌≤◌, ◌+◌, length, arith}
use Rattle.bt_demand.proofs.Begins.{held_by_its_mode, its_mode_holds, none_holds}
use Rattle.bt_demand.proofs.holding.is_held.Goals as goal

-- behind the last mode
pub returns-then-turn-modes : goal.returns-then-turn-modes
returns-then-turn-modes c =
    ((λ no. absurd cc), (λ held. absurd (none_holds c.args.net.now c.args.modes.now c.args.burst c.args.turn c.requires.at c.if-turn-modes.true held)))

-- within that mode, which makes the connection or not
pub returns-then-lasts_until : goal.returns-then-lasts_until
returns-then-lasts_until c =
    let inside : c.args.turn.place < length c.args.modes.now = omega arith in
    let lasts : (0 < c.args.burst.length) × (c.args.burst.start + c.args.burst.length ≤ c.args.turn.begin + c.index-modes-turn.result.duration) =
    rw (← c.from.ensures) (c.lasts_until.ensures.0 c.if-lasts_until.true) in (
      (λ yes. held_by_its_mode c.args.net.now c.args.modes.now c.args.burst c.args.turn c.index-modes-turn.result c.requires.at inside c.index-modes-turn.is (lasts, c.connects.ensures.0 yes)),
      (λ held. c.connects.ensures.1 (its_mode_holds c.args.net.now c.args.modes.now c.args.burst c.args.turn c.index-modes-turn.result c.requires.at inside c.index-modes-turn.is held).1),
    )

-- empty, or not over in time
pub returns-else-lasts_until : goal.returns-else-lasts_until
returns-else-lasts_until c =
    let inside : c.args.turn.place < length c.args.modes.now = omega arith in (
      (λ yes. absurd cc),
      (λ held. c.lasts_until.ensures.1 (rw c.from.ensures (its_mode_holds c.args.net.now c.args.modes.now c.args.burst c.args.turn c.index-modes-turn.result c.requires.at inside c.index-modes-turn.is held).0)),
    )

use Rattle.std.proofs.Common.{arith}
use Rattle.std.proofs.lemmas.Bool.{OnTrue_at, OnTrue_from}
use Rattle.std.proofs.lemmas.Grind.{common_steps, moves}
use Rattle.bt_modes.proofs.Moves.{IsFreeColumn-left, MovesToUnvisited-set}
use Rattle.bt_modes.proofs.augmenting.+augment.Goals as goal

pub seek-returns-then-vacate-clause-matching : goal.seek-returns-then-vacate-clause-matching
seek-returns-then-vacate-clause-matching t c = grind (arith, moves)

pub seek-returns-then-vacate-clause-holders : goal.seek-returns-then-vacate-clause-holders
seek-returns-then-vacate-clause-holders t c = grind (arith, moves)

pub seek-returns-then-vacate-clause-moves : goal.seek-returns-then-vacate-clause-moves
seek-returns-then-vacate-clause-moves t c = grind (arith, moves)

pub seek-returns-then-vacate-clause-found : goal.seek-returns-then-vacate-clause-found
seek-returns-then-vacate-clause-found t c = grind (arith, moves)

pub vacate-seek-requires : goal.vacate-seek-requires
vacate-seek-requires t c = grind (arith, common_steps)

pub vacate-returns-in-Some-clause-moves : goal.vacate-returns-in-Some-clause-moves
vacate-returns-in-Some-clause-moves t c = MovesToUnvisited-set _ c.args.down _ _ c.seek.ensures.moves

pub vacate-returns-in-Some-clause-free : goal.vacate-returns-in-Some-clause-free
vacate-returns-in-Some-clause-free t c = OnTrue_from _ _ (λ moved.
    IsFreeColumn-left _ _ c.args.visited.now c.in-Some.row c.args.down (omega arith)
    c.requires.matching.own_columns c.in-Some.ensures.held (OnTrue_at moved c.seek.ensures.found) c.seek.ensures.moves)

pub vacate-returns-in-Some-clause-explored : goal.vacate-returns-in-Some-clause-explored
vacate-returns-in-Some-clause-explored t c = grind (arith, moves)

pub vacate-returns-in-Some-clause-fewer : goal.vacate-returns-in-Some-clause-fewer
vacate-returns-in-Some-clause-fewer t c = grind (arith, common_steps)

pub vacate-returns-in-None-clause-fewer : goal.vacate-returns-in-None-clause-fewer
vacate-returns-in-None-clause-fewer t c = grind (arith, common_steps)

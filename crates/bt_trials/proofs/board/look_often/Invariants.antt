use Rattle.std.proofs.Common.{◌≡◌}
use Rattle.bt_trials.proofs.board.look_often.Given as goal

abbrev pub invariant-loop : goal.invariant-loop
invariant-loop l = l.reader.board ≡ l.fn.reader.board

use Rattle.std.proofs.Common.{◌≡◌}
use Rattle.bt_trials.proofs.board.post_all.Given as goal

abbrev pub invariant-loop-edition : goal.invariant-loop-edition
invariant-loop-edition g l = l.publisher.board ≡ l.fn.publisher.board

use Rattle.bt_matrix.proofs.Shortest.{good-le-modes}
use Rattle.bt_matrix.proofs.laws.no_schedule_is_shorter.Goals as goal

pub returns : goal.returns
returns c = record { least = good-le-modes }

-- a text spells only traffic matrices
use Rattle.std.proofs.Common.{map}
use Rattle.bt_plan.proofs.Spelled.{matrix_reading-IsTraffic}
use Rattle.bt_plan.proofs.matrix_reader.read_matrix.Goals as goal

pub of-requires : goal.of-requires
of-requires c = record { traffic = matrix_reading-IsTraffic c.args.bytes.now (map (λ row. row.items) c.in_ok-rows.rows.items) c.in_ok-rows.ensures }

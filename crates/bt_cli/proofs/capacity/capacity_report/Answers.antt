-- the matrix has a row for each beam
use Rattle.std.proofs.Common.{ap, length, ◌∙◌}
use Rattle.bt_demand.proofs.Matrices.{length-matrix_of}
use Rattle.bt_cli.proofs.capacity.capacity_report.Goals as goal

pub capacity_text-requires : goal.capacity_text-requires
capacity_text-requires c = record { beams = ap length c.requires.matrix ∙ length-matrix_of c.args.asked.now.net c.args.asked.now.demand }

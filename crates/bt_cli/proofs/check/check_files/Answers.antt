-- the second load is told of its own start, which is after the first load
use Rattle.std.proofs.Common.{length}
use Rattle.bt_load.specs.Kinds.{matrix_file, schedule_file}
use Rattle.bt_load.specs.Loaders.{file}
use Rattle.bt_load.proofs.Loads.{came_then, file_sooner}
use Rattle.bt_cli.specs.Check.{Judges}
use Rattle.bt_cli.proofs.check.check_files.Goals as goal

pub returns : goal.returns
returns g c =
    let rows = c.in_ok-matrix.matrix in
    let modes = c.args.modes.now in
    came_then (file matrix_file c.args.matrix.now) (λ one. file (schedule_file (length one)) modes) (λ both. Judges both.0 both.1) (g.F.Files.told c.args.files.now) (g.F.Files.told c.load_matrix.new.files) _ _ _ rows
    (file_sooner (schedule_file (length rows)) modes) c.in_ok-matrix.ensures.same c.in_ok-matrix.ensures.later c.in_ok-matrix.ensures.loaded c.check_modes_file.result c.check_modes_file.ensures

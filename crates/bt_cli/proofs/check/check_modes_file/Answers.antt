-- the matrix's size is the number of its rows
use Rattle.std.proofs.Common.{ℕ, rules, subst}
use Rattle.bt_outside.specs.Told.{Rose}
use Rattle.bt_load.specs.Kinds.{schedule_file}
use Rattle.bt_load.specs.Loaders.{Loads, file}
use Rattle.bt_cli.specs.Check.{Judges}
use Rattle.bt_report.specs.Printing.{CameTo}
use Rattle.bt_cli.proofs.check.check_modes_file.Goals as goal

pub returns-in_err-schedule : goal.returns-in_err-schedule
returns-in_err-schedule g c =
    let P : ℕ → Type 0 = λ size. CameTo (Loads (file (schedule_file size) c.args.modes.now) (Judges c.args.matrix.now) (g.F.Files.told c.args.files.now) (Rose (g.F.Files.fault_count c.args.files.now) (g.F.Files.fault_count c.load_schedule.new.files))) c.from_residual.result in
    subst P c.size.ensures.size (search rules)

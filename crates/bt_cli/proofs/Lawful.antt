-- The loads of commands that load more than one file stop in one way, or give one value.
use Rattle.std.proofs.Common.{ℕ, List, length}
use Rattle.bt_load.specs.Kinds.{matrix_file, network_file, plan_file, schedule_file, script_file}
use Rattle.bt_load.specs.Loaders.{file}
use Rattle.bt_load.proofs.OneLoad.{IsLawful, file_lawful, then_lawful}
use Rattle.bt_cli.specs.Check.{schedule_files}
use Rattle.bt_cli.specs.CheckPlan.{plan_files}
use Rattle.bt_cli.specs.Fitting.{asked_files}
use Rattle.bt_cli.specs.Run.{script_files}
use Rattle.bt_cli.specs.Table.{table_file, table_files}
use Rattle.bt_cli.specs.Timing.{delay_files, timed_plan}
use Rattle.bt_cli.proofs.LoadsAsked.{Lines, asked_lawful}
use Rattle.bt_cli.proofs.Timed.{timed_lawful}

pub modes_lawful : (matrix modes : List ℕ) → IsLawful (schedule_files matrix modes)
modes_lawful matrix modes = then_lawful (file matrix_file matrix) (λ rows. file (schedule_file (length rows)) modes) (file_lawful matrix_file matrix) (λ rows. file_lawful (schedule_file (length rows)) modes)

pub plan_lawful : Lines → (net traffic plan : List ℕ) → IsLawful (plan_files net traffic plan)
plan_lawful lines net traffic plan = then_lawful (asked_files net traffic) (λ asked. file (plan_file asked.0) plan) (asked_lawful lines net traffic) (λ asked. file_lawful (plan_file asked.0) plan)

pub delay_lawful : Lines → (net traffic plan delays : List ℕ) → IsLawful (delay_files net traffic plan delays)
delay_lawful lines net traffic plan delays =
    then_lawful (asked_files net traffic) (λ asked. timed_plan asked.0 asked.1 plan delays) (asked_lawful lines net traffic) (λ asked. timed_lawful asked.0 asked.1 plan delays)

pub script_lawful : (net script : List ℕ) → IsLawful (script_files net script)
script_lawful net script = then_lawful (file network_file net) (λ network. file (script_file network) script) (file_lawful network_file net) (λ network. file_lawful (script_file network) script)

pub table_lawful : (net table : List ℕ) → IsLawful (table_files net table)
table_lawful net table = then_lawful (file network_file net) (λ network. file (table_file network) table) (file_lawful network_file net) (λ network. file_lawful (table_file network) table)

-- all that was printed is lines, since the script has parts that can be read
use Rattle.std.specs.Option.{is_some}
use Rattle.bt_run_laws.proofs.Outputs.{whole_read}
use Rattle.bt_run_laws.proofs.Scripts.{script_is}
use Rattle.bt_run_laws.proofs.laws.a_runs_output_is_read.Goals as goal

pub returns : goal.returns
returns c = record {
  read = λ net text script output stored status histories events sound spelled run whole.
      whole_read net (is_some stored.before) run.opening script.items histories events whole.lines stored sound (script_is net text script spelled) run.opens run.world whole.run;
}

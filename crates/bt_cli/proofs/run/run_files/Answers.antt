-- the script is loaded after the network, whose own start is the first
use Rattle.std.proofs.Common.{ℕ, Err, sym, ap, subst}
use Rattle.bt_report.specs.Printing.{EndsWith}
use Rattle.bt_report.specs.Output.{Output}
use Rattle.bt_load.specs.Kinds.{network_file, script_file}
use Rattle.bt_load.specs.Loaders.{file}
use Rattle.bt_load.proofs.Loads.{file_sooner}
use Rattle.bt_cli.specs.Calls.{input_of, output_of, stored_of}
use Rattle.bt_cli.specs.Run.{HasRun}
use Rattle.bt_cli.proofs.Finished.{ends_first, ends_then}
use Rattle.bt_cli.proofs.run.run_files.Goals as goal

pub returns-in-Ok : goal.returns-in-Ok
returns-in-Ok g c =
    let net = c.in-Ok.net in
    let script = c.args.script.now in
    record {
      ends = ends_then (file network_file c.args.net.now) (λ network. file (script_file network) script) (λ both. HasRun both.0 both.1) (g.F.Files.told c.args.files.now) (g.F.Files.told c.load_network.new.files) _ _ _ _ _ _ net
          (file_sooner (script_file net) script) c.in-Ok.ensures.same c.in-Ok.ensures.later c.in-Ok.ensures.loaded c.run_script_file.ensures.ends;
    }

pub returns-in-Err : goal.returns-in-Err
returns-in-Err g c =
    let output : Output = output_of g.O.Sink.told g.O.Sink.fault_count c.args.out.now c.print.new.out in
    let P : ℕ → Type 0 = λ status. EndsWith output (Err c.in-Err.stop) status in
    record {
      ends = ends_first (file network_file c.args.net.now) (λ network. file (script_file network) c.args.script.now) (λ both. HasRun both.0 both.1)
          (input_of g.F.Files.told g.F.Files.fault_count c.args.files.now c.load_network.new.files) output
          (stored_of g.K.Keeper.told g.K.Keeper.fault_count c.args.store c.without_run.result.store)
          (record { status = c.without_run.result.status; histories = c.without_run.result.histories; events = c.without_run.result.events.items })
          c.in-Err.stop
          (record {
            histories = c.without_run.ensures.histories;
            events = c.without_run.ensures.events;
            store = record { bytes = ap g.K.Keeper.told c.without_run.ensures.store; faults = ap g.K.Keeper.fault_count c.without_run.ensures.store };
          })
          c.in-Err.ensures.stops (subst P (sym c.without_run.ensures.status) c.print.ensures.ends);
    }

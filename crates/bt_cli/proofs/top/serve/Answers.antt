-- what is asked runs a script, replays a journal, or does neither
use Rattle.bt_cli.specs.Calls.{input_of, output_of}
use Rattle.bt_cli.specs.Request.{asked}
use Rattle.bt_cli.proofs.ByCommand.{ended_alone, ends_at, has_replayed, none_asked}
use Rattle.bt_cli.proofs.top.serve.Goals as goal

pub report-requires : goal.report-requires
report-requires g c = none_asked c.args.line c.in_default.not-RunScript c.in_default.not-ReplayJournal

pub returns-in-RunScript : goal.returns-in-RunScript
returns-in-RunScript g c = record { ends = ends_at _ _ _ c.args.line _ _ c.in-RunScript.is c.run_files.ensures.ends }

pub returns-in-ReplayJournal : goal.returns-in-ReplayJournal
returns-in-ReplayJournal g c = record {
  ends = ends_at _ _ _ c.args.line _ _ c.in-ReplayJournal.is
      (has_replayed g.K.Keeper.told g.K.Keeper.fault_count
      (input_of g.F.Files.told g.F.Files.fault_count c.args.files.now c.replay_files-status.new.files)
      (output_of g.O.Sink.told g.O.Sink.fault_count c.args.out.now c.replay_files-status.new.out)
      c.args.store c.without_run.result.store c.replay_files-status.result.1 c.replay_files-status.result.0 c.in-ReplayJournal.net.now
      (record { status = c.without_run.result.status; histories = c.without_run.result.histories; events = c.without_run.result.events.items })
      c.without_run.ensures.histories c.without_run.ensures.events c.without_run.ensures.store c.without_run.ensures.status c.replay_files-status.ensures);
}

pub returns-in_default : goal.returns-in_default
returns-in_default g c = record {
  ends = ended_alone g.K.Keeper.told g.K.Keeper.fault_count _ _ _ _ _ (asked c.args.line) _ (none_asked c.args.line c.in_default.not-RunScript c.in_default.not-ReplayJournal)
      c.without_run-in_default.ensures.histories c.without_run-in_default.ensures.events c.without_run-in_default.ensures.store c.without_run-in_default.ensures.status c.report.ensures;
}

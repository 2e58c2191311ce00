-- the book was recovered, and its state printed; or it was not, and the fault was
use Rattle.std.proofs.Common.{inl, inr, rules}
use Rattle.bt_cli.specs.Replay.{PrintsState}
use Rattle.bt_report.proofs.Reports.{came_printed}
use Rattle.bt_cli.proofs.NamedFaults.{fault_printed}
use Rattle.bt_cli.proofs.replay.replay_store.Goals as goal

pub returns-in-Ok : goal.returns-in-Ok
returns-in-Ok g c =
    let changes = c.in-Ok.book.state.changes in
    let printed = came_printed _ (PrintsState c.args.net.now changes) c.state_report.result _ c.state_report.ensures c.print-status.ensures.ends in
    (c.beam_count-beams.ensures.sound, inl (changes, record { told = c.in-Ok.ensures.changes; readable = c.in-Ok.ensures.readable; left = search rules }, printed))

pub returns-in-Err : goal.returns-in-Err
returns-in-Err g c = (c.beam_count-beams.ensures.sound, inr (c.in-Err.fault, c.in-Err.ensures.fault, fault_printed _ c.in-Err.fault _ c.print_fault.ensures.printed))

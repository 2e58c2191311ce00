-- the length, and what follows it
use Rattle.bt_plan.proofs.ModeLines.{schedule_from_line}
use Rattle.bt_plan.proofs.schedule_reader.read_schedule.Goals as goal

pub returns-clause-reading : goal.returns-clause-reading
returns-clause-reading c = rw (schedule_from_line c.args.size c.args.bytes.now c.in-Some.line.now c.in-Some.rest.now c.in-Some.ensures.line, c.in_ok-slots.ensures) c.read_critical_and_modes.ensures

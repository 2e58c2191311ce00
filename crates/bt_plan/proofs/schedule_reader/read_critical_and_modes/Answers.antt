-- the critical line, and what follows it
use Rattle.std.proofs.Common.{Ok}
use Rattle.std.proofs.lemmas.Result.{err_from_is_err_and}
use Rattle.bt_text.specs.Text.{lines}
use Rattle.bt_plan.specs.ScheduleText.{modes_in}
use Rattle.bt_text.proofs.Faults.{IsFaultOf-then}
use Rattle.bt_plan.proofs.ModeLines.{critical_from_line}
use Rattle.bt_plan.proofs.schedule_reader.read_critical_and_modes.Goals as goal

pub returns-in_err-modes : goal.returns-in_err-modes
returns-in_err-modes c =
    let p = err_from_is_err_and c.from_residual-in_err-modes.result c.from_residual-in_err-modes.ensures.1 in
    let rest = c.in-Some.rest.now in
    rw (p.1, p.2, critical_from_line c.args.size c.args.slots (lines c.args.text.now) c.in-Some.line.now rest c.in-Some.ensures.line, c.in_ok-critical.ensures)
    (IsFaultOf-then c.in_err-modes.field-0.0 (modes_in c.args.size 3 (lines rest)) (λ modes. Ok (record { length = c.args.slots; critical = c.in_ok-critical.critical; modes = modes })) c.in_err-modes.ensures)

-- the length, and what follows it
use Rattle.std.proofs.lemmas.Result.{err_from_is_err_and}
use Rattle.bt_text.specs.Reading.{or_fault}
use Rattle.bt_text.specs.Text.{words, lines}
use Rattle.bt_plan.specs.declared.text_fault.TextCode.TheVariants.{P1}
use Rattle.bt_plan.specs.PlanText.{critical_behind}
use Rattle.bt_plan.specs.ScheduleText.{length_in}
use Rattle.bt_text.proofs.Faults.{IsFaultOf-then}
use Rattle.bt_plan.proofs.PlanLines.{first_line_says}
use Rattle.bt_plan.proofs.plan_reader.read_from_length.Goals as goal

pub returns-in_err-slots-clause-reading : goal.returns-in_err-slots-clause-reading
returns-in_err-slots-clause-reading c =
    let p = err_from_is_err_and c.from_residual.result c.from_residual.ensures.1 in
    let rest = c.in-Some.rest.now in
    rw (p.1, p.2, first_line_says 2 length_in (critical_behind c.args.net.now c.args.edition) (lines c.args.text.now) c.in-Some.line.now rest c.in-Some.ensures.line)
    (IsFaultOf-then c.in_err-slots.field-0.0 (or_fault (P1, 2) (length_in (words c.in-Some.line.now))) (λ slots. critical_behind c.args.net.now c.args.edition slots (lines rest)) c.in_err-slots.ensures)

pub returns-clause-reading : goal.returns-clause-reading
returns-clause-reading c =
    rw (first_line_says 2 length_in (critical_behind c.args.net.now c.args.edition) (lines c.args.text.now) c.in-Some.line.now c.in-Some.rest.now c.in-Some.ensures.line, c.in_ok-slots.ensures) c.read_from_critical.ensures.reading

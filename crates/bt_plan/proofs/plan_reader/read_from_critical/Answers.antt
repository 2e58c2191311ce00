-- the critical line, and what follows it
use Rattle.std.proofs.Common.{length, Ok}
use Rattle.std.proofs.lemmas.Result.{err_from_is_err_and}
use Rattle.bt_text.specs.Reading.{or_fault}
use Rattle.bt_text.specs.Text.{words, lines}
use Rattle.bt_plan.specs.declared.text_fault.TextCode.TheVariants.{P1}
use Rattle.bt_plan.specs.PlanText.{modes_and_bursts, parts_behind}
use Rattle.bt_plan.specs.ScheduleText.{critical_in}
use Rattle.bt_text.proofs.Faults.{IsFaultOf-then}
use Rattle.bt_plan.proofs.OnePlan.{between_terminals}
use Rattle.bt_plan.proofs.PlanLines.{first_line_says}
use Rattle.bt_plan.proofs.plan_reader.read_from_critical.Goals as goal

pub returns-in_err-critical-clause-reading : goal.returns-in_err-critical-clause-reading
returns-in_err-critical-clause-reading c =
    let p = err_from_is_err_and c.from_residual.result c.from_residual.ensures.1 in
    let rest = c.in-Some.rest.now in
    rw (p.1, p.2, first_line_says 3 (critical_in (length c.args.net.now.beams)) (parts_behind c.args.net.now c.args.edition c.args.slots) (lines c.args.text.now) c.in-Some.line.now rest c.in-Some.ensures.line, ← c.beam_count.ensures.count)
    (IsFaultOf-then c.in_err-critical.field-0.0 (or_fault (P1, 3) (critical_in c.beam_count.result (words c.in-Some.line.now))) (λ critical. parts_behind c.args.net.now c.args.edition c.args.slots critical (lines rest)) c.in_err-critical.ensures)

pub returns-in_err-modes-clause-reading : goal.returns-in_err-modes-clause-reading
returns-in_err-modes-clause-reading c =
    let p = err_from_is_err_and c.from_residual-in_err-modes.result c.from_residual-in_err-modes.ensures.1 in
    let rest = c.in-Some.rest.now in
    rw (p.1, p.2, first_line_says 3 (critical_in (length c.args.net.now.beams)) (parts_behind c.args.net.now c.args.edition c.args.slots) (lines c.args.text.now) c.in-Some.line.now rest c.in-Some.ensures.line, ← c.beam_count.ensures.count, c.in_ok-critical.ensures)
    (IsFaultOf-then c.in_err-modes.field-0.0 (modes_and_bursts c.args.net.now 4 (lines rest)) (λ parts. Ok (record { edition = c.args.edition; schedule = record { length = c.args.slots; critical = c.in_ok-critical.critical; modes = parts.0 }; bursts = parts.1 })) c.in_err-modes.ensures)

pub returns-clause-terminals : goal.returns-clause-terminals
returns-clause-terminals c = between_terminals c.args.net.now 4 (lines c.in-Some.rest.now) (c.in_ok-modes.modes, c.in_ok-modes.bursts) c.in_ok-modes.ensures

-- the slot, and what follows it
use Rattle.std.proofs.lemmas.Result.{err_from_is_err_and}
use Rattle.bt_text.specs.Text.{words, lines}
use Rattle.bt_text.proofs.Faults.{IsFaultOf-then}
use Rattle.bt_timing.specs.DelayText.{slot_in, behind_slot}
use Rattle.bt_timing.proofs.DelayLines.{first_line_read}
use Rattle.bt_timing.proofs.timing.Timing.read.Goals as goal

pub returns-in_err-slot-clause-reading : goal.returns-in_err-slot-clause-reading
returns-in_err-slot-clause-reading c =
    let p = err_from_is_err_and c.from_residual.result c.from_residual.ensures.1 in
    let rest = c.in-Some.rest.now in
    rw (p.1, p.2, first_line_read c.args.net.now (lines c.args.bytes.now) c.in-Some.line.now rest c.in-Some.ensures.line)
    (IsFaultOf-then c.in_err-slot.field-0.0 (slot_in (words c.in-Some.line.now)) (λ slot. behind_slot c.args.net.now slot (lines rest)) c.in_err-slot.ensures.reading)

pub returns-clause-reading : goal.returns-clause-reading
returns-clause-reading c =
    rw (first_line_read c.args.net.now (lines c.args.bytes.now) c.in-Some.line.now c.in-Some.rest.now c.in-Some.ensures.line, c.in_ok-slot.ensures.reading) c.read_from_half.ensures.reading

-- the guard, and what follows it
use Rattle.std.proofs.Common.{Ok}
use Rattle.std.proofs.lemmas.Result.{err_from_is_err_and}
use Rattle.bt_text.specs.Text.{words, lines}
use Rattle.bt_text.proofs.Faults.{IsFaultOf-then}
use Rattle.bt_timing.specs.DelayText.{half_in, behind_half, delays_in, nothing_known}
use Rattle.bt_timing.proofs.DelayLines.{second_line_read}
use Rattle.bt_timing.proofs.reader.read_from_half.Goals as goal

pub returns-in_err-half-clause-reading : goal.returns-in_err-half-clause-reading
returns-in_err-half-clause-reading c =
    let p = err_from_is_err_and c.from_residual.result c.from_residual.ensures.1 in
    let rest = c.in-Some.rest.now in
    rw (p.1, p.2, second_line_read c.args.net.now c.args.slot (lines c.args.text.now) c.in-Some.line.now rest c.in-Some.ensures.line)
    (IsFaultOf-then c.in_err-half.field-0.0 (half_in c.args.slot (words c.in-Some.line.now)) (λ half. behind_half c.args.net.now c.args.slot half (lines rest)) c.in_err-half.ensures.reading)

pub returns-in_err-delays-clause-reading : goal.returns-in_err-delays-clause-reading
returns-in_err-delays-clause-reading c =
    let p = err_from_is_err_and c.from_residual-in_err-delays.result c.from_residual-in_err-delays.ensures.1 in
    let rest = c.in-Some.rest.now in
    rw (p.1, p.2, second_line_read c.args.net.now c.args.slot (lines c.args.text.now) c.in-Some.line.now rest c.in-Some.ensures.line, c.in_ok-half.ensures.reading)
    (IsFaultOf-then c.in_err-delays.field-0.0 (delays_in c.args.net.now 3 (nothing_known c.args.net.now) (lines rest)) (λ delays. Ok (record { slot = c.args.slot; half = c.in_ok-half.half; delays = delays })) c.in_err-delays.ensures.reading)

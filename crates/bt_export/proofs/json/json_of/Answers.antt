-- one line more, and a line with a fault
use Rattle.std.proofs.Common.{arith}
use Rattle.std.proofs.lemmas.Result.{err_from_is_err_and}
use Rattle.bt_export.specs.Json.{json_of}
use Rattle.bt_export.proofs.Added.{ends, goes_on, more_back}
use Rattle.bt_export.proofs.json.json_of.Goals as goal

pub returns-in_err-add_numbered-clause-reading : goal.returns-in_err-add_numbered-clause-reading
returns-in_err-add_numbered-clause-reading c =
    let p = err_from_is_err_and c.from_residual.result c.from_residual.ensures.1 in
    rw (p.1, p.2)
    (ends c.loop-line.at c.loop-line.json.items c.in-Some.line.now c.in-Some.behind.now c.loop-line.rest.now c.in_err-add_numbered.field-0.0 (json_of c.args.text.now) c.in-Some.ensures.line c.in_err-add_numbered.ensures.added c.loop-line.invariant.so_far)

pub loop-line-preserved : goal.loop-line-preserved
loop-line-preserved c = record {
  so_far = goes_on c.loop-line.at c.loop-line.json.items c.add_numbered.new.json.items c.in-Some.line.now c.in-Some.behind.now c.loop-line.rest.now (json_of c.args.text.now) c.in-Some.ensures.line c.in_ok-add_numbered.ensures.added c.loop-line.invariant.so_far;
  back = λ others. c.loop-line.invariant.back (more_back c.in-Some.line.now c.in-Some.behind.now c.loop-line.rest.now c.in-Some.ensures.line c.in_ok-add_numbered.ensures.back others);
  few = omega (arith, c.in-Some.ensures.shorter, c.loop-line.invariant.few);
}

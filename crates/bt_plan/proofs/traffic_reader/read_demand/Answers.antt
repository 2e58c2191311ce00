-- one line more, and a line with a fault
use Rattle.std.proofs.Common.{ℕ, [], replicate, ap, ◌∙◌, refl, arith}
use Rattle.std.proofs.lemmas.Result.{err_from_is_err_and}
use Rattle.bt_text.specs.Text.{lines}
use Rattle.bt_plan.specs.TrafficText.{links_in}
use Rattle.bt_demand.proofs.FewLinks.{few_links}
use Rattle.bt_plan.proofs.TrafficLines.{goes_on, ends, none_read}
use Rattle.bt_plan.proofs.traffic_reader.read_demand.Goals as goal

pub loop-line-init : goal.loop-line-init
loop-line-init c =
    let matrix_is = c.in_ok-matrix.ensures.zeros ∙ ap (λ (n : ℕ). replicate n (replicate n 0)) c.beam_count.ensures.count in
    record {
      reading = rw c.in_ok-links.ensures refl;
      read = rw (c.in_ok-links.ensures, matrix_is) (none_read c.args.net.now c.beam_count.ensures.sound.beams.count.0 c.beam_count.ensures.sound.beams.count.1);
      count = rw c.in_ok-links.ensures refl;
    }

pub returns-in_err-add_line-clause-reading : goal.returns-in_err-add_line-clause-reading
returns-in_err-add_line-clause-reading c =
    let p = err_from_is_err_and c.from_residual-in_err-add_line.result c.from_residual-in_err-add_line.ensures.1 in
    rw (p.1, p.2) (ends c.in_err-add_line.field-0.0 c.args.net.now c.loop-line.at c.loop-line.links (lines c.loop-line.rest.now) c.in-Some.line.now c.in-Some.after.now (links_in c.args.net.now 1 [] (lines c.args.bytes.now)) c.in-Some.ensures.line c.in_err-add_line.ensures.reading c.loop-line.invariant.reading)

pub loop-line-preserved : goal.loop-line-preserved
loop-line-preserved c = record {
  reading = goes_on c.args.net.now c.loop-line.at c.loop-line.links c.add_line.new.links (lines c.loop-line.rest.now) c.in-Some.line.now c.in-Some.after.now (links_in c.args.net.now 1 [] (lines c.args.bytes.now)) c.in-Some.ensures.line c.in_ok-add_line.ensures.reading c.loop-line.invariant.reading;
  read = c.in_ok-add_line.ensures.read;
  count = omega (arith, c.in_ok-add_line.ensures.count, c.loop-line.invariant.count);
}

-- links are few, so that their lines are counted
pub overflow_add-at : goal.overflow_add-at
overflow_add-at c =
    let few = few_links c.args.net.now c.loop-line.links c.loop-line.invariant.read.demand c.loop-line.invariant.read.terminals c.beam_count.ensures.sound.terminals.count.1 in
    omega (arith, few, c.loop-line.invariant.count)

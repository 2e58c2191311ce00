use Rattle.std.proofs.Common.{arith}
use Rattle.bt_text.specs.Text.{is_word}
use Rattle.bt_look.proofs.Told.{line_at_most, line_fits, rest_at_start, rest_next, unmarked-next}
use Rattle.bt_look.proofs.measure.measure_lines.Goals as goal

pub loop-line-init : goal.loop-line-init
loop-line-init c = record { stands = rest_at_start c.args.text.now; so_far = omega arith; few = omega arith }

-- the line is within the text
pub line_bytes-bytes-requires : goal.line_bytes-bytes-requires
line_bytes-bytes-requires c =
    let fits = line_fits c.loop-line.rest.now c.in-Some.line.now c.in-Some.after.now c.in-Some.ensures.line in
    record { short = omega (arith, fits, c.loop-line.invariant.few, c.requires.short) }

pub loop-line-preserved : goal.loop-line-preserved
loop-line-preserved c =
    let rest = c.loop-line.rest.now in
    let line = c.in-Some.line.now in
    let after = c.in-Some.after.now in
    let cut = c.in-Some.ensures.line in
    let stands = c.loop-line.invariant in
    record {
      stands = rest_next c.args.text.now rest line after stands.stands cut;
      so_far = omega (arith, stands.so_far, unmarked-next c.args.mark.now rest line after cut, c.line_bytes-bytes.ensures);
      few = omega (arith, stands.few, line_fits rest line after cut, line_at_most (is_word c.args.mark.now line) line, c.line_bytes-bytes.ensures);
    }

use Rattle.std.proofs.Common.{sym, ◌∙◌, arith, length, ◌<◌}
use Rattle.std.specs.Str.{bytes_eq}
use Rattle.bt_chart.proofs.Naming.{found_one, none_more}
use Rattle.bt_chart.proofs.choosing.is_beam.Goals as goal

-- the beam has that name
pub returns-then-eq : goal.returns-then-eq
returns-then-eq c =
    let within : c.loop-beam.beam < length c.args.net.now.beams = omega (arith, c.loop-beam-test.true, c.beam_count-beam-end.ensures.count) in
    sym (found_one (bytes_eq c.args.word.now) c.args.net.now.beams c.loop-beam.beam c.beam_name.result.now within c.beam_name.ensures.name (sym c.eq.ensures ∙ c.if-eq.true))

-- it has another name
pub loop-beam-preserved : goal.loop-beam-preserved
loop-beam-preserved c =
    let within : c.loop-beam.beam < length c.args.net.now.beams = omega (arith, c.loop-beam-test.true, c.beam_count-beam-end.ensures.count) in
    none_more (bytes_eq c.args.word.now) c.args.net.now.beams c.loop-beam.beam c.beam_name.result.now within c.beam_name.ensures.name c.loop-beam.invariant (sym c.eq.ensures ∙ c.if-eq.false)

use Rattle.std.proofs.Common.{◌<◌, ◌≤◌, length, arith}
use Rattle.bt_look.proofs.Beams.{all_beams, next_beam}
use Rattle.bt_chart.specs.Page.{beam_rows}
use Rattle.bt_chart.proofs.beams.add_rows.Goals as goal

pub loop-beam-preserved : goal.loop-beam-preserved
loop-beam-preserved c =
    let within : c.loop-beam.beam < length c.args.net.now.beams = omega arith in
    next_beam c.args.net.now (beam_rows c.args.net.now c.args.matrix.now) c.loop-beam.beam _ _ _ within c.loop-beam.invariant c.in_ok-add_beam.ensures

pub returns : goal.returns
returns c =
    let past : length c.args.net.now.beams ≤ c.loop-beam.beam = omega arith in
    all_beams c.args.net.now (beam_rows c.args.net.now c.args.matrix.now) c.loop-beam.beam _ _ past c.loop-beam.invariant

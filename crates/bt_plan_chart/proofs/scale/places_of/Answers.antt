use Rattle.std.proofs.Common.{arith, rules, sym}
use Rattle.bt_plan_chart.proofs.Places.{first_place, none_before, one_more_beam, one_more_place, table_of}
use Rattle.bt_plan_chart.proofs.scale.places_of.Goals as goal

-- no beam has one before it yet
pub loop-beam-init : goal.loop-beam-init
loop-beam-init c = record {
  wide = search rules;
  so_far = λ beam below. first_place c.args.drawn beam below;
  lanes = sym (none_before c.args.drawn);
  few = omega arith;
}

-- one beam more
pub loop-beam-preserved : goal.loop-beam-preserved
loop-beam-preserved c =
    let drawn = c.args.drawn in
    let beam = c.loop-beam.beam in
    let more = one_more_beam drawn beam c.loop-beam.lanes c.lanes_of-lanes.result (omega (arith, c.loop-beam-test.true, c.requires)) c.loop-beam.invariant.lanes c.lanes_of-lanes.ensures.same in
    record {
      wide = search rules;
      so_far = one_more_place drawn c.loop-beam.places beam _ (omega (arith, c.loop-beam-test.true, c.loop-beam.invariant.wide)) c.loop-beam.invariant.so_far more;
      lanes = more;
      few = omega (arith, c.loop-beam.invariant.few, c.lanes_of-lanes.ensures.few);
    }

pub returns : goal.returns
returns c = table_of c.args.drawn c.loop-beam.places c.loop-beam.invariant.wide (λ beam within. c.loop-beam.invariant.so_far beam (omega (arith, within, c.loop-beam-test.false)))

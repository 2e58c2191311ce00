use Rattle.std.proofs.Common.{[], length, map, arith}
use Rattle.std.proofs.lemmas.Result.{err_from_is_err_and}
use Rattle.serde_json.specs.View.{view}
use Rattle.bt_frame.specs.Range.{IsWithin}
use Rattle.bt_net.specs.Reading.{through, with_beam}
use Rattle.bt_net.proofs.Walk.{goes_on, stops, ends, through-beams}
use Rattle.bt_net.proofs.reading.add_beams.Goals as goal

pub returns-in_err-add_beam-clause-walk : goal.returns-in_err-add_beam-clause-walk
returns-in_err-add_beam-clause-walk c =
    let p = err_from_is_err_and c.from_residual.result c.from_residual.ensures.1 in
    rw (p.1, p.2)
    (stops with_beam c.args.entries.now c.loop-entry.entry-index (through with_beam [] (map view c.args.entries.now)) c.in_err-add_beam.field-0.0 c.loop-entry.beams
    c.entry-item.result c.loop-entry-test.true c.entry-item.is c.in_err-add_beam.ensures.walk c.loop-entry.invariant.rest)

pub loop-entry-preserved : goal.loop-entry-preserved
loop-entry-preserved c = record {
  rest = goes_on with_beam c.args.entries.now c.loop-entry.entry-index (through with_beam [] (map view c.args.entries.now)) c.loop-entry.beams c.add_beam.new.beams
      c.entry-item.result c.loop-entry-test.true c.entry-item.is c.in_ok-add_beam.ensures.walk c.loop-entry.invariant.rest;
  count = omega (arith, c.in_ok-add_beam.ensures.count);
}

pub returns-clause-walk : goal.returns-clause-walk
returns-clause-walk c =
    ends with_beam c.args.entries.now c.loop-entry.entry-index (through with_beam [] (map view c.args.entries.now)) c.loop-entry.beams c.loop-entry-test.false c.loop-entry.invariant.rest

pub returns-clause-sound : goal.returns-clause-sound
returns-clause-sound c =
    let count : IsWithin 1 32 (length c.loop-entry.beams) = (omega arith, omega arith) in
    through-beams (map view c.args.entries.now) c.loop-entry.beams count (returns-clause-walk c)

use Rattle.std.proofs.Common.{[], length, map, arith}
use Rattle.std.proofs.lemmas.Result.{err_from_is_err_and}
use Rattle.serde_json.specs.View.{view}
use Rattle.bt_frame.specs.Range.{IsWithin}
use Rattle.bt_net.specs.Reading.{through, with_terminal}
use Rattle.bt_net.proofs.Walk.{goes_on, stops, ends, through-terminals}
use Rattle.bt_net.proofs.reading.add_terminals.Goals as goal

pub returns-in_err-add_terminal-clause-walk : goal.returns-in_err-add_terminal-clause-walk
returns-in_err-add_terminal-clause-walk c =
    let p = err_from_is_err_and c.from_residual.result c.from_residual.ensures.1 in
    rw (p.1, p.2)
    (stops (with_terminal c.args.beams.now) c.args.entries.now c.loop-entry.entry-index (through (with_terminal c.args.beams.now) [] (map view c.args.entries.now)) c.in_err-add_terminal.field-0.0 c.loop-entry.terminals
    c.entry-item.result c.loop-entry-test.true c.entry-item.is c.in_err-add_terminal.ensures.walk c.loop-entry.invariant.rest)

pub loop-entry-preserved : goal.loop-entry-preserved
loop-entry-preserved c = record {
  rest = goes_on (with_terminal c.args.beams.now) c.args.entries.now c.loop-entry.entry-index (through (with_terminal c.args.beams.now) [] (map view c.args.entries.now)) c.loop-entry.terminals c.add_terminal.new.terminals
      c.entry-item.result c.loop-entry-test.true c.entry-item.is c.in_ok-add_terminal.ensures.walk c.loop-entry.invariant.rest;
  count = omega (arith, c.in_ok-add_terminal.ensures.count);
}

pub returns-clause-walk : goal.returns-clause-walk
returns-clause-walk c =
    ends (with_terminal c.args.beams.now) c.args.entries.now c.loop-entry.entry-index (through (with_terminal c.args.beams.now) [] (map view c.args.entries.now)) c.loop-entry.terminals c.loop-entry-test.false c.loop-entry.invariant.rest

pub returns-clause-sound : goal.returns-clause-sound
returns-clause-sound c =
    let count : IsWithin 1 64 (length c.loop-entry.terminals) = (omega arith, omega arith) in
    through-terminals c.args.beams.now (map view c.args.entries.now) c.loop-entry.terminals count (returns-clause-walk c)

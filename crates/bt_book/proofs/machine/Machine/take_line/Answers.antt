use Rattle.std.proofs.Common.{rules, ap}
use Rattle.bt_history.specs.Machine.{State}
use Rattle.bt_book.proofs.machine.Machine.take_line.Goals as goal

pub make_again-requires-clause-can : goal.make_again-requires-clause-can
make_again-requires-clause-can c = record {
  runs = ap (λ (s : State). s.stopped) c.requires.state;
  good = search rules;
  room = search rules;
}

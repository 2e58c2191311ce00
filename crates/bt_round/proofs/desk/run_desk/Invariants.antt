use Rattle.std.proofs.Common.{◌≡◌, take}
use Rattle.bt_round.specs.Callers.{IsSameCaller, own_of}
use Rattle.bt_round.specs.Done.{DeskDone}
use Rattle.bt_round.proofs.desk.run_desk.Given as goal

-- the lines so far were done
abbrev pub invariant-loop-line : goal.invariant-loop-line
invariant-loop-line g l = record {
  same : IsSameCaller l.fn.caller l.caller;
  board : l.reader.board ≡ l.fn.reader.board;
  done : DeskDone l.net l.desk (take l.line-index l.lines) l.fn.reader.plans l.reader.plans (own_of l.fn.caller) (own_of l.caller) l.fn.text.items l.text.items;
}

use Rattle.std.proofs.Common.{◌≡◌, ◌+◌, ◌≤◌, ◌++◌, map}
use Rattle.std.proofs.Common.{deque_len, deque_capacity}
use Rattle.bt_frame.specs.declared.numbers.TermNo.{TermNo}
use Rattle.bt_air.specs.declared.sent.Place.TheVariants.{Terminal}
use Rattle.bt_round.specs.Waiting.{deliveries_of}
use Rattle.bt_round.specs.Worker.{numbered}
use Rattle.bt_round.proofs.waiting.Waiting.push_all.Given as goal

-- the terminals so far are to hear the message, and there is room for the others
abbrev pub invariant-loop-terminal : goal.invariant-loop-terminal
invariant-loop-terminal l = record {
  so_far : l.self-inside.deliveries.items ≡ l.fn.self ++ deliveries_of l.number (map (λ (terminal : TermNo). Terminal terminal) (numbered l.terminal));
  room : deque_len l.self-inside.deliveries + l.terminals ≤ deque_capacity l.self-inside.deliveries + l.terminal;
}

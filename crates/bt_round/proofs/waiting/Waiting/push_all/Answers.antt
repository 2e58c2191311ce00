use Rattle.std.proofs.Common.{◌≡◌, ◌++◌, sym, ap, ◌∙◌, arith}
use Rattle.std.proofs.lemmas.List.{append-nil}
use Rattle.bt_round.proofs.Terminals.{places, places-more}
use Rattle.bt_round.proofs.waiting.Waiting.push_all.Goals as goal

pub loop-terminal-init : goal.loop-terminal-init
loop-terminal-init c = record {
  so_far = c.reserve.ensures.items ∙ c.self.view_is ∙ sym (append-nil c.args.self.now);
  room = omega (arith, c.in_ok-reserve.ensures.ok, c.reserve.ensures.len);
}

pub push_back_reserved-requires : goal.push_back_reserved-requires
push_back_reserved-requires c = omega (arith, c.loop-terminal.invariant.room, c.loop-terminal-test.true)

pub loop-terminal-preserved : goal.loop-terminal-preserved
loop-terminal-preserved c = record {
  so_far = places-more c.args.number c.loop-terminal.terminal c.args.self.now c.loop-terminal.self-inside.deliveries.items c.push_back_reserved.new.self.items
      c.loop-terminal.invariant.so_far c.push_back_reserved.ensures.items;
  room = omega (arith, c.loop-terminal.invariant.room, c.push_back_reserved.ensures.len, c.push_back_reserved.ensures.capacity);
}

pub returns-clause-ok : goal.returns-clause-ok
returns-clause-ok c =
    let end : c.loop-terminal.terminal ≡ c.args.terminals = omega arith in
    c.loop-terminal.invariant.so_far ∙ ap (λ n. c.args.self.now ++ places c.args.number n) end

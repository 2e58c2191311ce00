use Rattle.std.proofs.Common.{ℕ, ◌+◌, ◌*◌, List, arith}
use Rattle.std.proofs.lemmas.List.Elements.{All-push}
use Rattle.bt_frame.specs.declared.mode.Mode.{Mode}
use Rattle.bt_cut.specs.declared.connection.Connection.{Connection}
use Rattle.bt_cut.specs.Serving.{HasSlots}
use Rattle.bt_cut.proofs.table.empty_table.Goals as goal

-- one more
pub loop-preserved : goal.loop-preserved
loop-preserved c = record {
  count = omega (arith, c.in_ok-push.ensures.len, c.loop.invariant.count);
  empty = rw c.in_ok-push.ensures.items (All-push (λ (connection : Connection). (modes : List Mode) (up down : ℕ) → HasSlots modes up down 0 0 connection)
      c.loop.table.items c.empty.result c.loop.invariant.empty c.empty.ensures);
}

-- each place has one
pub returns : goal.returns
returns c modes beams few = record {
  count = omega (arith, c.loop.invariant.count, c.loop.table.ok.0, c.loop-test.false, c.loop.auto.counter-end);
  each = λ up down other in_rows in_columns.
      c.loop.invariant.empty (up * 32 + down) other (omega (arith, c.loop.invariant.count, c.loop.table.ok.0, c.loop-test.false, c.loop.auto.counter-end)) modes up down;
}

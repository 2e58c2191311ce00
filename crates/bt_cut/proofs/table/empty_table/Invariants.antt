use Rattle.std.proofs.Common.{◌≡◌, ℕ, List, vec_len, All}
use Rattle.bt_frame.specs.declared.mode.Mode.{Mode}
use Rattle.bt_cut.specs.Serving.{HasSlots}
use Rattle.bt_cut.proofs.table.empty_table.Given as goal

-- so many connections without slots
abbrev pub invariant-loop : goal.invariant-loop
invariant-loop l = record {
  count : vec_len l.table ≡ l.counter;
  empty : All (λ connection. (modes : List Mode) (up down : ℕ) → HasSlots modes up down 0 0 connection) l.table.items;
}

use Rattle.std.proofs.Common.{◌≡◌, ◌≤◌, length}
use Rattle.std.specs.Prelude.{vec_capacity}
use Rattle.bt_demand.specs.Rows.{KeepLinks}
use Rattle.bt_demand.proofs.demand.add_rows.Given as goal

-- the links stay, there is a row more each time, and the memory does not shrink
abbrev pub invariant-loop : goal.invariant-loop
invariant-loop l = record {
  keep : KeepLinks l.fn.rows.items l.rows.items;
  count : length l.rows.items ≡ l.counter;
  room : vec_capacity l.fn.rows ≤ vec_capacity l.rows;
}

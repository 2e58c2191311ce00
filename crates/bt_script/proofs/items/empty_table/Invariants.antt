-- so many desks so far, none of them with a line
use Rattle.std.proofs.Common.{◌≡◌, [], All, vec_len}
use Rattle.bt_script.proofs.items.empty_table.Given as goal

abbrev pub invariant-loop : goal.invariant-loop
invariant-loop l = record {
  count : vec_len l.table ≡ l.counter;
  empty : All (λ lines. lines ≡ []) l.table.items;
}

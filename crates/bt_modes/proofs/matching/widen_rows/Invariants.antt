use Rattle.std.proofs.Common.{◌≡◌, length}
use Rattle.bt_modes.specs.Matching.{IsPartial, IsWhole}
use Rattle.bt_modes.specs.Search.{IsMatching}
use Rattle.bt_modes.proofs.matching.widen_rows.Given as goal

-- every row has a column
abbrev pub invariant-loop : goal.invariant-loop
invariant-loop l = record {
  size : length l.columns ≡ length l.initial.columns;
  matching : IsMatching l.table l.columns;
  partial : IsPartial l.columns;
  whole : IsWhole l.columns;
}

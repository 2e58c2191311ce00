-- the JSON so far with that of the lines that are left, which are numbered on
use Rattle.std.proofs.Common.{◌≡◌, ◌+◌, ◌≤◌, length}
use Rattle.bt_export.specs.Added.{behind}
use Rattle.bt_export.specs.Json.{AllSayBack, json_from, json_of}
use Rattle.bt_export.specs.Table.{rows_of}
use Rattle.bt_export.proofs.json.json_of.Given as goal

abbrev pub invariant-loop-line : goal.invariant-loop-line
invariant-loop-line l = record {
  so_far : behind l.json.items (json_from l.at (rows_of l.rest)) ≡ json_of l.text;
  back : AllSayBack (rows_of l.rest) → AllSayBack (rows_of l.text);
  few : l.at + length l.rest ≤ length l.text + 1;
}

abbrev pub decreases-loop-line : goal.decreases-loop-line
decreases-loop-line l = length l.rest

use Rattle.std.proofs.Common.{◌≡◌, ◌++◌, take, flat_map}
use Rattle.bt_timeline.specs.Replayed.{link_lines}
use Rattle.bt_timeline.proofs.replayed.add_rows.Given as goal

-- the links of the rows so far were added
abbrev pub invariant-loop-row : goal.invariant-loop-row
invariant-loop-row l = record {
  added : l.out.items ≡ l.fn.out.items ++ flat_map (link_lines l.net) (take l.row-index l.rows);
}

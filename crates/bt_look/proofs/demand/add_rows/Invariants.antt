use Rattle.std.proofs.Common.{◌≡◌, ◌++◌, take, flat_map}
use Rattle.bt_timeline.specs.Replayed.{link_lines}
use Rattle.bt_look.proofs.demand.add_rows.Given as goal

-- the lines of the links of the rows so far
abbrev pub invariant-loop-row : goal.invariant-loop-row
invariant-loop-row l = l.text.items ≡ l.fn.text.items ++ flat_map (link_lines l.net) (take l.row-index l.rows)

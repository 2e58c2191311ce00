use Rattle.std.proofs.Common.{◌≡◌, ◌++◌, take, flat_map}
use Rattle.bt_export.specs.Edits.{edit_line}
use Rattle.bt_export.proofs.edits.add_edits.Given as goal

-- the lines of the links so far
abbrev pub invariant-loop-link : goal.invariant-loop-link
invariant-loop-link l = l.text.items ≡ l.fn.text.items ++ flat_map (edit_line l.net l.desk l.kind) (take l.link-index l.links)

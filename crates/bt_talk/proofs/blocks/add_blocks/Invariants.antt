use Rattle.std.proofs.Common.{◌≡◌, ◌++◌, take}
use Rattle.bt_talk.specs.Opened.{block_lines}
use Rattle.bt_talk.proofs.blocks.add_blocks.Given as goal

-- the lines of the blocks so far
abbrev pub invariant-loop-one : goal.invariant-loop-one
invariant-loop-one l = l.text.items ≡ l.fn.text.items ++ block_lines (take l.one-index l.blocks)

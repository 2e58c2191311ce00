use Rattle.std.proofs.Common.{length}
use Rattle.bt_text_cases.proofs.linked.put_entries.Given as goal

-- each turn takes an entry of those to come
abbrev pub decreases-loop-down : goal.decreases-loop-down
decreases-loop-down g l = length l.cursor

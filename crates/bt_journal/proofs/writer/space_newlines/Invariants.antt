-- the bytes so far with a space for each newline, and the others as they were
use Rattle.std.proofs.Common.{◌≡◌, ◌++◌, map, take, drop}
use Rattle.bt_journal.specs.LineReading.{space_for_newline}
use Rattle.bt_journal.proofs.writer.space_newlines.Given as goal

abbrev pub invariant-loop-byte : goal.invariant-loop-byte
invariant-loop-byte l = l.text ≡ map space_for_newline (take l.byte-index l.initial.text) ++ drop l.byte-index l.initial.text

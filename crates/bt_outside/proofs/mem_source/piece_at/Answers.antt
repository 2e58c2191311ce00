-- a line, and what stands behind the last newline
use Rattle.std.proofs.Common.{◌+◌, drop, rules}
use Rattle.bt_outside.proofs.Pieces.{given-line, given-unended}
use Rattle.bt_outside.proofs.mem_source.piece_at.Goals as goal

pub returns-in_ok-extend_from_slice-in-Some-clause-next :
    goal.returns-in_ok-extend_from_slice-in-Some-clause-next
returns-in_ok-extend_from_slice-in-Some-clause-next c = given-line c.args.limit (drop c.args.place c.args.bytes.now) _ _ (drop (c.in-Some.end + 1) c.args.bytes.now) c.in-Some.ensures.line (search rules) (search rules)

pub returns-in-None-clause-next : goal.returns-in-None-clause-next
returns-in-None-clause-next c = given-unended c.args.limit c.args.bytes.now c.args.place c.in-None.ensures.none c.if-place-bytes.true

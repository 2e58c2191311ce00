-- a line that is no text and a newline
use Rattle.bt_journal.proofs.ChangeLines.{own_lines}
use Rattle.bt_journal.proofs.reader.read_change.Goals as goal

pub returns-in_default-clause-bad : goal.returns-in_default-clause-bad
returns-in_default-clause-bad c = λ h number change range same. c.in_default.ensures.none _ (own_lines c.args.net.now c.beam_count-beams.ensures.sound c.args.line.now number change range same)

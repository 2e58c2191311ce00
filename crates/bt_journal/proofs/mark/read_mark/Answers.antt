-- a line that is no text and a newline, and one that is
use Rattle.bt_journal.proofs.Marks.{no_line, answered}
use Rattle.bt_journal.proofs.mark.read_mark.Goals as goal

pub returns-in_default-clause-none : goal.returns-in_default-clause-none
returns-in_default-clause-none c = λ beams terminals range. no_line c.args.line.now c.in_default.ensures.none beams terminals range

pub returns : goal.returns
returns c = let here = answered c.args.line.now c.in-Some.text.now c.mark_in.result c.in-Some.ensures.text c.mark_in.ensures in record {
  range = here.range;
  line = here.line_is;
  none = here.none;
}

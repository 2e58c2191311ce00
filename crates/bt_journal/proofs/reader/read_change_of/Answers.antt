-- a line that is a text and a newline
use Rattle.std.proofs.Common.{arith}
use Rattle.bt_journal.proofs.ChangeLines.{answered, longer}
use Rattle.bt_journal.proofs.reader.read_change_of.Goals as goal

pub said_in-requires : goal.said_in-requires
said_in-requires c = record { short = omega (arith, longer c.args.line.now c.args.text.now c.requires.text, c.requires.short) }

pub returns : goal.returns
returns c = let here = answered c.args.net.now c.beam_count-beams.ensures.sound c.args.line.now c.args.text.now c.said_in.result c.requires.text c.said_in.ensures in record {
  line = here.line_is;
  range = here.range;
  edition = here.edition;
  bad = here.bad;
}

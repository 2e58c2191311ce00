-- the words, and then the newline
use Rattle.std.proofs.Common.{map}
use Rattle.bt_words.specs.Lines.{word_bytes}
use Rattle.bt_words.specs.Filled.{filled}
use Rattle.bt_words.specs.Forms.{part_of}
use Rattle.bt_words.proofs.Places.{then_newline}
use Rattle.bt_words.proofs.printing.put_line.Goals as goal

pub returns-then-put_words-clause-added : goal.returns-then-put_words-clause-added
returns-then-put_words-clause-added c =
    then_newline c.put_byte.result c.args.text.now c.put_words.new.text c.put_byte.new.self (filled (map part_of c.args.tokens.now) (map word_bytes c.args.words.now)) c.if-put_words.ensures.added c.put_byte.ensures.added

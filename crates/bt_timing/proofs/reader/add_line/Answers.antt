-- the first word, and those behind it
use Rattle.bt_text.proofs.Fronts.{front_word}
use Rattle.bt_timing.proofs.reader.add_line.Goals as goal

pub returns-clause-reading : goal.returns-clause-reading
returns-clause-reading c =
    rw (front_word c.in-Some.word.now c.args.words c.next.new.self c.in-Some.ensures.word c.in-Some.ensures.rest) c.add_words.ensures.reading

-- the laws of the words of a line
use Rattle.bt_text.proofs.TextLines.{spaced-words, words-spaced}
use Rattle.bt_text.proofs.spelling.words_have_one_line.Goals as goal

pub returns-clause-read : goal.returns-clause-read
returns-clause-read c = words-spaced

pub returns-clause-spelled : goal.returns-clause-spelled
returns-clause-spelled c = spaced-words

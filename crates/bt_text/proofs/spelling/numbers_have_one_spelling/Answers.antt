-- the laws of one number
use Rattle.bt_text.proofs.TextNumbers.{decimal_from_number_of, number_of-decimal}
use Rattle.bt_text.proofs.spelling.numbers_have_one_spelling.Goals as goal

pub returns-clause-read : goal.returns-clause-read
returns-clause-read c = number_of-decimal

pub returns-clause-spelled : goal.returns-clause-spelled
returns-clause-spelled c = decimal_from_number_of

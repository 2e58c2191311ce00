use Rattle.std.proofs.Common.{arith}
use Rattle.std.proofs.lemmas.Grind.{common_steps}
use Rattle.bt_text.proofs.word_reader.number_in_front.Goals as goal

-- a number of two digits or more
pub returns-in-49-to-57-clause-number : goal.returns-in-49-to-57-clause-number
returns-in-49-to-57-clause-number c = grind (arith, common_steps)

-- no number
pub returns-in_default-clause-number : goal.returns-in_default-clause-number
returns-in_default-clause-number c = grind (arith, common_steps)

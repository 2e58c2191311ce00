-- a line with more behind its newline
use Rattle.std.proofs.Common.{◌<◌, length, arith}
use Rattle.std.proofs.lemmas.Bool.Decides.{nat_tests}
use Rattle.bt_journal.proofs.ChangeLines.{more_behind}
use Rattle.bt_journal.proofs.reader.text_of.Goals as goal

pub returns-else-is_empty-clause-none : goal.returns-else-is_empty-clause-none
returns-else-is_empty-clause-none c = λ text whole.
    let some : 0 < length c.in_ok-text.rest.now = grind (arith, nat_tests) in
    more_behind c.args.line.now c.in_ok-text.text.now c.in_ok-text.rest.now text c.in_ok-text.ensures.line some whole

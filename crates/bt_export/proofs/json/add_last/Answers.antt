-- the line behind the last newline
use Rattle.std.proofs.Common.{ℕ, ◌<◌, List, length, sym, subst, ◌∙◌, arith}
use Rattle.std.proofs.lemmas.Bool.Decides.{nat_tests}
use Rattle.std.proofs.lemmas.Result.{err_from_is_err_and}
use Rattle.bt_text.specs.Reading.{IsFaultOf, LineReading}
use Rattle.bt_export.specs.declared.json.JsonCode.{JsonCode}
use Rattle.bt_export.proofs.Added.{last_line}
use Rattle.bt_export.proofs.json.add_last.Goals as goal

pub returns-clause-added : goal.returns-clause-added
returns-clause-added c =
    let some : 0 < length c.args.line.now = grind (arith, nat_tests, c.is_empty.ensures, c.if-is_empty.false) in
    last_line c.args.at c.args.json.now.items c.args.line.now some c.requires.last ∙ c.in_ok-add_numbered.ensures.added

pub returns-in_err-add_numbered-clause-added : goal.returns-in_err-add_numbered-clause-added
returns-in_err-add_numbered-clause-added c =
    let some : 0 < length c.args.line.now = grind (arith, nat_tests, c.is_empty.ensures, c.if-is_empty.false) in
    let p = err_from_is_err_and c.from_residual.result c.from_residual.ensures.1 in
    rw (p.1, p.2)
    (subst (λ (r : LineReading JsonCode (List ℕ)). IsFaultOf r c.in_err-add_numbered.field-0.0) (sym (last_line c.args.at c.args.json.now.items c.args.line.now some c.requires.last)) c.in_err-add_numbered.ensures.added)

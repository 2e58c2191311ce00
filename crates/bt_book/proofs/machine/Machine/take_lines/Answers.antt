use Rattle.std.proofs.Common.{◌+◌, [], ◌∷◌, ◌++◌, length, take, refl, sym, ap, ◌∙◌, arith}
use Rattle.std.proofs.lemmas.List.{append-nil}
use Rattle.std.proofs.lemmas.Result.{err_from_is_err_and}
use Rattle.bt_text.specs.Text.{lines}
use Rattle.bt_text.proofs.TextLines.{first_line_lacks, lines-ended}
use Rattle.bt_history.proofs.Marked.{Stands-end}
use Rattle.bt_history.proofs.Replayed.{Stands-line, Stands-fault, Stands-start, few_lines, short_so_far, line_read, length-line_read}
use Rattle.bt_book.proofs.machine.Machine.take_lines.Goals as goal

-- no line was taken yet
pub loop-line-init : goal.loop-line-init
loop-line-init c = Stands-start c.args.self.now.net c.args.text.now c.args.self.now refl c.requires.history c.requires.state

-- there are few lines
pub overflow_add-number : goal.overflow_add-number
overflow_add-number c =
    omega (arith, few_lines c.args.self.now.net c.args.text.now c.loop-line.rest.now c.loop-line.self c.loop-line.number c.loop-line.marked c.loop-line.invariant c.requires.short)

-- the line is read with its newline
pub slice_bounds-take_line-end : goal.slice_bounds-take_line-end
slice_bounds-take_line-end c = length-line_read c.loop-line.rest.now c.in-Some.line.now c.in-Some.after.now c.in-Some.ensures.line

-- its text is all of it but the newline
pub take_line-requires-clause-text : goal.take_line-requires-clause-text
take_line-requires-clause-text c =
    let line = c.in-Some.line.now in
    rw (line_read c.loop-line.rest.now line c.in-Some.after.now c.in-Some.ensures.line)
    (ap lines (sym (append-nil (line ++ 10 ∷ []))) ∙ lines-ended (line ∷ []) (rw (first_line_lacks c.loop-line.rest.now line _ c.in-Some.ensures.line) refl))

-- and is not too long behind those before it
pub take_line-requires-clause-short : goal.take_line-requires-clause-short
take_line-requires-clause-short c =
    short_so_far c.args.self.now.net c.args.text.now c.loop-line.rest.now c.in-Some.line.now c.in-Some.after.now c.loop-line.self c.loop-line.number c.loop-line.marked c.loop-line.invariant
    c.requires.short c.in-Some.ensures.line

-- the line that stopped the loop is the first that is wrong
pub returns-in_err-marked-clause-err : goal.returns-in_err-marked-clause-err
returns-in_err-marked-clause-err c =
    let p = err_from_is_err_and c.from_residual.result c.from_residual.ensures.1 in
    rw (p.1, p.2) (Stands-fault c.args.self.now.net c.args.text.now c.loop-line.rest.now c.in-Some.line.now c.in-Some.after.now (take (length c.in-Some.line.now + 1) c.loop-line.rest.now)
    c.loop-line.self c.loop-line.number c.loop-line.marked _ c.loop-line.invariant c.in-Some.ensures.line refl c.in_err-marked.ensures.fault)

-- it was taken
pub loop-line-preserved : goal.loop-line-preserved
loop-line-preserved c =
    Stands-line c.args.self.now.net c.args.text.now c.loop-line.rest.now c.in-Some.line.now c.in-Some.after.now (take (length c.in-Some.line.now + 1) c.loop-line.rest.now)
    c.loop-line.self c.take_line.new.self c.loop-line.number c.loop-line.marked _ c.loop-line.invariant c.in-Some.ensures.line refl c.in_ok-marked.ensures.taken c.in_ok-marked.ensures.net
    c.in_ok-marked.ensures.history

-- and all of them were
pub returns-clause-taken : goal.returns-clause-taken
returns-clause-taken c =
    Stands-end c.args.self.now.net c.args.text.now c.loop-line.rest.now c.loop-line.self c.loop-line.number c.loop-line.marked c.loop-line.invariant c.in_default.ensures.none

use Rattle.std.proofs.lemmas.Result.{err_from_is_err_and}
use Rattle.bt_export.proofs.edits.edits_of_journal.Goals as goal

pub edits_text-requires-clause-have : goal.edits_text-requires-clause-have
edits_text-requires-clause-have c =
    c.demands_fit_the_frame.ensures.network c.args.net.now c.in_ok-book.book.state.changes c.demand.result.now c.beam_count-beams.ensures.sound c.in_ok-book.ensures.follows c.demand.ensures.demand

-- want of memory is no matter of the bytes
pub returns-in_err-edits_text-clause-fault : goal.returns-in_err-edits_text-clause-fault
returns-in_err-edits_text-clause-fault c =
    let p = err_from_is_err_and c.from_residual-in_err-edits_text.result c.from_residual-in_err-edits_text.ensures.1 in
    rw (p.1, p.2) tt

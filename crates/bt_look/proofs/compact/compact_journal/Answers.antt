use Rattle.std.proofs.lemmas.Result.{err_from_is_err_and}
use Rattle.bt_look.proofs.compact.compact_journal.Goals as goal

pub compact_text-requires-clause-fits : goal.compact_text-requires-clause-fits
compact_text-requires-clause-fits c =
    c.demands_fit_the_frame.ensures.fits c.args.net.now c.in_ok-book.book.state.changes c.demand.result.now c.beam_count-beams.ensures.sound c.in_ok-book.ensures.follows c.demand.ensures.demand

-- want of memory is no matter of the bytes
pub returns-in_err-compact_text-clause-fault : goal.returns-in_err-compact_text-clause-fault
returns-in_err-compact_text-clause-fault c =
    let p = err_from_is_err_and c.from_residual-in_err-compact_text.result c.from_residual-in_err-compact_text.ensures.1 in
    rw (p.1, p.2) tt

use Rattle.std.proofs.lemmas.Result.{err_from_is_err_and}
use Rattle.bt_export.proofs.carry.carried_of_journal.Goals as goal

-- the demand of a book is between terminals of the network, and fits its frame
pub carry_demand-requires-clause-terminals : goal.carry_demand-requires-clause-terminals
carry_demand-requires-clause-terminals c =
    c.demands_fit_the_frame.ensures.network c.args.net.now c.in_ok-book.book.state.changes c.demand.result.now c.beam_count-beams.ensures.sound c.in_ok-book.ensures.follows c.demand.ensures.demand

pub carry_demand-requires-clause-fits : goal.carry_demand-requires-clause-fits
carry_demand-requires-clause-fits c =
    c.demands_fit_the_frame.ensures.fits c.args.net.now c.in_ok-book.book.state.changes c.demand.result.now c.beam_count-beams.ensures.sound c.in_ok-book.ensures.follows c.demand.ensures.demand

-- want of memory is no matter of the bytes
pub returns-in_err-carry_demand-clause-fault : goal.returns-in_err-carry_demand-clause-fault
returns-in_err-carry_demand-clause-fault c =
    let p = err_from_is_err_and c.from_residual-in_err-carry_demand.result c.from_residual-in_err-carry_demand.ensures.1 in
    rw (p.1, p.2) tt

use Rattle.std.proofs.lemmas.Result.{err_from_is_err_and}
use Rattle.bt_export.proofs.metrics.metrics_of_journal.Goals as goal

-- want of memory is no matter of the bytes
pub returns-in_err-metrics_text-clause-fault : goal.returns-in_err-metrics_text-clause-fault
returns-in_err-metrics_text-clause-fault c =
    let p = err_from_is_err_and c.from_residual-in_err-metrics_text.result c.from_residual-in_err-metrics_text.ensures.1 in
    rw (p.1, p.2) tt

use Rattle.std.proofs.Common.{◌≡◌, ℕ, Option, None, length, length-set, arith}
use Rattle.bt_modes.proofs.Tables.{IsPartial-within}
use Rattle.bt_modes.proofs.matching.widen.Goals as goal

pub returns-else-not-found-clause-partial : goal.returns-else-not-found-clause-partial
returns-else-not-found-clause-partial c =
    let freed : Option ℕ = None in
    let size : length c.seek-found.new.columns ≡ length c.args.columns.now = omega (arith, length-set c.args.columns.now c.narrowest-row.result.0 freed) in
    IsPartial-within c.args.table.now c.seek-found.new.columns (omega (arith, c.requires.partial.some_rows)) (omega (arith, c.requires.partial.few_rows))
    (rw size c.requires.within) c.seek-found.ensures.matching

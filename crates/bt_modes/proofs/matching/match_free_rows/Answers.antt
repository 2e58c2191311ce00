use Rattle.std.proofs.Common.{arith}
use Rattle.bt_modes.proofs.Tables.{IsPartial-within}
use Rattle.bt_modes.proofs.matching.match_free_rows.Goals as goal

pub returns-clause-partial : goal.returns-clause-partial
returns-clause-partial c =
    IsPartial-within c.args.table.now c.loop-row.columns (omega (arith, c.requires.partial.some_rows)) (omega (arith, c.requires.partial.few_rows))
    (λ up down some. omega (arith, c.requires.within up down some)) c.loop-row.invariant.matching

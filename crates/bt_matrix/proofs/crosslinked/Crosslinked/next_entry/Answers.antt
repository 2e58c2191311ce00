use Rattle.bt_matrix.proofs.NextEntry.{IfNone-behind, IsNextEntry-behind}
use Rattle.bt_matrix.proofs.crosslinked.Crosslinked.next_entry.Goals as goal

-- no entry is to come
pub returns-in_err-found-clause-none : goal.returns-in_err-found-clause-none
returns-in_err-found-clause-none g c = IfNone-behind c.from_residual.result c.args.self.now.rows c.args.row.0 c.args.last c.in_err-found.ensures.entry

-- the next one
pub returns-clause-next : goal.returns-clause-next
returns-clause-next g c =
    IsNextEntry-behind c.args.self.now.rows c.args.row.0 c.args.last c.in_ok-found.found.0.0 c.in_ok-found.found.1 _
    c.in_ok-found.ensures.positive.0 c.in_ok-found.ensures.entry

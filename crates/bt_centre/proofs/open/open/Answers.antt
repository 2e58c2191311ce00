use Rattle.std.proofs.Common.{◌∙◌, inl, inr, subst, sym, IfSome}
use Rattle.bt_history.specs.Book.{Books}
use Rattle.bt_history.specs.Recovery.{Recovered}
use Rattle.bt_history.proofs.Holding.{tells_some}
use Rattle.bt_centre.proofs.Restarts.{open_fault}
use Rattle.bt_centre.proofs.open.open.Goals as goal

-- the changes are those that the store told
pub returns-in-Ok-begin-clause-changes : goal.returns-in-Ok-begin-clause-changes
returns-in-Ok-begin-clause-changes g c =
    subst (λ (b : Books). IfSome (g.K.Keeper.told c.args.store) (λ bytes. Recovered c.args.net.now bytes b.state.changes)) (sym c.in-Ok-begin.ensures.book) c.in-Ok.ensures.changes

-- memory ran out behind the recovery, which left the store marked
pub returns-in-Err-begin-clause-fault : goal.returns-in-Err-begin-clause-fault
returns-in-Err-begin-clause-fault g c =
    let told = g.K.Keeper.told c.args.store in
    inr (inl (c.in-Err-begin.ensures.told ∙ c.in-Ok.ensures.told, tells_some c.args.net.now told c.in-Ok.book.state.changes c.in-Ok.ensures.changes))

-- or the recovery failed
pub returns-in-Err-clause-fault : goal.returns-in-Err-clause-fault
returns-in-Err-clause-fault g c = open_fault c.args.net.now (g.K.Keeper.told c.args.store) (g.K.Keeper.told c.in-Err.end.0) _ _ c.in-Err.end.1 c.in-Err.ensures.fault

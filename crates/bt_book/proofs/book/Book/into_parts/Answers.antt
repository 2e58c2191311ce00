use Rattle.std.proofs.Common.{subst}
use Rattle.bt_history.specs.Book.{Books}
use Rattle.bt_history.specs.Store.{IsStored, lost_of}
use Rattle.bt_book.proofs.book.Book.into_parts.Goals as goal

-- the store has what the type keeps of it
pub returns-clause-kept : goal.returns-clause-kept
returns-clause-kept g c = subst (λ (b : Books). IsStored b.net b.told b.state.changes (lost_of b.history)) c.self.view_is c.self.invariant.stored

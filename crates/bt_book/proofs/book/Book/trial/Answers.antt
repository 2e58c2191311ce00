use Rattle.bt_book.proofs.Copied.{holds_untold}
use Rattle.bt_book.proofs.book.Book.trial.Goals as goal

-- nothing is told of a store that keeps nothing, and it lost nothing
pub invariant_of-result : goal.invariant_of-result
invariant_of-result g c =
    let e = c.in_ok-machine.ensures in
    holds_untold c.self.inside.machine c.in_ok-machine.machine (g.K.Keeper.told c.self.inside.store) (g.K.Keeper.crashes c.self.inside.store) e.net e.state e.history c.self.invariant

use Rattle.std.proofs.Common.{◌≡◌, ◌⊎◌, List, ℕ, Option, Some, subst}
use Rattle.bt_outside.specs.Crash.{LeavesSince}
use Rattle.bt_history.proofs.Holding.{cut_is_whole, left_uncut}
use Rattle.bt_book.proofs.recover.cut_tail.Goals as goal

-- the cut bytes are those up to the last newline
pub returns-then-kept-bytes-clause-crash : goal.returns-then-kept-bytes-clause-crash
returns-then-kept-bytes-clause-crash g c =
    let told = g.K.Keeper.told c.args.store.now in
    subst (λ (cut : Option (List ℕ)). LeavesSince (g.K.Keeper.crashes c.args.store.now) (g.K.Keeper.crashes c.cut.new.self) (λ left. (Some left ≡ told) ⊎ (Some left ≡ cut)))
    (cut_is_whole told c.args.bytes.now c.args.kept c.requires.held c.requires.kept) (c.cut.ensures.crash c.requires.settled)

-- or nothing is cut
pub returns-else-kept-bytes-clause-crash : goal.returns-else-kept-bytes-clause-crash
returns-else-kept-bytes-clause-crash g c = left_uncut (g.K.Keeper.told c.args.store.now) (g.K.Keeper.crashes c.args.store.now) c.requires.settled

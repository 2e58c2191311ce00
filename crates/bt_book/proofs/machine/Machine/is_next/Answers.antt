use Rattle.bt_history.specs.Recovery.{IsNumbered}
use Rattle.bt_history.proofs.Strays.{next_if}
use Rattle.bt_book.proofs.machine.Machine.is_next.Goals as goal

-- no cause was found, or the change is not good
pub returns : goal.returns
returns c =
    let numbered : IsNumbered c.args.self.now.state.changes c.args.edition.0 c.args.change.now = c.is_numbered.ensures.0 c.if-not-is_numbered.false in
    next_if c.args.self.now.net c.args.self.now.state.changes c.args.edition.0 c.args.change.now c.in_ok-cause_in.field-0 c.is_none.result numbered c.in_ok-cause_in.ensures c.is_none.ensures

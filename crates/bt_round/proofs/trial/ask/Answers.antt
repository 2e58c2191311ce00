use Rattle.std.proofs.Common.{sym}
use Rattle.bt_history.specs.Store.{asked_line}
use Rattle.bt_round.proofs.Trying.{never_fails}
use Rattle.bt_round.proofs.trial.ask.Goals as goal

-- its store has no fault before and after
pub returns-clause-sure : goal.returns-clause-sure
returns-clause-sure c =
    let old = c.args.trial.now in
    never_fails (asked_line old.net old.state.changes c.args.call) c.in_ok-reply.reply old.told c.apply.new.self.told old.faults c.apply.new.self.faults
    (sym c.store-before.ensures.faults) (sym c.store-after.ensures.faults) c.in_ok-reply.ensures.store

use Rattle.std.proofs.Common.{subst}
use Rattle.bt_history.specs.Book.{Books, Survives}
use Rattle.bt_history.proofs.OneJournal.{are_lines}
use Rattle.bt_book.specs.Answered.{with_store}
use Rattle.bt_book.proofs.Answered.{call_keeps, err_survives}
use Rattle.bt_book.proofs.book.Book.apply.Goals as goal

-- what the store tells, and what a crash leaves of it, is kept by the call
pub invariant_of-self-2 : goal.invariant_of-self-2
invariant_of-self-2 g c =
    let a = c.self.inside in
    let are = are_lines a.machine.net c.network-net.ensures.sound c.lines_end_once.ensures.cut c.lines_tell_changes.ensures.change c.lines_tell_changes.ensures.edition c.marks_tell_sizes.ensures.short
    c.marks_tell_sizes.ensures.cut c.marks_tell_sizes.ensures.beams c.marks_tell_sizes.ensures.terminals c.marks_tell_sizes.ensures.no_change in
    (call_keeps (with_store a.machine (g.K.Keeper.told a.store) (g.K.Keeper.fault_count a.store) (g.K.Keeper.crashes a.store)) are c.args.caller c.args.call c.in_ok-reply.reply _
    c.network-net.ensures.sound c.self.invariant c.in_ok-reply.ensures).holds

-- and so a crash of the call leaves the changes, or these and the one that is asked for
pub returns-clause-crash : goal.returns-clause-crash
returns-clause-crash g c =
    let a = c.self.inside in
    let new = with_store c.apply.new.self (g.K.Keeper.told c.apply.new.store) (g.K.Keeper.fault_count c.apply.new.store) (g.K.Keeper.crashes c.apply.new.store) in
    let are = are_lines a.machine.net c.network-net.ensures.sound c.lines_end_once.ensures.cut c.lines_tell_changes.ensures.change c.lines_tell_changes.ensures.edition c.marks_tell_sizes.ensures.short
    c.marks_tell_sizes.ensures.cut c.marks_tell_sizes.ensures.beams c.marks_tell_sizes.ensures.terminals c.marks_tell_sizes.ensures.no_change in
    subst (λ (b : Books). Survives b c.args.call new) c.self.view_is
    (call_keeps (with_store a.machine (g.K.Keeper.told a.store) (g.K.Keeper.fault_count a.store) (g.K.Keeper.crashes a.store)) are c.args.caller c.args.call c.in_ok-reply.reply new
    c.network-net.ensures.sound c.self.invariant c.in_ok-reply.ensures).survives

-- where memory runs out nothing is asked of the store
pub returns-in_err-reply-clause-crash : goal.returns-in_err-reply-clause-crash
returns-in_err-reply-clause-crash g c =
    let a = c.self.inside in
    let new = with_store c.apply.new.self (g.K.Keeper.told c.apply.new.store) (g.K.Keeper.fault_count c.apply.new.store) (g.K.Keeper.crashes c.apply.new.store) in
    let are = are_lines a.machine.net c.network-net.ensures.sound c.lines_end_once.ensures.cut c.lines_tell_changes.ensures.change c.lines_tell_changes.ensures.edition c.marks_tell_sizes.ensures.short
    c.marks_tell_sizes.ensures.cut c.marks_tell_sizes.ensures.beams c.marks_tell_sizes.ensures.terminals c.marks_tell_sizes.ensures.no_change in
    subst (λ (b : Books). Survives b c.args.call new) c.self.view_is
    (err_survives (with_store a.machine (g.K.Keeper.told a.store) (g.K.Keeper.fault_count a.store) (g.K.Keeper.crashes a.store)) are c.args.call new c.in_err-reply.ensures c.self.invariant)

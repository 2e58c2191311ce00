use Rattle.std.proofs.Common.{[], sym, subst}
use Rattle.bt_net.specs.Network.{Net}
use Rattle.bt_history.specs.Store.{IsStored}
use Rattle.bt_history.specs.Recovery.{IsNoLine, IsStray}
use Rattle.bt_history.proofs.OneJournal.{AreLines, are_lines, exact_changes, exact_right, fault_changes, fault_no_line, fault_stray, no_line_Wrongs, stray_Wrongs}
use Rattle.bt_history.proofs.Holding.{holds_opened, left_by_recovery, settled_tells}
use Rattle.bt_book.proofs.Opening.{stored_opened}
use Rattle.bt_book.proofs.book.Book.recover.Goals as goal

-- the changes that are told are these, and no line is wrong
pub returns-in-Ok-clause-exact_changes : goal.returns-in-Ok-clause-exact_changes
returns-in-Ok-clause-exact_changes g c =
    let are = are_lines c.args.net.now c.beam_count-beams.ensures.sound c.lines_end_once.ensures.cut c.lines_tell_changes.ensures.change c.lines_tell_changes.ensures.edition c.marks_tell_sizes.ensures.short
    c.marks_tell_sizes.ensures.cut c.marks_tell_sizes.ensures.beams c.marks_tell_sizes.ensures.terminals c.marks_tell_sizes.ensures.no_change in
    exact_changes c.args.net.now are (g.K.Keeper.told c.args.store) c.in-Ok.machine.state.changes c.in-Ok.ensures.changes

pub returns-in-Ok-clause-exact_no_line : goal.returns-in-Ok-clause-exact_no_line
returns-in-Ok-clause-exact_no_line g c =
    let net = c.args.net.now in
    let are = are_lines net c.beam_count-beams.ensures.sound c.lines_end_once.ensures.cut c.lines_tell_changes.ensures.change c.lines_tell_changes.ensures.edition c.marks_tell_sizes.ensures.short
    c.marks_tell_sizes.ensures.cut c.marks_tell_sizes.ensures.beams c.marks_tell_sizes.ensures.terminals c.marks_tell_sizes.ensures.no_change in
    exact_right net are (g.K.Keeper.told c.args.store) c.in-Ok.machine.state.changes (λ _ line. IsNoLine net line) (no_line_Wrongs net are) c.in-Ok.ensures.changes

pub returns-in-Ok-clause-exact_stray : goal.returns-in-Ok-clause-exact_stray
returns-in-Ok-clause-exact_stray g c =
    let net = c.args.net.now in
    let are = are_lines net c.beam_count-beams.ensures.sound c.lines_end_once.ensures.cut c.lines_tell_changes.ensures.change c.lines_tell_changes.ensures.edition c.marks_tell_sizes.ensures.short
    c.marks_tell_sizes.ensures.cut c.marks_tell_sizes.ensures.beams c.marks_tell_sizes.ensures.terminals c.marks_tell_sizes.ensures.no_change in
    exact_right net are (g.K.Keeper.told c.args.store) c.in-Ok.machine.state.changes (IsStray net) (stray_Wrongs net are) c.in-Ok.ensures.changes

-- none are told, and the line that was found is the one
pub returns-in-Err-clause-exact_changes : goal.returns-in-Err-clause-exact_changes
returns-in-Err-clause-exact_changes g c =
    let are = are_lines c.args.net.now c.beam_count-beams.ensures.sound c.lines_end_once.ensures.cut c.lines_tell_changes.ensures.change c.lines_tell_changes.ensures.edition c.marks_tell_sizes.ensures.short
    c.marks_tell_sizes.ensures.cut c.marks_tell_sizes.ensures.beams c.marks_tell_sizes.ensures.terminals c.marks_tell_sizes.ensures.no_change in
    fault_changes c.args.net.now are (g.K.Keeper.told c.args.store) _ _ _ c.in-Err.fault c.in-Err.ensures.fault

pub returns-in-Err-clause-exact_no_line : goal.returns-in-Err-clause-exact_no_line
returns-in-Err-clause-exact_no_line g c =
    let are = are_lines c.args.net.now c.beam_count-beams.ensures.sound c.lines_end_once.ensures.cut c.lines_tell_changes.ensures.change c.lines_tell_changes.ensures.edition c.marks_tell_sizes.ensures.short
    c.marks_tell_sizes.ensures.cut c.marks_tell_sizes.ensures.beams c.marks_tell_sizes.ensures.terminals c.marks_tell_sizes.ensures.no_change in
    fault_no_line c.args.net.now are (g.K.Keeper.told c.args.store) _ _ _ c.in-Err.fault c.in-Err.ensures.fault

pub returns-in-Err-clause-exact_stray : goal.returns-in-Err-clause-exact_stray
returns-in-Err-clause-exact_stray g c =
    let are = are_lines c.args.net.now c.beam_count-beams.ensures.sound c.lines_end_once.ensures.cut c.lines_tell_changes.ensures.change c.lines_tell_changes.ensures.edition c.marks_tell_sizes.ensures.short
    c.marks_tell_sizes.ensures.cut c.marks_tell_sizes.ensures.beams c.marks_tell_sizes.ensures.terminals c.marks_tell_sizes.ensures.no_change in
    fault_stray c.args.net.now are (g.K.Keeper.told c.args.store) _ _ _ c.in-Err.fault c.in-Err.ensures.fault

-- the recovery leaves what a crash could have left, or what tells the same
pub returns-in-Ok-clause-crash : goal.returns-in-Ok-clause-crash
returns-in-Ok-clause-crash g c =
    let net = c.args.net.now in
    let are = are_lines net c.beam_count-beams.ensures.sound c.lines_end_once.ensures.cut c.lines_tell_changes.ensures.change c.lines_tell_changes.ensures.edition c.marks_tell_sizes.ensures.short
    c.marks_tell_sizes.ensures.cut c.marks_tell_sizes.ensures.beams c.marks_tell_sizes.ensures.terminals c.marks_tell_sizes.ensures.no_change in
    left_by_recovery net are (g.K.Keeper.told c.args.store) (g.K.Keeper.crashes c.args.store) (g.K.Keeper.crashes c.recover_machine.new.store) c.recover_machine.ensures.crash

pub returns-in-Err-clause-crash : goal.returns-in-Err-clause-crash
returns-in-Err-clause-crash g c =
    let net = c.args.net.now in
    let are = are_lines net c.beam_count-beams.ensures.sound c.lines_end_once.ensures.cut c.lines_tell_changes.ensures.change c.lines_tell_changes.ensures.edition c.marks_tell_sizes.ensures.short
    c.marks_tell_sizes.ensures.cut c.marks_tell_sizes.ensures.beams c.marks_tell_sizes.ensures.terminals c.marks_tell_sizes.ensures.no_change in
    left_by_recovery net are (g.K.Keeper.told c.args.store) (g.K.Keeper.crashes c.args.store) (g.K.Keeper.crashes c.recover_machine.new.store) c.recover_machine.ensures.crash

-- the book's store is settled, and keeps the changes
pub invariant_of-result : goal.invariant_of-result
invariant_of-result g c =
    let net = c.args.net.now in
    let machine = c.in-Ok.machine in
    let told = g.K.Keeper.told c.recover_machine.new.store in
    let are = are_lines net c.beam_count-beams.ensures.sound c.lines_end_once.ensures.cut c.lines_tell_changes.ensures.change c.lines_tell_changes.ensures.edition c.marks_tell_sizes.ensures.short
    c.marks_tell_sizes.ensures.cut c.marks_tell_sizes.ensures.beams c.marks_tell_sizes.ensures.terminals c.marks_tell_sizes.ensures.no_change in
    let e = c.in-Ok.ensures in
    let stored = stored_opened net are (g.K.Keeper.told c.args.store) told machine.state.changes e.changes e.readable e.follows e.ranges e.told in
    holds_opened machine (subst AreLines (sym e.net) are) told (g.K.Keeper.crashes c.recover_machine.new.store)
    (subst (λ (n : Net). IsStored n told machine.state.changes []) (sym e.net) stored) e.history e.settled

pub returns-in-Ok-clause-stored : goal.returns-in-Ok-clause-stored
returns-in-Ok-clause-stored g c =
    let net = c.args.net.now in
    let machine = c.in-Ok.machine in
    let told = g.K.Keeper.told c.recover_machine.new.store in
    let are = are_lines net c.beam_count-beams.ensures.sound c.lines_end_once.ensures.cut c.lines_tell_changes.ensures.change c.lines_tell_changes.ensures.edition c.marks_tell_sizes.ensures.short
    c.marks_tell_sizes.ensures.cut c.marks_tell_sizes.ensures.beams c.marks_tell_sizes.ensures.terminals c.marks_tell_sizes.ensures.no_change in
    let e = c.in-Ok.ensures in
    stored_opened net are (g.K.Keeper.told c.args.store) told machine.state.changes e.changes e.readable e.follows e.ranges e.told

pub returns-in-Ok-clause-keeps : goal.returns-in-Ok-clause-keeps
returns-in-Ok-clause-keeps g c =
    let net = c.args.net.now in
    let machine = c.in-Ok.machine in
    let told = g.K.Keeper.told c.recover_machine.new.store in
    let are = are_lines net c.beam_count-beams.ensures.sound c.lines_end_once.ensures.cut c.lines_tell_changes.ensures.change c.lines_tell_changes.ensures.edition c.marks_tell_sizes.ensures.short
    c.marks_tell_sizes.ensures.cut c.marks_tell_sizes.ensures.beams c.marks_tell_sizes.ensures.terminals c.marks_tell_sizes.ensures.no_change in
    let e = c.in-Ok.ensures in
    (stored_opened net are (g.K.Keeper.told c.args.store) told machine.state.changes e.changes e.readable e.follows e.ranges e.told).kept

-- so a crash leaves just the changes
pub returns-in-Ok-clause-crash_now : goal.returns-in-Ok-clause-crash_now
returns-in-Ok-clause-crash_now g c =
    let net = c.args.net.now in
    let machine = c.in-Ok.machine in
    let told = g.K.Keeper.told c.recover_machine.new.store in
    let are = are_lines net c.beam_count-beams.ensures.sound c.lines_end_once.ensures.cut c.lines_tell_changes.ensures.change c.lines_tell_changes.ensures.edition c.marks_tell_sizes.ensures.short
    c.marks_tell_sizes.ensures.cut c.marks_tell_sizes.ensures.beams c.marks_tell_sizes.ensures.terminals c.marks_tell_sizes.ensures.no_change in
    let e = c.in-Ok.ensures in
    let stored = stored_opened net are (g.K.Keeper.told c.args.store) told machine.state.changes e.changes e.readable e.follows e.ranges e.told in
    settled_tells net are told (g.K.Keeper.crashes c.recover_machine.new.store) machine.state.changes stored e.settled

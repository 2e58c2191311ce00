use Rattle.std.proofs.Common.{rules, arith, ◌≡◌, ◌⊎◌, List, ℕ, Option, Some, ap, ◌∙◌, subst}
use Rattle.std.specs.Prelude.{option_map}
use Rattle.std.proofs.lemmas.Result.{err_from_is_err_and}
use Rattle.bt_outside.specs.Crash.{LeavesSince}
use Rattle.bt_outside.specs.Told.{GainsPrefix, gained}
use Rattle.bt_outside.proofs.Moments.{elapses_further}
use Rattle.bt_net.specs.Network.{Net}
use Rattle.bt_history.specs.Records.{TakesText}
use Rattle.bt_history.specs.Recovery.{mark_owed, mark_where, whole}
use Rattle.bt_history.proofs.Holding.{cut_fault, left_by_cut, left_by_mark, left_by_read, mark_fault, read_tells, tells_some}
use Rattle.bt_history.proofs.Marked.{gained_all, owed_taken}
use Rattle.bt_history.proofs.OneJournal.{are_lines}
use Rattle.bt_book.proofs.recover.take_store.Goals as goal

-- the store could not be read
pub returns-in_err-bytes-clause-crash : goal.returns-in_err-bytes-clause-crash
returns-in_err-bytes-clause-crash g c =
    left_by_read c.args.machine.now.net (g.K.Keeper.told c.args.store.now) (g.K.Keeper.crashes c.args.store.now) (g.K.Keeper.crashes c.read_all.new.self) c.read_all.ensures.crash

-- a line tells nothing, or memory ran out
pub returns-in_err-taken-clause-crash : goal.returns-in_err-taken-clause-crash
returns-in_err-taken-clause-crash g c =
    left_by_read c.args.machine.now.net (g.K.Keeper.told c.args.store.now) (g.K.Keeper.crashes c.args.store.now) (g.K.Keeper.crashes c.read_all.new.self) c.read_all.ensures.crash

-- the tail could not be cut
pub returns-in_err-cut_tail-clause-fault : goal.returns-in_err-cut_tail-clause-fault
returns-in_err-cut_tail-clause-fault g c =
    let e = c.in_err-cut_tail.ensures in
    let net = c.args.machine.now.net in
    let told = g.K.Keeper.told c.args.store.now in
    let bytes = c.in_ok-bytes.bytes.items in
    let taken = c.in_ok-taken.taken in
    let state = c.take_lines.new.self.state in
    let same : c.as_slice.result.now ≡ bytes = search rules in
    let text = subst (λ (b : List ℕ). TakesText net b state taken.kept taken.marked) same c.in_ok-taken.ensures.taken in
    let tells = read_tells net told bytes state.changes c.in_ok-bytes.ensures.bytes text.told in
    let p = err_from_is_err_and c.from_residual-in_err-cut_tail.result c.from_residual-in_err-cut_tail.ensures.1 in
    rw (p.1, p.2) (cut_fault net told (g.K.Keeper.told c.cut_tail.new.store) (g.K.Keeper.told c.read_all.new.self)
    (g.K.Keeper.fault_count c.args.store.now) (g.K.Keeper.fault_count c.read_all.new.self) (g.K.Keeper.fault_count c.cut_tail.new.store) c.in_err-cut_tail.field-0.0
    (tells_some net told state.changes tells) c.read_all.ensures.same c.read_all.ensures.cause.later e.err e.not_too_long e.cause)

pub returns-in_err-cut_tail-clause-crash : goal.returns-in_err-cut_tail-clause-crash
returns-in_err-cut_tail-clause-crash g c =
    let net = c.args.machine.now.net in
    let told = g.K.Keeper.told c.args.store.now in
    let bytes = c.in_ok-bytes.bytes.items in
    let taken = c.in_ok-taken.taken in
    let state = c.take_lines.new.self.state in
    let same : c.as_slice.result.now ≡ bytes = search rules in
    let text = subst (λ (b : List ℕ). TakesText net b state taken.kept taken.marked) same c.in_ok-taken.ensures.taken in
    let gives = c.in_ok-bytes.ensures.bytes in
    let tells = read_tells net told bytes state.changes gives text.told in
    let old = g.K.Keeper.crashes c.args.store.now in
    let read = g.K.Keeper.crashes c.read_all.new.self in
    let cut = g.K.Keeper.crashes c.cut_tail.new.store in
    let since = left_by_cut net told old read cut state.changes tells c.read_all.ensures.time c.cut_tail.ensures.time c.read_all.ensures.crash
    (subst (λ (held : Option (List ℕ)). LeavesSince read cut (λ left. (Some left ≡ held) ⊎ (Some left ≡ option_map whole held))) c.read_all.ensures.same c.cut_tail.ensures.crash) in
    since

-- the mark could not be appended
pub returns-in_err-put_mark-clause-fault : goal.returns-in_err-put_mark-clause-fault
returns-in_err-put_mark-clause-fault g c =
    let net = c.args.machine.now.net in
    let told = g.K.Keeper.told c.args.store.now in
    let bytes = c.in_ok-bytes.bytes.items in
    let taken = c.in_ok-taken.taken in
    let state = c.take_lines.new.self.state in
    let same : c.as_slice.result.now ≡ bytes = search rules in
    let text = subst (λ (b : List ℕ). TakesText net b state taken.kept taken.marked) same c.in_ok-taken.ensures.taken in
    let gives = c.in_ok-bytes.ensures.bytes in
    let tells = tells_some net told state.changes (read_tells net told bytes state.changes gives text.told) in
    let are = are_lines net c.network-net.ensures.sound c.lines_end_once.ensures.cut c.lines_tell_changes.ensures.change c.lines_tell_changes.ensures.edition c.marks_tell_sizes.ensures.short
    c.marks_tell_sizes.ensures.cut c.marks_tell_sizes.ensures.beams c.marks_tell_sizes.ensures.terminals c.marks_tell_sizes.ensures.no_change in
    let stays : c.network.result.now ≡ net = c.network.ensures.same ∙ c.in_ok-taken.ensures.net in
    let piece = mark_where c.network.result.now taken.marked taken.kept in
    let owed : piece ≡ mark_owed net bytes = ap (λ (n : Net). mark_where n taken.marked taken.kept) stays ∙ owed_taken net are bytes state taken.kept taken.marked text in
    let cut_is : g.K.Keeper.told c.cut_tail.new.store ≡ option_map whole told = c.in_ok-cut_tail.ensures.ok ∙ ap (option_map whole) c.read_all.ensures.same in
    let p = err_from_is_err_and c.from_residual-in_err-put_mark.result c.from_residual-in_err-put_mark.ensures.1 in
    rw (p.1, p.2) (mark_fault net told bytes piece (g.K.Keeper.told c.cut_tail.new.store) (g.K.Keeper.told c.put_mark.new.store)
    (g.K.Keeper.fault_count c.args.store.now) (g.K.Keeper.fault_count c.cut_tail.new.store) (g.K.Keeper.fault_count c.put_mark.new.store) c.in_err-put_mark.field-0.0
    tells gives owed cut_is (omega (arith, c.read_all.ensures.cause.later, c.cut_tail.ensures.cause.later)) c.in_err-put_mark.ensures.fault)

pub returns-in_err-put_mark-clause-crash : goal.returns-in_err-put_mark-clause-crash
returns-in_err-put_mark-clause-crash g c =
    let net = c.args.machine.now.net in
    let told = g.K.Keeper.told c.args.store.now in
    let bytes = c.in_ok-bytes.bytes.items in
    let taken = c.in_ok-taken.taken in
    let state = c.take_lines.new.self.state in
    let same : c.as_slice.result.now ≡ bytes = search rules in
    let text = subst (λ (b : List ℕ). TakesText net b state taken.kept taken.marked) same c.in_ok-taken.ensures.taken in
    let gives = c.in_ok-bytes.ensures.bytes in
    let tells = read_tells net told bytes state.changes gives text.told in
    let old = g.K.Keeper.crashes c.args.store.now in
    let read = g.K.Keeper.crashes c.read_all.new.self in
    let cut = g.K.Keeper.crashes c.cut_tail.new.store in
    let since = left_by_cut net told old read cut state.changes tells c.read_all.ensures.time c.cut_tail.ensures.time c.read_all.ensures.crash
    (subst (λ (held : Option (List ℕ)). LeavesSince read cut (λ left. (Some left ≡ held) ⊎ (Some left ≡ option_map whole held))) c.read_all.ensures.same c.cut_tail.ensures.crash) in
    let are = are_lines net c.network-net.ensures.sound c.lines_end_once.ensures.cut c.lines_tell_changes.ensures.change c.lines_tell_changes.ensures.edition c.marks_tell_sizes.ensures.short
    c.marks_tell_sizes.ensures.cut c.marks_tell_sizes.ensures.beams c.marks_tell_sizes.ensures.terminals c.marks_tell_sizes.ensures.no_change in
    let stays : c.network.result.now ≡ net = c.network.ensures.same ∙ c.in_ok-taken.ensures.net in
    let piece = mark_where c.network.result.now taken.marked taken.kept in
    let owed : piece ≡ mark_owed net bytes = ap (λ (n : Net). mark_where n taken.marked taken.kept) stays ∙ owed_taken net are bytes state taken.kept taken.marked text in
    let cut_is : g.K.Keeper.told c.cut_tail.new.store ≡ option_map whole told = c.in_ok-cut_tail.ensures.ok ∙ ap (option_map whole) c.read_all.ensures.same in
    let new = g.K.Keeper.crashes c.put_mark.new.store in
    left_by_mark net told bytes piece old cut new state.changes tells gives owed (elapses_further old read cut c.read_all.ensures.time c.cut_tail.ensures.time) c.put_mark.ensures.time since
    (subst (λ (held : Option (List ℕ)). LeavesSince cut new (λ left. GainsPrefix held piece (Some left))) cut_is c.put_mark.ensures.crash)

-- it stands, where it was owed
pub returns-clause-told : goal.returns-clause-told
returns-clause-told g c =
    let net = c.args.machine.now.net in
    let told = g.K.Keeper.told c.args.store.now in
    let bytes = c.in_ok-bytes.bytes.items in
    let taken = c.in_ok-taken.taken in
    let state = c.take_lines.new.self.state in
    let same : c.as_slice.result.now ≡ bytes = search rules in
    let text = subst (λ (b : List ℕ). TakesText net b state taken.kept taken.marked) same c.in_ok-taken.ensures.taken in
    let gives = c.in_ok-bytes.ensures.bytes in
    let are = are_lines net c.network-net.ensures.sound c.lines_end_once.ensures.cut c.lines_tell_changes.ensures.change c.lines_tell_changes.ensures.edition c.marks_tell_sizes.ensures.short
    c.marks_tell_sizes.ensures.cut c.marks_tell_sizes.ensures.beams c.marks_tell_sizes.ensures.terminals c.marks_tell_sizes.ensures.no_change in
    let stays : c.network.result.now ≡ net = c.network.ensures.same ∙ c.in_ok-taken.ensures.net in
    let piece = mark_where c.network.result.now taken.marked taken.kept in
    let owed : piece ≡ mark_owed net bytes = ap (λ (n : Net). mark_where n taken.marked taken.kept) stays ∙ owed_taken net are bytes state taken.kept taken.marked text in
    let cut_is : g.K.Keeper.told c.cut_tail.new.store ≡ option_map whole told = c.in_ok-cut_tail.ensures.ok ∙ ap (option_map whole) c.read_all.ensures.same in
    c.in_ok-put_mark.ensures.ok ∙ (ap (λ (held : Option (List ℕ)). gained held piece) cut_is ∙ gained_all net told bytes piece gives owed)

pub returns-clause-crash : goal.returns-clause-crash
returns-clause-crash g c =
    let net = c.args.machine.now.net in
    let told = g.K.Keeper.told c.args.store.now in
    let bytes = c.in_ok-bytes.bytes.items in
    let taken = c.in_ok-taken.taken in
    let state = c.take_lines.new.self.state in
    let same : c.as_slice.result.now ≡ bytes = search rules in
    let text = subst (λ (b : List ℕ). TakesText net b state taken.kept taken.marked) same c.in_ok-taken.ensures.taken in
    let gives = c.in_ok-bytes.ensures.bytes in
    let tells = read_tells net told bytes state.changes gives text.told in
    let old = g.K.Keeper.crashes c.args.store.now in
    let read = g.K.Keeper.crashes c.read_all.new.self in
    let cut = g.K.Keeper.crashes c.cut_tail.new.store in
    let since = left_by_cut net told old read cut state.changes tells c.read_all.ensures.time c.cut_tail.ensures.time c.read_all.ensures.crash
    (subst (λ (held : Option (List ℕ)). LeavesSince read cut (λ left. (Some left ≡ held) ⊎ (Some left ≡ option_map whole held))) c.read_all.ensures.same c.cut_tail.ensures.crash) in
    let are = are_lines net c.network-net.ensures.sound c.lines_end_once.ensures.cut c.lines_tell_changes.ensures.change c.lines_tell_changes.ensures.edition c.marks_tell_sizes.ensures.short
    c.marks_tell_sizes.ensures.cut c.marks_tell_sizes.ensures.beams c.marks_tell_sizes.ensures.terminals c.marks_tell_sizes.ensures.no_change in
    let stays : c.network.result.now ≡ net = c.network.ensures.same ∙ c.in_ok-taken.ensures.net in
    let piece = mark_where c.network.result.now taken.marked taken.kept in
    let owed : piece ≡ mark_owed net bytes = ap (λ (n : Net). mark_where n taken.marked taken.kept) stays ∙ owed_taken net are bytes state taken.kept taken.marked text in
    let cut_is : g.K.Keeper.told c.cut_tail.new.store ≡ option_map whole told = c.in_ok-cut_tail.ensures.ok ∙ ap (option_map whole) c.read_all.ensures.same in
    let new = g.K.Keeper.crashes c.put_mark.new.store in
    left_by_mark net told bytes piece old cut new state.changes tells gives owed (elapses_further old read cut c.read_all.ensures.time c.cut_tail.ensures.time) c.put_mark.ensures.time since
    (subst (λ (held : Option (List ℕ)). LeavesSince cut new (λ left. GainsPrefix held piece (Some left))) cut_is c.put_mark.ensures.crash)

-- time goes on over each of the three calls
pub returns-in_err-cut_tail-clause-time : goal.returns-in_err-cut_tail-clause-time
returns-in_err-cut_tail-clause-time g c =
    elapses_further (g.K.Keeper.crashes c.args.store.now) (g.K.Keeper.crashes c.read_all.new.self) (g.K.Keeper.crashes c.cut_tail.new.store) c.read_all.ensures.time c.cut_tail.ensures.time

pub returns-in_err-put_mark-clause-time : goal.returns-in_err-put_mark-clause-time
returns-in_err-put_mark-clause-time g c =
    let old = g.K.Keeper.crashes c.args.store.now in
    let read = g.K.Keeper.crashes c.read_all.new.self in
    let cut = g.K.Keeper.crashes c.cut_tail.new.store in
    elapses_further old cut (g.K.Keeper.crashes c.put_mark.new.store) (elapses_further old read cut c.read_all.ensures.time c.cut_tail.ensures.time) c.put_mark.ensures.time

pub returns-clause-time : goal.returns-clause-time
returns-clause-time g c =
    let old = g.K.Keeper.crashes c.args.store.now in
    let read = g.K.Keeper.crashes c.read_all.new.self in
    let cut = g.K.Keeper.crashes c.cut_tail.new.store in
    elapses_further old cut (g.K.Keeper.crashes c.put_mark.new.store) (elapses_further old read cut c.read_all.ensures.time c.cut_tail.ensures.time) c.put_mark.ensures.time

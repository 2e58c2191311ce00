use Rattle.std.proofs.Common.{rules, ◌≡◌, ◌+◌, ◌≤◌, List, ℕ, Some, length, arith, ap, ◌∙◌, sym, subst}
use Rattle.std.proofs.lemmas.Result.{err_from_is_err_and}
use Rattle.bt_frame.specs.declared.limits.TheConstants.{MOST_JOURNAL_BYTES}
use Rattle.bt_outside.specs.Crash.{LeavesSince}
use Rattle.bt_outside.specs.Told.{GainsPrefix}
use Rattle.bt_journal.specs.Mark.{mark_of}
use Rattle.bt_history.specs.Faults.{recover_fault}
use Rattle.bt_history.specs.Records.{IsAppendFault}
use Rattle.bt_history.specs.Recovery.{mark_where}
use Rattle.bt_history.proofs.Holding.{append_fault, endures_nowhere}
use Rattle.bt_history.proofs.Marked.{where_room}
use Rattle.bt_book.proofs.recover.put_mark.Goals as goal

-- nothing is appended
pub returns-then-taken-clause-crash : goal.returns-then-taken-clause-crash
returns-then-taken-clause-crash g c =
    let taken = c.args.taken in
    (endures_nowhere (mark_where c.args.net.now taken.marked taken.kept) c.args.taken.marked (g.K.Keeper.told c.args.store.now) (g.K.Keeper.crashes c.args.store.now) c.requires.settled).crash

pub returns-in_err-mark-clause-crash : goal.returns-in_err-mark-clause-crash
returns-in_err-mark-clause-crash g c =
    let taken = c.args.taken in
    (endures_nowhere (mark_where c.args.net.now taken.marked taken.kept) c.args.taken.marked (g.K.Keeper.told c.args.store.now) (g.K.Keeper.crashes c.args.store.now) c.requires.settled).crash

pub returns-then-room-len-clause-crash : goal.returns-then-room-len-clause-crash
returns-then-room-len-clause-crash g c =
    let taken = c.args.taken in
    (endures_nowhere (mark_where c.args.net.now taken.marked taken.kept) c.args.taken.marked (g.K.Keeper.told c.args.store.now) (g.K.Keeper.crashes c.args.store.now) c.requires.settled).crash

-- what is appended is the mark, which has room
pub returns-in_err-append-clause-fault : goal.returns-in_err-append-clause-fault
returns-in_err-append-clause-fault g c =
    let net = c.args.net.now in
    let taken = c.args.taken in
    let told = g.K.Keeper.told c.args.store.now in
    let now = g.K.Keeper.told c.append.new.self in
    let before = g.K.Keeper.fault_count c.args.store.now in
    let after = g.K.Keeper.fault_count c.append.new.self in
    let room : taken.kept + length (mark_of net) ≤ MOST_JOURNAL_BYTES = omega (arith, c.requires.short, c.if-room-len.false, c.len.ensures, ap length c.in_ok-mark.ensures.mark) in
    let same : c.as_slice.result.now ≡ mark_of net = search rules in
    let piece : c.as_slice.result.now ≡ mark_where net taken.marked taken.kept = same ∙ sym (where_room net taken.marked taken.kept c.if-taken.false room) in
    let e = c.in_err-append.ensures in
    let p = err_from_is_err_and c.from_residual-in_err-append.result c.from_residual-in_err-append.ensures.1 in
    rw (p.1, p.2) (subst (λ (m : List ℕ). IsAppendFault m told now before after (recover_fault c.in_err-append.field-0.0)) piece (append_fault c.as_slice.result.now told now before after c.in_err-append.field-0.0 e.failed e.out_of_memory e.not_too_long e.cause))

pub returns-in_err-append-clause-crash : goal.returns-in_err-append-clause-crash
returns-in_err-append-clause-crash g c =
    let net = c.args.net.now in
    let taken = c.args.taken in
    let told = g.K.Keeper.told c.args.store.now in
    let room : taken.kept + length (mark_of net) ≤ MOST_JOURNAL_BYTES = omega (arith, c.requires.short, c.if-room-len.false, c.len.ensures, ap length c.in_ok-mark.ensures.mark) in
    let same : c.as_slice.result.now ≡ mark_of net = search rules in
    let piece : c.as_slice.result.now ≡ mark_where net taken.marked taken.kept = same ∙ sym (where_room net taken.marked taken.kept c.if-taken.false room) in
    subst (λ (m : List ℕ). LeavesSince (g.K.Keeper.crashes c.args.store.now) (g.K.Keeper.crashes c.append.new.self) (λ left. GainsPrefix told m (Some left))) piece (c.append.ensures.crash c.requires.settled)

pub returns-clause-crash : goal.returns-clause-crash
returns-clause-crash g c =
    let net = c.args.net.now in
    let taken = c.args.taken in
    let told = g.K.Keeper.told c.args.store.now in
    let room : taken.kept + length (mark_of net) ≤ MOST_JOURNAL_BYTES = omega (arith, c.requires.short, c.if-room-len.false, c.len.ensures, ap length c.in_ok-mark.ensures.mark) in
    let same : c.as_slice.result.now ≡ mark_of net = search rules in
    let piece : c.as_slice.result.now ≡ mark_where net taken.marked taken.kept = same ∙ sym (where_room net taken.marked taken.kept c.if-taken.false room) in
    subst (λ (m : List ℕ). LeavesSince (g.K.Keeper.crashes c.args.store.now) (g.K.Keeper.crashes c.append.new.self) (λ left. GainsPrefix told m (Some left))) piece (c.append.ensures.crash c.requires.settled)

use Rattle.std.proofs.Common.{inl, inr, Bool, true, not, ℕ, List, ◌∙◌, length, refl, sym, ap, subst}
use Rattle.bt_outside.specs.Told.{GainsPrefix}
use Rattle.bt_net.specs.Network.{Net, IsSound}
use Rattle.bt_journal.specs.declared.reply.Reply.TheVariants.{StoreFault}
use Rattle.bt_history.specs.Machine.{Tells}
use Rattle.bt_history.specs.Records.{Endures, Records, call_of}
use Rattle.bt_history.proofs.Entries.{done_step, joins, lost_step}
use Rattle.bt_history.proofs.Holding.{asked_step}
use Rattle.bt_book.specs.Answered.{with_store}
use Rattle.bt_book.specs.Kept.{HasRoomFor, reply_to}
use Rattle.bt_book.proofs.Answered.{answered, at_err}
use Rattle.bt_book.proofs.Keeping.{can_apply, kept_reply, lost_state, made_reply, made_state, same_book, stores_reply, tells_reply, view_of}
use Rattle.bt_book.proofs.machine.Machine.make.Goals as goal

-- what was reserved for is an equal change, which can be made
pub apply-requires : goal.apply-requires
apply-requires g c =
    let now = c.args.self.now in
    let net = c.reserve.ensures.net ∙ ap (λ (r : Records). r.net) c.self.view_is in
    let changes = c.reserve.ensures.changes ∙ ap (λ (r : Records). r.state.changes) c.self.view_is in
    let sound = subst (λ (r : Records). IsSound r.net) c.self.view_is c.slots-slots.ensures.sound in
    let can = can_apply now.net now.state c.args.asked c.in_ok-change.change c.reserve.new.self (length c.args.line.now) net changes c.in_ok-change.ensures c.requires.on
    (joins now.net now.state c.args.asked sound c.requires.can) (ap length c.requires.line) in
    record {
      keeps = c.reserve.ensures.keeps;
      on = can.on;
      can = can.can;
      line = can.line_is;
      room = subst (HasRoomFor c.reserve.new.self) (sym c.in_ok-change.ensures) c.in_ok-reserve.ensures.room;
    }

-- where memory runs out nothing changes
pub returns-in_err-reserve : goal.returns-in_err-reserve
returns-in_err-reserve g c =
    let a = c.self.inside in
    let store = c.args.store.now in
    at_err (with_store c.args.self.now (g.K.Keeper.told store) (g.K.Keeper.fault_count store) (g.K.Keeper.crashes store)) c.args.caller (call_of c.args.asked) _ _ c.from_residual-in_err-reserve.ensures.0
    (same_book c.args.self.now a.kept.occupancy.net c.reserve.new.self.occupancy.net a.kept.changes c.reserve.new.self.changes a.stopped a.history.items a.history.items
    (g.K.Keeper.told store) (g.K.Keeper.told store) (g.K.Keeper.fault_count store) (g.K.Keeper.fault_count store) (g.K.Keeper.crashes store) (g.K.Keeper.crashes store)
    c.reserve.ensures.net c.reserve.ensures.changes refl c.self.view_is refl refl refl)

pub returns-in_err-keep_line : goal.returns-in_err-keep_line
returns-in_err-keep_line g c =
    let a = c.self.inside in
    let store = c.args.store.now in
    let failed = c.in_err-keep_line.ensures in
    at_err (with_store c.args.self.now (g.K.Keeper.told store) (g.K.Keeper.fault_count store) (g.K.Keeper.crashes store)) c.args.caller (call_of c.args.asked) _ _ c.from_residual-in_err-keep_line.ensures.0
    (same_book c.args.self.now a.kept.occupancy.net c.reserve.new.self.occupancy.net a.kept.changes c.reserve.new.self.changes a.stopped a.history.items c.keep_line.new.history.items
    (g.K.Keeper.told store) (g.K.Keeper.told c.keep_line.new.store) (g.K.Keeper.fault_count store) (g.K.Keeper.fault_count c.keep_line.new.store) (g.K.Keeper.crashes store) (g.K.Keeper.crashes c.keep_line.new.store)
    c.reserve.ensures.net c.reserve.ensures.changes c.keep_line.ensures.history c.self.view_is failed.err_told failed.err_faults failed.err_crashes)

-- the machine makes its step, and the store has the line
pub returns-then-branch : goal.returns-then-branch
returns-then-branch g c =
    let a = c.self.inside in
    let now = c.args.self.now in
    let kept = c.apply.new.self in
    let most = c.length-length.result in
    let reply = reply_to c.args.asked (record { 0 = kept.edits }) most in
    let before = c.keep_line.ensures.history ∙ ap (λ (r : Records). r.history) c.self.view_is in
    let net = c.apply.ensures.net ∙ (c.reserve.ensures.net ∙ ap (λ (r : Records). r.net) c.self.view_is) in
    let after = made_state now a.kept.occupancy.net a.kept.changes c.reserve.new.self.changes kept.changes a.stopped a.history.items c.args.asked c.in_ok-change.change
    c.self.view_is c.requires.can.runs c.reserve.ensures.changes c.apply.ensures.changes c.in_ok-change.ensures in
    let tells = tells_reply kept c.args.asked (record { 0 = kept.edits }) most c.apply.ensures.keeps refl c.length-length.ensures.heaviest in
    let told = g.K.Keeper.told c.args.store.now in
    let told_now = g.K.Keeper.told c.keep_line.new.store in
    let was = g.K.Keeper.crashes c.args.store.now in
    let will = g.K.Keeper.crashes c.keep_line.new.store in
    let faults = g.K.Keeper.fault_count c.args.store.now in
    let faults_now = g.K.Keeper.fault_count c.keep_line.new.store in
    let endures = subst (λ (k : Bool). Endures c.args.line.now (not k) told told_now was will) c.if-branch.true c.in_ok-keep_line.ensures.endures in
    rw c.reply_to-reply.ensures (answered (with_store now told faults was) c.args.caller c.args.asked reply
    (with_store (view_of kept.occupancy.net kept.changes a.stopped c.keep_entry.new.history.items) told_now faults_now will) c.requires.on
    (done_step now.net now.state (record { changes = kept.changes; stopped = a.stopped }) c.args.asked reply (made_reply c.args.asked _ most) c.requires.can after
    (subst (λ (n : Net). Tells n kept.changes c.args.asked reply) net tells))
    net
    (rw (c.keep_entry.ensures, before, c.call_of.ensures, c.reply_to-told.ensures) refl)
    (stores_reply now.net now.state.changes c.args.asked _ most c.args.line.now told told_now faults faults_now c.requires.line c.requires.spelled
    (c.in_ok-keep_line.ensures.told c.if-branch.true) (c.in_ok-keep_line.ensures.later c.if-branch.true))
    (asked_step c.args.line.now reply told told_now was will c.requires.line (inl (made_reply c.args.asked _ most))
    (subst (λ (k : Bool). Endures c.args.line.now k told told_now was will) (sym (kept_reply c.args.asked _ most)) endures)))

-- the store failed, and has a first part of the line
pub returns-else-branch : goal.returns-else-branch
returns-else-branch g c =
    let a = c.self.inside in
    let now = c.args.self.now in
    let before = c.keep_line.ensures.history ∙ ap (λ (r : Records). r.history) c.self.view_is in
    let told = g.K.Keeper.told c.args.store.now in
    let told_now = g.K.Keeper.told c.keep_line.new.store in
    let was = g.K.Keeper.crashes c.args.store.now in
    let will = g.K.Keeper.crashes c.keep_line.new.store in
    answered (with_store now told (g.K.Keeper.fault_count c.args.store.now) was) c.args.caller c.args.asked StoreFault
    (with_store (view_of c.reserve.new.self.occupancy.net c.reserve.new.self.changes true c.keep_entry-else-branch.new.history.items) told_now (g.K.Keeper.fault_count c.keep_line.new.store) will)
    c.requires.on
    (lost_step now.net now.state _ c.args.asked c.requires.can
    (lost_state now a.kept.occupancy.net a.kept.changes c.reserve.new.self.changes a.stopped a.history.items c.self.view_is c.reserve.ensures.changes))
    (c.reserve.ensures.net ∙ ap (λ (r : Records). r.net) c.self.view_is)
    (rw (c.keep_entry-else-branch.ensures, before, c.call_of-else-branch.ensures) refl)
    (record {
      step = (
        subst (λ (bytes : List ℕ). GainsPrefix told bytes told_now) c.requires.line (c.in_ok-keep_line.ensures.prefix c.if-branch.false),
        c.in_ok-keep_line.ensures.rose c.if-branch.false,
      );
      spelled = c.requires.spelled;
    })
    (asked_step c.args.line.now StoreFault told told_now was will c.requires.line (inr refl)
    (subst (λ (k : Bool). Endures c.args.line.now (not k) told told_now was will) c.if-branch.false c.in_ok-keep_line.ensures.endures))

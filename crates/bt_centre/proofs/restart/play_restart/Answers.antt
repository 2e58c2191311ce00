-- the centre restarted, or memory ran out, or the recovery failed
use Rattle.std.proofs.Common.{◌≡◌, List, refl, sym, ap, ◌∙◌, subst, inl, arith}
use Rattle.bt_history.specs.Book.{Books}
use Rattle.bt_history.specs.Causes.{Follows}
use Rattle.bt_round.specs.AirLines.{events_in}
use Rattle.bt_script.specs.declared.script.Item.TheVariants as item
use Rattle.bt_centre.specs.declared.history.History.{History}
use Rattle.bt_centre.specs.Progress.{Hand, IsLeftEarly, IsLeftOf, ItemFailed, Left, RestartPlayed}
use Rattle.bt_centre.proofs.Going.{left_early}
use Rattle.bt_centre.proofs.Restarts.{Laws, breaks_behind, fails, pushed_is, recovered_last, restart_failed, restarts, world_at}
use Rattle.bt_centre.proofs.restart.play_restart.Goals as goal

pub returns-in_default-clause-failed : goal.returns-in_default-clause-failed
returns-in_default-clause-failed g c =
    let inside = c.playing.inside in
    let same = ap (λ (over : List History). let hand : Hand = record { over = over; before = inside.before; book = inside.station.book; air = inside.station.centre; rounds = inside.rounds } in hand) c.reserve.ensures.items
    ∙ c.playing.view_is in
    inl (refl, left_early c.args.net.now c.args.playing c.stop.result c.requires.network c.requires.follow (subst (λ (hand : Hand). IsLeftOf hand c.stop.result) same c.stop.ensures))

pub begin_again-requires-clause-room : goal.begin_again-requires-clause-room
begin_again-requires-clause-room g c = λ κs bounds.
    omega (arith, c.in-Ok.ensures.ok, c.push_reserved.ensures.len, c.push_reserved.ensures.capacity, c.push_reserved.new.self.ok.0)

pub returns-in-Ok-begin_again-clause-played : goal.returns-in-Ok-begin_again-clause-played
returns-in-Ok-begin_again-clause-played g c =
    let net = c.args.net.now in
    let inside = c.playing.inside in
    let old : Hand = record { over = inside.over.items; before = inside.before; book = inside.station.book; air = inside.station.centre; rounds = inside.rounds } in
    let view : old ≡ c.args.playing = c.playing.view_is in
    let is = c.book_and_centre-book.ensures.book in
    let all = pushed_is c.push_reserved.new.self.items c.reserve.new.self.items inside.over.items inside.before c.of.result _ old.book.history c.push_reserved.ensures.items c.reserve.ensures.items c.of.ensures.same
    (c.into_parts-store.ensures.history ∙ ap (λ (b : Books). b.history) is) in
    let laws : Laws = record { next = c.stores_tell_next_openings.ensures.next; short = c.stores_tell_next_openings.ensures.short; last = c.stores_tell_next_openings.ensures.last } in
    let now = c.in-Ok-recover.ensures in
    let network = ap (λ (hand : Hand). hand.book.net) view ∙ c.requires.network in
    let follow = subst (λ (hand : Hand). Follows net hand.book.state.changes) (sym view) c.requires.follow in
    let parts = c.into_parts-store.ensures in
    let last = recovered_last laws net old c.book_and_centre-book.result.0 (g.K.Keeper.told c.into_parts-store.result.0) (g.K.Keeper.crashes c.into_parts-store.result.0) c.in-Ok-recover.book.crashes
    c.beam_count-beams.ensures.sound is network follow parts.kept parts.told parts.crashes parts.crash now.time now.crash in
    subst (λ (hand : Hand). RestartPlayed net hand c.in-Ok-begin_again.on.0 c.in-Ok-begin_again.on.1.items) view
    (restarts laws net old c.in-Ok-begin_again.on.0 c.book_and_centre-book.result.0 c.in-Ok-recover.book c.book_and_centre-book.result.1 c.push_reserved.new.self.items c.in-Ok-begin_again.on.1.items
    (g.K.Keeper.told c.into_parts-store.result.0) (g.K.Keeper.fault_count c.into_parts-store.result.0) c.beam_count-beams.ensures.sound is c.book_and_centre-book.ensures.centre
    network follow c.into_parts-store.ensures.kept
    c.into_parts-store.ensures.told c.into_parts-store.ensures.faults c.in-Ok-begin_again.ensures.began all now.net now.history now.state now.follows now.exact_changes now.told now.later last)

pub returns-in-Err-begin_again-clause-failed : goal.returns-in-Err-begin_again-clause-failed
returns-in-Err-begin_again-clause-failed g c =
    let net = c.args.net.now in
    let inside = c.playing.inside in
    let old : Hand = record { over = inside.over.items; before = inside.before; book = inside.station.book; air = inside.station.centre; rounds = inside.rounds } in
    let view : old ≡ c.args.playing = c.playing.view_is in
    let is = c.book_and_centre-book.ensures.book in
    let all = pushed_is c.push_reserved.new.self.items c.reserve.new.self.items inside.over.items inside.before c.of.result _ old.book.history c.push_reserved.ensures.items c.reserve.ensures.items c.of.ensures.same
    (c.into_parts-store.ensures.history ∙ ap (λ (b : Books). b.history) is) in
    let laws : Laws = record { next = c.stores_tell_next_openings.ensures.next; short = c.stores_tell_next_openings.ensures.short; last = c.stores_tell_next_openings.ensures.last } in
    let network = ap (λ (hand : Hand). hand.book.net) view ∙ c.requires.network in
    let follow = subst (λ (hand : Hand). Follows net hand.book.state.changes) (sym view) c.requires.follow in
    let parts = c.into_parts-store.ensures in
    let last = recovered_last laws net old c.book_and_centre-book.result.0 (g.K.Keeper.told c.into_parts-store.result.0) (g.K.Keeper.crashes c.into_parts-store.result.0) c.in-Ok-recover.book.crashes
    c.beam_count-beams.ensures.sound is network follow parts.kept parts.told parts.crashes parts.crash c.in-Ok-recover.ensures.time c.in-Ok-recover.ensures.crash in
    inl (
      refl,
      subst (λ (hand : Hand). IsLeftEarly hand c.in-Err-begin_again.remains) view
          (breaks_behind net old c.book_and_centre-book.result.0 c.in-Ok-recover.book c.book_and_centre-book.result.1 c.push_reserved.new.self.items c.in-Err-begin_again.remains
          (g.K.Keeper.told c.into_parts-store.result.0) (g.K.Keeper.fault_count c.into_parts-store.result.0) is c.book_and_centre-book.ensures.centre
          network follow c.into_parts-store.ensures.kept c.into_parts-store.ensures.told c.in-Ok-recover.ensures.told c.in-Ok-recover.ensures.changes c.into_parts-store.ensures.faults c.in-Ok-recover.ensures.later c.in-Err-begin_again.ensures.left all last),
    )

pub returns-in-Err-clause-failed : goal.returns-in-Err-clause-failed
returns-in-Err-clause-failed g c =
    let net = c.args.net.now in
    let inside = c.playing.inside in
    let old : Hand = record { over = inside.over.items; before = inside.before; book = inside.station.book; air = inside.station.centre; rounds = inside.rounds } in
    let view : old ≡ c.args.playing = c.playing.view_is in
    let is = c.book_and_centre-book.ensures.book in
    let air_is = c.book_and_centre-book.ensures.centre in
    let all = pushed_is c.push_reserved.new.self.items c.reserve.new.self.items inside.over.items inside.before c.of.result _ old.book.history c.push_reserved.ensures.items c.reserve.ensures.items c.of.ensures.same
    (c.into_parts-store.ensures.history ∙ ap (λ (b : Books). b.history) is) in
    let laws : Laws = record { next = c.stores_tell_next_openings.ensures.next; short = c.stores_tell_next_openings.ensures.short; last = c.stores_tell_next_openings.ensures.last } in
    let left : Left = record { told = g.K.Keeper.told c.in-Err.store; faults = g.K.Keeper.fault_count c.in-Err.store; crashes = g.K.Keeper.crashes c.in-Err.store; histories = c.push_reserved.new.self.items; events = g.E.Events.told c.into_told.result } in
    let network = ap (λ (hand : Hand). hand.book.net) view ∙ c.requires.network in
    let follow = subst (λ (hand : Hand). Follows net hand.book.state.changes) (sym view) c.requires.follow in
    let parts = c.into_parts-store.ensures in
    let last = recovered_last laws net old c.book_and_centre-book.result.0 (g.K.Keeper.told c.into_parts-store.result.0) (g.K.Keeper.crashes c.into_parts-store.result.0) (g.K.Keeper.crashes c.in-Err.store)
    c.beam_count-beams.ensures.sound is network follow parts.kept parts.told parts.crashes parts.crash c.in-Err.ensures.time c.in-Err.ensures.crash in
    subst (λ (hand : Hand). ItemFailed net item.Restart hand left c.in-Err.fault) view
    (restart_failed net old left c.in-Err.fault (fails laws net old c.book_and_centre-book.result.0 left c.in-Err.fault
    (g.K.Keeper.told c.into_parts-store.result.0) (g.K.Keeper.fault_count c.into_parts-store.result.0) c.beam_count-beams.ensures.sound is
    network follow c.into_parts-store.ensures.kept
    c.into_parts-store.ensures.told c.into_parts-store.ensures.faults c.in-Err.ensures.fault c.in-Err.ensures.fault_later c.in-Err.ensures.exact_changes all
    (c.into_told.ensures.events ∙ ap events_in air_is)
    (world_at c.book_and_centre-book.result.1 old.air (g.E.Events.told c.into_told.result) air_is c.into_told.ensures.events (record { world = c.into_told.ensures.world; stored = c.into_told.ensures.stored; few = c.into_told.ensures.few })) last))

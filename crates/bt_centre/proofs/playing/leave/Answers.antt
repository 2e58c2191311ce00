-- what is left is the store of the book, and the history of the present time behind those of the times that are over
use Rattle.std.proofs.Common.{◌∙◌, ◌++◌, ◌∷◌, [], List, ap, subst, sym}
use Rattle.std.specs.Prelude.{reverse}
use Rattle.bt_air.specs.declared.event.Event.{Event}
use Rattle.bt_journal.specs.declared.entry.Entry.{Entry}
use Rattle.bt_history.specs.Book.{Books}
use Rattle.bt_round.specs.AirLines.{AirState, opening_in}
use Rattle.bt_centre.specs.declared.history.History.{History}
use Rattle.bt_centre.specs.Progress.{Hand, IsLeftOf, Left}
use Rattle.bt_centre.proofs.playing.leave.Goals as goal
use Rattle.bt_centre.specs.World.{IsSpelledWorld}

pub returns : goal.returns
returns g c = λ rounds.
    let parts = c.into_parts-store.ensures in
    let now = c.book_and_centre-book.result in
    let over : List History = c.args.over.items in
    let time_of : List Entry → History = λ entries. record { before = c.args.before; entries = entries } in
    let hand_of : Books → AirState → Hand = λ book air. record { over = over; before = c.args.before; book = book; air = air; rounds = rounds } in
    let left : Left = record { told = g.K.Keeper.told c.into_parts-store.result.0; faults = g.K.Keeper.fault_count c.into_parts-store.result.0; crashes = g.K.Keeper.crashes c.into_parts-store.result.0; histories = c.push_reserved.new.self.items; events = g.E.Events.told c.into_told.result } in
    subst (λ (book : Books). IsLeftOf (hand_of book c.args.station.centre) left) c.book_and_centre-book.ensures.book
    (subst (λ (air : AirState). IsLeftOf (hand_of now.0 air) left) c.book_and_centre-book.ensures.centre (record {
      told = parts.told;
      faults = parts.faults;
      crashes = parts.crashes;
      histories = c.push_reserved.ensures.items ∙ ap (λ (entries : List Entry). over ++ time_of entries ∷ []) (c.of.ensures.same ∙ parts.history);
      events = c.into_told.ensures.events;
      world = subst (λ (events : List Event). IsSpelledWorld (opening_in now.1) (reverse events)) (sym c.into_told.ensures.events) (record { world = c.into_told.ensures.world; stored = c.into_told.ensures.stored; few = c.into_told.ensures.few });
      kept = parts.kept.kept;
    }))

-- with the entries in front of those that it keeps, the book is as it was
use Rattle.std.proofs.Common.{ap, ◌∙◌, subst, sym}
use Rattle.bt_history.specs.Book.{Books}
use Rattle.bt_history.specs.Machine.{State}
use Rattle.bt_round.specs.Boards.{IsPublished}
use Rattle.bt_centre.specs.Progress.{Hand}
use Rattle.bt_centre.proofs.Whole.{handed_back}
use Rattle.bt_centre.proofs.playing.Playing.take_entries.Goals as goal

pub invariant_of-self : goal.invariant_of-self
invariant_of-self g c =
    let station = c.self.inside.station in
    (c.self.invariant.0, subst (λ (state : State). IsPublished state.changes station.publisher station.readers.items) (sym c.take_entries.ensures.state) c.self.invariant.1)

pub returns : goal.returns
returns g c =
    let inside = c.self.inside in
    let book = c.take_entries.ensures in
    let stops = ap (λ (hand : Hand). hand.book.state.stopped) c.self.view_is in
    record {
      handed = ap (λ (b : Books). let hand : Hand = record { over = inside.over.items; before = inside.before; book = b; air = inside.station.centre; rounds = inside.rounds } in hand)
          (handed_back c.take_entries.result.items inside.station.book c.take_entries.new.self book.taken book.none book.kept book.history book.net book.state book.told book.faults book.crashes)
          ∙ c.self.view_is;
      none = λ runs. book.none (stops ∙ runs);
      kept = λ stopped. book.kept (stops ∙ stopped);
    }

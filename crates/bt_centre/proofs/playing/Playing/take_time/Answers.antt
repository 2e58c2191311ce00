-- the room stays, and all else
use Rattle.std.proofs.Common.{List, ap, ◌∙◌, sym, length, arith}
use Rattle.bt_centre.specs.declared.history.History.{History}
use Rattle.bt_centre.specs.Progress.{Hand}
use Rattle.bt_centre.proofs.playing.Playing.take_time.Goals as goal

pub take_only-requires : goal.take_only-requires
take_only-requires g c = record { one = ap (λ (hand : Hand). length hand.over) c.self.view_is ∙ c.requires.one }

pub invariant_of-self : goal.invariant_of-self
invariant_of-self g c = (omega (arith, c.self.invariant.0, c.take_only.ensures.room, ap length c.take_only.ensures.none), c.self.invariant.1)

pub returns : goal.returns
returns g c =
    let inside = c.self.inside in
    record {
      taken = sym c.self.view_is
          ∙ ap (λ (over : List History). let hand : Hand = record { over = over; before = inside.before; book = inside.station.book; air = inside.station.centre; rounds = inside.rounds } in hand) c.take_only.ensures.taken;
      none = c.take_only.ensures.none;
    }

-- What the orders say of a satellite that stands as they do.
use Rattle.std.proofs.Common.{◌≡◌, inl, inr, ◌<◌, nat_le, false, List, reverse, None, sym, ◌∙◌, arith, subst}
use Rattle.std.proofs.lemmas.Bool.Decides.{nat_tests}
use Rattle.bt_frame.specs.declared.numbers.Mark.{Mark}
use Rattle.bt_air.specs.declared.order.Order.{Order}
use Rattle.bt_machines.specs.Satellite.{State, new_at}
use Rattle.bt_machines.specs.SatelliteRun.{SatelliteEvent, accepted, state_after}
use Rattle.bt_air.specs.Orders.{last_arm, to_come}
use Rattle.bt_machines.specs.Orders.{StandsFor}
use Rattle.bt_machines.proofs.Past.{past-to_come, past-fore_at}
use Rattle.bt_machines.proofs.Standing.{IsIdle, Waits, Stands, after_stands}

-- with nothing armed
idle_says : (orders : List Order) (s : State) → IsIdle orders s → StandsFor orders s
idle_says orders s idle =
    let none : to_come (last_arm orders) s.mark.0 ≡ None = past-to_come orders s.mark.0 idle.past in record {
      last = idle.last;
      armed = idle.armed ∙ sym none;
      fore = idle.fore ∙ sym (past-fore_at orders s.mark.0 idle.past);
      back = rw none idle.back;
    }

-- with a change to come
waits_says : (orders : List Order) (s : State) → Waits orders s → StandsFor orders s
waits_says orders s waits =
    let h : s.mark.0 < waits.change.due.0 = waits.ahead in
    let e : nat_le waits.change.due.0 s.mark.0 ≡ false = grind (arith, nat_tests) in
    let P : List Order → Type 0 = λ list. StandsFor list s in
    subst P (sym waits.by_last) (record {
      last = waits.last;
      armed = rw e waits.armed;
      fore = rw e (waits.fore ∙ sym (past-fore_at waits.earlier s.mark.0 waits.past));
      back = rw e waits.back;
    })

-- what the orders say, with or without a change to come
says : (orders : List Order) (s : State) → Stands orders s → StandsFor orders s
says orders s (inl idle) = idle_says orders s idle
says orders s (inr waits) = waits_says orders s waits

-- after every run a satellite is what the orders say that it accepted
pub stands_for : (mark : Mark) (events : List SatelliteEvent) → StandsFor (reverse (accepted (new_at mark) events)) (state_after (new_at mark) events)
stands_for mark events = says (reverse (accepted (new_at mark) events)) (state_after (new_at mark) events) (after_stands mark events)

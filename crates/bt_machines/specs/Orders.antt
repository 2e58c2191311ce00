-- What a list of accepted orders says of a satellite. The lists have the latest order first.
use Rattle.std.specs.Prelude.{◌≡◌, ℕ, ◌==◌, ◌<◌, nat_le, not, if◌then◌else◌, List, [], ◌∷◌, Option, Some, None}
use Rattle.bt_frame.specs.declared.numbers.EditionNo.{EditionNo}
use Rattle.bt_air.specs.declared.message.Message.{Message}
use Rattle.bt_air.specs.declared.message.Message.TheVariants as message
use Rattle.bt_air.specs.declared.order.Armed.{Armed}
use Rattle.bt_air.specs.declared.order.Order.{Order}
use Rattle.bt_air.specs.declared.order.Order.TheVariants.{Load, Arm}
use Rattle.bt_air.specs.declared.order.Status.{Status}
use Rattle.bt_air.specs.Orders.{last_command, last_arm, to_come, fore_at}
use Rattle.bt_machines.specs.Satellite.{State, is_armed}

-- the edition of an Arm, or 0 where there is none
abbrev pub edition_of : Option Armed → EditionNo
edition_of None = record { 0 = 0 }
edition_of (Some armed) = armed.edition

-- the edition that stands ready while nothing is armed: that of the last order where it is a Load, else of the last Arm but one
abbrev pub ready_after : List Order → EditionNo
ready_after [] = record { 0 = 0 }
ready_after (Load command edition ∷ earlier) = edition
ready_after (Arm command edition due ∷ earlier) = edition_of (last_arm earlier)

-- the edition in the background: that of the change to come where there is one
abbrev pub back_with : Option Armed → List Order → EditionNo
back_with None orders = ready_after orders
back_with (Some armed) orders = armed.edition

-- the satellite is what its accepted orders say
pub record StandsFor (orders : List Order) (s : State) : Type 0 where
  pub last : s.last ≡ last_command orders
  pub armed : s.armed ≡ to_come (last_arm orders) s.mark.0
  pub fore : s.fore.edition ≡ fore_at orders s.mark.0
  pub back : s.back.edition ≡ back_with (to_come (last_arm orders) s.mark.0) orders

-- The order that a message joins to the accepted orders in a superframe, if it joins one: one of a greater number,
-- while nothing is armed, and an Arm only of the edition that stands ready, for a superframe to come.
abbrev pub joining : List Order → ℕ → Message → List Order
joining orders mark (message.Load command edition modes) =
    if nat_le command.0 (last_command orders).0 then []
    else (if is_armed (to_come (last_arm orders) mark) then []
    else Load command edition ∷ [])
joining orders mark (message.Arm command edition due) =
    if nat_le command.0 (last_command orders).0 then []
    else (if is_armed (to_come (last_arm orders) mark) then []
    else (if not ((back_with (to_come (last_arm orders) mark) orders).0 == edition.0) then []
    else (if nat_le due.0 mark then []
    else Arm command edition due ∷ [])))
joining orders mark _ = []

-- what the satellite says of itself in a superframe, by the orders that it accepted
abbrev pub telling : List Order → ℕ → Status
telling orders mark = record {
  mark = record { 0 = mark };
  fore = fore_at orders mark;
  back = back_with (to_come (last_arm orders) mark) orders;
  armed = to_come (last_arm orders) mark;
  last = last_command orders;
}

-- an order to arm is for a superframe after this one
abbrev pub IsAhead : ℕ → Order → Type 0
IsAhead mark (Load command edition) = Unit {0}
IsAhead mark (Arm command edition due) = mark < due.0

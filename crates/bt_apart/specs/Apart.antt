-- The centre of sites apart, of which satellite and terminals are none of its own process: what it is, what it says, and what it is once
-- it has heard a line of the bus. Lists of plans and of orders have the latest first.
use Rattle.std.specs.Prelude.{ℕ, ◌+◌, nat_le, nat_lt, if◌then◌else◌, Bool, true, false, List, [], ◌∷◌, ◌++◌, length, Option, IsSome}
use Rattle.bt_frame.specs.declared.numbers.EditionNo.{EditionNo}
use Rattle.bt_frame.specs.declared.numbers.Mark.{Mark}
use Rattle.bt_net.specs.Network.{Net}
use Rattle.bt_demand.specs.declared.plan.Plan.{Plan}
use Rattle.bt_air.specs.declared.message.Message.{Message}
use Rattle.bt_air.specs.declared.order.Order.{Order}
use Rattle.bt_air.specs.declared.order.Order.TheVariants.{Load, Arm}
use Rattle.bt_air.specs.Range.{IsDue}
use Rattle.bt_air.specs.declared.sent.Aired.{Aired}
use Rattle.bt_air.specs.Sent.{sent_as}
use Rattle.bt_machines.specs.Centre.{State as Centre, after_turn}
use Rattle.bt_machines.specs.CentreSteps.{beginning, once_placed, orders_kept}
use Rattle.bt_machines.specs.Plans.{plan_of}
use Rattle.bt_machines.specs.Says.{carried, sent_by_order}
use Rattle.bt_site.specs.Sites.{centre_with, turn_says}
use Rattle.bt_site.specs.Event.{Opening, Event, Turn, Ordered, RestartCentre, Install}
use Rattle.bt_site.specs.World.{greatest_due, terminals}
use Rattle.bt_timeline.specs.Air.{sent_line}
use Rattle.bt_script.specs.BusSaid.{radio_line}
use Rattle.bt_script.specs.declared.heard.BusLine.{BusLine}
use Rattle.bt_script.specs.declared.heard.BusLine.TheVariants as bus
use Rattle.bt_apart.specs.Back.{back_lasting}

-- The state of the air as such a centre knows it: what it opened with, its plans, the centre by its table, the superframe that it takes
-- for the present one, whether it has heard since its start that one began, how many messages it has said, and the edition to
-- which it goes back, if it does.
pub record ApartAir : Type 0 where
  pub opening : Opening
  pub plans : List Plan
  pub centre : Centre
  pub mark : Mark
  pub marked : Bool
  pub said : ℕ
  pub back : Option EditionNo

-- At its start: it has heard nothing, and no superframe is behind the greatest for which an order of its opening arms. It goes back where
-- its orders do.
abbrev pub apart_at_start : Opening → ApartAir
apart_at_start o = record {
  opening = o;
  plans = o.plans;
  centre = beginning (terminals o) o.plans o.orders;
  mark = record { 0 = greatest_due o.orders };
  marked = false;
  said = 0;
  back = back_lasting o.plans o.orders;
}

-- the edition has a plan
abbrev pub IsInstalled : List Plan → EditionNo → Type 0
IsInstalled plans edition = IsSome (plan_of plans edition)

-- a message can name the superframe for which the order arms
abbrev pub IsTimely : Order → Type 0
IsTimely (Load command edition) = Unit {0}
IsTimely (Arm command edition due) = IsDue due

-- the messages that it says when something happens to it: in its turn, and with an order that joins its orders
abbrev pub says_apart : ApartAir → Event → List Aired
says_apart a (Turn target) = turn_says (terminals a.opening) a.centre a.plans a.mark target a.opening.net.lead a.opening.net.patience
says_apart a Ordered = sent_by_order a.plans (terminals a.opening) a.centre.wanted
says_apart a _ = []

-- once it has said so many messages more, and its centre is this one
abbrev pub having_said : ApartAir → Centre → ℕ → ApartAir
having_said a centre more = record a { centre = centre; said = a.said + more }

-- once it has happened: a turn, an order that joins its orders, a plan that joins its plans, or a restart, from which on it has heard
-- of no superframe; nothing else happens to it
abbrev pub having_apart : ApartAir → Event → ApartAir
having_apart a (Turn target) = having_said a (after_turn a.centre a.mark target a.opening.net.lead a.opening.net.patience) (length (says_apart a (Turn target)))
having_apart a Ordered = having_said a (once_placed a.centre (terminals a.opening) a.plans a.centre.wanted) (length (says_apart a Ordered))
having_apart a (Install plan) = record a { plans = plan ∷ a.plans }
having_apart a (RestartCentre kept) = record a { centre = beginning (terminals a.opening) a.plans (orders_kept a.centre kept); marked = false }
having_apart a _ = a

-- going back to this edition, or ahead
abbrev pub going_apart : ApartAir → Option EditionNo → ApartAir
going_apart a back = record a { back = back }

-- the later of two superframes
abbrev pub later_mark : Mark → Mark → Mark
later_mark present stamp = if nat_lt present.0 stamp.0 then stamp else present

-- once it has heard a message in a superframe, if it was one
abbrev pub noting_apart : ApartAir → Mark → Option Message → ApartAir
noting_apart a mark message = record a { centre = centre_with a.centre mark message; mark = mark }

-- Once it has heard a line. That a superframe begins which is not behind the one that it knows takes it there. A message takes it to
-- the superframe in front of it, where that is later, and is noted there; before it has heard that a superframe begins it passes
-- messages over, as if they were lost.
abbrev pub heard_apart : ApartAir → BusLine → ApartAir
heard_apart a (bus.Begun mark) = if nat_le a.mark.0 mark.0 then record a { mark = mark; marked = true } else a
heard_apart a (bus.Radio stamp message) = if a.marked then noting_apart a (later_mark a.mark stamp) message else a

-- the lines of a message of that number: as it is printed, and as it is said to the others, with what the plans have for it
abbrev pub said_line : Net → List Plan → Mark → ℕ → Aired → List ℕ
said_line net plans mark number one = sent_line net number (sent_as one) ++ radio_line mark (carried plans one)

-- the lines of messages, the first of them with this number
abbrev pub said_lines : Net → List Plan → Mark → ℕ → List Aired → List ℕ
said_lines net plans mark first [] = []
said_lines net plans mark first (one ∷ more) = said_line net plans mark first one ++ said_lines net plans mark (first + 1) more

-- the lines of the messages that it says when something happens to it
abbrev pub lines_apart : Net → ApartAir → Event → List ℕ
lines_apart net a event = said_lines net a.plans a.mark a.said (says_apart a event)

-- What lines of the air do to the orders of the world, to the one that is wanted, and to the newest edition.
use Rattle.std.proofs.Common.{◌≡◌, ◌⊎◌, ℕ, nat_le, if◌then◌else◌, Bool, true, false, List, [], ◌∷◌, ◌++◌, reverse, Option, Some, None, refl, sym, ap, ◌∙◌, subst, append_assoc, inl, inr}
use Rattle.std.proofs.lemmas.List.{append-nil, reverse-append}
use Rattle.bt_frame.specs.declared.numbers.EditionNo.{EditionNo}
use Rattle.bt_frame.specs.declared.numbers.Mark.{Mark}
use Rattle.bt_frame.specs.declared.numbers.TermNo.{TermNo}
use Rattle.bt_net.specs.Network.{Net}
use Rattle.bt_demand.specs.declared.plan.Plan.{Plan}
use Rattle.bt_air.specs.declared.message.Message.{Message}
use Rattle.bt_air.specs.declared.order.Order.{Order}
use Rattle.bt_air.specs.declared.order.Status.{Status}
use Rattle.bt_air.specs.declared.sent.Aired.{Aired}
use Rattle.bt_air.specs.declared.sent.Aired.TheVariants as sends
use Rattle.bt_air.specs.declared.sent.Place.{Place}
use Rattle.bt_machines.specs.Last.{last_order}
use Rattle.bt_machines.specs.Turn.{act_of, wanted_by}
use Rattle.bt_machines.specs.declared.turn.Turn.{Turn as Sight}
use Rattle.bt_site.specs.Event.{Event, Tick, Second, Ordered, Deliver, Frame, ResetTerminal, RestartCentre, Install, Happening}
use Rattle.bt_machines.specs.Plans.{newest_of}
use Rattle.bt_site.specs.World.{comes_to, kept, orders as placed, plans, sight, terminals, wanted}
use Rattle.bt_machines.specs.Centre.{State as Centre, turn_at}
use Rattle.bt_machines.specs.CentreSteps.{once_heard, once_placed, with_wanted}
use Rattle.bt_site.specs.Sites.{aired_of}
use Rattle.bt_script.specs.declared.heard.BusLine.{BusLine}
use Rattle.bt_script.specs.declared.heard.BusLine.TheVariants as bus
use Rattle.bt_apart.specs.Apart.{ApartAir, later_mark, noting_apart}
use Rattle.bt_journal.specs.declared.call.Call.{Call}
use Rattle.bt_journal.specs.declared.call.Call.TheVariants as call
use Rattle.bt_journal.specs.declared.call.Change.TheVariants as change
use Rattle.bt_journal.specs.declared.entry.Entry.{Entry}
use Rattle.bt_journal.specs.declared.reply.Reply.{Reply}
use Rattle.bt_journal.specs.declared.reply.Reply.TheVariants as reply
use Rattle.bt_journal.specs.Journal.{change_asked, is_made}
use Rattle.bt_history.specs.Changes.{orders}
use Rattle.bt_history.specs.Store.{is_lost}
use Rattle.bt_history.proofs.Histories.{as_list}
use Rattle.bt_script.specs.declared.script.AirLine.{AirLine}
use Rattle.bt_script.specs.declared.script.AirLine.TheVariants as line
use Rattle.bt_script.specs.declared.script.Losing.{Losing}
use Rattle.bt_round.specs.declared.worker.CentreOver.TheVariants.{Simulated, Apart}
use Rattle.bt_round.specs.AirLines.{AirState, PlaysAirLine, PlaysAirLines, PlaysBack, PlaysOrder, PlaysSimulated, PlaysTurnIf, going, having, hearing, installing, is_marked, newest_in, once_answered, orders_in, restarting, target_of, turning, wanted_in}
use Rattle.bt_round.specs.Simulated as simulated
use Rattle.bt_round.specs.Simulated.{SimulatedAir, PlaysBurst, PlaysDeliveries, PlaysDelivery, PlaysFlow, PlaysFrame, PlaysHearing, PlaysLoss, PlaysNotice, PlaysReset, PlaysTick, awaiting, bridging, happened, noticed}
use Rattle.bt_round.specs.Waiting.{left_of}
use Rattle.bt_round.proofs.Running.{past-having}
use Rattle.bt_centre.proofs.Orderly.{AreOrderly, AreOrderly-first, AreOrderly-second, AsksNone, IsPlacing, MakesNone, MakesNone-parts, no_order, none_behind_lost, not_both, one_order, orders_lost, orders_made, with_append, with_cons, with_quiet}

-- the newest edition of the plans that a simulated air has after this
abbrev newest_past : SimulatedAir → List Happening → EditionNo
newest_past air past = newest_of (plans air.life.opening past)

-- the orders, the one that is wanted, and the newest edition stay
pub record Stays (air after : AirState) : Type 0 where
  pub same : orders_in after ≡ orders_in air
  pub wants : wanted_in after ≡ wanted_in air
  pub newest : newest_in after ≡ newest_in air

-- the same on a simulated air
abbrev StaysIn : SimulatedAir → SimulatedAir → Type 0
StaysIn air after = Stays (Simulated air) (Simulated after)

stays_self : (air after : AirState) → after ≡ air → Stays air after
stays_self air after is = record { same = ap orders_in is; wants = ap wanted_in is; newest = ap newest_in is }

pub stays_is : (air between after : AirState) → after ≡ between → Stays air between → Stays air after
stays_is air between after is stays = subst (Stays air) (sym is) stays

-- once something happened on a simulated air that is no matter of the centre
module _ (air : SimulatedAir) (event : Event) where
  abbrev behind : List Happening
  behind = comes_to air.life.opening (happened air) event ∷ happened air

  stays_having : placed air.life.opening behind ≡ orders_in (Simulated air) → wanted behind ≡ wanted_in (Simulated air) → newest_past air behind ≡ newest_in (Simulated air)
      → StaysIn air (simulated.having air event)
  stays_having same wants newest = record {
    same = ap (placed air.life.opening) (past-having air.life event) ∙ same;
    wants = ap wanted (past-having air.life event) ∙ wants;
    newest = ap (newest_past air) (past-having air.life event) ∙ newest;
  }

-- in one of two cases of a line of a simulated air nothing happens
stays_same : (air after : SimulatedAir) → after ≡ air → StaysIn air after
stays_same air after is = stays_self (Simulated air) (Simulated after) (ap (λ (a : SimulatedAir). Simulated a) is)

stays_by : (air between after : SimulatedAir) → after ≡ between → StaysIn air between → StaysIn air after
stays_by air between after is stays = subst (StaysIn air) (sym is) stays

stays_on : (air between after : SimulatedAir) → StaysIn air between → StaysIn between after → StaysIn air after
stays_on air between after first second = record { same = second.same ∙ first.same; wants = second.wants ∙ first.wants; newest = second.newest ∙ first.newest }

stays_tick : (air : SimulatedAir) → StaysIn air (simulated.having air Tick)
stays_tick air = stays_having air Tick refl refl refl

stays_deliver : (air : SimulatedAir) (number : ℕ) (place : Place) → StaysIn air (simulated.having air (Deliver number place))
stays_deliver air number place = stays_having air (Deliver number place) refl refl refl

stays_frame : (air : SimulatedAir) → StaysIn air (simulated.having air Frame)
stays_frame air = stays_having air Frame refl refl refl

stays_reset : (air : SimulatedAir) (terminal : TermNo) → StaysIn air (simulated.having air (ResetTerminal terminal))
stays_reset air terminal = stays_having air (ResetTerminal terminal) refl refl refl

stays_second : (air : SimulatedAir) (in_force : Option EditionNo) → StaysIn air (simulated.having air (Second in_force))
stays_second air in_force = stays_having air (Second in_force) refl refl refl

stays_awaiting : (air : SimulatedAir) (waiting : List (ℕ × Place)) → StaysIn air (awaiting air waiting)
stays_awaiting air waiting = record { same = refl; wants = refl; newest = refl }

stays_noticed : (air : SimulatedAir) (one : Aired) → StaysIn air (noticed air one)
stays_noticed air (sends.Status status) = record { same = refl; wants = refl; newest = refl }
stays_noticed air (sends.Load command edition) = stays_same air air refl
stays_noticed air (sends.Arm command edition due) = stays_same air air refl
stays_noticed air (sends.PlanFor to load edition) = stays_same air air refl
stays_noticed air (sends.Confirm from load edition) = stays_same air air refl
stays_noticed air (sends.Reference superframe in_force next) = stays_same air air refl
stays_noticed air (sends.Lost from) = stays_same air air refl

stays_hearing : (net : Net) (air : SimulatedAir) (number : ℕ) (place : Place) (text : List ℕ) (after : SimulatedAir) → PlaysHearing net air number place text after → StaysIn air after
stays_hearing net air number place text after is = stays_by air (simulated.having air (Deliver number place)) after is.heard (stays_deliver air number place)

stays_deliveries : (net : Net) (air : SimulatedAir) (heard : List (ℕ × Place)) (text : List ℕ) (after : SimulatedAir) → PlaysDeliveries net air heard text after → StaysIn air after
stays_deliveries net air [] text after (nothing, is) = stays_same air after is
stays_deliveries net air (next ∷ later) text after (between, own, others, one, more, is) =
    stays_on air between after
    (stays_on air (awaiting air one.others) between (stays_awaiting air one.others) (stays_hearing net (awaiting air one.others) next.0 next.1 own between one.hearing))
    (stays_deliveries net between later others after more)

-- a line that only a simulated air has leaves them, where it does so there
stays_simulated : (plays : SimulatedAir → List ℕ → SimulatedAir → Type 0) → ((a : SimulatedAir) (text : List ℕ) (over : SimulatedAir) → plays a text over → StaysIn a over)
    → (air : AirState) (text : List ℕ) (after : AirState) → PlaysSimulated plays air text after → Stays air after
stays_simulated plays each (Simulated a) text after (over, one, is) = stays_is (Simulated a) (Simulated over) after is (each a text over one)
stays_simulated plays each (Apart a) text after (nothing, is) = stays_self (Apart a) after is

pub stays_tick_line : (net : Net) (air : AirState) (text : List ℕ) (after : AirState) → PlaysSimulated (PlaysTick net) air text after → Stays air after
stays_tick_line net air text after = stays_simulated (PlaysTick net) each air text after
  where
    each : (a : SimulatedAir) (text : List ℕ) (over : SimulatedAir) → PlaysTick net a text over → StaysIn a over
    each a text over (inl last) = stays_same a over last.2
    each a text over (inr next) = stays_by a (simulated.having a Tick) over next.2 (stays_tick a)

pub stays_flow : (net : Net) (air : AirState) (text : List ℕ) (after : AirState) → PlaysSimulated (PlaysFlow net) air text after → Stays air after
stays_flow net air text after =
    stays_simulated (PlaysFlow net) (λ (a : SimulatedAir) (text : List ℕ) (over : SimulatedAir) (is : PlaysFlow net a text over). stays_deliveries net a is.heard is.lines over is.flowed) air text after

pub stays_loss : (air : AirState) (losing : Losing) (text : List ℕ) (after : AirState) → PlaysSimulated (λ (a : SimulatedAir). PlaysLoss a losing) air text after → Stays air after
stays_loss air losing text after =
    stays_simulated (λ (a : SimulatedAir). PlaysLoss a losing)
    (λ (a : SimulatedAir) (text : List ℕ) (over : SimulatedAir) (is : PlaysLoss a losing text over). stays_by a (awaiting a (left_of losing a.waiting)) over is.left (stays_awaiting a (left_of losing a.waiting)))
    air text after

pub stays_delivery : (net : Net) (air : AirState) (number : ℕ) (place : Place) (text : List ℕ) (after : AirState)
    → PlaysSimulated (λ (a : SimulatedAir). PlaysDelivery net a number place) air text after → Stays air after
stays_delivery net air number place text after = stays_simulated (λ (a : SimulatedAir). PlaysDelivery net a number place) each air text after
  where
    each : (a : SimulatedAir) (text : List ℕ) (over : SimulatedAir) → PlaysDelivery net a number place text over → StaysIn a over
    each a text over (inl none) = stays_same a over none.2
    each a text over (inr one) = stays_hearing net a number place text over one.1

pub stays_frame_line : (net : Net) (air : AirState) (text : List ℕ) (after : AirState) → PlaysSimulated (PlaysFrame net) air text after → Stays air after
stays_frame_line net air text after = stays_simulated (PlaysFrame net) each air text after
  where
    each : (a : SimulatedAir) (text : List ℕ) (over : SimulatedAir) → PlaysFrame net a text over → StaysIn a over
    each a text over (inl none) = stays_same a over none.2
    each a text over (inr one) = stays_by a (simulated.having a Frame) over one.1.over (stays_frame a)

pub stays_reset_line : (net : Net) (air : AirState) (terminal : TermNo) (text : List ℕ) (after : AirState) → PlaysSimulated (λ (a : SimulatedAir). PlaysReset net a terminal) air text after
    → Stays air after
stays_reset_line net air terminal text after =
    stays_simulated (λ (a : SimulatedAir). PlaysReset net a terminal)
    (λ (a : SimulatedAir) (text : List ℕ) (over : SimulatedAir) (is : PlaysReset net a terminal text over). stays_by a (simulated.having a (ResetTerminal terminal)) over is.reset (stays_reset a terminal))
    air text after

pub stays_notice : (air : AirState) (number : ℕ) (text : List ℕ) (after : AirState) → PlaysSimulated (λ (a : SimulatedAir). PlaysNotice a number) air text after → Stays air after
stays_notice air number text after = stays_simulated (λ (a : SimulatedAir). PlaysNotice a number) each air text after
  where
    each : (a : SimulatedAir) (text : List ℕ) (over : SimulatedAir) → PlaysNotice a number text over → StaysIn a over
    each a text over (inl none) = stays_same a over none.2
    each a text over (inr one) = stays_by a (noticed a one.1.one) over one.1.kept (stays_noticed a one.1.one)

pub stays_burst : (net : Net) (air : AirState) (text : List ℕ) (after : AirState) → PlaysSimulated (PlaysBurst net) air text after → Stays air after
stays_burst net air text after =
    stays_simulated (PlaysBurst net) (λ (a : SimulatedAir) (text : List ℕ) (over : SimulatedAir) (is : PlaysBurst net a text over). stays_by a (simulated.having a (bridging a)) over is.sent (stays_second a _))
    air text after

-- a plan that joins leaves the orders and the one that is wanted
installed_orders : (air : AirState) (newer : Option Plan) → orders_in (installing air newer) ≡ orders_in air
installed_orders air None = refl
installed_orders (Simulated a) (Some plan) = ap (placed a.life.opening) (past-having a.life (Install plan))
installed_orders (Apart a) (Some plan) = refl

installed_wants : (air : AirState) (newer : Option Plan) → wanted_in (installing air newer) ≡ wanted_in air
installed_wants air None = refl
installed_wants (Simulated a) (Some plan) = ap wanted (past-having a.life (Install plan))
installed_wants (Apart a) (Some plan) = refl

-- it is the newest then
pub installed_edition : (air : AirState) (plan : Plan) → newest_in (installing air (Some plan)) ≡ plan.edition
installed_edition (Simulated a) plan = ap (newest_past a) (past-having a.life (Install plan))
installed_edition (Apart a) plan = refl

pub stays_going : (air : AirState) (back : Option EditionNo) → Stays air (going air back)
stays_going (Simulated a) back = record { same = refl; wants = refl; newest = refl }
stays_going (Apart a) back = record { same = refl; wants = refl; newest = refl }

pub stays_back : (air : AirState) (edition : EditionNo) (text : List ℕ) (after : AirState) → PlaysBack air edition text after → Stays air after
stays_back air edition text after (inl none) = stays_self air after none.2
stays_back air edition text after (inr goes) = stays_is air (going air (Some edition)) after goes.2 (stays_going air (Some edition))

-- a centre that takes note of a message leaves its orders, and the one that it wants
noted_orders : (s : Centre) (now : ℕ) (one : Aired) → (once_heard s now (Some one)).orders ≡ s.orders
noted_orders s now (sends.Status status) = refl
noted_orders s now (sends.Confirm from load edition) = refl
noted_orders s now (sends.Lost from) = refl
noted_orders s now _ = refl

noted_wants : (s : Centre) (now : ℕ) (one : Aired) → (once_heard s now (Some one)).wanted ≡ s.wanted
noted_wants s now (sends.Status status) = refl
noted_wants s now (sends.Confirm from load edition) = refl
noted_wants s now (sends.Lost from) = refl
noted_wants s now _ = refl

stays_noting : (a : ApartAir) (mark : Mark) (message : Option Message) → Stays (Apart a) (Apart (noting_apart a mark message))
stays_noting a mark None = record { same = refl; wants = refl; newest = refl }
stays_noting a mark (Some message) = record { same = noted_orders a.centre mark.0 (aired_of message); wants = noted_wants a.centre mark.0 (aired_of message); newest = refl }

stays_if : (a over : ApartAir) (b : Bool) → Stays (Apart a) (Apart over) → Stays (Apart a) (Apart (if b then over else a))
stays_if a over true stays = stays
stays_if a over false stays = stays_self (Apart a) (Apart a) refl

-- so does a centre that hears a line of the bus
pub stays_bus : (air : AirState) (heard : BusLine) → Stays air (hearing air heard)
stays_bus (Simulated a) heard = stays_self (Simulated a) (Simulated a) refl
stays_bus (Apart a) (bus.Begun mark) = stays_if a (record a { mark = mark; marked = true }) (nat_le a.mark.0 mark.0) (record { same = refl; wants = refl; newest = refl })
stays_bus (Apart a) (bus.Radio stamp message) = stays_if a (noting_apart a (later_mark a.mark stamp) message) a.marked (stays_noting a (later_mark a.mark stamp) message)

-- a restart leaves the newest edition, and the order that is wanted joins the others where it is kept
pub restart_joins : (air : AirState) (told : List Order) → orders_in (restarting air true told) ≡ with_wanted (wanted_in air) (orders_in air)
restart_joins (Simulated a) told = ap (placed a.life.opening) (past-having a.life (RestartCentre true))
restart_joins (Apart a) told = refl

pub restart_leaves : (air : AirState) (told : List Order) → orders_in (restarting air false told) ≡ orders_in air
restart_leaves (Simulated a) told = ap (placed a.life.opening) (past-having a.life (RestartCentre false))
restart_leaves (Apart a) told = refl

pub restart_newest : (air : AirState) (kept : Bool) (told : List Order) → newest_in (restarting air kept told) ≡ newest_in air
restart_newest (Simulated a) true told = ap (newest_past a) (past-having a.life (RestartCentre true))
restart_newest (Simulated a) false told = ap (newest_past a) (past-having a.life (RestartCentre false))
restart_newest (Apart a) kept told = refl

-- What is played with these entries: the orders that they placed join the world, one that they lost is wanted at the end, and where they
-- made and lost none, an order that was wanted still is.
pub record Keeps (entries : List Entry) (air after : AirState) : Type 0 where
  pub join : orders_in after ≡ reverse (orders_made entries) ++ orders_in air
  pub lost : (order : Order) → orders_lost entries ≡ order ∷ [] → wanted_in after ≡ Some order
  pub still : MakesNone entries → (order : Order) → wanted_in air ≡ Some order → wanted_in after ≡ Some order

keeps_quiet : (air after : AirState) → Stays air after → Keeps [] air after
keeps_quiet air after stays = record {
  join = stays.same;
  lost = λ order is. absurd (no_order [] order refl is);
  still = λ none order is. stays.wants ∙ is;
}

keeps_none : (entries : List Entry) (air after : AirState) → entries ≡ [] → Stays air after → Keeps entries air after
keeps_none entries air after none stays = subst (λ (l : List Entry). Keeps l air after) (sym none) (keeps_quiet air after stays)

-- an order that is wanted is wanted in the next turn too
wanted_again : (turn : Sight) (want : Option Order) (heard : Option Status) (last : Option Order) (order : Order) → want ≡ Some order
    → wanted_by (act_of turn want heard last) ≡ Some order
wanted_again turn (Some one) heard last order is = is
wanted_again turn None heard last order is = absurd cc

turned_orders : (air : AirState) → orders_in (having air (turning air)) ≡ orders_in air
turned_orders (Simulated a) = ap (placed a.life.opening) (past-having a.life (turning (Simulated a)))
turned_orders (Apart a) = refl

turned_wants : (air : AirState) (order : Order) → wanted_in air ≡ Some order → wanted_in (having air (turning air)) ≡ Some order
turned_wants (Simulated a) order is =
    ap wanted (past-having a.life (turning (Simulated a)))
    ∙ wanted_again (sight a.life.opening (happened a) (target_of (Simulated a))) (wanted (happened a)) (kept (happened a)) (last_order (simulated.orders_in a)) order is
turned_wants (Apart a) order is =
    wanted_again (turn_at a.centre a.mark (target_of (Apart a)) a.opening.net.lead a.opening.net.patience) a.centre.wanted a.centre.kept (last_order a.centre.orders) order is

-- a turn leaves the newest edition
pub turned_edition : (air : AirState) → newest_in (having air (turning air)) ≡ newest_in air
turned_edition (Simulated a) = ap (newest_past a) (past-having a.life (turning (Simulated a)))
turned_edition (Apart a) = refl

-- so does an order that joins the others
pub ordered_edition : (air : AirState) → newest_in (having air Ordered) ≡ newest_in air
ordered_edition (Simulated a) = ap (newest_past a) (past-having a.life Ordered)
ordered_edition (Apart a) = refl

placed_orders : (s : Centre) (everyone : List TermNo) (all : List Plan) (want : Option Order) → (once_placed s everyone all want).orders ≡ with_wanted want s.orders
placed_orders s everyone all None = refl
placed_orders s everyone all (Some order) = refl

-- the order that is wanted joins the others
ordered_joins : (air : AirState) → orders_in (having air Ordered) ≡ with_wanted (wanted_in air) (orders_in air)
ordered_joins (Simulated a) = ap (placed a.life.opening) (past-having a.life Ordered)
ordered_joins (Apart a) = placed_orders a.centre (terminals a.opening) a.plans a.centre.wanted

once_other : (air : AirState) (answer : Reply) → is_made answer ≡ false → once_answered air answer ≡ air
once_other air reply.Placed none = absurd (not_both true refl none)
once_other air _ none = refl

one_asked : (passes : Reply → Bool) (entry : Entry) (order : Order) → entry.call ≡ call.Place order
    → orders (as_list (if passes entry.reply then change_asked entry.call else None)) ≡ orders (as_list (if passes entry.reply then Some (change.Order order) else None))
one_asked passes entry order asked = ap (λ (c : Call). orders (as_list (if passes entry.reply then change_asked c else None))) asked

asked_is : (b : Bool) (one order : Order) → orders (as_list (if b then Some (change.Order one) else None)) ≡ order ∷ [] → one ≡ order
asked_is true one order is = first one order is
  where
    first : (one order : Order) → (let list : List Order = one ∷ [] in list) ≡ order ∷ [] → one ≡ order
    first one order is = cc
asked_is false one order is = absurd (no_order [] order refl is)

-- the order that is wanted was asked to be placed
keeps_asked : (air after : AirState) (one : Order) (entry : Entry) → wanted_in air ≡ Some one → IsPlacing entry → entry.call ≡ call.Place one
    → after ≡ once_answered air entry.reply → Keeps (entry ∷ []) air after
keeps_asked air after one entry want placing asked is = by (is_made entry.reply) refl
  where
    lost_is : (order : Order) → orders_lost (entry ∷ []) ≡ order ∷ [] → one ≡ order
    lost_is order lost =
        asked_is (is_lost entry.reply) one order
        (sym (with_cons is_lost entry [] ∙ append-nil (orders (as_list (if is_lost entry.reply then change_asked entry.call else None))) ∙ one_asked is_lost entry one asked) ∙ lost)

    made_is : (b : Bool) → is_made entry.reply ≡ b → orders_made (entry ∷ []) ≡ orders (as_list (if b then Some (change.Order one) else None))
    made_is b made =
        with_cons is_made entry [] ∙ append-nil (orders (as_list (if is_made entry.reply then change_asked entry.call else None))) ∙ one_asked is_made entry one asked
        ∙ ap (λ (t : Bool). orders (as_list (if t then Some (change.Order one) else None))) made

    by : (made : Bool) → is_made entry.reply ≡ made → Keeps (entry ∷ []) air after
    by true made =
        let answer = placing one asked made in
        let now : after ≡ having air Ordered = is ∙ ap (once_answered air) answer in
        let more : orders_in after ≡ with_wanted (wanted_in air) (orders_in air) = ap orders_in now ∙ ordered_joins air in
        let none : is_lost entry.reply ≡ false = ap is_lost answer in
        record {
          join = more ∙ ap (λ (w : Option Order). with_wanted w (orders_in air)) want ∙ sym (ap (λ (l : List Order). reverse l ++ orders_in air) (made_is true made));
          lost = λ order lost.
              absurd (no_order (orders_lost (entry ∷ [])) order
              (with_cons is_lost entry [] ∙ append-nil (orders (as_list (if is_lost entry.reply then change_asked entry.call else None)))
              ∙ ap (λ (t : Bool). orders (as_list (if t then change_asked entry.call else None))) none) lost);
          still = λ nothing order before. absurd (not_both (is_made entry.reply) made nothing.0);
        }
    by false made =
        let now : after ≡ air = is ∙ once_other air entry.reply made in
        let wants : wanted_in after ≡ wanted_in air = ap wanted_in now in
        record {
          join = ap orders_in now ∙ sym (ap (λ (l : List Order). reverse l ++ orders_in air) (made_is false made));
          lost = λ order lost. wants ∙ want ∙ ap Some (lost_is order lost);
          still = λ nothing order before. wants ∙ before;
        }

keeps_order : (net : Net) (air : AirState) (want : Option Order) (entries : List Entry) (text : List ℕ) (after : AirState) → wanted_in air ≡ want → AreOrderly entries
    → PlaysOrder net air want entries text after → Keeps entries air after
keeps_order net air None [] text after want so is = keeps_quiet air after (stays_self air after is.1)
keeps_order net air None (entry ∷ more) text after want so is = absurd is
keeps_order net air (Some one) [] text after want so is = absurd is
keeps_order net air (Some one) (entry ∷ []) text after want so is = keeps_asked air after one entry want so.0 is.0 is.2
keeps_order net air (Some one) (entry ∷ other ∷ more) text after want so is = absurd is

-- behind a call that asks for no order, and an air with the same orders that wants the order that was wanted
keeps_behind : (asked : Entry) (others : List Entry) (air between after : AirState) → AsksNone asked.call → orders_in between ≡ orders_in air
    → ((order : Order) → wanted_in air ≡ Some order → wanted_in between ≡ Some order) → Keeps others between after → Keeps (asked ∷ others) air after
keeps_behind asked others air between after none same wants keeps = record {
  join = keeps.join ∙ ap (λ (l : List Order). reverse (orders_made others) ++ l) same
      ∙ sym (ap (λ (l : List Order). reverse l ++ orders_in air) (with_quiet is_made asked others none));
  lost = λ order is. keeps.lost order (sym (with_quiet is_lost asked others none) ∙ is);
  still = λ nothing order is. keeps.still nothing.2 order (wants order is);
}

keeps_turn : (net : Net) (marked : Bool) (air : AirState) (entries : List Entry) (text : List ℕ) (after : AirState) → AreOrderly entries → PlaysTurnIf marked net air entries text after
    → Keeps entries air after
keeps_turn net false air entries text after so is = keeps_none entries air after is.0 (stays_self air after is.2)
keeps_turn net true air entries text after so is =
    let with_plan = installing air is.newer in
    let turned = having with_plan (turning with_plan) in
    let orderly = subst AreOrderly is.all so in
    subst (λ (l : List Entry). Keeps l air after) (sym is.all)
    (keeps_behind is.asked is.others air turned after (subst AsksNone (sym is.call) tt) (turned_orders with_plan ∙ installed_orders air is.newer)
    (λ order before. turned_wants with_plan order (installed_wants air is.newer ∙ before))
    (keeps_order net turned (wanted_in turned) is.others is.turned.rest after refl orderly.2 is.turned.placed))

-- a line of the air
keeps_line : (net : Net) (air : AirState) (one : AirLine) (entries : List Entry) (text : List ℕ) (after : AirState) → AreOrderly entries
    → PlaysAirLine net air one entries text after → Keeps entries air after
keeps_line net air line.Tick entries text after so is = keeps_none entries air after is.0 (stays_tick_line net air text after is.1)
keeps_line net air line.Turn entries text after so is = keeps_turn net (is_marked air) air entries text after so is
keeps_line net air (line.Back edition) entries text after so is = keeps_none entries air after is.0 (stays_back air edition text after is.1)
keeps_line net air line.Ahead entries text after so is = keeps_none entries air after is.0 (stays_is air (going air None) after is.1.goes (stays_going air None))
keeps_line net air line.Flow entries text after so is = keeps_none entries air after is.0 (stays_flow net air text after is.1)
keeps_line net air (line.Lose losing) entries text after so is =
    keeps_none entries air after is.0 (stays_loss air losing text after is.1)
keeps_line net air (line.Deliver number place) entries text after so is = keeps_none entries air after is.0 (stays_delivery net air number place text after is.1)
keeps_line net air line.Frame entries text after so is = keeps_none entries air after is.0 (stays_frame_line net air text after is.1)
keeps_line net air (line.Reset terminal) entries text after so is =
    keeps_none entries air after is.0 (stays_reset_line net air terminal text after is.1)
keeps_line net air (line.StandbyHears number) entries text after so is = keeps_none entries air after is.0 (stays_notice air number text after is.1)
keeps_line net air line.StandbyBurst entries text after so is = keeps_none entries air after is.0 (stays_burst net air text after is.1)

-- one part behind another
pub keeps_both : (own others : List Entry) (air between after : AirState) → AreOrderly (own ++ others) → Keeps own air between → Keeps others between after → Keeps (own ++ others) air after
keeps_both own others air between after so first second = record {
  join = second.join ∙ ap (λ (l : List Order). reverse (orders_made others) ++ l) first.join
      ∙ sym (append_assoc (reverse (orders_made others)) (reverse (orders_made own)) (orders_in air))
      ∙ sym (ap (λ (l : List Order). l ++ orders_in air) (ap reverse (with_append is_made own others) ∙ reverse-append (orders_made own) (orders_made others)));
  lost = λ order is. by order (one_order (orders_lost own) (orders_lost others) order (sym (with_append is_lost own others) ∙ is));
  still = λ nothing order is.
      let parts = MakesNone-parts own others nothing in
      second.still parts.1 order (first.still parts.0 order is);
}
  where
    by : (order : Order) → ((orders_lost own ≡ []) × (orders_lost others ≡ order ∷ [])) ⊎ (orders_lost own ≡ order ∷ []) → wanted_in after ≡ Some order
    by order (inl later) = second.lost order later.1
    by order (inr earlier) = second.still (none_behind_lost own others order so earlier) order (first.lost order earlier)

-- lines of the air one after the other
pub keeps_lines : (net : Net) (air : AirState) (lines : List AirLine) (entries : List Entry) (text : List ℕ) (after : AirState) → AreOrderly entries
    → PlaysAirLines net air lines entries text after → Keeps entries air after
keeps_lines net air [] entries text after so (none, nothing, is) = keeps_none entries air after none (stays_self air after is)
keeps_lines net air (first ∷ lines) entries text after so (between, own, others, begun, rest, one, more, all, text_is) =
    let orderly = subst AreOrderly all so in
    subst (λ (l : List Entry). Keeps l air after) (sym all)
    (keeps_both own others air between after orderly (keeps_line net air first own begun between (AreOrderly-first own others orderly) one)
    (keeps_lines net between lines others rest after (AreOrderly-second own others orderly) more))

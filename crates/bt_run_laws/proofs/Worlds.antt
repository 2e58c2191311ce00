-- The world along lines of the air: where it can be spelled behind them, it could be before them.
use Rattle.std.proofs.Common.{◌≡◌, inl, inr, ℕ, Bool, true, false, List, [], ◌∷◌, reverse, Option, Some, None, subst, arith}
use Rattle.std.proofs.lemmas.List.{length-append}
use Rattle.bt_frame.specs.declared.numbers.EditionNo.{EditionNo}
use Rattle.bt_net.specs.Network.{Net}
use Rattle.bt_demand.specs.declared.plan.Plan.{Plan}
use Rattle.bt_air.specs.declared.order.Order.{Order}
use Rattle.bt_air.specs.declared.sent.Aired.{Aired}
use Rattle.bt_air.specs.declared.sent.Aired.TheVariants as sends
use Rattle.bt_air.specs.declared.sent.Place.{Place}
use Rattle.bt_site.specs.Event.{Opening, Event, Tick, Turn, Ordered, Deliver, Frame, ResetTerminal, RestartCentre, Install}
use Rattle.bt_site.specs.Fits.{Meets}
use Rattle.bt_site.specs.World.{comes_to, log, sent, sent_with}
use Rattle.bt_site.proofs.Ranges.{stored-before}
use Rattle.bt_journal.specs.declared.entry.Entry.{Entry}
use Rattle.bt_journal.specs.declared.reply.Reply.{Reply}
use Rattle.bt_journal.specs.declared.reply.Reply.TheVariants as reply
use Rattle.bt_script.specs.declared.script.AirLine.{AirLine}
use Rattle.bt_script.specs.declared.script.AirLine.TheVariants as line
use Rattle.bt_script.specs.declared.heard.BusLine.{BusLine}
use Rattle.bt_round.specs.declared.worker.CentreOver.TheVariants.{Simulated, Apart}
use Rattle.bt_round.specs.AirLines.{AirState, PlaysAirLine, PlaysAirLines, PlaysBack, PlaysOrder, PlaysSimulated, PlaysTurnIf, PlaysTurning, back_behind, events_in, going, having, hearing, installing, is_marked, once_answered, opening_in, restarting, turning, wanted_in}
use Rattle.bt_round.specs.Simulated as simulated
use Rattle.bt_round.specs.Simulated.{SimulatedAir, PlaysBurst, PlaysDeliveries, PlaysDelivery, PlaysFlow, PlaysFrame, PlaysLoss, PlaysNotice, PlaysReset, PlaysTick, awaiting, bridging, happened, noticed}
use Rattle.bt_round.proofs.Running.{last-first}
use Rattle.bt_centre.specs.World.{IsSpelledWorld}
use Rattle.bt_centre.proofs.Airs.{opening_hearing}

-- the messages of the air's world can be spelled
abbrev pub IsSpelledAir : AirState → Type 0
IsSpelledAir air = IsSpelledWorld (opening_in air) (reverse (events_in air))

-- the same of a simulated air
abbrev pub IsSpelled : SimulatedAir → Type 0
IsSpelled air = IsSpelledAir (Simulated air)

-- so could they before the last event
earlier_spelled : (o : Opening) (event : Event) (earlier : List Event) → IsSpelledWorld o (event ∷ earlier) → IsSpelledWorld o earlier
earlier_spelled o event earlier so =
    let past = log o earlier in
    record {
      world = so.world.1;
      stored = stored-before o past event so.stored;
      few = omega (arith, so.few, length-append (sent o past) (sent_with o past (comes_to o past event)));
    }

-- an event could come, and the world before it could be spelled
pub record Came (air : SimulatedAir) (event : Event) : Type 0 where
  pub before : IsSpelled air
  pub meets : Meets air.life.opening (happened air) event

-- what is so before an event, where the world can be spelled behind it
pub came : (air : SimulatedAir) (event : Event) → IsSpelled (simulated.having air event) → Came air event
came air event so =
    let now = subst (IsSpelledWorld air.life.opening) (last-first air.life.events event) so in
    record { before = earlier_spelled air.life.opening event (reverse air.life.events) now; meets = now.world.0 }

-- the same, of the air behind it
pub came_to : (air : SimulatedAir) (event : Event) (after : SimulatedAir) → after ≡ simulated.having air event → IsSpelled after → Came air event
came_to air event after is so = came air event (subst IsSpelled is so)

-- before an event that comes to the centre
before_having : (air : AirState) (event : Event) → IsSpelledAir (having air event) → IsSpelledAir air
before_having (Simulated a) event so = (came a event so).before
before_having (Apart a) (Turn target) so = so
before_having (Apart a) Ordered so = so
before_having (Apart a) (Install plan) so = so
before_having (Apart a) (RestartCentre kept) so = so
before_having (Apart a) _ so = so

before_going : (air : AirState) (back : Option EditionNo) → IsSpelledAir (going air back) → IsSpelledAir air
before_going (Simulated a) back so = so
before_going (Apart a) back so = so

-- before a line that only a simulated air has
before_simulated : (plays : SimulatedAir → List ℕ → SimulatedAir → Type 0) → ((a : SimulatedAir) (text : List ℕ) (over : SimulatedAir) → plays a text over → IsSpelled over → IsSpelled a)
    → (air : AirState) (text : List ℕ) (after : AirState) → PlaysSimulated plays air text after → IsSpelledAir after → IsSpelledAir air
before_simulated plays each (Simulated a) text after (over, one, is) so = each a text over one (subst IsSpelledAir is so)
before_simulated plays each (Apart a) text after (nothing, is) so = subst IsSpelledAir is so

before_tick : (net : Net) (air : SimulatedAir) (text : List ℕ) (after : SimulatedAir) → PlaysTick net air text after → IsSpelled after → IsSpelled air
before_tick net air text after (inl (late, text_is, same)) so = subst IsSpelled same so
before_tick net air text after (inr (early, text_is, had)) so = (came_to air Tick after had so).before

pub before_deliveries : (net : Net) (air : SimulatedAir) (heard : List (ℕ × Place)) (text : List ℕ) (after : SimulatedAir) → PlaysDeliveries net air heard text after → IsSpelled after → IsSpelled air
before_deliveries net air [] text after (text_is, same) so = subst IsSpelled same so
before_deliveries net air (next ∷ later) text after (between, own, others, now, more, text_is) so =
    (came_to (awaiting air now.others) (Deliver next.0 next.1) between now.hearing.heard (before_deliveries net between later others after more so)).before

before_delivery : (net : Net) (air : SimulatedAir) (number : ℕ) (place : Place) (text : List ℕ) (after : SimulatedAir) → PlaysDelivery net air number place text after → IsSpelled after → IsSpelled air
before_delivery net air number place text after (inl (past, text_is, same)) so = subst IsSpelled same so
before_delivery net air number place text after (inr (there, hearing)) so = (came_to air (Deliver number place) after hearing.heard so).before

before_frame : (net : Net) (air : SimulatedAir) (text : List ℕ) (after : SimulatedAir) → PlaysFrame net air text after → IsSpelled after → IsSpelled air
before_frame net air text after (inl (over, text_is, same)) so = subst IsSpelled same so
before_frame net air text after (inr (left, shows)) so = (came_to air Frame after shows.over so).before

before_back : (air : AirState) (edition : EditionNo) (text : List ℕ) (after : AirState) → PlaysBack air edition text after → IsSpelledAir after → IsSpelledAir air
before_back air edition text after (inl (none, text_is, same)) so = subst IsSpelledAir same so
before_back air edition text after (inr (some, text_is, goes)) so = before_going air (Some edition) (subst IsSpelledAir goes so)

-- the standby keeps what it heard, and no event happens
before_noticed : (air : SimulatedAir) (one : Aired) → IsSpelled (noticed air one) → IsSpelled air
before_noticed air (sends.Status status) so = so
before_noticed air _ so = so

before_notice : (air : SimulatedAir) (number : ℕ) (text : List ℕ) (after : SimulatedAir) → PlaysNotice air number text after → IsSpelled after → IsSpelled air
before_notice air number text after (inl (past, text_is, same)) so = subst IsSpelled same so
before_notice air number text after (inr (there, notices)) so = before_noticed air notices.one (subst IsSpelled notices.kept so)

-- the answer to an order
before_answered : (air : AirState) (answer : Reply) → IsSpelledAir (once_answered air answer) → IsSpelledAir air
before_answered air reply.Placed so = before_having air Ordered so
before_answered air _ so = so

before_order : (net : Net) (air : AirState) (want : Option Order) (entries : List Entry) (text : List ℕ) (after : AirState) → PlaysOrder net air want entries text after → IsSpelledAir after → IsSpelledAir air
before_order net air None [] text after (text_is, same) so = subst IsSpelledAir same so
before_order net air None (entry ∷ entries) text after played so = absurd played
before_order net air (Some order) [] text after played so = absurd played
before_order net air (Some order) (entry ∷ []) text after (asked, text_is, goes) so = before_answered air entry.reply (subst IsSpelledAir goes so)
before_order net air (Some order) (entry ∷ next ∷ entries) text after played so = absurd played

before_installing : (air : AirState) (newer : Option Plan) → IsSpelledAir (installing air newer) → IsSpelledAir air
before_installing air None so = so
before_installing air (Some plan) so = before_having air (Install plan) so

-- the turn came, whatever was ordered behind it
pub turn_came : (net : Net) (air : AirState) (entries : List Entry) (text : List ℕ) (after : AirState) → PlaysTurning net air entries text after → IsSpelledAir after → IsSpelledAir (having air (turning air))
turn_came net air entries text after turns so =
    let there = having air (turning air) in before_order net there (wanted_in there) entries turns.rest after turns.placed so

before_turn : (net : Net) (marked : Bool) (air : AirState) (entries : List Entry) (text : List ℕ) (after : AirState) → PlaysTurnIf marked net air entries text after → IsSpelledAir after → IsSpelledAir air
before_turn net false air entries text after turns so = subst IsSpelledAir turns.2 so
before_turn net true air entries text after turns so =
    let there = installing air turns.newer in
    before_installing air turns.newer (before_having there (turning there) (turn_came net there turns.others text after turns.turned so))

-- before one line
before_line : (net : Net) (air : AirState) (one : AirLine) (entries : List Entry) (text : List ℕ) (after : AirState) → PlaysAirLine net air one entries text after → IsSpelledAir after → IsSpelledAir air
before_line net air line.Tick entries text after (none, played) so = before_simulated (PlaysTick net) (before_tick net) air text after played so
before_line net air line.Turn entries text after played so = before_turn net (is_marked air) air entries text after played so
before_line net air (line.Back edition) entries text after (none, played) so = before_back air edition text after played so
before_line net air line.Ahead entries text after (none, played) so = before_going air None (subst IsSpelledAir played.goes so)
before_line net air line.Flow entries text after (none, played) so =
    before_simulated (PlaysFlow net) (λ (a : SimulatedAir) (text : List ℕ) (over : SimulatedAir) (flow : PlaysFlow net a text over). before_deliveries net a flow.heard flow.lines over flow.flowed) air text after played so
before_line net air (line.Lose losing) entries text after (none, played) so =
    before_simulated (λ (a : SimulatedAir). PlaysLoss a losing) (λ (a : SimulatedAir) (text : List ℕ) (over : SimulatedAir) (loss : PlaysLoss a losing text over). subst IsSpelled loss.left) air text after played so
before_line net air (line.Deliver number place) entries text after (none, played) so =
    before_simulated (λ (a : SimulatedAir). PlaysDelivery net a number place) (λ (a : SimulatedAir). before_delivery net a number place) air text after played so
before_line net air line.Frame entries text after (none, played) so = before_simulated (PlaysFrame net) (before_frame net) air text after played so
before_line net air (line.Reset terminal) entries text after (none, played) so =
    before_simulated (λ (a : SimulatedAir). PlaysReset net a terminal)
    (λ (a : SimulatedAir) (text : List ℕ) (over : SimulatedAir) (resets : PlaysReset net a terminal text over) (so : IsSpelled over). (came_to a (ResetTerminal terminal) over resets.reset so).before) air text after played so
before_line net air (line.StandbyHears number) entries text after (none, played) so = before_simulated (λ (a : SimulatedAir). PlaysNotice a number) (λ (a : SimulatedAir). before_notice a number) air text after played so
before_line net air line.StandbyBurst entries text after (none, played) so =
    before_simulated (PlaysBurst net)
    (λ (a : SimulatedAir) (text : List ℕ) (over : SimulatedAir) (bursts : PlaysBurst net a text over) (so : IsSpelled over). (came_to a (bridging a) over bursts.sent so).before) air text after played so

-- before lines
pub world_before : (net : Net) (air : AirState) (lines : List AirLine) (entries : List Entry) (text : List ℕ) (after : AirState) → PlaysAirLines net air lines entries text after
    → IsSpelledAir after → IsSpelledAir air
world_before net air [] entries text after (none, text_is, same) so = subst IsSpelledAir same so
world_before net air (first ∷ lines) entries text after (between, own, others, begun, rest, now, more, all, text_is) so =
    before_line net air first own begun between now (world_before net between lines others rest after more so)

-- before a restart
pub world_before_restart : (air : AirState) (kept : Bool) (told : List Order) → IsSpelledAir (restarting air kept told) → IsSpelledAir air
world_before_restart air kept told so = before_having air (RestartCentre kept) (before_going (having air (RestartCentre kept)) (back_behind air told) so)

-- before a line of the bus
pub world_before_heard : (air : AirState) (heard : BusLine) → IsSpelledAir (hearing air heard) → IsSpelledAir air
world_before_heard (Simulated a) heard so = so
world_before_heard (Apart a) heard so = subst (λ (o : Opening). IsSpelledWorld o []) (opening_hearing (Apart a) heard) so

-- A simulated air stays one: the sites that are together stay so.
use Rattle.std.proofs.Common.{◌≡◌, ℕ, Bool, true, false, List, [], ◌∷◌, reverse, Option, Some, None, ap, subst, sym, inl, inr}
use Rattle.bt_frame.specs.declared.numbers.EditionNo.{EditionNo}
use Rattle.bt_net.specs.Network.{Net}
use Rattle.bt_demand.specs.declared.plan.Plan.{Plan}
use Rattle.bt_air.specs.declared.event.Event.{Event}
use Rattle.bt_air.specs.declared.order.Order.{Order}
use Rattle.bt_script.specs.declared.heard.BusLine.{BusLine}
use Rattle.bt_site.specs.Event.{Install, Ordered}
use Rattle.bt_journal.specs.declared.entry.Entry.{Entry}
use Rattle.bt_journal.specs.declared.reply.Reply.{Reply}
use Rattle.bt_journal.specs.declared.reply.Reply.TheVariants as reply
use Rattle.bt_history.specs.Changes.{orders}
use Rattle.bt_script.specs.declared.script.AirLine.{AirLine}
use Rattle.bt_script.specs.declared.script.AirLine.TheVariants as line
use Rattle.bt_script.specs.declared.script.Item.{Item}
use Rattle.bt_script.specs.declared.script.Item.TheVariants as item
use Rattle.bt_round.specs.declared.worker.CentreOver.TheVariants.{Simulated, Apart}
use Rattle.bt_round.specs.AirLines.{AirState, PlaysAirLine, PlaysAirLines, PlaysBack, PlaysOrder, PlaysSimulated, PlaysTurnIf, going, having, hearing, installing, is_marked, once_answered, restarting, turning, wanted_in}
use Rattle.bt_round.specs.Simulated.{SimulatedAir, PlaysBurst, PlaysDelivery, PlaysFlow, PlaysFrame, PlaysLoss, PlaysNotice, PlaysReset, PlaysTick}
use Rattle.bt_centre.specs.Progress.{Hand, IsTogether, ItemPlayed}

together_is : (air after : AirState) → after ≡ air → IsTogether air → IsTogether after
together_is air after is together = subst IsTogether (sym is) together

-- after an event
pub together_having : (air : AirState) (event : Event) → IsTogether air → IsTogether (having air event)
together_having (Simulated a) event together = tt
together_having (Apart a) event together = absurd together

together_going : (air : AirState) (back : Option EditionNo) → IsTogether air → IsTogether (going air back)
together_going (Simulated a) back together = tt
together_going (Apart a) back together = absurd together

pub together_restarting : (air : AirState) (kept : Bool) (told : List Order) → IsTogether air → IsTogether (restarting air kept told)
together_restarting (Simulated a) kept told together = tt
together_restarting (Apart a) kept told together = absurd together

pub together_hearing : (air : AirState) (heard : BusLine) → IsTogether air → IsTogether (hearing air heard)
together_hearing (Simulated a) heard together = tt
together_hearing (Apart a) heard together = absurd together

together_installing : (air : AirState) (newer : Option Plan) → IsTogether air → IsTogether (installing air newer)
together_installing air None together = together
together_installing air (Some plan) together = together_having air (Install plan) together

together_answered : (air : AirState) (answer : Reply) → IsTogether air → IsTogether (once_answered air answer)
together_answered air reply.Placed together = together_having air Ordered together
together_answered air _ together = together

together_back : (air : AirState) (edition : EditionNo) (text : List ℕ) (after : AirState) → PlaysBack air edition text after → IsTogether air → IsTogether after
together_back air edition text after (inl none) together = together_is air after none.2 together
together_back air edition text after (inr goes) together = together_is (going air (Some edition)) after goes.2 (together_going air (Some edition) together)

together_order : (net : Net) (air : AirState) (want : Option Order) (entries : List Entry) (text : List ℕ) (after : AirState) → PlaysOrder net air want entries text after → IsTogether air → IsTogether after
together_order net air None [] text after is together = together_is air after is.1 together
together_order net air None (entry ∷ more) text after is together = absurd is
together_order net air (Some one) [] text after is together = absurd is
together_order net air (Some one) (entry ∷ []) text after is together = together_is (once_answered air entry.reply) after is.2 (together_answered air entry.reply together)
together_order net air (Some one) (entry ∷ other ∷ more) text after is together = absurd is

together_turn : (net : Net) (marked : Bool) (air : AirState) (entries : List Entry) (text : List ℕ) (after : AirState) → PlaysTurnIf marked net air entries text after → IsTogether air → IsTogether after
together_turn net false air entries text after is together = together_is air after is.2 together
together_turn net true air entries text after is together =
    let with_plan = installing air is.newer in
    let turned = having with_plan (turning with_plan) in
    together_order net turned (wanted_in turned) is.others is.turned.rest after is.turned.placed
    (together_having with_plan (turning with_plan) (together_installing air is.newer together))

together_simulated : (plays : SimulatedAir → List ℕ → SimulatedAir → Type 0) (air : AirState) (text : List ℕ) (after : AirState) → PlaysSimulated plays air text after → IsTogether air → IsTogether after
together_simulated plays (Simulated a) text after (over, one, is) together = together_is (Simulated over) after is tt
together_simulated plays (Apart a) text after played together = absurd together

-- a line of the air
pub together_line : (net : Net) (air : AirState) (one : AirLine) (entries : List Entry) (text : List ℕ) (after : AirState) → PlaysAirLine net air one entries text after
    → IsTogether air → IsTogether after
together_line net air line.Tick entries text after is together = together_simulated (PlaysTick net) air text after is.1 together
together_line net air line.Turn entries text after is together = together_turn net (is_marked air) air entries text after is together
together_line net air (line.Back edition) entries text after is together = together_back air edition text after is.1 together
together_line net air line.Ahead entries text after is together = together_is (going air None) after is.1.goes (together_going air None together)
together_line net air line.Flow entries text after is together = together_simulated (PlaysFlow net) air text after is.1 together
together_line net air (line.Lose losing) entries text after is together = together_simulated (λ (a : SimulatedAir). PlaysLoss a losing) air text after is.1 together
together_line net air (line.Deliver number place) entries text after is together = together_simulated (λ (a : SimulatedAir). PlaysDelivery net a number place) air text after is.1 together
together_line net air line.Frame entries text after is together = together_simulated (PlaysFrame net) air text after is.1 together
together_line net air (line.Reset terminal) entries text after is together = together_simulated (λ (a : SimulatedAir). PlaysReset net a terminal) air text after is.1 together
together_line net air (line.StandbyHears number) entries text after is together = together_simulated (λ (a : SimulatedAir). PlaysNotice a number) air text after is.1 together
together_line net air line.StandbyBurst entries text after is together = together_simulated (PlaysBurst net) air text after is.1 together

-- lines of the air one after the other
pub together_lines : (net : Net) (air : AirState) (lines : List AirLine) (entries : List Entry) (text : List ℕ) (after : AirState) → PlaysAirLines net air lines entries text after
    → IsTogether air → IsTogether after
together_lines net air [] entries text after (none, nothing, is) together = together_is air after is together
together_lines net air (first ∷ lines) entries text after (between, own, others, begun, rest, one, more, all, text_is) together =
    together_lines net between lines others rest after more (together_line net air first own begun between one together)

-- a part of a script
pub together_item : (net : Net) (one : Item) (old new : Hand) (text : List ℕ) → ItemPlayed net one old new text → IsTogether old.air → IsTogether new.air
together_item net (item.Round round) old new text played together =
    together_lines net old.air round.air _ played.done.air_text new.air played.done.centre together
together_item net item.Restart old new text played together =
    let told = reverse (orders new.book.state.changes) in
    together_is (restarting old.air played.centre.kept told) new.air played.centre.restarts (together_restarting old.air played.centre.kept told together)
together_item net (item.Heard line) old new text (nothing, is) together =
    together_is (hearing old.air line) new.air (ap (λ (h : Hand). h.air) is) (together_hearing old.air line together)

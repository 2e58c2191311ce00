-- The lines of the centre's turns, of the orders that it wants, and of the replies to them.
use Rattle.std.proofs.Common.{◌≡◌, List, [], ◌∷◌, All, Option, Some, None, IfSome, refl, subst, arith, inl, inr, ℕ, ◌++◌, reverse, sym}
use Rattle.std.proofs.lemmas.List.Elements.{All-head, All-tail}
use Rattle.bt_frame.specs.declared.numbers.EditionNo.{EditionNo}
use Rattle.bt_frame.specs.declared.numbers.Mark.{Mark}
use Rattle.bt_net.specs.Network.{Net, IsSound}
use Rattle.bt_demand.specs.declared.plan.Plan.{Plan}
use Rattle.bt_air.specs.declared.order.Order.{Order}
use Rattle.bt_air.specs.declared.order.Order.TheVariants.{Load, Arm}
use Rattle.bt_site.specs.Event.{Opening, Event, Ordered, Install}
use Rattle.bt_machines.specs.Plans.{IsStored, newest_of}
use Rattle.bt_site.specs.World.{log, orders, plans, wanted}
use Rattle.bt_site.proofs.Banks.{world-planned}
use Rattle.bt_site.proofs.Counted.{world-counted}
use Rattle.bt_site.proofs.Ranges.{Taken, wanted-fits}
use Rattle.bt_words.specs.declared.form.Form.TheVariants as form
use Rattle.bt_history.specs.Machine.{Step}
use Rattle.bt_journal.specs.declared.call.Call.{Call}
use Rattle.bt_journal.specs.declared.call.Call.TheVariants as call
use Rattle.bt_journal.specs.declared.entry.Entry.{Entry}
use Rattle.bt_journal.specs.declared.reply.Reply.{Reply}
use Rattle.bt_journal.specs.declared.reply.Reply.TheVariants as reply
use Rattle.bt_timeline.specs.Air.{IsUnplaced, order_line, unplaced_line}
use Rattle.bt_run_lines.specs.Printers.{numbers}
use Rattle.bt_run_laws.specs.Readable.{AreLines}
use Rattle.bt_run_laws.specs.Small.{IsAnswered, IsSmall, IsSmallReply}
use Rattle.bt_round.specs.declared.worker.CentreOver.TheVariants.{Simulated, Apart}
use Rattle.bt_round.specs.AirLines.{turn_text_by, AirState, PlaysOrder, PlaysTurn, PlaysTurning, TakesTurn, answer_text, installing, newest_in, once_answered, turning, wanted_in}
use Rattle.bt_round.specs.Simulated as simulated
use Rattle.bt_round.specs.Worker.{AnswersOrder}
use Rattle.bt_round.proofs.Unplaced.{change-answers}
use Rattle.bt_centre.specs.World.{IsSpelledWorld}
use Rattle.bt_run_laws.proofs.Paced.{orders_few}
use Rattle.bt_run_laws.proofs.Sent.{small_superframe, small_word}
use Rattle.bt_run_laws.proofs.Replies.{reply_small}
use Rattle.bt_run_laws.proofs.Read.{line_printed, more_lines, no_lines}
use Rattle.bt_run_laws.proofs.Waiting.{IsAirIn, having_few, having_in}
use Rattle.bt_run_laws.proofs.Worlds.{IsSpelled, IsSpelledAir, came, turn_came}
use Rattle.bt_run_laws.proofs.Happens.{Goes, still, mark_small, sound_of, sends_printed}

-- the newest edition of stored plans
newest_stored : (all : List Plan) → All IsStored all → IsSmall (newest_of all).0
newest_stored [] stored = omega arith
newest_stored (plan ∷ earlier) stored = small_word plan.edition.0 (All-head IsStored plan earlier stored).edition

-- the newest edition of a world
pub newest_small : (o : Opening) (events : List Event) → IsSpelledWorld o events → IsSmall (newest_of (plans o (log o events))).0
newest_small o events so = newest_stored (plans o (log o events)) so.stored.plans

-- the line of a turn
pub turn_printed : (net : Net) (mark : Mark) (back : Option EditionNo) (newest : EditionNo) → IsSmall mark.0 → IfSome back (λ edition. IsSmall edition.0) → IsSmall newest.0
    → AreLines net (turn_text_by mark back newest)
turn_printed net mark None newest begun none small =
    line_printed net form.Turn (numbers (mark.0 ∷ newest.0 ∷ [])) refl refl (begun, (small, tt))
turn_printed net mark (Some edition) newest begun held small =
    line_printed net form.BackTurn (numbers (mark.0 ∷ edition.0 ∷ [])) refl refl (begun, (held, tt))

-- the order that a world's centre wants fits its message
pub wanted_taken : (o : Opening) (events : List Event) → IsSound o.net → IsSpelledWorld o events → IfSome (wanted (log o events)) Taken
wanted_taken o events sound so =
    let past = log o events in
    wanted-fits (plans o past) (orders o past) (wanted past) so.stored.plans (world-counted o events sound so.world).next (world-planned o events so.world).next (orders_few o events sound so)

-- the line of an order
pub order_printed : (net : Net) (order : Order) → Taken order → AreLines net (order_line order)
order_printed net (Load command edition) fits =
    line_printed net form.OrderLoad (numbers (command.0 ∷ edition.0 ∷ [])) refl refl (omega (arith, fits.0.1), (small_word edition.0 fits.1, tt))
order_printed net (Arm command edition due) fits =
    line_printed net form.OrderArm (numbers (command.0 ∷ edition.0 ∷ due.0 ∷ [])) refl refl (omega (arith, fits.0.1), (small_word edition.0 fits.1, (small_superframe due.0 fits.2.1, tt)))

-- the line of an order that was not placed
pub unplaced_printed : (net : Net) (answer : Reply) → IsSmallReply answer → IsUnplaced answer → AreLines net (unplaced_line answer)
unplaced_printed net (reply.BookFull bytes) small is = line_printed net form.OrderBookFull (numbers (bytes ∷ [])) refl refl (small, tt)
unplaced_printed net (reply.OutOfTurn last) small is = line_printed net form.OrderOutOfTurn (numbers (last.0 ∷ [])) refl refl (small, tt)
unplaced_printed net (reply.NotInstalled newest) small is = line_printed net form.OrderNotInstalled (numbers (newest.0 ∷ [])) refl refl (small, tt)
unplaced_printed net reply.StoreFault small is = line_printed net form.OrderStoreFault [] refl refl tt
unplaced_printed net reply.Stopped small is = line_printed net form.OrderStopped [] refl refl tt
unplaced_printed net _ small is = absurd is

-- a reply to an order, whose numbers four bytes hold
pub record IsOrderAnswered (answer : Reply) : Type 0 where
  pub answers : AnswersOrder answer
  pub small : IsSmallReply answer

-- what a machine replies to an order
pub order_answered : (net : Net) (entry : Entry) (order : Order) → IsSound net → IsAnswered net entry → entry.call ≡ call.Place order → IsOrderAnswered entry.reply
order_answered net entry order sound so asked =
    let step : Step net so.old (call.Place order) entry.reply so.new = subst (λ (c : Call). Step net so.old c entry.reply so.new) asked so.step in
    record {
      answers = change-answers net so.old so.new order entry.reply step.answered;
      small = reply_small net sound so.old (call.Place order) entry.reply so.new step so.follow so.few tt;
    }

module _ (net : Net) (sound : IsSound net) where
  -- the answer to an order
  placed_goes : (air : AirState) (answer : Reply) → IsOrderAnswered answer → IsSpelledAir (once_answered air answer) → IsAirIn net air
      → Goes net (answer_text net air answer) (once_answered air answer)
  placed_goes (Simulated a) reply.Placed is so of = record { lines = sends_printed net sound a Ordered of so; air = having_few net a Ordered sound of }
  placed_goes (Apart a) reply.Placed is so of = absurd of
  placed_goes air answer is so of = elim is.answers [
    | inl placed ↦ absurd cc
    | inr unplaced ↦ record { lines = unplaced_printed net answer is.small unplaced; air = of }
  ]

  -- the order that a turn wants
  order_goes : (air : AirState) (want : Option Order) (entries : List Entry) (text : List ℕ) (after : AirState) → PlaysOrder net air want entries text after → IfSome want Taken
      → All (IsAnswered net) entries → IsSpelledAir after → IsAirIn net air → Goes net text after
  order_goes air None [] text after (text_is, same) fits answered so of = still net air after text [] text_is same (no_lines net) of
  order_goes air None (entry ∷ entries) text after played fits answered so of = absurd played
  order_goes air (Some order) [] text after played fits answered so of = absurd played
  order_goes air (Some order) (entry ∷ []) text after (asked, text_is, goes) fits answered so of =
      let is = order_answered net entry order sound (All-head (IsAnswered net) entry [] answered) asked in
      let placed = placed_goes air entry.reply is (subst IsSpelledAir goes so) of in
      still net (once_answered air entry.reply) after text (order_line order ++ answer_text net air entry.reply) text_is goes
      (more_lines net (order_line order) (answer_text net air entry.reply) (order_printed net order fits) placed.lines) placed.air
  order_goes air (Some order) (entry ∷ next ∷ entries) text after played fits answered so of = absurd played

  -- the turn, and then the order that it wants
  turning_goes : (air : AirState) (entries : List Entry) (text : List ℕ) (after : AirState) → PlaysTurning net air entries text after
      → All (IsAnswered net) entries → IsSpelledAir after → IsAirIn net air → Goes net text after
  turning_goes (Apart a) entries text after turns answered so of = absurd of
  turning_goes (Simulated a) entries text after turns answered so of =
      let o = a.life.opening in
      let event = turning (Simulated a) in
      let there = simulated.having a event in
      let turned : IsSpelled there = turn_came net (Simulated a) entries text after turns so in
      let before = (came a event turned).before in
      let head = turn_text_by (simulated.mark_of a) a.back (newest_in (Simulated a)) in
      let sends = simulated.sends_text net a event in
      let rest = order_goes (Simulated there) (wanted_in (Simulated there)) entries turns.rest after turns.placed (wanted_taken o (reverse there.life.events) (sound_of net sound a of) turned)
      answered so (having_few net a event sound of) in
      record {
        lines = subst (AreLines net) (sym turns.printed)
            (more_lines net (head ++ sends) turns.rest
            (more_lines net head sends (turn_printed net (simulated.mark_of a) a.back (newest_in (Simulated a)) (mark_small a before) of.back (newest_small o (reverse a.life.events) before))
            (sends_printed net sound a event of turned))
            rest.lines);
        air = rest.air;
      }

  -- a plan joins those of the world, if one does
  installing_few : (air : AirState) (newer : Option Plan) → IsAirIn net air → IsAirIn net (installing air newer)
  installing_few air None of = of
  installing_few air (Some plan) of = having_in net air (Install plan) sound of

  -- a turn that was taken
  taken_goes : (air : AirState) (entries : List Entry) (text : List ℕ) (after : AirState) → TakesTurn net air entries text after
      → All (IsAnswered net) entries → IsSpelledAir after → IsAirIn net air → Goes net text after
  taken_goes air entries text after turns answered so of =
      turning_goes (installing air turns.newer) turns.others text after turns.turned
      (All-tail (IsAnswered net) turns.asked turns.others (subst (All (IsAnswered net)) turns.all answered))
      so (installing_few air turns.newer of)

  -- the line of a turn
  pub turn_goes : (air : AirState) (entries : List Entry) (text : List ℕ) (after : AirState) → PlaysTurn net air entries text after
      → All (IsAnswered net) entries → IsSpelledAir after → IsAirIn net air → Goes net text after
  turn_goes (Apart a) entries text after turns answered so of = absurd of
  turn_goes (Simulated a) entries text after turns answered so of = taken_goes (Simulated a) entries text after turns answered so of

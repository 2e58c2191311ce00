-- The lines of the air for which the book is not asked are printed lines.
use Rattle.std.proofs.Common.{inl, inr, ℕ, ◌+◌, ◌≤◌, not, List, [], ◌∷◌, length, reverse, Some, None, refl, sym, ap, subst, arith}
use Rattle.std.proofs.lemmas.List.Sums.{count_by-le-length, length-filter}
use Rattle.bt_frame.specs.declared.numbers.EditionNo.{EditionNo}
use Rattle.bt_frame.specs.declared.numbers.TermNo.{TermNo}
use Rattle.bt_net.specs.Network.{Net, IsSound}
use Rattle.bt_net.specs.Terminals.{IsTerminal}
use Rattle.bt_air.specs.declared.sent.Aired.{Aired}
use Rattle.bt_air.specs.declared.sent.Aired.TheVariants as sends
use Rattle.bt_air.specs.declared.sent.Place.{Place}
use Rattle.bt_site.specs.Event.{Tick, Deliver, Frame, ResetTerminal}
use Rattle.bt_script.specs.declared.script.Losing.{Losing}
use Rattle.bt_machines.specs.declared.standby.Noticed.{Noticed}
use Rattle.bt_machines.specs.declared.standby.Noticed.TheVariants as notice
use Rattle.bt_machines.specs.Standby.{step_of}
use Rattle.bt_words.specs.declared.form.Form.TheVariants as form
use Rattle.bt_timeline.specs.Air.{ahead_line, back_line, flow_line, frame_lines, got_line, last_tick_line, lost_line, not_installed_line, not_sent_line, noticed_line, over_line, reset_line, standby_burst_line, tick_line, unsent_line}
use Rattle.bt_run_lines.specs.declared.printed.Value.TheVariants as value
use Rattle.bt_run_lines.specs.Printers.{numbers}
use Rattle.bt_run_laws.specs.Readable.{AreLines}
use Rattle.bt_run_laws.specs.Small.{IsSmall}
use Rattle.bt_round.specs.declared.worker.CentreOver.TheVariants.{Simulated}
use Rattle.bt_round.specs.AirLines.{AirState, PlaysAhead, PlaysBack, going}
use Rattle.bt_round.specs.Simulated.{SimulatedAir, PlaysBurst, PlaysDeliveries, PlaysDelivery, PlaysFlow, PlaysFrame, PlaysHearing, PlaysLoss, PlaysNotice, PlaysReset, PlaysTick, ShowsFrame, awaiting, bridging, happened, having, mark_of, notice_text, noticed}
use Rattle.bt_round.specs.Waiting.{left_of, loses, lost_of}
use Rattle.bt_run_laws.proofs.Frames.{frame_printed}
use Rattle.bt_run_laws.proofs.Heard.{delivery_printed}
use Rattle.bt_run_laws.proofs.Read.{line_printed, more_lines, no_lines}
use Rattle.bt_run_laws.proofs.Waiting.{IsAirIn, IsAirOf, awaiting_few, going_few, having_few}
use Rattle.bt_run_laws.proofs.Worlds.{IsSpelled, before_deliveries, came_to}
use Rattle.bt_run_laws.proofs.Happens.{Goes, still, stands, mark_small, sound_of, happens}

module _ (net : Net) (sound : IsSound net) where
  -- the next superframe
  pub tick_goes : (air : SimulatedAir) (text : List ℕ) (after : SimulatedAir) → PlaysTick net air text after → IsSpelled after → IsAirOf net air → Goes net text (Simulated after)
  tick_goes air text after (inl (late, text_is, same)) so of = stands net air after text last_tick_line text_is same (line_printed net form.LastTick [] refl refl tt) of
  tick_goes air text after (inr (early, text_is, had)) so of =
      happens net sound air after Tick text (tick_line (record { 0 = (mark_of air).0 + 1 })) text_is had so
      (line_printed net form.Tick (numbers (((mark_of air).0 + 1) ∷ [])) refl refl (omega (arith, early), tt)) of

  -- a message is heard
  hearing_goes : (air : SimulatedAir) (number : ℕ) (place : Place) (text : List ℕ) (after : SimulatedAir) → PlaysHearing net air number place text after → IsSpelled after → IsAirOf net air → Goes net text (Simulated after)
  hearing_goes air number place text after heard so of =
      let before = came_to air (Deliver number place) after heard.heard so in
      let small : IsSmall number = omega (arith, before.meets.0, before.before.few) in
      happens net sound air after (Deliver number place) text (got_line net number place heard.answer) heard.printed heard.heard so
      (subst (λ (n : Net). AreLines n (got_line n number place heard.answer)) of.network
      (delivery_printed air.life.opening (happened air) number place heard.answer small before.meets.0 before.meets.1 heard.answered)) of

  -- deliveries one after the other
  deliveries_go : (air : SimulatedAir) (heard : List (ℕ × Place)) (text : List ℕ) (after : SimulatedAir) → PlaysDeliveries net air heard text after → IsSpelled after → IsAirOf net air → Goes net text (Simulated after)
  deliveries_go air [] text after (text_is, same) so of = stands net air after text [] text_is same (no_lines net) of
  deliveries_go air (next ∷ later) text after (between, own, others, now, more, text_is) so of =
      let fewer : length now.others ≤ length air.waiting = omega (arith, ap length now.first) in
      let first = hearing_goes (awaiting air now.others) next.0 next.1 own between now.hearing (before_deliveries net between later others after more so) (awaiting_few net air now.others fewer of) in
      let rest = deliveries_go between later others after more so first.air in
      record { lines = subst (AreLines net) (sym text_is) (more_lines net own others first.lines rest.lines); air = rest.air }

  -- all that waits
  pub flow_goes : (air : SimulatedAir) (text : List ℕ) (after : SimulatedAir) → PlaysFlow net air text after → IsSpelled after → IsAirOf net air → Goes net text (Simulated after)
  flow_goes air text after flow so of =
      let rest = deliveries_go air flow.heard flow.lines after flow.flowed so of in
      record {
        lines = subst (AreLines net) (sym flow.printed) (more_lines net flow_line flow.lines (line_printed net form.Flow [] refl refl tt) rest.lines);
        air = rest.air;
      }

  -- a loss
  pub loss_goes : (air : SimulatedAir) (losing : Losing) (text : List ℕ) (after : SimulatedAir) → PlaysLoss air losing text after → IsSpelled after → IsAirOf net air → Goes net text (Simulated after)
  loss_goes air losing text after loss so of =
      let lost = λ (delivery : ℕ × Place). loses losing delivery.1 in
      let kept = λ (delivery : ℕ × Place). not (loses losing delivery.1) in
      let some : length (lost_of losing air.waiting) ≤ length air.waiting = omega (arith, length-filter lost air.waiting, count_by-le-length lost air.waiting) in
      let fewer : length (left_of losing air.waiting) ≤ length air.waiting = omega (arith, length-filter kept air.waiting, count_by-le-length kept air.waiting) in
      let world : IsSpelled air = subst IsSpelled loss.left so in
      stands net (awaiting air (left_of losing air.waiting)) after text (lost_line (length (lost_of losing air.waiting))) loss.printed loss.left
      (line_printed net form.Lost (numbers (length (lost_of losing air.waiting) ∷ [])) refl refl (omega (arith, some, of.few, world.few), tt))
      (awaiting_few net air (left_of losing air.waiting) fewer of)

  -- a message out of turn, or none of that number
  pub delivery_goes : (air : SimulatedAir) (number : ℕ) (place : Place) (text : List ℕ) (after : SimulatedAir) → PlaysDelivery net air number place text after → IsSmall number → IsSpelled after → IsAirOf net air
      → Goes net text (Simulated after)
  delivery_goes air number place text after (inl (past, text_is, same)) small so of =
      stands net air after text (not_sent_line number) text_is same (line_printed net form.NotSent (numbers (number ∷ [])) refl refl (small, tt)) of
  delivery_goes air number place text after (inr (there, hearing)) small so of = hearing_goes air number place text after hearing so of

  -- a frame
  shown_goes : (air : SimulatedAir) (text : List ℕ) (after : SimulatedAir) → ShowsFrame net air text after → IsSpelled after → IsAirOf net air → Goes net text (Simulated after)
  shown_goes air text after shows so of =
      let before = came_to air Frame after shows.over so in
      stands net (having air Frame) after text (frame_lines net shows.frame) shows.printed shows.over
      (subst (λ (n : Net). AreLines n (frame_lines n shows.frame)) of.network
      (frame_printed air.life.opening (reverse air.life.events) shows.frame (sound_of net sound air of) before.before shows.shown before.meets))
      (having_few net air Frame sound of)

  -- the next frame, or none is left
  pub frame_goes : (air : SimulatedAir) (text : List ℕ) (after : SimulatedAir) → PlaysFrame net air text after → IsSpelled after → IsAirOf net air → Goes net text (Simulated after)
  frame_goes air text after (inl (over, text_is, same)) so of =
      stands net air after text (over_line (mark_of air)) text_is same
      (line_printed net form.Over (numbers ((mark_of air).0 ∷ [])) refl refl (mark_small air (subst IsSpelled same so), tt)) of
  frame_goes air text after (inr (left, shows)) so of = shown_goes air text after shows so of

  -- a terminal restarts
  pub reset_goes : (air : SimulatedAir) (terminal : TermNo) (text : List ℕ) (after : SimulatedAir) → PlaysReset net air terminal text after → IsSpelled after → IsAirOf net air → Goes net text (Simulated after)
  reset_goes air terminal text after resets so of =
      let before = came_to air (ResetTerminal terminal) after resets.reset so in
      happens net sound air after (ResetTerminal terminal) text (reset_line net terminal) resets.printed resets.reset so
      (line_printed net form.Reset (value.Terminal terminal ∷ []) refl refl (subst (λ (n : Net). IsTerminal n terminal) of.network before.meets, tt)) of

  -- the centre goes back to an edition, or ahead
  pub back_goes : (air : AirState) (edition : EditionNo) (text : List ℕ) (after : AirState) → PlaysBack air edition text after → IsSmall edition.0 → IsAirIn net air → Goes net text after
  back_goes air edition text after (inl (none, text_is, same)) small of =
      still net air after text (not_installed_line edition) text_is same (line_printed net form.NotInstalled (numbers (edition.0 ∷ [])) refl refl (small, tt)) of
  back_goes air edition text after (inr (some, text_is, goes)) small of =
      still net (going air (Some edition)) after text (back_line edition) text_is goes (line_printed net form.Back (numbers (edition.0 ∷ [])) refl refl (small, tt))
      (going_few net air (Some edition) small of)

  pub ahead_goes : (air : AirState) (text : List ℕ) (after : AirState) → PlaysAhead air text after → IsAirIn net air → Goes net text after
  ahead_goes air text after ahead of =
      still net (going air None) after text ahead_line ahead.printed ahead.goes (line_printed net form.Ahead [] refl refl tt) (going_few net air None tt of)

  -- what the standby does with a message
  noted_printed : (number : ℕ) (answer : Noticed) → IsSmall number → AreLines net (noticed_line number answer)
  noted_printed number notice.Noted small = line_printed net form.StandbyNoted (numbers (number ∷ [])) refl refl (small, tt)
  noted_printed number notice.WrongMark small = line_printed net form.StandbyWrongMark (numbers (number ∷ [])) refl refl (small, tt)

  notice_printed : (air : SimulatedAir) (number : ℕ) (one : Aired) → IsSmall number → AreLines net (notice_text air number one)
  notice_printed air number (sends.Status status) small = noted_printed number (step_of air.standby (mark_of air) status).0 small
  notice_printed air number _ small = line_printed net form.StandbyNotForMe (numbers (number ∷ [])) refl refl (small, tt)

  noticed_few : (air : SimulatedAir) (one : Aired) → IsAirOf net air → IsAirOf net (noticed air one)
  noticed_few air (sends.Status status) of = record { network = of.network; few = of.few; back = of.back }
  noticed_few air _ of = of

  -- the standby hears a message, or none of that number
  pub notice_goes : (air : SimulatedAir) (number : ℕ) (text : List ℕ) (after : SimulatedAir) → PlaysNotice air number text after → IsSmall number → IsAirOf net air → Goes net text (Simulated after)
  notice_goes air number text after (inl (past, text_is, same)) small of =
      stands net air after text (unsent_line number) text_is same (line_printed net form.StandbyNotSent (numbers (number ∷ [])) refl refl (small, tt)) of
  notice_goes air number text after (inr (there, notices)) small of =
      stands net (noticed air notices.one) after text (notice_text air number notices.one) notices.printed notices.kept (notice_printed air number notices.one small) (noticed_few air notices.one of)

  -- the standby sends its reference burst
  pub burst_goes : (air : SimulatedAir) (text : List ℕ) (after : SimulatedAir) → PlaysBurst net air text after → IsSpelled after → IsAirOf net air → Goes net text (Simulated after)
  burst_goes air text after bursts so of =
      happens net sound air after (bridging air) text standby_burst_line bursts.printed bursts.sent so (line_printed net form.StandbyBurst [] refl refl tt) of

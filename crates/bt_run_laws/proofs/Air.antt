-- The lines of the air in a run are printed lines.
use Rattle.std.proofs.Common.{ℕ, List, [], ◌∷◌, All, sym, subst}
use Rattle.std.proofs.lemmas.List.Elements.{All-head, All-tail}
use Rattle.bt_frame.proofs.Pairs.{All-first, All-second}
use Rattle.bt_net.specs.Network.{Net, IsSound}
use Rattle.bt_journal.specs.declared.entry.Entry.{Entry}
use Rattle.bt_script.specs.declared.script.AirLine.{AirLine}
use Rattle.bt_script.specs.declared.script.AirLine.TheVariants as air_line
use Rattle.bt_run_laws.specs.Readable.{AreLines}
use Rattle.bt_run_laws.specs.Small.{IsAnswered, IsSmallAirLine}
use Rattle.bt_round.specs.declared.worker.CentreOver.TheVariants.{Simulated, Apart}
use Rattle.bt_round.specs.AirLines.{AirState, PlaysAirLine, PlaysAirLines, PlaysSimulated}
use Rattle.bt_round.specs.Simulated.{SimulatedAir, PlaysBurst, PlaysDelivery, PlaysFlow, PlaysFrame, PlaysLoss, PlaysNotice, PlaysReset, PlaysTick}
use Rattle.bt_run_laws.proofs.Read.{more_lines, no_lines}
use Rattle.bt_run_laws.proofs.Turns.{turn_goes}
use Rattle.bt_run_laws.proofs.Waiting.{IsAirIn, IsAirOf}
use Rattle.bt_run_laws.proofs.Worlds.{IsSpelled, IsSpelledAir, world_before}
use Rattle.bt_run_laws.proofs.Happens.{Goes, still}
use Rattle.bt_run_laws.proofs.Played.{tick_goes, flow_goes, loss_goes, delivery_goes, frame_goes, reset_goes, back_goes, ahead_goes, notice_goes, burst_goes}

module _ (net : Net) (sound : IsSound net) where
  -- a line that only a simulated air has
  simulated_goes : (plays : SimulatedAir → List ℕ → SimulatedAir → Type 0)
      → ((a : SimulatedAir) (text : List ℕ) (over : SimulatedAir) → plays a text over → IsSpelled over → IsAirOf net a → Goes net text (Simulated over))
      → (air : AirState) (text : List ℕ) (after : AirState) → PlaysSimulated plays air text after → IsSpelledAir after → IsAirIn net air → Goes net text after
  simulated_goes plays each (Simulated a) text after (over, one, is) so of = subst (Goes net text) (sym is) (each a text over one (subst IsSpelledAir is so) of)
  simulated_goes plays each (Apart a) text after played so of = absurd of

  -- one line
  line_goes : (air : AirState) (one : AirLine) (entries : List Entry) (text : List ℕ) (after : AirState) → PlaysAirLine net air one entries text after → IsSmallAirLine one
      → All (IsAnswered net) entries → IsSpelledAir after → IsAirIn net air → Goes net text after
  line_goes air air_line.Tick entries text after (none, played) named answered so of = simulated_goes (PlaysTick net) (tick_goes net sound) air text after played so of
  line_goes air air_line.Turn entries text after played named answered so of = turn_goes net sound air entries text after played answered so of
  line_goes air (air_line.Back edition) entries text after (none, played) named answered so of = back_goes net sound air edition text after played named of
  line_goes air air_line.Ahead entries text after (none, played) named answered so of = ahead_goes net sound air text after played of
  line_goes air air_line.Flow entries text after (none, played) named answered so of = simulated_goes (PlaysFlow net) (flow_goes net sound) air text after played so of
  line_goes air (air_line.Lose losing) entries text after (none, played) named answered so of =
      simulated_goes (λ (a : SimulatedAir). PlaysLoss a losing) (λ (a : SimulatedAir). loss_goes net sound a losing) air text after played so of
  line_goes air (air_line.Deliver number place) entries text after (none, played) named answered so of =
      simulated_goes (λ (a : SimulatedAir). PlaysDelivery net a number place)
      (λ (a : SimulatedAir) (text : List ℕ) (over : SimulatedAir) (one : PlaysDelivery net a number place text over). delivery_goes net sound a number place text over one named) air text after played so of
  line_goes air air_line.Frame entries text after (none, played) named answered so of = simulated_goes (PlaysFrame net) (frame_goes net sound) air text after played so of
  line_goes air (air_line.Reset terminal) entries text after (none, played) named answered so of =
      simulated_goes (λ (a : SimulatedAir). PlaysReset net a terminal) (λ (a : SimulatedAir). reset_goes net sound a terminal) air text after played so of
  line_goes air (air_line.StandbyHears number) entries text after (none, played) named answered so of =
      simulated_goes (λ (a : SimulatedAir). PlaysNotice a number)
      (λ (a : SimulatedAir) (text : List ℕ) (over : SimulatedAir) (one : PlaysNotice a number text over) (so : IsSpelled over). notice_goes net sound a number text over one named) air text after played so of
  line_goes air air_line.StandbyBurst entries text after (none, played) named answered so of = simulated_goes (PlaysBurst net) (burst_goes net sound) air text after played so of

  -- lines one after the other
  pub air_lines : (air : AirState) (lines : List AirLine) (entries : List Entry) (text : List ℕ) (after : AirState) → PlaysAirLines net air lines entries text after
      → All IsSmallAirLine lines → All (IsAnswered net) entries → IsSpelledAir after → IsAirIn net air → Goes net text after
  air_lines air [] entries text after (none, text_is, same) named answered so of = still net air after text [] text_is same (no_lines net) of
  air_lines air (one ∷ lines) entries text after (between, own, others, begun, rest, now, more, all, text_is) named answered so of =
      let each = subst (All (IsAnswered net)) all answered in
      let first = line_goes air one own begun between now (All-head IsSmallAirLine one lines named) (All-first (IsAnswered net) own others each)
      (world_before net between lines others rest after more so) of in
      let later = air_lines between lines others rest after more (All-tail IsSmallAirLine one lines named) (All-second (IsAnswered net) own others each) so first.air in
      record { lines = subst (AreLines net) (sym text_is) (more_lines net begun rest first.lines later.lines); air = later.air }

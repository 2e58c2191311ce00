-- Where an event happens, its own line is printed, and then those of the messages that it sends.
use Rattle.std.proofs.Common.{◌≡◌, ℕ, List, ◌++◌, reverse, All, sym, subst, arith}
use Rattle.bt_frame.proofs.Pairs.{All-second}
use Rattle.bt_net.specs.Network.{Net, IsSound}
use Rattle.bt_site.specs.Event.{Event}
use Rattle.bt_site.proofs.Ranges.{Fits, world-fits}
use Rattle.bt_run_laws.specs.Readable.{AreLines}
use Rattle.bt_run_laws.specs.Small.{IsSmall}
use Rattle.bt_round.specs.declared.worker.CentreOver.TheVariants.{Simulated}
use Rattle.bt_round.specs.AirLines.{AirState}
use Rattle.bt_round.specs.Simulated.{SimulatedAir, having, mark_of, sends_text, sent_by, sent_count, sent_in}
use Rattle.bt_round.specs.Worker.{NamesOwn}
use Rattle.bt_round.proofs.Marks.{mark-small}
use Rattle.bt_round.proofs.Running.{count-having, sent-having}
use Rattle.bt_round.proofs.Sending.{all-name}
use Rattle.bt_run_laws.proofs.Read.{more_lines}
use Rattle.bt_run_laws.proofs.Sent.{sent_printed, small_superframe}
use Rattle.bt_run_laws.proofs.Waiting.{IsAirIn, IsAirOf, having_few}
use Rattle.bt_run_laws.proofs.Worlds.{IsSpelled}

-- what was printed is lines, and what holds of the air still does
pub record Goes (net : Net) (text : List ℕ) (after : AirState) : Type 0 where
  pub lines : AreLines net text
  pub air : IsAirIn net after

-- lines were printed, and no event happened
pub still : (net : Net) (air after : AirState) (text own : List ℕ) → text ≡ own → after ≡ air → AreLines net own → IsAirIn net air → Goes net text after
still net air after text own text_is same lines of = record { lines = subst (AreLines net) (sym text_is) lines; air = subst (IsAirIn net) (sym same) of }

-- the same on a simulated air
pub stands : (net : Net) (air after : SimulatedAir) (text own : List ℕ) → text ≡ own → after ≡ air → AreLines net own → IsAirOf net air → Goes net text (Simulated after)
stands net air after text own text_is same lines of = record { lines = subst (AreLines net) (sym text_is) lines; air = subst (IsAirOf net) (sym same) of }

-- four bytes hold the number of the superframe
pub mark_small : (air : SimulatedAir) → IsSpelled air → IsSmall (mark_of air).0
mark_small air so = small_superframe (mark_of air).0 (mark-small air.life.opening (reverse air.life.events) so.world)

module _ (net : Net) (sound : IsSound net) where
  -- the network of the air is sound
  pub sound_of : (air : SimulatedAir) → IsAirOf net air → IsSound air.life.opening.net
  sound_of air of = subst IsSound (sym of.network) sound

  -- the lines of the messages that an event sends
  pub sends_printed : (air : SimulatedAir) (event : Event) → IsAirOf net air → IsSpelled (having air event) → AreLines net (sends_text net air event)
  sends_printed air event of so =
      let o = air.life.opening in
      let events = reverse (having air event).life.events in
      let fit = All-second Fits (sent_in air) (sent_by air event) (subst (All Fits) (sent-having air event) (world-fits o events (sound_of air of) so.world so.stored).each) in
      let own = All-second (NamesOwn o.net) (sent_in air) (sent_by air event) (subst (All (NamesOwn o.net)) (sent-having air event) (all-name o events so.world)) in
      sent_printed net (sent_count air) (sent_by air event) (omega (arith, count-having air event, so.few)) fit (subst (λ (n : Net). All (NamesOwn n) (sent_by air event)) of.network own)

  -- an event happened: its own line, and those of what it sent
  pub happens : (air after : SimulatedAir) (event : Event) (text own : List ℕ) → text ≡ own ++ sends_text net air event → after ≡ having air event → IsSpelled after
      → AreLines net own → IsAirOf net air → Goes net text (Simulated after)
  happens air after event text own text_is had so lines of = record {
    lines = subst (AreLines net) (sym text_is) (more_lines net own (sends_text net air event) lines (sends_printed air event of (subst IsSpelled had so)));
    air = subst (IsAirOf net) (sym had) (having_few net air event sound of);
  }

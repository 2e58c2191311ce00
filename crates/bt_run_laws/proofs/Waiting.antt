-- How many deliveries wait, along lines of the air: at most one for each terminal and each message that was sent.
use Rattle.std.proofs.Common.{◌≡◌, ℕ, suc, ◌+◌, ◌*◌, ◌≤◌, Bool, List, [], ◌∷◌, length, Option, None, IfSome, refl, ap, arith}
use Rattle.std.proofs.lemmas.List.{length-append, length-map}
use Rattle.std.proofs.lemmas.List.FromFn.{length-map-range_with_len}
use Rattle.bt_frame.specs.declared.limits.TheConstants.{MOST_TERMINALS}
use Rattle.bt_frame.specs.declared.numbers.EditionNo.{EditionNo}
use Rattle.bt_frame.specs.declared.numbers.TermNo.{TermNo}
use Rattle.bt_net.specs.Network.{Net, IsSound}
use Rattle.bt_air.specs.declared.order.Order.{Order}
use Rattle.bt_air.specs.declared.sent.Aired.{Aired}
use Rattle.bt_air.specs.declared.sent.Place.{Place}
use Rattle.bt_air.specs.declared.sent.Place.TheVariants.{Terminal}
use Rattle.bt_air.specs.declared.sent.Sent.{Sent}
use Rattle.bt_air.specs.declared.sent.Sent.TheVariants as sends
use Rattle.bt_air.specs.Sent.{sent_as}
use Rattle.bt_site.specs.Event.{Event, RestartCentre}
use Rattle.bt_site.specs.World.{terminals}
use Rattle.bt_journal.specs.declared.call.Change.{Change}
use Rattle.bt_script.specs.declared.sites.Sites.TheVariants.{Together}
use Rattle.bt_script.specs.declared.heard.BusLine.{BusLine}
use Rattle.bt_round.specs.declared.worker.CentreOver.TheVariants.{Simulated, Apart}
use Rattle.bt_round.specs.AirLines.{AirState, going, having, hearing, restarting}
use Rattle.bt_round.specs.Simulated as simulated
use Rattle.bt_round.specs.Simulated.{SimulatedAir, awaiting, sent_by, sent_count}
use Rattle.bt_round.specs.Waiting.{deliveries, deliveries_of, receivers}
use Rattle.bt_round.proofs.Running.{count-having}
use Rattle.bt_centre.specs.Run.{at_start}
use Rattle.bt_run_laws.specs.Small.{IsSmall}

-- what holds of a simulated air along its lines: it is that of the network, few deliveries wait, and four bytes hold the edition to which the
-- centre goes back
pub record IsAirOf (net : Net) (air : SimulatedAir) : Type 0 where
  pub network : air.life.opening.net ≡ net
  pub few : length air.waiting ≤ MOST_TERMINALS * sent_count air
  pub back : IfSome air.back (λ edition. IsSmall edition.0)

-- the air of a run is a simulated one, of which that holds
abbrev pub IsAirIn : Net → AirState → Type 0
IsAirIn net (Simulated a) = IsAirOf net a
IsAirIn net (Apart a) = ⊥

-- a message is for one place, or for each terminal
receivers_few : (everyone : List TermNo) (one : Sent) → length everyone ≤ 64 → length (receivers everyone one) ≤ 64
receivers_few everyone (sends.Reference superframe in_force) few = omega (arith, few, length-map everyone (λ (terminal : TermNo). Terminal terminal))
receivers_few everyone _ few = omega arith

deliveries_few : (everyone : List TermNo) (first : ℕ) (all : List Aired) → length everyone ≤ 64 → length (deliveries everyone first all) ≤ 64 * length all
deliveries_few everyone first [] few = omega arith
deliveries_few everyone first (one ∷ more) few =
    let own = receivers everyone (sent_as one) in
    let rest : length (deliveries everyone (first + 1) more) ≤ 64 * length more = deliveries_few everyone (first + 1) more few in
    let all : length (deliveries everyone first (one ∷ more)) ≡ length (deliveries_of first own) + length (deliveries everyone (first + 1) more) =
    length-append (deliveries_of first own) (deliveries everyone (first + 1) more) in
    let many : 64 * suc (length more) ≡ 64 + 64 * length more = omega arith in
    let goal : length (deliveries everyone first (one ∷ more)) ≤ 64 * suc (length more) =
    omega (arith, all, many, rest, length-map {B = ℕ × Place} own (λ (place : Place). (first, place)), receivers_few everyone (sent_as one) few) in
    goal

-- an event happened, and what it sent waits
pub having_few : (net : Net) (air : SimulatedAir) (event : Event) → IsSound net → IsAirOf net air → IsAirOf net (simulated.having air event)
having_few net air event sound of =
    let o = air.life.opening in
    let terminals_few : length (terminals o) ≤ 64 =
    omega (arith, length-map-range_with_len {X = TermNo} (λ (n : ℕ). record { 0 = n }) 0 (length o.net.terminals), ap (λ (n : Net). length n.terminals) of.network, sound.terminals.count.1) in
    let more = deliveries (terminals o) (sent_count air) (sent_by air event) in
    record {
      network = of.network;
      few = omega (arith, of.few, length-append air.waiting more, deliveries_few (terminals o) (sent_count air) (sent_by air event) terminals_few, count-having air event);
      back = of.back;
    }

pub having_in : (net : Net) (air : AirState) (event : Event) → IsSound net → IsAirIn net air → IsAirIn net (having air event)
having_in net (Simulated a) event sound of = having_few net a event sound of
having_in net (Apart a) event sound of = absurd of

-- fewer wait
pub awaiting_few : (net : Net) (air : SimulatedAir) (waiting : List (ℕ × Place)) → length waiting ≤ length air.waiting → IsAirOf net air → IsAirOf net (awaiting air waiting)
awaiting_few net air waiting fewer of = record { network = of.network; few = omega (arith, fewer, of.few); back = of.back }

-- the centre goes back to an edition, or ahead
pub going_few : (net : Net) (air : AirState) (back : Option EditionNo) → IfSome back (λ edition. IsSmall edition.0) → IsAirIn net air → IsAirIn net (going air back)
going_few net (Simulated a) back small of = record { network = of.network; few = of.few; back = small }
going_few net (Apart a) back small of = absurd of

-- nothing waits at the start of a run
pub few_at_start : (net : Net) (opening : List Change) → IsAirIn net (at_start net Together opening).air
few_at_start net opening = record { network = refl; few = omega arith; back = tt }

-- nothing comes to wait at a restart
pub few_restarting : (net : Net) (air : AirState) (kept : Bool) (told : List Order) → IsSound net → IsAirIn net air → IsAirIn net (restarting air kept told)
few_restarting net (Simulated a) kept told sound of = going_few net (having (Simulated a) (RestartCentre kept)) None tt (having_in net (Simulated a) (RestartCentre kept) sound of)
few_restarting net (Apart a) kept told sound of = absurd of

-- nor where a line of the bus is heard
pub few_hearing : (net : Net) (air : AirState) (heard : BusLine) → IsAirIn net air → IsAirIn net (hearing air heard)
few_hearing net (Simulated a) heard of = of
few_hearing net (Apart a) heard of = absurd of

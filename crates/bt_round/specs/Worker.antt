-- What holds of the centre's worker between its lines, and what each step of a line adds. All but `Asks` is for bodies alone.
use Rattle.std.specs.Prelude.{◌≡◌, ◌⊎◌, ℕ, ◌<◌, ◌++◌, true, List, [], length, map, reverse, drop, take, All, IfSome, IsSome}
use Rattle.std.specs.List.{range_with_len}
use Rattle.bt_frame.specs.declared.numbers.EditionNo.{EditionNo}
use Rattle.bt_frame.specs.declared.numbers.TermNo.{TermNo}
use Rattle.bt_net.specs.Network.{Net}
use Rattle.bt_air.specs.declared.order.Status.{Status}
use Rattle.bt_air.specs.declared.sent.Aired.{Aired}
use Rattle.bt_air.specs.Sent.{sent_as}
use Rattle.bt_air.specs.declared.sent.Place.{Place}
use Rattle.bt_air.specs.declared.sent.Place.TheVariants.{Centre}
use Rattle.bt_site.specs.Fits.{IsPlace, IsWorld}
use Rattle.bt_world.specs.Life.{Life, past_of}
use Rattle.bt_site.specs.World.{is_told, plans, sent}
use Rattle.bt_machines.specs.Plans.{plan_of}
use Rattle.bt_journal.specs.declared.entry.Entry.{Entry}
use Rattle.bt_journal.specs.declared.reply.Reply.{Reply}
use Rattle.bt_journal.specs.declared.reply.Reply.TheVariants.{Placed}
use Rattle.bt_script.specs.declared.script.AirLine.{AirLine}
use Rattle.bt_script.specs.declared.script.AirLine.TheVariants as line
use Rattle.bt_timeline.specs.Air.{IsUnplaced, NamesTerminal}
use Rattle.bt_round.specs.AirLines.{AirState}
use Rattle.bt_round.specs.Simulated.{SimulatedAir, PlaysBurst, PlaysDeliveries, PlaysDelivery, PlaysFlow, PlaysFrame, PlaysLoss, PlaysNext, PlaysNotice, PlaysReset, PlaysTick}

-- the terminals of a network that has so many
abbrev pub numbered : ℕ → List TermNo
numbered count = map (λ (n : ℕ). record { 0 = n }) (range_with_len 0 count)

-- a message of that number was sent, and the place is one of the network's
pub record CanHear (life : Life) (delivery : ℕ × Place) : Type 0 where
  pub sent : delivery.0 < length (sent life.opening (past_of life))
  pub place : IsPlace life.opening delivery.1

-- the world has a plan of this edition
abbrev pub IsPlanned : Life → EditionNo → Type 0
IsPlanned life edition = IsSome (plan_of (plans life.opening (past_of life)) edition)

-- a status of its superframe was sent that has its edition in front
abbrev pub IsHeard : Life → Status → Type 0
IsHeard life status = is_told (sent life.opening (past_of life)) status.mark.0 status.fore ≡ true

-- the events are those of a world, each delivery that waits can come, an edition to which the centre goes back has a plan, and the
-- standby keeps a status that was sent
pub record IsRunning (air : SimulatedAir) : Type 0 where
  pub world : IsWorld air.life.opening (reverse air.life.events)
  pub waiting : All (CanHear air.life) air.waiting
  pub back : IfSome air.back (IsPlanned air.life)
  pub standby : IfSome air.standby (IsHeard air.life)

-- each terminal that a message names is one of the network's
abbrev pub NamesOwn : Net → Aired → Type 0
NamesOwn net one = NamesTerminal net (sent_as one)

-- the longer list begins with the other
pub record Begins (first whole : List (ℕ × Place)) : Type 0 where
  pub more : List (ℕ × Place)
  pub split : whole ≡ first ++ more

-- a line was played, on an air of either kind: its text stands behind the one before
pub record Plays {A : Type 0} (line : List ℕ → A → Type 0) (air : A) (before after : List ℕ) : Type 0 where
  pub own : List ℕ
  pub played : line own air
  pub added : after ≡ before ++ own

-- the line is one that only a simulated air has
abbrev pub IsOfSimulated : AirLine → Type 0
IsOfSimulated line.Turn = ⊥
IsOfSimulated (line.Back edition) = ⊥
IsOfSimulated line.Ahead = ⊥
IsOfSimulated _ = Unit {0}

-- such a line was played on it
abbrev pub PlaysOwnLine : Net → AirLine → SimulatedAir → List ℕ → SimulatedAir → Type 0
PlaysOwnLine net line.Tick a text after = PlaysTick net a text after
PlaysOwnLine net line.Flow a text after = PlaysFlow net a text after
PlaysOwnLine net (line.Lose losing) a text after = PlaysLoss a losing text after
PlaysOwnLine net (line.Deliver number place) a text after = PlaysDelivery net a number place text after
PlaysOwnLine net line.Frame a text after = PlaysFrame net a text after
PlaysOwnLine net (line.Reset terminal) a text after = PlaysReset net a terminal text after
PlaysOwnLine net (line.StandbyHears number) a text after = PlaysNotice a number text after
PlaysOwnLine net line.StandbyBurst a text after = PlaysBurst net a text after
PlaysOwnLine net _ a text after = ⊥

-- the delivery is to the centre
abbrev pub IsForCentre : ℕ × Place → Type 0
IsForCentre delivery = delivery.1 ≡ Centre

-- the delivery that waits first comes
pub record PlaysFirst (net : Net) (before : SimulatedAir) (text : List ℕ) (after : SimulatedAir) : Type 0 where
  pub next : ℕ × Place
  pub came : PlaysNext net before next text after

-- So many deliveries came, those that waited first. What they sent waits behind the others and is for the centre; and
-- where all of them were for the centre, they sent nothing.
pub record ComeFirst (net : Net) (count : ℕ) (before : SimulatedAir) (text : List ℕ) (after : SimulatedAir) : Type 0 where
  pub heard : List (ℕ × Place)
  pub came : PlaysDeliveries net before heard text after
  pub joined : List (ℕ × Place)
  pub left : after.waiting ≡ drop count before.waiting ++ joined
  pub replies : All IsForCentre joined
  pub silent : All IsForCentre (take count before.waiting) → joined ≡ []

-- a reply to an order: it is placed, or something keeps it from being placed
abbrev pub AnswersOrder : Reply → Type 0
AnswersOrder reply = (reply ≡ Placed) ⊎ IsUnplaced reply

-- a line that asks the book was played: its entries, all of the centre's worker, stand behind the history, and its text
-- behind the one before
pub record Asks (line : List Entry → List ℕ → AirState → Type 0) (air : AirState) (history after : List Entry) (before text : List ℕ) : Type 0 where
  pub entries : List Entry
  pub own : List ℕ
  pub played : line entries own air
  pub callers : All (λ (entry : Entry). entry.caller ≡ 0) entries
  pub kept : after ≡ history ++ entries
  pub added : text ≡ before ++ own

-- What a turn of the centre's worker knows of the plans that are installed.
use Rattle.std.specs.Prelude.{◌≡◌, ◌≤◌, ℕ, ◌++◌, Bool, true, false, List, [], ◌∷◌, Option}
use Rattle.bt_net.specs.Network.{Net}
use Rattle.bt_demand.specs.declared.plan.Plan.{Plan}
use Rattle.bt_journal.specs.declared.call.Change.{Change}
use Rattle.bt_journal.specs.declared.entry.Entry.{Entry}
use Rattle.bt_journal.specs.Journal.{calls_of, changes_of}
use Rattle.bt_history.specs.Changes.{newest}
use Rattle.bt_script.specs.declared.script.AirLine.{AirLine}
use Rattle.bt_script.specs.declared.script.AirLine.TheVariants as line
use Rattle.bt_script.specs.declared.script.Item.{Item}
use Rattle.bt_script.specs.declared.script.Item.TheVariants as item
use Rattle.bt_round.specs.AirLines.{AirState, PlaysAirLine, PlaysAirLines, PlaysTurnIf, back_of, installing, is_marked, newest_in, target_by, target_of}
use Rattle.bt_centre.specs.Run.{PlaysItem, Stand, changes_at}

-- the newest edition of which the world has a plan is that of the newest plan after these changes
abbrev pub IsNewestOf : List Change → AirState → Type 0
IsNewestOf changes air = newest_in air ≡ (newest changes).edition

-- In a round that began with these changes and has these entries, in the order of the book, the centre's worker asked for a newer plan
-- behind those of its entries that stand before. The world then has the plan that it was given, its newest edition is that of the newest
-- plan that was installed by then, and this is the edition that the turn brings to the front, but where the centre goes back to one.
pub record KnowsNewest (begun : List Change) (entries before : List Entry) (air : AirState) (asked : Entry) (newer : Option Plan) : Type 0 where
  pub earlier : List Entry
  pub later : List Entry
  pub order : entries ≡ earlier ++ asked ∷ later
  pub own : calls_of earlier 0 ≡ before
  pub knows : IsNewestOf (begun ++ changes_of earlier) (installing air newer)
  pub target : target_of (installing air newer) ≡ target_by (back_of air) (newest (begun ++ changes_of earlier)).edition

-- the same where the centre has its turn; where it has none, it asks nothing
abbrev pub TurnKnows : (begun : List Change) → (entries : List Entry) → (before : List Entry) → (marked : Bool) → (net : Net) → (air : AirState) → (own : List Entry) → (text : List ℕ) → (after : AirState)
    → PlaysTurnIf marked net air own text after → Type 0
TurnKnows begun entries before true net air own text after played = KnowsNewest begun entries before air played.asked played.newer
TurnKnows begun entries before false net air own text after played = Unit {0}

-- the same where a line of the air is a turn
abbrev pub LineKnows : (begun : List Change) → (entries : List Entry) → (before : List Entry) → (net : Net) → (air : AirState) → (one : AirLine) → (own : List Entry) → (text : List ℕ) → (after : AirState)
    → PlaysAirLine net air one own text after → Type 0
LineKnows begun entries before net air line.Turn own text after played = TurnKnows begun entries before (is_marked air) net air own text after played
LineKnows begun entries before net air _ own text after played = Unit {0}

-- for each of these lines, one after the other
abbrev pub LinesKnow : (begun : List Change) → (entries : List Entry) → (before : List Entry) → (net : Net) → (air : AirState) → (lines : List AirLine) → (own : List Entry) → (text : List ℕ) → (after : AirState)
    → PlaysAirLines net air lines own text after → Type 0
LinesKnow begun entries before net air [] own text after played = Unit {0}
LinesKnow begun entries before net air (first ∷ lines) own text after played =
    LineKnows begun entries before net air first played.1 played.3 played.0 played.5
    × LinesKnow begun entries (before ++ played.1) net played.0 lines played.2 played.4 after played.6

-- for each line of the air in a part of a script; a restart has none, and a line of the bus is none
abbrev pub TurnsKnow : (net : Net) → (tells : Bool) → (before : Stand) → (one : Item) → (text : List ℕ) → (after : Stand) → PlaysItem net tells before one text after → Type 0
TurnsKnow net tells before (item.Round round) text after played =
    LinesKnow (changes_at before) played.entries [] net before.air round.air (calls_of played.entries 0) played.air_text after.air played.centre
TurnsKnow net tells before item.Restart text after played = Unit {0}
TurnsKnow net tells before (item.Heard line) text after played = Unit {0}

-- the world has no plan newer than the changes
abbrev pub IsNoNewer : List Change → AirState → Type 0
IsNoNewer changes air = (newest_in air).0 ≤ (newest changes).edition.0

-- before a part and behind it the world has no plan newer than the changes
abbrev pub PartIsNoNewer : (net : Net) → (tells : Bool) → (before : Stand) → (one : Item) → (text : List ℕ) → (after : Stand) → PlaysItem net tells before one text after → Type 0
PartIsNoNewer net tells before one text after played = IsNoNewer (changes_at before) before.air × IsNoNewer (changes_at after) after.air

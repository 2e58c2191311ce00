-- What a terminal has heard and holds, said by its events alone. Lists of events have the latest first.
use Rattle.std.specs.Prelude.{◌≡◌, ℕ, ◌==◌, ◌&&◌, if◌then◌else◌, Bool, List, [], ◌∷◌, Option, Some, None}
use Rattle.std.specs.List.{list_any}
use Rattle.bt_frame.specs.declared.numbers.Command.{Command}
use Rattle.bt_frame.specs.declared.numbers.EditionNo.{EditionNo}
use Rattle.bt_frame.specs.declared.numbers.Mark.{Mark}
use Rattle.bt_frame.specs.declared.numbers.TermNo.{TermNo}
use Rattle.bt_air.specs.declared.message.Message.{Message}
use Rattle.bt_air.specs.declared.message.Message.TheVariants as message
use Rattle.bt_machines.specs.declared.burst_bank.Bank.{Bank}
use Rattle.bt_machines.specs.declared.burst_bank.Holding.{Holding}
use Rattle.bt_machines.specs.declared.reference.Reference.{Reference}
use Rattle.bt_machines.specs.Banks.{is_in_use, is_less, raised, second_gives}
use Rattle.bt_machines.specs.Terminal.{State}
use Rattle.bt_machines.specs.TerminalRun.{TerminalEvent, Hears, Restarts}

-- what is held in the place of one that gives way: the new one, unless it is less
abbrev pub in_place : Holding → Holding → Holding
in_place low new = if is_less new low then low else new

-- of two that are held, the least that is not in use gives way to a new one that is not less
abbrev pub giving : Option Reference → ℕ → Holding → Holding → Holding → List Holding
giving heard now a b new =
    if is_in_use heard now a.edition && is_in_use heard now b.edition then a ∷ b ∷ []
    else (if second_gives heard now a b then a ∷ in_place b new ∷ [] else in_place a new ∷ b ∷ [])

-- What is held, with one more: at most two. What is held already gets the greater Load.
abbrev pub taking : List Holding → Option Reference → ℕ → Holding → List Holding
taking [] heard now new = new ∷ []
taking (a ∷ []) heard now new = if a.edition.0 == new.edition.0 then raised a new.load ∷ [] else a ∷ new ∷ []
taking (a ∷ b ∷ rest) heard now new =
    if a.edition.0 == new.edition.0 then raised a new.load ∷ b ∷ rest
    else (if b.edition.0 == new.edition.0 then a ∷ raised b new.load ∷ rest else giving heard now a b new)

-- this edition is held
abbrev pub holds : List Holding → EditionNo → Bool
holds held edition = list_any (λ (one : Holding). one.edition.0 == edition.0) held

-- the Load for which the bursts of an edition came that is held
abbrev pub load_in : List Holding → EditionNo → Option Command
load_in [] edition = None
load_in (one ∷ rest) edition = if one.edition.0 == edition.0 then Some one.load else load_in rest edition

-- the Reference that was heard last, with one message more
abbrev pub heard_with : Option Reference → Mark → Message → Option Reference
heard_with before at (message.Reference superframe named next) =
    if superframe.0 == at.0 then Some (record { superframe = superframe; in_force = named; next = next }) else before
heard_with before at _ = before

-- the last Reference that the terminal heard in its own superframe, since it last restarted
abbrev pub last_heard : List TerminalEvent → Option Reference
last_heard [] = None
last_heard (Hears at message ∷ earlier) = heard_with (last_heard earlier) at message
last_heard (Restarts ∷ earlier) = None

-- what a terminal holds, once it has heard a message
abbrev pub held_with : List Holding → Option Reference → TermNo → Mark → Message → List Holding
held_with before heard number at (message.PlanFor to load edition bursts) =
    if to.0 == number.0 then taking before heard at.0 (record { load = load; edition = edition }) else before
held_with before heard number at _ = before

-- the editions of which the terminal holds its bursts, each with its Load, since it last restarted
abbrev pub held_after : TermNo → List TerminalEvent → List Holding
held_after number [] = []
held_after number (Hears at message ∷ earlier) = held_with (held_after number earlier) (last_heard earlier) number at message
held_after number (Restarts ∷ earlier) = []

-- what banks hold
abbrev pub held_in : Option Bank → Option Bank → List Holding
held_in None second = []
held_in (Some first) None = first.holding ∷ []
held_in (Some first) (Some second) = first.holding ∷ second.holding ∷ []

-- the first bank is filled before the second
abbrev pub IsFilledInOrder : Option Bank → Option Bank → Type 0
IsFilledInOrder None (Some second) = ⊥
IsFilledInOrder _ _ = Unit {0}

-- the state of a terminal is what was heard and is held
pub record Agrees (number : TermNo) (told : Option Reference) (all : List Holding) (s : State) : Type 0 where
  pub same : s.number ≡ number
  pub heard : s.heard ≡ told
  pub filled : IsFilledInOrder s.banks.first s.banks.second
  pub held : held_in s.banks.first s.banks.second ≡ all

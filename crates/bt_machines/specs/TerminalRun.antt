-- Runs of a terminal: messages that it hears, each in a superframe, and restarts, in any order.
use Rattle.std.specs.Prelude.{◌≡◌, ◌≢◌, List, [], ◌∷◌, ◌++◌, Option, Some, None}
use Rattle.bt_frame.specs.declared.numbers.Mark.{Mark}
use Rattle.bt_demand.specs.declared.burst.Burst.{Burst}
use Rattle.bt_air.specs.declared.message.Message.{Message}
use Rattle.bt_air.specs.declared.message.Message.TheVariants as message
use Rattle.bt_machines.specs.declared.burst_bank.Bank.{Bank}
use Rattle.bt_machines.specs.Terminal.{State, new_of, step_of}

-- what happens to a terminal: it hears a message in a superframe, or it restarts
pub data TerminalEvent : Type 0 where
  Hears : Mark → Message → TerminalEvent
  Restarts : TerminalEvent

-- the state after one event
abbrev pub after_event : State → TerminalEvent → State
after_event s (Hears mark message) = (step_of s mark message).1
after_event s Restarts = new_of s.number

-- the state after a run
abbrev pub state_after : State → List TerminalEvent → State
state_after s [] = s
state_after s (event ∷ events) = state_after (after_event s event) events

-- the events from the first on, of those from the latest on
abbrev pub oldest_first : List TerminalEvent → List TerminalEvent
oldest_first [] = []
oldest_first (event ∷ earlier) = oldest_first earlier ++ event ∷ []

-- the message is the reference burst of a superframe
abbrev pub IsReferenceOf : Mark → Message → Type 0
IsReferenceOf mark (message.Reference superframe in_force next) = superframe ≡ mark
IsReferenceOf mark _ = ⊥

-- the terminal takes the reference burst of a superframe, which it does only in that superframe
abbrev pub TakesReference : Mark → TerminalEvent → Type 0
TakesReference mark (Hears at message) = (at ≡ mark) × IsReferenceOf mark message
TakesReference mark Restarts = ⊥

-- no two banks hold one edition
abbrev pub AreDistinct : Option Bank → Option Bank → Type 0
AreDistinct None second = Unit {0}
AreDistinct (Some first) None = Unit {0}
AreDistinct (Some first) (Some second) = first.holding.edition ≢ second.holding.edition

-- the bursts of edition 2 come for terminal 0, and then the reference burst of superframe 7 that names it
abbrev pub a_frame : List Burst → List TerminalEvent
a_frame bursts =
    Hears (record { 0 = 7 }) (message.PlanFor (record { 0 = 0 }) (record { 0 = 1 }) (record { 0 = 2 }) bursts)
    ∷ Hears (record { 0 = 7 }) (message.Reference (record { 0 = 7 }) (Some (record { 0 = 2 })) None) ∷ []

-- What each site is once it has heard something, and what it says. Lists of orders and of plans have the latest first.
use Rattle.std.specs.Prelude.{ℕ, List, [], ◌∷◌, ◌++◌, filter, Option, Some, None}
use Rattle.bt_frame.specs.declared.numbers.EditionNo.{EditionNo}
use Rattle.bt_frame.specs.declared.numbers.Mark.{Mark}
use Rattle.bt_frame.specs.declared.numbers.TermNo.{TermNo}
use Rattle.bt_demand.specs.declared.plan.Plan.{Plan}
use Rattle.bt_air.specs.declared.message.Message.{Message}
use Rattle.bt_air.specs.declared.message.Message.TheVariants as message
use Rattle.bt_air.specs.declared.order.Status.{Status}
use Rattle.bt_air.specs.declared.sent.Aired.{Aired}
use Rattle.bt_air.specs.declared.sent.Aired.TheVariants as sends
use Rattle.bt_air.specs.declared.sent.Answer.{Answer}
use Rattle.bt_air.specs.declared.sent.Answer.TheVariants.{Noted, NotForMe}
use Rattle.bt_machines.specs.Centre.{State as Centre, act_at, is_missing, known_to}
use Rattle.bt_machines.specs.CentreSteps.{once_heard}
use Rattle.bt_machines.specs.Last.{last_order, next_of}
use Rattle.bt_machines.specs.Satellite.{State as Satellite, step_of as take}
use Rattle.bt_machines.specs.Standby.{named, step_of as notice}
use Rattle.bt_machines.specs.Says.{told_by, confirmed_by, sent_by_act, sent_to_asking}
use Rattle.bt_machines.specs.Terminal.{State as Terminal, step_of as hear}
use Rattle.bt_machines.specs.Terminals.{has}

-- a message without its modes and bursts
abbrev pub aired_of : Message → Aired
aired_of (message.Load command edition modes) = sends.Load command edition
aired_of (message.Arm command edition due) = sends.Arm command edition due
aired_of (message.Status status) = sends.Status status
aired_of (message.PlanFor to load edition bursts) = sends.PlanFor to load edition
aired_of (message.Confirm from load edition) = sends.Confirm from load edition
aired_of (message.Reference superframe in_force next) = sends.Reference superframe in_force next
aired_of (message.Lost from) = sends.Lost from

-- the satellite once it has heard a message, if it has
abbrev pub satellite_with : Satellite → Option Message → Satellite
satellite_with s None = s
satellite_with s (Some message) = (take s message).1

-- what it says then: its new status, where it carried the message out
abbrev pub satellite_says : Satellite → Option Message → List Aired
satellite_says s None = []
satellite_says s (Some message) = told_by (take s message)

-- a terminal once it has heard a message in a superframe, if it has
abbrev pub terminal_with : Terminal → Mark → Option Message → Terminal
terminal_with s mark None = s
terminal_with s mark (Some message) = (hear s mark message).1

-- what it says then: a Confirm of the bursts that came, where it holds them
abbrev pub terminal_says : TermNo → Terminal → Mark → Option Message → List Aired
terminal_says number s mark None = []
terminal_says number s mark (Some message) = confirmed_by number (aired_of message) (hear s mark message)

-- the centre with its plans, in a network of so many terminals
pub record CentreAt : Type 0 where
  pub terminals : ℕ
  pub plans : List Plan
  pub centre : Centre

-- the centre once it has heard a message in a superframe, if it has
abbrev pub centre_with : Centre → Mark → Option Message → Centre
centre_with s mark None = s
centre_with s mark (Some message) = once_heard s mark.0 (Some (aired_of message))

-- what the centre answers to a message: it takes note of each Status, Confirm and Lost
abbrev pub noted_by : Aired → Answer
noted_by (sends.Status status) = Noted
noted_by (sends.Confirm from load edition) = Noted
noted_by (sends.Lost from) = Noted
noted_by _ = NotForMe

-- what the centre says in its turn: the reference burst, what its act calls for, and what those who ask are to have
abbrev pub turn_says : List TermNo → Centre → List Plan → (mark : Mark) → (target : EditionNo) → (lead patience : ℕ) → List Aired
turn_says everyone s all mark target lead patience =
    sends.Reference mark (known_to s mark.0) (next_of (last_order s.orders) mark.0)
    ∷ sent_by_act s.orders (filter (λ (terminal : TermNo). is_missing s terminal) everyone) (act_at s mark target lead patience)
    ++ sent_to_asking (known_to s mark.0) s.orders all (filter (λ (terminal : TermNo). has s.asking terminal) everyone)

-- what the standby keeps once it has heard a message in a superframe, if it has
abbrev pub standby_with : Option Status → Mark → Option Message → Option Status
standby_with kept mark (Some (message.Status status)) = (notice kept mark status).1
standby_with kept mark _ = kept

-- what it says for a superframe: the second reference burst, which announces nothing
abbrev pub standby_says : Option Status → Mark → Aired
standby_says kept mark = sends.Reference mark (named kept mark) None

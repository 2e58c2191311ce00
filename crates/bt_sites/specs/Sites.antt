-- A run of sites, as their steps say it: the state of each site by its own steps alone, and what it says by its own state.
-- Lists of steps, of plans and of orders have the latest first; the list of what was said has the first first.
use Rattle.std.specs.Prelude.{ℕ, ◌==◌, if◌then◌else◌, true, false, List, [], ◌∷◌, ◌++◌, map, Option, Some, None, Result, Ok, Err}
use Rattle.bt_frame.specs.declared.numbers.EditionNo.{EditionNo}
use Rattle.bt_frame.specs.declared.numbers.Mark.{Mark}
use Rattle.bt_frame.specs.declared.numbers.TermNo.{TermNo}
use Rattle.bt_demand.specs.declared.plan.Plan.{Plan}
use Rattle.bt_air.specs.declared.fault.AirFault.{AirFault}
use Rattle.bt_air.specs.declared.message.Message.{Message}
use Rattle.bt_air.specs.declared.order.Status.{Status}
use Rattle.bt_air.specs.declared.sent.Aired.{Aired}
use Rattle.bt_air.specs.declared.sent.Aired.TheVariants as sends
use Rattle.bt_air.specs.MessageText.{message_of}
use Rattle.bt_air.specs.Spelling.{message_bytes}
use Rattle.bt_machines.specs.Satellite.{State as Satellite, new_at, status_of, ticked}
use Rattle.bt_machines.specs.Terminal.{State as Terminal, new_of}
use Rattle.bt_machines.specs.Centre.{State as Centre, after_turn}
use Rattle.bt_machines.specs.CentreSteps.{beginning, once_placed, with_wanted}
use Rattle.bt_machines.specs.Says.{carried, sent_by_order}
pub use Rattle.bt_site.specs.Sites.{aired_of, satellite_with, satellite_says, terminal_with, terminal_says, centre_with, standby_with, standby_says}
use Rattle.bt_site.specs.Sites.{turn_says as says_in_turn}
use Rattle.bt_site.specs.Event.{Opening}
use Rattle.bt_site.specs.World.{greatest_due, terminals}
use Rattle.bt_sites.specs.Step.{Step, Begins, SatelliteHears, Starts, TerminalHears, CentreHears, Turns, Places, Installs, Restarts, StandbyStarts, StandbyHears, Seconds}

-- the message that was read, if one was
abbrev pub if_read : Result Message AirFault → Option Message
if_read (Ok message) = Some message
if_read (Err fault) = None

-- what a site reads of bytes that it hears
abbrev pub read_of : List ℕ → Option Message
read_of bytes = if_read (message_of bytes)

-- the bytes of a message, with what the plans have for it
abbrev pub bytes_of : List Plan → Aired → List ℕ
bytes_of all one = message_bytes (carried all one)

-- what the centre says in its turn, with the terminals, the lead and the patience of the network
abbrev pub turn_says : Opening → Centre → List Plan → Mark → EditionNo → List Aired
turn_says o s all mark target = says_in_turn (terminals o) s all mark target o.net.lead o.net.patience

-- the satellite after these steps
abbrev pub satellite_after : Opening → List Step → Satellite
satellite_after o [] = new_at (record { 0 = greatest_due o.orders })
satellite_after o (Begins ∷ before) = ticked (satellite_after o before)
satellite_after o (SatelliteHears bytes ∷ before) = satellite_with (satellite_after o before) (read_of bytes)
satellite_after o (_ ∷ before) = satellite_after o before

-- a terminal after these steps
abbrev pub terminal_after : TermNo → List Step → Terminal
terminal_after number [] = new_of number
terminal_after number (Starts other ∷ before) = if other.0 == number.0 then new_of number else terminal_after number before
terminal_after number (TerminalHears to mark bytes ∷ before) =
    if to.0 == number.0 then terminal_with (terminal_after number before) mark (read_of bytes) else terminal_after number before
terminal_after number (_ ∷ before) = terminal_after number before

-- the plans that the centre has after these steps
abbrev pub plans_after : Opening → List Step → List Plan
plans_after o [] = o.plans
plans_after o (Installs plan ∷ before) = plan ∷ plans_after o before
plans_after o (_ ∷ before) = plans_after o before

-- the centre after these steps
abbrev pub centre_after : Opening → List Step → Centre
centre_after o [] = beginning (terminals o) o.plans o.orders
centre_after o (CentreHears mark bytes ∷ before) = centre_with (centre_after o before) mark (read_of bytes)
centre_after o (Turns mark target ∷ before) = after_turn (centre_after o before) mark target o.net.lead o.net.patience
centre_after o (Places ∷ before) = once_placed (centre_after o before) (terminals o) (plans_after o before) (centre_after o before).wanted
centre_after o (Restarts true ∷ before) = beginning (terminals o) (plans_after o before) (with_wanted (centre_after o before).wanted (centre_after o before).orders)
centre_after o (Restarts false ∷ before) = beginning (terminals o) (plans_after o before) (centre_after o before).orders
centre_after o (_ ∷ before) = centre_after o before

-- the status that the standby keeps after these steps
abbrev pub standby_after : List Step → Option Status
standby_after [] = None
standby_after (StandbyStarts ∷ before) = None
standby_after (StandbyHears mark bytes ∷ before) = standby_with (standby_after before) mark (read_of bytes)
standby_after (_ ∷ before) = standby_after before

-- what a site says with a step, by its own state before
abbrev pub says : Opening → List Step → Step → List Aired
says o before Begins = sends.Status (status_of (ticked (satellite_after o before))) ∷ []
says o before (SatelliteHears bytes) = satellite_says (satellite_after o before) (read_of bytes)
says o before (Starts number) = sends.Lost number ∷ []
says o before (TerminalHears number mark bytes) = terminal_says number (terminal_after number before) mark (read_of bytes)
says o before (CentreHears mark bytes) = []
says o before (Turns mark target) = turn_says o (centre_after o before) (plans_after o before) mark target
says o before Places = sent_by_order (plans_after o before) (terminals o) (centre_after o before).wanted
says o before (Installs plan) = []
says o before (Restarts kept) = []
says o before StandbyStarts = []
says o before (StandbyHears mark bytes) = []
says o before (Seconds mark) = standby_says (standby_after before) mark ∷ []

-- the plans that a site has with a step: the centre's, where it says something
abbrev pub plans_at : Opening → List Step → Step → List Plan
plans_at o before (Turns mark target) = plans_after o before
plans_at o before Places = plans_after o before
plans_at o before _ = []

-- the bytes of what a site says with a step
abbrev pub said_with : Opening → List Step → Step → List (List ℕ)
said_with o before step = map (λ (one : Aired). bytes_of (plans_at o before step) one) (says o before step)

-- the bytes of all messages that were said, the first first
abbrev pub said : Opening → List Step → List (List ℕ)
said o [] = []
said o (step ∷ before) = said o before ++ said_with o before step

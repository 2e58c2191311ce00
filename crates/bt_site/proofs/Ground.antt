-- Terminals hold what was heard.
use Rattle.std.proofs.Common.{ℕ, ◌==◌, if◌then◌else◌, Bool, true, false, List, [], ◌∷◌, Option, Some, None, refl}
use Rattle.bt_frame.specs.declared.numbers.TermNo.{TermNo}
use Rattle.bt_demand.specs.declared.plan.Plan.{Plan}
use Rattle.bt_air.specs.declared.sent.Place.{Place}
use Rattle.bt_air.specs.declared.sent.Place.TheVariants.{Satellite, Centre, Terminal}
use Rattle.bt_air.specs.declared.sent.Aired.{Aired}
use Rattle.bt_air.specs.declared.sent.Aired.TheVariants as sends
use Rattle.bt_machines.specs.declared.burst_bank.Holding.{Holding}
use Rattle.bt_machines.specs.declared.reference.Reference.{Reference}
use Rattle.bt_machines.specs.Terminal.{State, new_of}
use Rattle.bt_site.specs.Event.{Opening, Happening, Ticks, Turns, Seconds, Orders, Hears, Shows, Resets, Restarts, Installs}
use Rattle.bt_site.specs.World.{mark, plans, last_heard, heard_by, held, held_by}
use Rattle.bt_machines.specs.Plans.{plan_of, bursts_for}
use Rattle.bt_site.specs.Ground.{after_hearing, terminal}
use Rattle.bt_machines.specs.Said.{Agrees}
use Rattle.bt_machines.proofs.Ground.{plan-agrees, reference-agrees, new-agrees}

-- a message comes to the terminal
hearing-agrees : (number : TermNo) (now : ℕ) (told : Option Reference) (holds : List Holding) (s : State) (all : List Plan) (one : Option Aired) → Agrees number told holds s
    → Agrees number (heard_by told now one) (held_by holds told now number one) (after_hearing s now all one)
hearing-agrees number now told holds s all None agrees = agrees
hearing-agrees number now told holds s all (Some (sends.PlanFor to load edition)) agrees = plan-agrees number now told holds s to load edition (bursts_for to (plan_of all edition)) _ refl agrees
hearing-agrees number now told holds s all (Some (sends.Reference superframe found next)) agrees = reference-agrees number now told holds s superframe found next _ refl agrees
hearing-agrees number now told holds s all (Some (sends.Load command edition)) agrees = agrees
hearing-agrees number now told holds s all (Some (sends.Arm command edition due)) agrees = agrees
hearing-agrees number now told holds s all (Some (sends.Status status)) agrees = agrees
hearing-agrees number now told holds s all (Some (sends.Confirm from load edition)) agrees = agrees
hearing-agrees number now told holds s all (Some (sends.Lost from)) agrees = agrees

-- a test of the number
if-agrees : (number : TermNo) (test : Bool) (a b : Option Reference) (c d : List Holding) (s t : State) → Agrees number a c s → Agrees number b d t
    → Agrees number (if test then a else b) (if test then c else d) (if test then s else t)
if-agrees number true a b c d s t p q = p
if-agrees number false a b c d s t p q = q

abbrev pub TerminalAgrees : Opening → List Happening → TermNo → Type 0
TerminalAgrees o past number = Agrees number (last_heard o past number) (held o past number) (terminal o past number)

delivery-agrees : (o : Opening) (past : List Happening) (number : TermNo) (one : Option Aired) (place : Place) → TerminalAgrees o past number → TerminalAgrees o (Hears one place ∷ past) number
delivery-agrees o past number one Satellite agrees = agrees
delivery-agrees o past number one Centre agrees = agrees
delivery-agrees o past number one (Terminal to) agrees =
    if-agrees number (to.0 == number.0) (heard_by (last_heard o past number) (mark o past) one) (last_heard o past number)
    (held_by (held o past number) (last_heard o past number) (mark o past) number one) (held o past number)
    (after_hearing (terminal o past number) (mark o past) (plans o past) one) (terminal o past number)
    (hearing-agrees number (mark o past) (last_heard o past number) (held o past number) (terminal o past number) (plans o past) one agrees) agrees

pub terminal-agrees : (o : Opening) (past : List Happening) (number : TermNo) → TerminalAgrees o past number
terminal-agrees o [] number = new-agrees number
terminal-agrees o (Ticks ∷ past) number = terminal-agrees o past number
terminal-agrees o (Turns target act ∷ past) number = terminal-agrees o past number
terminal-agrees o (Seconds in_force ∷ past) number = terminal-agrees o past number
terminal-agrees o (Orders ∷ past) number = terminal-agrees o past number
terminal-agrees o (Hears one place ∷ past) number = delivery-agrees o past number one place (terminal-agrees o past number)
terminal-agrees o (Shows ∷ past) number = terminal-agrees o past number
terminal-agrees o (Resets other ∷ past) number =
    if-agrees number (other.0 == number.0) None (last_heard o past number) [] (held o past number) (new_of number) (terminal o past number)
    (new-agrees number) (terminal-agrees o past number)
terminal-agrees o (Restarts kept ∷ past) number = terminal-agrees o past number
terminal-agrees o (Installs plan ∷ past) number = terminal-agrees o past number

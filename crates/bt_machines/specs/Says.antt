-- What each machine says, and what a message carries. Lists of orders and of plans have the latest first.
use Rattle.std.specs.Prelude.{if◌then◌else◌, Bool, true, false, List, [], ◌∷◌, ◌++◌, map, filter, Option, Some, None}
use Rattle.bt_frame.specs.declared.numbers.Command.{Command}
use Rattle.bt_frame.specs.declared.numbers.EditionNo.{EditionNo}
use Rattle.bt_frame.specs.declared.numbers.TermNo.{TermNo}
use Rattle.bt_demand.specs.declared.plan.Plan.{Plan}
use Rattle.bt_air.specs.declared.message.Message.{Message}
use Rattle.bt_air.specs.declared.message.Message.TheVariants as message
use Rattle.bt_air.specs.declared.order.Order.{Order}
use Rattle.bt_air.specs.declared.order.Order.TheVariants as order
use Rattle.bt_air.specs.declared.sent.Act.{Act}
use Rattle.bt_air.specs.declared.sent.Act.TheVariants.{RepeatLoad, RepeatArm}
use Rattle.bt_air.specs.declared.sent.Aired.{Aired}
use Rattle.bt_air.specs.declared.sent.Aired.TheVariants as sends
use Rattle.bt_air.specs.declared.sent.Heard.{Heard}
use Rattle.bt_air.specs.declared.sent.Heard.TheVariants.{Held, Stored}
use Rattle.bt_air.specs.declared.sent.Taken.{Taken}
use Rattle.bt_machines.specs.Last.{load_of}
use Rattle.bt_machines.specs.Plans.{plan_of, modes_of, bursts_for, has_burst}
use Rattle.bt_machines.specs.Satellite.{State as Satellite, status_of}
use Rattle.bt_machines.specs.SatelliteRun.{is_accepted}
use Rattle.bt_machines.specs.Terminal.{State as Terminal, load_of as load_held}

-- the message that was sent as it is carried, with the modes and the bursts of the plan of its edition
abbrev pub carried : List Plan → Aired → Message
carried all (sends.Load command edition) = message.Load command edition (modes_of (plan_of all edition))
carried all (sends.Arm command edition due) = message.Arm command edition due
carried all (sends.Status status) = message.Status status
carried all (sends.PlanFor to load edition) = message.PlanFor to load edition (bursts_for to (plan_of all edition))
carried all (sends.Confirm from load edition) = message.Confirm from load edition
carried all (sends.Reference superframe in_force next) = message.Reference superframe in_force next
carried all (sends.Lost from) = message.Lost from

-- the satellite tells its new status where it carried the message out
abbrev pub told_by : Taken × Satellite → List Aired
told_by step = if is_accepted step.0 then sends.Status (status_of step.1) ∷ [] else []

-- a Confirm of an edition, with the Load for which its bursts came, where it is held
abbrev pub confirms : TermNo → EditionNo → Option Command → List Aired
confirms terminal edition None = []
confirms terminal edition (Some load) = sends.Confirm terminal load edition ∷ []

-- the terminal holds the bursts that came
abbrev pub is_confirming : Heard → Bool
is_confirming Held = true
is_confirming Stored = true
is_confirming _ = false

-- a terminal confirms the edition of the bursts that came, with the Load for which it then holds them
abbrev pub confirmed_by : TermNo → Aired → Heard × Terminal → List Aired
confirmed_by terminal (sends.PlanFor to load edition) step = if is_confirming step.0 then confirms terminal edition (load_held step.1 edition) else []
confirmed_by terminal sent step = []

-- the edition of the bursts that a message brings to a terminal, if it brings some
abbrev pub planned_in : Message → Option EditionNo
planned_in (message.PlanFor to load edition bursts) = Some edition
planned_in _ = None

-- a PlanFor to these terminals
abbrev pub plans_for : List TermNo → Command → EditionNo → List Aired
plans_for to load edition = map (λ (terminal : TermNo). sends.PlanFor terminal load edition) to

-- the message of the last order, once more
abbrev pub order_again : List Order → List Aired
order_again [] = []
order_again (order.Load command edition ∷ earlier) = sends.Load command edition ∷ []
order_again (order.Arm command edition due ∷ earlier) = sends.Arm command edition due ∷ []

-- a PlanFor of the edition of the last order, a Load, to these terminals
abbrev pub last_plans : List Order → List TermNo → List Aired
last_plans (order.Load command edition ∷ earlier) to = plans_for to command edition
last_plans _ to = []

-- what is sent with an act
abbrev pub sent_by_act : List Order → List TermNo → Act → List Aired
sent_by_act all missing (RepeatLoad load) = (if load then order_again all else []) ++ last_plans all missing
sent_by_act all missing RepeatArm = order_again all
sent_by_act all missing _ = []

-- what is sent to the terminals that ask
abbrev pub sent_to_asking : Option EditionNo → List Order → List Plan → List TermNo → List Aired
sent_to_asking None placed all asking = []
sent_to_asking (Some edition) placed all asking = plans_for (filter (has_burst (plan_of all edition)) asking) (load_of placed edition) edition

-- what is sent with an order that joins
abbrev pub sent_by_order : List Plan → List TermNo → Option Order → List Aired
sent_by_order all everyone None = []
sent_by_order all everyone (Some (order.Load command edition)) = sends.Load command edition ∷ plans_for (filter (has_burst (plan_of all edition)) everyone) command edition
sent_by_order all everyone (Some (order.Arm command edition due)) = sends.Arm command edition due ∷ []

-- A world in which a change is made: edition 2 is loaded, armed for superframe 3, and on the air.
use Rattle.std.specs.Prelude.{false, List, [], ◌∷◌, reverse, Option, Some, None}
use Rattle.bt_frame.specs.declared.numbers.Command.{Command}
use Rattle.bt_frame.specs.declared.numbers.EditionNo.{EditionNo}
use Rattle.bt_frame.specs.declared.numbers.Mark.{Mark}
use Rattle.bt_frame.specs.declared.numbers.TermNo.{TermNo}
use Rattle.bt_frame.specs.declared.schedule.Critical.TheVariants.{Row}
use Rattle.bt_net.specs.Network.{Net}
use Rattle.bt_demand.specs.declared.burst.Burst.{Burst}
use Rattle.bt_demand.specs.declared.plan.Plan.{Plan}
use Rattle.bt_air.specs.declared.order.Armed.{Armed}
use Rattle.bt_air.specs.declared.sent.Place.TheVariants.{Satellite, Centre, Terminal}
use Rattle.bt_air.specs.declared.sent.Aired.{Aired}
use Rattle.bt_air.specs.declared.sent.Aired.TheVariants as sends
use Rattle.bt_demand.specs.Plan.{empty_plan}
use Rattle.bt_site.specs.Event.{Opening, Event, Tick, Turn, Second, Ordered, Deliver, Frame, ResetTerminal, RestartCentre, Install}

-- a network of two beams, with a terminal in each
abbrev pub two_beams : Net
two_beams = record {
  beams = (78 ∷ []) ∷ (83 ∷ []) ∷ [];
  terminals = ((65 ∷ []), record { 0 = 0 }) ∷ ((66 ∷ []), record { 0 = 1 }) ∷ [];
  slots = 4;
  frames = 4;
  lead = 2;
  patience = 3;
  journal = 1000;
}

-- the terminal of the first beam
abbrev pub a : TermNo
a = record { 0 = 0 }

-- the terminal of the second beam
abbrev pub b : TermNo
b = record { 0 = 1 }

-- the first terminal sends to the second
abbrev pub a_burst : Burst
a_burst = record { from = a; to = b; start = 0; length = 3 }

-- the second terminal sends to the first
abbrev pub b_burst : Burst
b_burst = record { from = b; to = a; start = 0; length = 2 }

-- a plan of both bursts
abbrev pub a_plan : Plan
a_plan = record { edition = record { 0 = 2 }; schedule = record { length = 3; critical = Row (record { 0 = 0 }); modes = record { duration = 3; perm = 1 ∷ 0 ∷ [] } ∷ [] }; bursts = a_burst ∷ b_burst ∷ [] }

-- a world that opens with the empty plan
abbrev pub opened : Opening
opened = record { net = two_beams; plans = empty_plan ∷ []; orders = [] }

-- up to where the satellite is armed
abbrev pub armed_calmly : List Event
armed_calmly = reverse (
    Tick ∷ Deliver 0 Centre
    ∷ Install a_plan ∷ Turn (record { 0 = 2 }) ∷ Ordered
    ∷ Deliver 1 (Terminal a) ∷ Deliver 1 (Terminal b) ∷ Deliver 2 Satellite ∷ Deliver 3 (Terminal a) ∷ Deliver 4 (Terminal b) ∷ Deliver 5 Centre ∷ Deliver 6 Centre ∷ Deliver 7 Centre
    ∷ Turn (record { 0 = 2 }) ∷ Ordered
    ∷ Deliver 8 (Terminal a) ∷ Deliver 8 (Terminal b) ∷ Deliver 9 Satellite ∷ Deliver 10 Centre ∷ [])

-- a calm change
abbrev pub calm : List Event
calm = Frame ∷ Deliver 13 (Terminal b) ∷ Deliver 13 (Terminal a) ∷ Turn (record { 0 = 2 }) ∷ Deliver 12 Centre ∷ Deliver 11 Centre ∷ Tick ∷ Tick ∷ armed_calmly

-- what the satellite says of itself
abbrev pub said : Mark → EditionNo → EditionNo → Option Armed → Command → Aired
said mark fore back armed last = sends.Status (record { mark = mark; fore = fore; back = back; armed = armed; last = last })

-- the messages of the calm change
abbrev pub calm_sent : List Aired
calm_sent =
    said (record { 0 = 1 }) (record { 0 = 0 }) (record { 0 = 0 }) None (record { 0 = 0 })
    ∷ sends.Reference (record { 0 = 1 }) (Some (record { 0 = 0 })) None
    ∷ sends.Load (record { 0 = 1 }) (record { 0 = 2 })
    ∷ sends.PlanFor a (record { 0 = 1 }) (record { 0 = 2 })
    ∷ sends.PlanFor b (record { 0 = 1 }) (record { 0 = 2 })
    ∷ said (record { 0 = 1 }) (record { 0 = 0 }) (record { 0 = 2 }) None (record { 0 = 1 })
    ∷ sends.Confirm a (record { 0 = 1 }) (record { 0 = 2 })
    ∷ sends.Confirm b (record { 0 = 1 }) (record { 0 = 2 })
    ∷ sends.Reference (record { 0 = 1 }) (Some (record { 0 = 0 })) None
    ∷ sends.Arm (record { 0 = 2 }) (record { 0 = 2 }) (record { 0 = 3 })
    ∷ said (record { 0 = 1 }) (record { 0 = 0 }) (record { 0 = 2 }) (Some (record { edition = record { 0 = 2 }; due = record { 0 = 3 } })) (record { 0 = 2 })
    ∷ said (record { 0 = 2 }) (record { 0 = 0 }) (record { 0 = 2 }) (Some (record { edition = record { 0 = 2 }; due = record { 0 = 3 } })) (record { 0 = 2 })
    ∷ said (record { 0 = 3 }) (record { 0 = 2 }) (record { 0 = 0 }) None (record { 0 = 2 })
    ∷ sends.Reference (record { 0 = 3 }) (Some (record { 0 = 2 })) None
    ∷ []

-- the same up to the last Reference, which the first terminal misses
abbrev pub lossy : List Event
lossy = Frame ∷ Deliver 13 (Terminal b) ∷ Turn (record { 0 = 2 }) ∷ Deliver 12 Centre ∷ Deliver 11 Centre ∷ Tick ∷ Tick ∷ armed_calmly

-- after it a terminal restarts, hears the Reference, and gets its bursts again
abbrev pub reset : List Event
reset = Deliver 3 (Terminal a) ∷ Frame ∷ Deliver 13 (Terminal a) ∷ ResetTerminal a ∷ calm

-- both terminals start before all else, and then the calm change is made
abbrev pub started : List Event
started = reverse (
    ResetTerminal a ∷ ResetTerminal b
    ∷ Tick ∷ Deliver 2 Centre
    ∷ Install a_plan ∷ Turn (record { 0 = 2 }) ∷ Ordered
    ∷ Deliver 3 (Terminal a) ∷ Deliver 3 (Terminal b) ∷ Deliver 4 Satellite ∷ Deliver 5 (Terminal a) ∷ Deliver 6 (Terminal b) ∷ Deliver 7 Centre ∷ Deliver 8 Centre ∷ Deliver 9 Centre
    ∷ Turn (record { 0 = 2 }) ∷ Ordered
    ∷ Deliver 10 (Terminal a) ∷ Deliver 10 (Terminal b) ∷ Deliver 11 Satellite ∷ Deliver 12 Centre
    ∷ Tick ∷ Tick ∷ Deliver 13 Centre ∷ Deliver 14 Centre ∷ Turn (record { 0 = 2 }) ∷ Deliver 15 (Terminal a) ∷ Deliver 15 (Terminal b) ∷ Frame ∷ [])

-- the Arm comes late, after a restart of the centre
abbrev pub late_until : List Event
late_until = reverse (
    Tick ∷ Deliver 0 Centre
    ∷ Install a_plan ∷ Turn (record { 0 = 2 }) ∷ Ordered
    ∷ Deliver 1 (Terminal a) ∷ Deliver 1 (Terminal b) ∷ Deliver 2 Satellite ∷ Deliver 3 (Terminal a) ∷ Deliver 4 (Terminal b) ∷ Deliver 5 Centre ∷ Deliver 6 Centre ∷ Deliver 7 Centre
    ∷ Turn (record { 0 = 2 }) ∷ Ordered
    ∷ Deliver 8 (Terminal a) ∷ Deliver 8 (Terminal b)
    ∷ RestartCentre false ∷ Tick ∷ Deliver 5 Centre ∷ Deliver 9 Satellite ∷ Tick ∷ Turn (record { 0 = 2 })
    ∷ Deliver 13 (Terminal a) ∷ Deliver 13 (Terminal b) ∷ [])

-- the Arm comes late, and is known of a superframe later
abbrev pub late : List Event
late = Deliver 14 (Terminal b) ∷ Deliver 14 (Terminal a) ∷ Turn (record { 0 = 2 }) ∷ Deliver 12 Centre ∷ Frame ∷ late_until

-- the messages where the Arm comes late
abbrev pub late_sent : List Aired
late_sent =
    said (record { 0 = 1 }) (record { 0 = 0 }) (record { 0 = 0 }) None (record { 0 = 0 })
    ∷ sends.Reference (record { 0 = 1 }) (Some (record { 0 = 0 })) None
    ∷ sends.Load (record { 0 = 1 }) (record { 0 = 2 })
    ∷ sends.PlanFor a (record { 0 = 1 }) (record { 0 = 2 })
    ∷ sends.PlanFor b (record { 0 = 1 }) (record { 0 = 2 })
    ∷ said (record { 0 = 1 }) (record { 0 = 0 }) (record { 0 = 2 }) None (record { 0 = 1 })
    ∷ sends.Confirm a (record { 0 = 1 }) (record { 0 = 2 })
    ∷ sends.Confirm b (record { 0 = 1 }) (record { 0 = 2 })
    ∷ sends.Reference (record { 0 = 1 }) (Some (record { 0 = 0 })) None
    ∷ sends.Arm (record { 0 = 2 }) (record { 0 = 2 }) (record { 0 = 3 })
    ∷ said (record { 0 = 2 }) (record { 0 = 0 }) (record { 0 = 2 }) None (record { 0 = 1 })
    ∷ said (record { 0 = 2 }) (record { 0 = 0 }) (record { 0 = 2 }) (Some (record { edition = record { 0 = 2 }; due = record { 0 = 3 } })) (record { 0 = 2 })
    ∷ said (record { 0 = 3 }) (record { 0 = 2 }) (record { 0 = 0 }) None (record { 0 = 2 })
    ∷ sends.Reference (record { 0 = 3 }) None None
    ∷ sends.Reference (record { 0 = 3 }) (Some (record { 0 = 2 })) None
    ∷ []

-- after the calm change the centre goes back to edition 0: it is loaded, armed for superframe 5, and announced, and a second
-- Reference of the superframe names edition 2
abbrev pub back : List Event
back = Second (Some (record { 0 = 2 })) ∷ Turn (record { 0 = 0 }) ∷ Ordered ∷ Turn (record { 0 = 0 }) ∷ Deliver 16 Centre ∷ Deliver 15 Satellite ∷ Ordered ∷ Turn (record { 0 = 0 }) ∷ calm

-- the messages of going back, behind those of the calm change
abbrev pub back_sent : List Aired
back_sent =
    sends.Reference (record { 0 = 3 }) (Some (record { 0 = 2 })) None
    ∷ sends.Load (record { 0 = 3 }) (record { 0 = 0 })
    ∷ said (record { 0 = 3 }) (record { 0 = 2 }) (record { 0 = 0 }) None (record { 0 = 3 })
    ∷ sends.Reference (record { 0 = 3 }) (Some (record { 0 = 2 })) None
    ∷ sends.Arm (record { 0 = 4 }) (record { 0 = 0 }) (record { 0 = 5 })
    ∷ sends.Reference (record { 0 = 3 }) (Some (record { 0 = 2 })) (Some (record { edition = record { 0 = 0 }; due = record { 0 = 5 } }))
    ∷ sends.Arm (record { 0 = 4 }) (record { 0 = 0 }) (record { 0 = 5 })
    ∷ sends.Reference (record { 0 = 3 }) (Some (record { 0 = 2 })) None
    ∷ []

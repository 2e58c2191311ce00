-- The terminals of a world: the state of each.
use Rattle.std.specs.Prelude.{ℕ, ◌==◌, if◌then◌else◌, List, [], ◌∷◌, Option, Some, None}
use Rattle.bt_frame.specs.declared.numbers.TermNo.{TermNo}
use Rattle.bt_demand.specs.declared.plan.Plan.{Plan}
use Rattle.bt_air.specs.declared.sent.Place.{Place}
use Rattle.bt_air.specs.declared.sent.Place.TheVariants.{Terminal}
use Rattle.bt_air.specs.declared.sent.Aired.{Aired}
use Rattle.bt_machines.specs.Terminal.{State, new_of, step_of}
use Rattle.bt_site.specs.Event.{Opening, Happening, Hears, Resets}
use Rattle.bt_site.specs.World.{mark, plans}
use Rattle.bt_machines.specs.Says.{carried}

-- the state after a message, if there is one
abbrev pub after_hearing : State → ℕ → List Plan → Option Aired → State
after_hearing s now all None = s
after_hearing s now all (Some sent) = (step_of s (record { 0 = now }) (carried all sent)).1

abbrev pub after_delivery : State → TermNo → ℕ → List Plan → Option Aired → Place → State
after_delivery s terminal now all sent (Terminal to) = if to.0 == terminal.0 then after_hearing s now all sent else s
after_delivery s terminal now all sent _ = s

-- the state of a terminal
abbrev pub terminal : Opening → List Happening → TermNo → State
terminal o [] number = new_of number
terminal o (Hears sent place ∷ past) number = after_delivery (terminal o past number) number (mark o past) (plans o past) sent place
terminal o (Resets other ∷ past) number = if other.0 == number.0 then new_of number else terminal o past number
terminal o (_ ∷ past) number = terminal o past number

-- The rows of the table for bursts that come.
use Rattle.std.proofs.Common.{if◌then◌else◌, Bool}
use Rattle.bt_air.specs.declared.sent.Heard.{Heard}
use Rattle.bt_air.specs.declared.sent.Heard.TheVariants.{Stored, Older, InUse, NotForMe, Held}
use Rattle.bt_machines.specs.Terminal.{State}

-- the rows of bursts that come, by the tests of their conditions
abbrev pub plan_rows : State → (higher after : State) → Bool → Bool → Bool → Bool → Bool → Heard × State
plan_rows s higher after another held room used older =
    if another then (NotForMe, s)
    else (if held then (Held, higher)
    else (if room then (Stored, after)
    else (if used then (InUse, s)
    else (if older then (Older, s)
    else (Stored, after)))))

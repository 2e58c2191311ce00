-- A message by what is printed of it and what is not. All of it is for bodies alone.
use Rattle.std.specs.Prelude.{Option, None}
use Rattle.bt_frame.specs.declared.numbers.Command.{Command}
use Rattle.bt_air.specs.declared.order.Armed.{Armed}
use Rattle.bt_air.specs.declared.sent.Aired.{Aired}
use Rattle.bt_air.specs.declared.sent.Aired.TheVariants as aired
use Rattle.bt_air.specs.declared.sent.Sent.{Sent}
use Rattle.bt_air.specs.declared.sent.Sent.TheVariants as sends

-- the message that is printed so, where the number of its Load and the change that it announces are these
abbrev pub aired_of : Sent → Command → Option Armed → Aired
aired_of (sends.Load command edition) load next = aired.Load command edition
aired_of (sends.Arm command edition due) load next = aired.Arm command edition due
aired_of (sends.Status status) load next = aired.Status status
aired_of (sends.PlanFor to edition) load next = aired.PlanFor to load edition
aired_of (sends.Confirm from edition) load next = aired.Confirm from load edition
aired_of (sends.Reference superframe in_force) load next = aired.Reference superframe in_force next
aired_of (sends.Lost from) load next = aired.Lost from

-- the number of its Load, 0 where it has none
abbrev pub load_of : Aired → Command
load_of (aired.PlanFor to load edition) = load
load_of (aired.Confirm from load edition) = load
load_of _ = record { 0 = 0 }

-- the change that it announces
abbrev pub next_of : Aired → Option Armed
next_of (aired.Reference superframe in_force next) = next
next_of _ = None

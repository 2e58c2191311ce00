-- The standby: its table, and what it names.
use Rattle.std.specs.Prelude.{◌==◌, not, if◌then◌else◌, Bool, Option, Some, None}
use Rattle.bt_frame.specs.declared.numbers.EditionNo.{EditionNo}
use Rattle.bt_frame.specs.declared.numbers.Mark.{Mark}
use Rattle.bt_air.specs.declared.order.Status.{Status}
use Rattle.bt_machines.specs.declared.standby.Noticed.{Noticed}
use Rattle.bt_machines.specs.declared.standby.Noticed.TheVariants.{Noted, WrongMark}

-- the status is of another superframe
abbrev pub is_wrong : Mark → Status → Bool
is_wrong mark status = not (status.mark.0 == mark.0)

-- The table: the answer to a status in a superframe, and what is kept after it.
abbrev pub step_of : Option Status → Mark → Status → Noticed × Option Status
step_of kept mark status =
    if is_wrong mark status then (WrongMark, kept)
    else (Noted, Some status)

-- the edition named in a superframe: the one in front by the status kept, where that is of this very superframe
abbrev pub named : Option Status → Mark → Option EditionNo
named None mark = None
named (Some status) mark = if status.mark.0 == mark.0 then Some status.fore else None

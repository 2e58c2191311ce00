-- What a standby names, said by what it heard: statuses, each in a superframe. The latest stands first.
use Rattle.std.specs.Prelude.{◌==◌, ◌&&◌, ◌≤◌, if◌then◌else◌, List, [], ◌∷◌, Option, Some, None}
use Rattle.bt_frame.specs.declared.numbers.EditionNo.{EditionNo}
use Rattle.bt_frame.specs.declared.numbers.Mark.{Mark}
use Rattle.bt_air.specs.declared.order.Status.{Status}
use Rattle.bt_machines.specs.Standby.{step_of}

-- what is kept after these
abbrev pub kept_after : List (Mark × Status) → Option Status
kept_after [] = None
kept_after ((at, status) ∷ earlier) = (step_of (kept_after earlier) at status).1

-- the edition in front by the last status of a superframe that was heard in that superframe, or none
abbrev pub told_in : Mark → List (Mark × Status) → Option EditionNo
told_in mark [] = None
told_in mark ((at, status) ∷ earlier) = if at.0 == mark.0 && status.mark.0 == mark.0 then Some status.fore else told_in mark earlier

-- no superframe begins before an earlier one, and the last is no later than this
abbrev pub AreUpTo : Mark → List (Mark × Status) → Type 0
AreUpTo mark [] = Unit {0}
AreUpTo mark ((at, status) ∷ earlier) = (at.0 ≤ mark.0) × AreUpTo at earlier

-- in superframe 3 a status of superframe 2 comes and then one of 3 that has edition 5 in front
abbrev pub a_bridge : Status → List (Mark × Status)
a_bridge late = (record { 0 = 3 }, record { mark = record { 0 = 3 }; fore = record { 0 = 5 }; back = record { 0 = 4 }; armed = None; last = record { 0 = 2 } })
    ∷ (record { 0 = 3 }, late) ∷ []

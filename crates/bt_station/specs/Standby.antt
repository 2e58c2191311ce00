-- The standby at work: what it is once it has heard a line, and what it says to it.
use Rattle.std.specs.Prelude.{ℕ, List, [], ◌++◌, Option, Some, None}
use Rattle.bt_frame.specs.declared.numbers.Mark.{Mark}
use Rattle.bt_air.specs.declared.message.Message.{Message}
use Rattle.bt_air.specs.declared.message.Message.TheVariants as message
use Rattle.bt_air.specs.declared.order.Status.{Status}
use Rattle.bt_machines.specs.Standby.{step_of as notice}
use Rattle.bt_site.specs.Present.{present_with}
use Rattle.bt_site.specs.Sites.{standby_says, standby_with}
use Rattle.bt_timeline.specs.Air.{noticed_line, standby_burst_line}
use Rattle.bt_script.specs.declared.heard.BusLine.TheVariants as bus
use Rattle.bt_station.specs.declared.asked.Asked.{Asked}
use Rattle.bt_station.specs.declared.asked.Asked.TheVariants as asked
use Rattle.bt_station.specs.Lines.{radio_line}
use Rattle.bt_station.specs.Terminal.{present_by}

-- the status that the standby keeps, and the superframe that it takes for the present one, where it knows one
pub record StandbyAt : Type 0 where
  pub kept : Option Status
  pub present : Option Mark

-- the standby at its start
abbrev pub standby_new : StandbyAt
standby_new = record { kept = None; present = None }

-- what it keeps once a message came, where it knows a superframe
abbrev pub kept_by : Option Status → Option Mark → Option Message → Option Status
kept_by kept None heard = kept
kept_by kept (Some mark) heard = standby_with kept mark heard

-- once it was asked this
abbrev pub standby_after : StandbyAt → Asked → StandbyAt
standby_after s (asked.Heard (bus.Begun mark)) = record { kept = s.kept; present = present_with s.present mark }
standby_after s (asked.Heard (bus.Radio stamp heard)) = record { kept = kept_by s.kept (present_by s.present stamp) heard; present = present_by s.present stamp }
standby_after s _ = s

-- what it says to a message in a superframe: what it did with a status; others are not for it
abbrev pub heard_by_standby : ℕ → Option Status → Option Mark → Option Message → List ℕ
heard_by_standby at kept (Some mark) (Some (message.Status status)) = noticed_line at (notice kept mark status).0
heard_by_standby at kept _ _ = []

-- the second reference burst of a superframe; there is none where it knows none
abbrev pub second_lines : Option Status → Option Mark → List ℕ
second_lines kept None = []
second_lines kept (Some mark) = standby_burst_line ++ radio_line mark (standby_says kept mark)

-- what it says to what line `at` asks
abbrev pub standby_answer : ℕ → StandbyAt → Asked → List ℕ
standby_answer at s (asked.Heard (bus.Radio stamp heard)) = heard_by_standby at s.kept (present_by s.present stamp) heard
standby_answer at s asked.Second = second_lines s.kept s.present
standby_answer at s _ = []

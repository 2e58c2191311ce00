-- A terminal at work: what it is once it has heard a line, and what it says to it.
use Rattle.std.specs.Prelude.{ℕ, ◌==◌, if◌then◌else◌, Bool, false, List, [], ◌++◌, Option, Some, None}
use Rattle.bt_frame.specs.declared.numbers.Mark.{Mark}
use Rattle.bt_frame.specs.declared.numbers.TermNo.{TermNo}
use Rattle.bt_net.specs.Network.{Net}
use Rattle.bt_demand.specs.declared.burst.Burst.{Burst}
use Rattle.bt_air.specs.declared.message.Message.{Message}
use Rattle.bt_air.specs.declared.sent.Aired.TheVariants as sends
use Rattle.bt_air.specs.declared.sent.Answer.TheVariants as answer
use Rattle.bt_air.specs.declared.sent.Place.TheVariants as place
use Rattle.bt_air.specs.declared.sent.Heard.{Heard}
use Rattle.bt_air.specs.declared.sent.Heard.TheVariants as heard
use Rattle.bt_machines.specs.Terminal.{State, new_of, step_of as hear, transmitted}
use Rattle.bt_site.specs.Present.{present_with}
use Rattle.bt_site.specs.Sites.{terminal_says, terminal_with}
use Rattle.bt_timeline.specs.Air.{got_line}
use Rattle.bt_script.specs.declared.heard.BusLine.TheVariants as bus
use Rattle.bt_station.specs.declared.asked.Asked.{Asked}
use Rattle.bt_station.specs.declared.asked.Asked.TheVariants as asked
use Rattle.bt_station.specs.Lines.{burst_frame_lines, radio_line, radio_lines}

-- a terminal, and the superframe that it takes for the present one, where it knows one
pub record TerminalAt : Type 0 where
  pub site : State
  pub present : Option Mark

-- the terminal of that number at its start
abbrev pub terminal_of : TermNo → TerminalAt
terminal_of number = record { site = new_of number; present = None }

-- what it says at its start: that it is lost, and knows no superframe
abbrev pub start_lines : TermNo → List ℕ
start_lines number = radio_line (record { 0 = 0 }) (sends.Lost number)

-- the present superframe once a message with this stamp came; one that knows none passes it over
abbrev pub present_by : Option Mark → Mark → Option Mark
present_by None stamp = None
present_by (Some present) stamp = present_with (Some present) stamp

-- the terminal once a message came, where it knows a superframe
abbrev pub site_by : State → Option Mark → Option Message → State
site_by s None message = s
site_by s (Some mark) message = terminal_with s mark message

-- once it was asked this
abbrev pub terminal_after : TerminalAt → Asked → TerminalAt
terminal_after s (asked.Heard (bus.Begun mark)) = record { site = s.site; present = present_with s.present mark }
terminal_after s (asked.FrameOf mark number) = record { site = s.site; present = present_with s.present mark }
terminal_after s (asked.Heard (bus.Radio stamp message)) = record { site = site_by s.site (present_by s.present stamp) message; present = present_by s.present stamp }
terminal_after s _ = s

-- the line of what it did with a message that line `at` brought; nothing where that is not for it
abbrev pub heard_line : Net → ℕ → TermNo → Heard → List ℕ
heard_line net at number heard.NotForMe = []
heard_line net at number one = got_line net at (place.Terminal number) (answer.Heard one)

-- what it says to a message in a superframe: what it did with it, and a Confirm, where it now holds the bursts that came
abbrev pub heard_by_terminal : Net → ℕ → State → Option Mark → Option Message → List ℕ
heard_by_terminal net at s None message = []
heard_by_terminal net at s (Some mark) None = []
heard_by_terminal net at s (Some mark) (Some message) =
    heard_line net at s.number (hear s mark message).0 ++ radio_lines mark (terminal_says s.number s mark (Some message))

-- the superframe is the present one
abbrev pub is_present : Option Mark → Mark → Bool
is_present None mark = false
is_present (Some present) mark = present.0 == mark.0

-- the bursts that it transmits in a superframe of its modem's: none where it knows of a later one
abbrev pub sent_in : TerminalAt → Mark → List Burst
sent_in s mark = if is_present (present_with s.present mark) mark then transmitted s.site mark else []

-- what it says to what line `at` asks
abbrev pub terminal_answer : Net → ℕ → TerminalAt → Asked → List ℕ
terminal_answer net at s (asked.Heard (bus.Radio stamp message)) = heard_by_terminal net at s.site (present_by s.present stamp) message
terminal_answer net at s (asked.FrameOf mark number) = burst_frame_lines net mark number (sent_in s mark)
terminal_answer net at s _ = []

-- The satellite at work: what it is once it has heard a line, and what it says to it.
use Rattle.std.specs.Prelude.{ℕ, ◌+◌, nat_lt, if◌then◌else◌, decimal, List, [], ◌∷◌, ◌++◌, Option, Some, None}
use Rattle.bt_frame.specs.declared.limits.TheConstants.{LAST_MARK}
use Rattle.bt_frame.specs.declared.numbers.Mark.{Mark}
use Rattle.bt_net.specs.Network.{Net}
use Rattle.bt_air.specs.declared.message.Message.{Message}
use Rattle.bt_air.specs.declared.order.Status.{Status}
use Rattle.bt_air.specs.declared.sent.Aired.TheVariants as sends
use Rattle.bt_air.specs.declared.sent.Answer.TheVariants as answer
use Rattle.bt_air.specs.declared.sent.Place.TheVariants as place
use Rattle.bt_air.specs.declared.sent.Taken.{Taken}
use Rattle.bt_air.specs.declared.sent.Taken.TheVariants as taken
use Rattle.bt_machines.specs.Satellite.{State, new_at, status_of, step_of as take, ticked}
use Rattle.bt_site.specs.Sites.{satellite_says, satellite_with}
use Rattle.bt_timeline.specs.Air.{got_line, last_tick_line, over_line}
use Rattle.bt_words.specs.Lines.{frame_name}
use Rattle.bt_words.specs.declared.form.Form.TheVariants as form
use Rattle.bt_words.specs.Filled.{form_line}
use Rattle.bt_script.specs.BusSaid.{mark_line}
use Rattle.bt_script.specs.declared.heard.BusLine.TheVariants as bus
use Rattle.bt_station.specs.declared.asked.Asked.{Asked}
use Rattle.bt_station.specs.declared.asked.Asked.TheVariants as asked
use Rattle.bt_station.specs.Lines.{mode_lines, radio_line, radio_lines}

-- the satellite, and how many frames of its superframe it has shown
pub record SatelliteAt : Type 0 where
  pub site : State
  pub shown : ℕ

-- the satellite before its first command, in a superframe
abbrev pub satellite_in : Mark → SatelliteAt
satellite_in mark = record { site = new_at mark; shown = 0 }

-- once its next superframe has begun; none begins after the last
abbrev pub having_ticked : SatelliteAt → SatelliteAt
having_ticked s = if nat_lt s.site.mark.0 LAST_MARK then record { site = ticked s.site; shown = 0 } else s

-- once a message came, if it was one
abbrev pub having_heard : SatelliteAt → Option Message → SatelliteAt
having_heard s None = s
having_heard s (Some message) = record { site = satellite_with s.site (Some message); shown = s.shown }

-- once its next frame was shown; there are so many in a superframe
abbrev pub having_shown : Net → SatelliteAt → SatelliteAt
having_shown net s = if nat_lt s.shown net.frames then record { site = s.site; shown = s.shown + 1 } else s

-- once it was asked this
abbrev pub satellite_after : Net → SatelliteAt → Asked → SatelliteAt
satellite_after net s asked.Tick = having_ticked s
satellite_after net s (asked.Heard (bus.Radio stamp message)) = having_heard s message
satellite_after net s asked.Frame = having_shown net s
satellite_after net s _ = s

-- the line of what it did with a message that line `at` brought; nothing where that is not for it
abbrev pub taken_line : Net → ℕ → Taken → List ℕ
taken_line net at taken.NotForMe = []
taken_line net at one = got_line net at place.Satellite (answer.Taken one)

-- what it says to a message: what it did with it, and its new status, where it carried it out
abbrev pub heard_by_satellite : Net → ℕ → State → Option Message → List ℕ
heard_by_satellite net at s None = []
heard_by_satellite net at s (Some message) = taken_line net at (take s message).0 ++ radio_lines s.mark (satellite_says s (Some message))

-- its superframe begins, and its status in it
abbrev pub begun_lines : Status → List ℕ
begun_lines status = mark_line status.mark ++ radio_line status.mark (sends.Status status)

-- its next superframe begins; none begins after the last
abbrev pub tick_lines : State → List ℕ
tick_lines s = if nat_lt s.mark.0 LAST_MARK then begun_lines (status_of (ticked s)) else last_tick_line

-- the next frame of its superframe, with the edition in front and its modes; once all were shown, that they are over
abbrev pub frame_lines : Net → SatelliteAt → List ℕ
frame_lines net s =
    if nat_lt s.shown net.frames then form_line form.Frame (frame_name s.site.mark s.shown ∷ decimal s.site.fore.edition.0 ∷ []) ++ mode_lines s.site.fore.modes
    else over_line s.site.mark

-- what it says to what line `at` asks
abbrev pub satellite_answer : Net → ℕ → SatelliteAt → Asked → List ℕ
satellite_answer net at s asked.Tick = tick_lines s.site
satellite_answer net at s (asked.Heard (bus.Radio stamp message)) = heard_by_satellite net at s.site message
satellite_answer net at s asked.Frame = frame_lines net s
satellite_answer net at s _ = []

-- A station: the satellite, a terminal or the standby, at work. What it is once a line came, and what it says to it.
use Rattle.std.specs.Prelude.{ℕ, List, [], Option, Some, None, option_and_then}
use Rattle.bt_net.specs.Network.{Net}
use Rattle.bt_station.specs.declared.asked.Asked.{Asked}
use Rattle.bt_station.specs.declared.station.Station.{Station}
use Rattle.bt_station.specs.declared.station.Station.TheVariants as station
use Rattle.bt_station.specs.Asked.{asked_of}
use Rattle.bt_station.specs.Lines.{fault_line}
use Rattle.bt_station.specs.Satellite.{satellite_after, satellite_answer}
use Rattle.bt_station.specs.Standby.{standby_after, standby_answer}
use Rattle.bt_station.specs.Terminal.{start_lines, terminal_after, terminal_answer}

-- what it says at its start
abbrev pub opening_of : Station → List ℕ
opening_of (station.Satellite s) = []
opening_of (station.Terminal s) = start_lines s.site.number
opening_of (station.Standby s) = []

-- once it was asked this
abbrev pub asked_after : Net → Station → Asked → Station
asked_after net (station.Satellite s) asked = station.Satellite (satellite_after net s asked)
asked_after net (station.Terminal s) asked = station.Terminal (terminal_after s asked)
asked_after net (station.Standby s) asked = station.Standby (standby_after s asked)

-- what it says to what line `at` asks
abbrev pub asked_answer : Net → ℕ → Station → Asked → List ℕ
asked_answer net at (station.Satellite s) asked = satellite_answer net at s asked
asked_answer net at (station.Terminal s) asked = terminal_answer net at s asked
asked_answer net at (station.Standby s) asked = standby_answer at s asked

-- what a line asks that came, if it is one and of the grammar
abbrev pub came : Net → Option (List ℕ) → Option Asked
came net line = option_and_then (asked_of net) line

-- the same where the line asks nothing that is of the grammar: then nothing changes, and that is its answer
abbrev pub after_asked : Net → Station → Option Asked → Station
after_asked net s None = s
after_asked net s (Some asked) = asked_after net s asked

abbrev pub answer_asked : Net → ℕ → Station → Option Asked → List ℕ
answer_asked net at s None = fault_line at
answer_asked net at s (Some asked) = asked_answer net at s asked

-- once a line came, or what is none
abbrev pub after : Net → Station → Option (List ℕ) → Station
after net s line = after_asked net s (came net line)

-- what it says to line `at`
abbrev pub answer : Net → ℕ → Station → Option (List ℕ) → List ℕ
answer net at s line = answer_asked net at s (came net line)

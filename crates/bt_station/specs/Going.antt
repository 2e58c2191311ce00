-- How far a station has come with its lines. All of it is for bodies alone.
use Rattle.std.specs.Prelude.{◌≡◌, ℕ, ◌+◌, ◌++◌, List, length, Option, Some, None}
use Rattle.bt_net.specs.Network.{Net}
use Rattle.bt_outside.specs.Told.{gained}
use Rattle.bt_outside.specs.Input.{given_by}
use Rattle.bt_outside.specs.Talk.{Shown, Turn, took}
use Rattle.bt_frame.specs.declared.limits.TheConstants.{MOST_STATION_LINE_BYTES}
use Rattle.bt_station.specs.declared.station.Station.{Station}
use Rattle.bt_station.specs.declared.talk.InputEnd.{InputEnd}
use Rattle.bt_station.specs.Talked.{Talked, Took, spoken}
use Rattle.bt_station.specs.Turns.{StopsHearing, after_all, turns_of}

-- an input gave these between two moments
abbrev pub GaveSince : Option (List ℕ) → Option (List ℕ) → List (Option (List ℕ)) → Type 0
GaveSince (Some bytes) (Some rest) lines = given_by MOST_STATION_LINE_BYTES bytes ≡ lines ++ given_by MOST_STATION_LINE_BYTES rest
GaveSince (Some bytes) None lines = ⊥
GaveSince None (Some rest) lines = ⊥
GaveSince None None lines = Unit {0}

-- a station before its line `at`
pub record IsGoing (net : Net) (shown : Shown) (start : Station) (at : ℕ) (s : Station) (coming now before after : Option (List ℕ)) (turns_before turns_after : Option (List Turn)) : Type 0 where
  pub lines : List (Option (List ℕ))
  pub count : length lines + 1 ≡ at
  pub state : s ≡ after_all net start lines
  pub gave : GaveSince coming now lines
  pub wrote : after ≡ gained before (spoken (turns_of net shown start lines))
  pub turn : turns_after ≡ took turns_before (turns_of net shown start lines)

-- a station whose input ended so
pub record HasHeard (net : Net) (talk : Talked) (s : Station) (end : InputEnd) : Type 0 where
  pub lines : List (Option (List ℕ))
  pub stops : StopsHearing talk lines end
  pub taken : Took talk (turns_of net talk.store s lines)

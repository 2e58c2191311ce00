-- What a station says: each line is answered before the next is heard, and nothing else is said.
use Rattle.std.specs.Prelude.{◌≡◌, ℕ, ◌+◌, ◌⊎◌, ◌++◌, List, [], ◌∷◌, length, Option, IfSome}
use Rattle.bt_net.specs.Network.{Net}
use Rattle.bt_outside.specs.Told.{Rose}
use Rattle.bt_outside.specs.Input.{given_by}
use Rattle.bt_outside.specs.Talk.{Shown, Turn, Heard, Said}
use Rattle.bt_report.specs.declared.status.TheConstants.{DONE, OUT_OF_MEMORY, READ_FAILED, WRITE_FAILED}
use Rattle.bt_station.specs.declared.station.Station.{Station}
use Rattle.bt_station.specs.declared.talk.InputEnd.{InputEnd}
use Rattle.bt_station.specs.declared.talk.InputEnd.TheVariants as ending
use Rattle.bt_frame.specs.declared.limits.TheConstants.{MOST_ANSWERS, MOST_STATION_LINE_BYTES}
use Rattle.bt_station.specs.Lines.{input_fault_line}
use Rattle.bt_station.specs.Station.{after, answer, opening_of}
use Rattle.bt_station.specs.Talked.{Talked, Took, TookPart}

-- the station once these lines came, the first first
abbrev pub after_all : Net → Station → List (Option (List ℕ)) → Station
after_all net s [] = s
after_all net s (line ∷ more) = after_all net (after net s line) more

-- the turns of lines, the first of which is line `at`: each is heard, and its answer is said before the next is heard
abbrev pub turns_from : Net → Shown → ℕ → Station → List (Option (List ℕ)) → List Turn
turns_from net shown at s [] = []
turns_from net shown at s (line ∷ more) = Heard line ∷ Said (answer net at s line) shown ∷ turns_from net shown (at + 1) (after net s line) more

-- the turns of a station that starts so: it says what it says at its start, and hears and answers these lines
abbrev pub turns_of : Net → Shown → Station → List (Option (List ℕ)) → List Turn
turns_of net shown s lines = Said (opening_of s) shown ∷ turns_from net shown 1 s lines

-- the turns at the end of its input: that the input failed is said
abbrev pub closing_turns : Shown → InputEnd → List Turn
closing_turns shown ending.Over = []
closing_turns shown ending.Failed = Said input_fault_line shown ∷ []

-- its status
abbrev pub input_status : InputEnd → ℕ
input_status ending.Over = DONE
input_status ending.Failed = READ_FAILED

-- these are the first lines that the input gives, where its bytes are told
abbrev pub WereGiven : Talked → List (Option (List ℕ)) → Type 0
WereGiven talk lines = IfSome talk.coming (λ bytes. (more : List (Option (List ℕ))) × (given_by MOST_STATION_LINE_BYTES bytes ≡ lines ++ more))

-- these are all that it gives
abbrev pub AllGiven : Talked → List (Option (List ℕ)) → Type 0
AllGiven talk lines = IfSome talk.coming (λ bytes. given_by MOST_STATION_LINE_BYTES bytes ≡ lines)

-- why no line was heard behind these: none was left, or as many were heard as are counted; or the input failed
abbrev pub StopsHearing : Talked → List (Option (List ℕ)) → InputEnd → Type 0
StopsHearing talk lines ending.Over = AllGiven talk lines ⊎ ((length lines + 1 ≡ MOST_ANSWERS) × WereGiven talk lines)
StopsHearing talk lines ending.Failed = Rose talk.unheard_before talk.unheard_after × WereGiven talk lines

-- the lines were answered up to the end of the input
pub record IsWhole (net : Net) (talk : Talked) (s : Station) (status : ℕ) : Type 0 where
  pub lines : List (Option (List ℕ))
  pub end : InputEnd
  pub stops : StopsHearing talk lines end
  pub taken : Took talk (turns_of net talk.store s lines ++ closing_turns talk.store end)
  pub status_is : status ≡ input_status end

-- a piece to say: the last of the turns of these lines, or that the input failed behind them
abbrev pub IsNext : Net → Talked → Station → List (Option (List ℕ)) → List Turn → List ℕ → Type 0
IsNext net talk s lines turns piece =
    (turns_of net talk.store s lines ≡ turns ++ Said piece talk.store ∷ [])
    ⊎ ((turns ≡ turns_of net talk.store s lines) × (piece ≡ input_fault_line) × Rose talk.unheard_before talk.unheard_after)

-- the output failed over a piece: all turns in front of it were taken, and no other
pub record IsUnsaid (net : Net) (talk : Talked) (s : Station) (status : ℕ) : Type 0 where
  pub lines : List (Option (List ℕ))
  pub given : WereGiven talk lines
  pub turns : List Turn
  pub piece : List ℕ
  pub next : IsNext net talk s lines turns piece
  pub taken : TookPart talk turns piece
  pub status_is : status ≡ WRITE_FAILED

-- memory ran out: the turns that were taken are the first of those of these lines
pub record BreaksOff (net : Net) (talk : Talked) (s : Station) (status : ℕ) : Type 0 where
  pub lines : List (Option (List ℕ))
  pub given : WereGiven talk lines
  pub turns : List Turn
  pub more : List Turn
  pub first : turns_of net talk.store s lines ≡ turns ++ more
  pub taken : Took talk turns
  pub status_is : status ≡ OUT_OF_MEMORY

-- how a station ends that starts so
abbrev pub StationEnds : Net → Talked → Station → ℕ → Type 0
StationEnds net talk s status = IsWhole net talk s status ⊎ IsUnsaid net talk s status ⊎ BreaksOff net talk s status

-- What terminals transmit in a superframe, each at a moment at which that is the present one for it.
use Rattle.std.specs.Prelude.{◌≡◌, ◌⊎◌, ℕ, ◌<◌, List, [], ◌++◌}
use Rattle.bt_frame.specs.declared.numbers.TermNo.{TermNo}
use Rattle.bt_sites.specs.Step.{Terminal}
use Rattle.bt_demand.specs.declared.burst.Burst.{Burst}
use Rattle.bt_machines.specs.Terminal.{transmitted}
use Rattle.bt_site.specs.Event.{Opening}
use Rattle.bt_sites.specs.Late.{now_of}
use Rattle.bt_sites.specs.Sites.{terminal_after}
use Rattle.bt_sites.specs.Stamps.{Act, known, steps_by}

-- a moment at which the satellite is in this superframe, with what was done up to it
pub record IsOnBoard (o : Opening) (acts : List Act) (mark : ℕ) (done : List Act) : Type 0 where
  pub later : List Act
  pub is : later ++ done ≡ acts
  pub now : now_of o (steps_by o done) ≡ mark

-- a terminal transmits this in a superframe: what it does at a moment at which it knows that superframe
pub record SendsIn (o : Opening) (acts : List Act) (mark : ℕ) (number : TermNo) (bursts : List Burst) : Type 0 where
  pub done : List Act
  pub later : List Act
  pub is : later ++ done ≡ acts
  pub knows : known (Terminal number) done ≡ mark
  pub some : 0 < mark
  pub sends : bursts ≡ transmitted (terminal_after number (steps_by o done)) (record { 0 = mark })

-- each terminal transmits so, or nothing
abbrev pub AreSentIn : Opening → List Act → ℕ → (TermNo → List Burst) → Type 0
AreSentIn o acts mark sends = (number : TermNo) → (sends number ≡ []) ⊎ SendsIn o acts mark number (sends number)

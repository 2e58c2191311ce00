-- A talk over a store: what was heard and what was said, in order, and what the store told when a piece was said.
use Rattle.std.specs.Prelude.{ℕ, List, [], ◌∷◌, ◌++◌, Option, Some, None}
use Rattle.bt_outside.specs.declared.source.Incoming.{Incoming}
use Rattle.bt_outside.specs.Crash.{Crashes}
use Rattle.bt_outside.specs.Input.{said_by}

-- what a store tells at a moment: its bytes, how often it failed, and what a crash may leave
pub record Shown : Type 0 where
  pub told : Option (List ℕ)
  pub faults : ℕ
  pub crashes : Option Crashes

-- a turn: a line that came, or None where what came is no line; or a piece that was written whole, and what the store told then
pub data Turn : Type 0 where
  Heard : Option (List ℕ) → Turn
  Said : List ℕ → Shown → Turn

-- the turns of a talk once these were taken, where they are told
abbrev pub took : Option (List Turn) → List Turn → Option (List Turn)
took None more = None
took (Some turns) more = Some (turns ++ more)

-- the turn that something came; none is taken at the end of the input
abbrev pub heard : Option Incoming → List Turn
heard (Some came) = Heard (said_by came) ∷ []
heard None = []

-- the turn that a piece was written
abbrev pub said : List ℕ → Shown → List Turn
said piece shown = Said piece shown ∷ []

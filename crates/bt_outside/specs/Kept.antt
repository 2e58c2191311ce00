-- A turn, as it is kept.
use Rattle.std.specs.Prelude.{ℕ, List, [], ◌∷◌, Some, None}
use Rattle.bt_outside.specs.declared.kept.KeptTurn.{KeptTurn}
use Rattle.bt_outside.specs.declared.kept.KeptTurn.TheVariants as kept
use Rattle.bt_outside.specs.Talk.{Shown, Turn, Heard, Said}

-- what the one store of a trace showed
abbrev pub shown_by : {K : Type 0} → (K → Shown) → List (Unit {0} × K) → Shown
shown_by shown [] = record { told = None; faults = 0; crashes = None }
shown_by shown (one ∷ _) = shown one.1

-- the turn that is kept so, where stores show this
abbrev pub turn_of : {K : Type 0} → (K → Shown) → KeptTurn K → Turn
turn_of shown (kept.Heard (Some line)) = Heard (Some line.items)
turn_of shown (kept.Heard None) = Heard None
turn_of shown (kept.Said piece store) = Said piece.items (shown_by shown store)

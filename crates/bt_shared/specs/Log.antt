-- The rule of the log, and what its step tells.
use Rattle.std.specs.Prelude.{◌≡◌, ℕ, ◌==◌, true, List, [], ◌∷◌, ◌++◌, MatchBool}
use Rattle.logbook.specs.Pages.{Cell, Step, View, Book, Named}
use Rattle.bt_demand.specs.declared.plan.Plan.{Plan}
use Rattle.bt_shared.specs.Plans.{next_edition, Ascends}

-- the first word is the least edition that may follow. The table of a log has two words, and the second stays at 0
pub record IsKept (cells : List Cell) (log : List Plan) : Type 0 where
  pub words : cells ≡ (next_edition log, true) ∷ (0, true) ∷ []
  pub ascends : Ascends log

-- the first word of a log, as the calls on it name it
abbrev pub head_of : Book → Named
head_of b = record { tracked = true; key = 0; book = b }

-- where the word was the one that was expected, the plan was added to all that had been seen, and editions ascend
abbrev pub Adds : Step Plan → View Plan ℕ → ℕ → View Plan ℕ → Type 0
Adds s v found w = MatchBool (found == s.old) ((w.0 ≡ v.0 ++ s.ask ∷ []) × Ascends w.0) (Unit {0})

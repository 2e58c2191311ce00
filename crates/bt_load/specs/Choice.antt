-- Which reports may stand for one another.
use Rattle.std.specs.Prelude.{◌≡◌, ◌⊎◌}
use Rattle.bt_report.specs.declared.status.TheConstants.{DONE}
use Rattle.bt_report.specs.Outcome.{Outcome}

-- one report is right; or any of those of work that was done
pub data Choice : Type 0 where
  Exactly : Choice
  AnyGood : Choice

-- two reports are one
abbrev pub AreAlike : Choice → Outcome → Outcome → Type 0
AreAlike Exactly a b = a ≡ b
AreAlike AnyGood a b = (a.status ≡ b.status) × ((a.status ≡ DONE) ⊎ (a ≡ b))

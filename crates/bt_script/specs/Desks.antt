-- The desks of a round.
use Rattle.std.specs.Prelude.{ℕ, ◌<◌, length, List, All, AllPairs}
use Rattle.bt_frame.specs.declared.limits.TheConstants.{MOST_DESKS}
use Rattle.bt_frame.specs.Range.{IsWithin}

-- desks with their lines: they ascend, are numbered from 1 to the most desks, and have a line at least
pub record AreDesks {Line : Type 0} (desks : List (ℕ × List Line)) : Type 0 where
  pub ascend : AllPairs (λ (a b : ℕ × List Line). a.0 < b.0) desks
  pub numbered : All (λ (desk : ℕ × List Line). IsWithin 1 MOST_DESKS desk.0) desks
  pub have_lines : All (λ (desk : ℕ × List Line). 0 < length desk.1) desks

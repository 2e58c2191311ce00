-- What programs that play cases count.
use Rattle.std.specs.Prelude.{ℕ}

-- how many cases were played, and how many of them got another answer than the one that stands below them
pub record Tallied : Type 0 where
  pub cases : ℕ
  pub others : ℕ

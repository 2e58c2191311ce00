-- A text that only grew.
use Rattle.std.specs.Prelude.{◌≡◌, ℕ, ◌++◌, List}

-- the second text is the first with more behind it, maybe nothing
abbrev pub Extends : List ℕ → List ℕ → Type 0
Extends before after = (more : List ℕ) × (after ≡ before ++ more)

-- A clock: what it tells.
use Rattle.std.specs.Prelude.{◌≡◌, ℕ, List, [], ◌∷◌, Option, Some, None}

-- It told this, where these were still to be told, in order, and are so behind it. Behind the last it tells nothing more.
abbrev pub Ticks : Option (List (List ℕ)) → List ℕ → Option (List (List ℕ)) → Type 0
Ticks (Some (first ∷ rest)) told after = (told ≡ first) × (after ≡ Some rest)
Ticks (Some []) told after = (told ≡ []) × (after ≡ Some [])
Ticks None told after = after ≡ None

-- it was asked, and told this, or was not asked
abbrev pub TicksIf : Option (List (List ℕ)) → Option (List ℕ) → Option (List (List ℕ)) → Type 0
TicksIf before None after = after ≡ before
TicksIf before (Some told) after = Ticks before told after

-- it told these, one after the other
abbrev pub TicksAll : Option (List (List ℕ)) → List (List ℕ) → Option (List (List ℕ)) → Type 0
TicksAll before [] after = after ≡ before
TicksAll before (first ∷ told) after = (between : Option (List (List ℕ))) × Ticks before first between × TicksAll between told after

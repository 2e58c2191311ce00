-- A row of three fields. It is for bodies alone.
use Rattle.std.specs.Prelude.{ℕ, List, [], ◌∷◌, Option, Some, None}

-- the fields, where there are three
abbrev pub three_of : List (List ℕ) → Option (List (List ℕ))
three_of (from ∷ to ∷ units ∷ []) = Some (from ∷ to ∷ units ∷ [])
three_of _ = None

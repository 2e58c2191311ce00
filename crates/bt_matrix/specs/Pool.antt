-- Where a node comes from.
use Rattle.std.specs.Prelude.{◌≡◌, ℕ, ◌+◌, ◌⊎◌, List, [], ◌∷◌, ◌++◌, length}
use Rattle.bt_matrix.specs.declared.node.Node.{Node}

-- the last of the free list, and then the list of nodes did not grow
pub record IsPopped (old new : List Node) (free free' : List ℕ) (k : ℕ) : Type 0 where
  pub popped : free ≡ free' ++ k ∷ []
  pub same : length new ≡ length old

-- the end of the nodes, where the free list was empty
pub record IsGrown (old new : List Node) (free free' : List ℕ) (k : ℕ) : Type 0 where
  pub empty : free ≡ []
  pub still : free' ≡ []
  pub last : k ≡ length old
  pub grown : length new ≡ length old + 1

abbrev pub CameFrom : List Node → List Node → List ℕ → List ℕ → ℕ → Type 0
CameFrom old new free free' k = IsPopped old new free free' k ⊎ IsGrown old new free free' k

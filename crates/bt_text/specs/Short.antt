-- What is written into a short text, and what a write leaves.
use Rattle.std.specs.Prelude.{◌≡◌, ℕ, ◌+◌, Bool, if◌then◌else◌, List, ◌∷◌, ◌++◌, length, take}

-- the bytes of a buffer have a piece from one place on, up to another, and are in front of it as they were
pub record Placed (old new : List ℕ) (at : ℕ) (piece : List ℕ) (end : ℕ) : Type 0 where
  pub bytes : take end new ≡ take at old ++ piece
  pub moved : end ≡ at + length piece
  pub len : length new ≡ length old

-- a word of a line: a further one has a space in front
abbrev pub one_word : Bool → List ℕ → List ℕ
one_word is_further word = if is_further then 32 ∷ word else word

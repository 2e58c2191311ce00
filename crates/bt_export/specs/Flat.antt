-- A value that is written exactly. It is for bodies alone.
use Rattle.std.specs.Prelude.{◌≡◌, ◌≤◌, false}
use Rattle.serde_json.specs.Data.{Data, depth}
use Rattle.serde_json.specs.Read.{max_depth}
use Rattle.serde_json.specs.Written.{has_float}

-- no number of it is a float, and it is no deeper than what is read
pub record IsFlat (value : Data) : Type 0 where
  pub exact : has_float value ≡ false
  pub shallow : depth value ≤ max_depth

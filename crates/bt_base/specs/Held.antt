-- What files, a sink and a store in memory are seen as.
use Rattle.std.specs.Prelude.{ℕ, if◌then◌else◌, List, [], ◌∷◌, map, Option, Some, None, bytes_eq, Vec, String, string_bytes}
use Rattle.std.specs.declared.alloc.Global.{Global}
use Rattle.bt_base.specs.Calls.{Calls}

-- files in memory: a name and contents each, and the calls on them
pub record HeldFiles : Type 0 where
  pub files : List (List ℕ × List ℕ)
  pub calls : Calls

-- the bytes that a sink or a store in memory holds, and the calls on it
pub record HeldBytes : Type 0 where
  pub bytes : List ℕ
  pub calls : Calls

-- the bytes of each name and each contents
abbrev pub named : List (String Global × Vec ℕ Global) → List (List ℕ × List ℕ)
named files = map (λ file. (string_bytes file.0, file.1.items)) files

-- the contents of the first file of that name; none where the file is missing
abbrev pub contents_of : List (List ℕ × List ℕ) → List ℕ → Option (List ℕ)
contents_of [] name = None
contents_of (file ∷ rest) name = if bytes_eq file.0 name then Some file.1 else contents_of rest name

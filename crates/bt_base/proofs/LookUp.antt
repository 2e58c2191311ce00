-- Files in memory, looked up by name.
use Rattle.std.proofs.Common.{◌≡◌, ℕ, cond, List, [], ◌∷◌, Some, refl, true, false, Vec, String, string_bytes}
use Rattle.std.specs.Prelude.{bytes_eq, option_map, find}
use Rattle.std.specs.declared.alloc.Global.{Global}
use Rattle.bt_base.specs.Held.{named, contents_of}

-- what a name has is what lies in the first file of that name
pub contents_of_named : (files : List (String Global × Vec ℕ Global)) (name : List ℕ) → contents_of (named files) name ≡ option_map (λ file. file.1.items) (find (λ file. bytes_eq (string_bytes file.0) name) files)
contents_of_named [] name = refl
contents_of_named (file ∷ rest) name =
    elim (bytes_eq (string_bytes file.0) name) as (λ b. cond b (Some file.1.items) (contents_of (named rest) name) ≡ option_map (λ file. file.1.items) (cond b (Some file) (find (λ file. bytes_eq (string_bytes file.0) name) rest))) [ true ↦ refl | false ↦ contents_of_named rest name ]

-- What a value of JSON has, and which value bytes have.
use Rattle.std.proofs.Common.{◌≡◌, ℕ, true, false, cond, List, [], ◌∷◌, map, Some, None, refl, ap}
use Rattle.std.specs.Str.{IsUtf8, is_utf8}
use Rattle.std.proofs.lemmas.Str.{IsUtf8-from_is_utf8, is_utf8-from_IsUtf8}
use Rattle.serde_json.specs.Data.{Data}
use Rattle.serde_json.specs.Read as json
use Rattle.serde_json.specs.View.{view, items_of, items_view}
use Rattle.serde_json.specs.declared.value.Value.{Value}
use Rattle.bt_net.specs.Reading.{entries_of, json_of}

entries_of-items_of : (entries : List Data) → entries_of (items_of entries) ≡ entries
entries_of-items_of [] = refl
entries_of-items_of (entry ∷ entries) = ap (λ rest. entry ∷ rest) (entries_of-items_of entries)

pub entries_of-items_view : (values : List Value) → entries_of (items_view values) ≡ map view values
entries_of-items_view values = entries_of-items_of (map view values)

pub json_found : (bytes : List ℕ) (value : Data) → IsUtf8 bytes → json.read bytes ≡ Some value → json_of bytes ≡ Some value
unfolding json_of
json_found bytes value utf8 is = rw (is_utf8-from_IsUtf8 bytes utf8) is

pub json_none : (bytes : List ℕ) → (IsUtf8 bytes → json.read bytes ≡ None) → json_of bytes ≡ None
unfolding json_of
json_none bytes none =
    elim (is_utf8 bytes) as (λ b. is_utf8 bytes ≡ b → cond b (json.read bytes) None ≡ None) [
      | true ↦ λ is. none (IsUtf8-from_is_utf8 bytes is)
      | false ↦ λ is. refl
    ] refl

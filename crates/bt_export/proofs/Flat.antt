-- Objects of numbers and texts are written exactly.
use Rattle.std.proofs.Common.{◌≡◌, ℕ, ◌≤◌, ◌||◌, Bool, true, false, cond, codes, List, [], ◌∷◌, Ordering, Less, Equal, Greater, Option, Some, None, refl, sym, subst, arith}
use Rattle.std.specs.Ordering.{match_ordering, nat_cmp}
use Rattle.std.specs.Cmp.Lexicographic.{slice_cmp}
use Rattle.std.specs.Str.{is_utf8}
use Rattle.serde_json.specs.Data.{Data, Members, depth, member, members_depth, no_members, number, object, put, string, unsigned}
use Rattle.serde_json.specs.Written.{has_float, members_have_float}
use Rattle.bt_text.specs.Text.{number_of_digits, words}
use Rattle.bt_words.specs.Forms.{Part}
use Rattle.bt_export.specs.Flat.{IsFlat}
use Rattle.bt_export.specs.Object.{form_member, form_object, number_or_text, open_words, text_object, value_of, with_field, with_fields}
use Rattle.bt_export.proofs.Back.{field_put, fields_step, object_made, text_made}

-- members of numbers and texts
record AreFlat (members : Members) : Type 0 where
  exact : members_have_float members ≡ false
  shallow : members_depth members ≤ 0

record IsLeaf (value : Data) : Type 0 where
  whole : has_float value ≡ false
  leaf : depth value ≤ 0

both : (a b : Bool) → a ≡ false → b ≡ false → (a || b) ≡ false
both true b first second = absurd cc
both false b first second = second

either : (a b : Bool) → (a || b) ≡ false → (a ≡ false) × (b ≡ false)
either true b none = absurd cc
either false b none = (refl, none)

in_front : (name : List ℕ) (value : Data) (members : Members) → IsLeaf value → AreFlat members → AreFlat (member name value members)
in_front name value members is are = record { exact = both (has_float value) (members_have_float members) is.whole are.exact; shallow = omega (arith, is.leaf, are.shallow) }

first_of : (name : List ℕ) (value : Data) (members : Members) → AreFlat (member name value members) → IsLeaf value
first_of name value members are = record { whole = (either (has_float value) (members_have_float members) are.exact).0; leaf = omega (arith, are.shallow) }

rest_of : (name : List ℕ) (value : Data) (members : Members) → AreFlat (member name value members) → AreFlat members
rest_of name value members are = record { exact = (either (has_float value) (members_have_float members) are.exact).1; shallow = omega (arith, are.shallow) }

chosen : (o : Ordering) (a b c : Members) → AreFlat a → AreFlat b → AreFlat c → AreFlat (match_ordering o a b c)
chosen Less a b c x y z = x
chosen Equal a b c x y z = y
chosen Greater a b c x y z = z

put_flat : (name : List ℕ) (value : Data) (members : Members) → IsLeaf value → AreFlat members → AreFlat (put name value members)
put_flat name value no_members is are = in_front name value no_members is are
put_flat name value (member other held rest) is are =
    chosen (slice_cmp nat_cmp name other) (member name value (member other held rest)) (member other value rest) (member other held (put name value rest))
    (in_front name value (member other held rest) is are)
    (in_front other value rest is (rest_of other held rest are))
    (in_front other held (put name value rest) (first_of other held rest are) (put_flat name value rest is (rest_of other held rest are)))

text_leaf : (is : Bool) (word : List ℕ) (value : Data) → cond is (Some (string word)) None ≡ Some value → IsLeaf value
text_leaf true word value has = let same : string word ≡ value = cc in subst IsLeaf same (record { whole = refl; leaf = omega arith })
text_leaf false word value has = absurd cc

leaf : (word : List ℕ) (found : Option ℕ) (value : Data) → number_or_text word found ≡ Some value → IsLeaf value
leaf word None value has = text_leaf (is_utf8 word) word value has
leaf word (Some n) value has = let same : number (unsigned n) ≡ value = cc in subst IsLeaf same (record { whole = refl; leaf = omega arith })

fields_flat : (names ws : List (List ℕ)) (members after : Members) → AreFlat members → with_fields names ws members ≡ Some after → AreFlat after
fields_flat [] ws members after are has = let same : members ≡ after = cc in subst AreFlat same are
fields_flat (name ∷ names) [] members after are has = let same : members ≡ after = cc in subst AreFlat same are
fields_flat (name ∷ names) (word ∷ ws) members after are has =
    let (between, first, rest) = fields_step (with_field name word members) names ws after has in
    let (value, is, made) = field_put name word (value_of word) members between first in
    fields_flat names ws between after (subst AreFlat (sym made) (put_flat name value members (leaf word (number_of_digits 19 word) value is) are)) rest

object_flat : (members : Members) → AreFlat members → IsFlat (object members)
object_flat members are = record { exact = are.exact; shallow = omega (arith, are.shallow) }

pub form_flat : (places : List Part) (names : List (List ℕ)) (line : List ℕ) (value : Data) → form_object places names line ≡ Some value → IsFlat value
form_flat places names line value made =
    let (members, has, same) = object_made (with_fields names (open_words places (words line)) (form_member places names)) value made in
    subst IsFlat (sym same) (object_flat members (fields_flat names (open_words places (words line)) (form_member places names) members (record { exact = refl; shallow = omega arith }) has))

pub text_flat : (line : List ℕ) (value : Data) → text_object line ≡ Some value → IsFlat value
text_flat line value made = subst IsFlat (sym (text_made (is_utf8 line) line value made)) (object_flat (member (codes "text") (string line) no_members) (record { exact = refl; shallow = omega arith }))

-- The object of a line says that line.
use Rattle.std.proofs.Common.{◌≡◌, ℕ, ◌+◌, ◌==◌, ◌||◌, Bool, true, false, not, cond, codes, List, [], ◌∷◌, length, map, Option, Some, None, option_map, option_and_then, refl, sym, ap, ◌∙◌, arith}
use Rattle.std.specs.List.{list_all}
use Rattle.std.proofs.lemmas.Bool.{and_parts, leb-true}
use Rattle.std.proofs.lemmas.List.Sums.{sum_by-cons}
use Rattle.std.proofs.lemmas.List.Splits.{join_with_byte-slice_split}
use Rattle.std.proofs.lemmas.Slice.Eq.{bytes_eq-Decides}
use Rattle.std.specs.Str.{bytes_eq}
use Rattle.serde_json.specs.Data.{Data, Members, member, no_members, object, put, string}
use Rattle.serde_json.specs.Find.{get, get_member}
use Rattle.serde_json.proofs.Views.{get_member-put, get_member-put_other}
use Rattle.bt_text.specs.Text.{lacks, spaced, words}
use Rattle.bt_text.proofs.TextLines.{words-spaced}
use Rattle.bt_words.specs.Filled.{filled}
use Rattle.bt_words.specs.Forms as part
use Rattle.bt_words.specs.Forms.{Part, is_fixed, open_places}
use Rattle.bt_words.specs.Names.{are_apart, is_among}
use Rattle.std.specs.Str.{is_utf8}
use Rattle.bt_export.specs.Object.{form_member, form_object, text_object, form_words, marked, open_words, value_of, with_field, with_fields}
use Rattle.bt_export.specs.Said.{line_of_object, word_for, word_of, words_for}
use Rattle.bt_export.specs.Forms.{Fits, IsForm, is_plain_word, are_plain}
use Rattle.bt_export.proofs.Values.{value_says}

-- a name that is among no others differs from the first of them, and is among no further ones
not_either : (a b : Bool) → not (a || b) ≡ true → (a ≡ false) × (b ≡ false)
not_either true b is = absurd cc
not_either false true is = absurd cc
not_either false false is = (refl, refl)

other_name : (name first : List ℕ) → bytes_eq name first ≡ false → name ≡ first → ⊥
other_name name first other same = absurd (let is = (bytes_eq-Decides name first).1 same in cc)

-- what a field was put
pub field_put : (name word : List ℕ) (value : Option Data) (members after : Members) → option_map (λ v. put name v members) value ≡ Some after → (v : Data) × (value ≡ Some v) × (after ≡ put name v members)
field_put name word None members after is = absurd cc
field_put name word (Some v) members after is = (v, refl, cc)

-- fields under names one after the other
pub fields_step : (first : Option Members) (names words : List (List ℕ)) (after : Members) → option_and_then (with_fields names words) first ≡ Some after → (between : Members) × (first ≡ Some between) × (with_fields names words between ≡ Some after)
fields_step None names words after is = absurd cc
fields_step (Some between) names words after is = (between, refl, is)

-- other members stay
pub others_stay : (name : List ℕ) (names words : List (List ℕ)) (members after : Members) → not (is_among name names) ≡ true → with_fields names words members ≡ Some after → get_member name after ≡ get_member name members
others_stay name [] words members after apart is = let same : members ≡ after = cc in ap (get_member name) (sym same)
others_stay name (first ∷ names) [] members after apart is = let same : members ≡ after = cc in ap (get_member name) (sym same)
others_stay name (first ∷ names) (word ∷ words) members after apart is =
    let parts = not_either (bytes_eq name first) (is_among name names) apart in
    let (between, put_first, rest) = fields_step (with_field first word members) names words after is in
    let (value, has, put_is) = field_put first word (value_of word) members between put_first in
    others_stay name names words between after (ap not parts.1) rest
    ∙ ap (get_member name) put_is
    ∙ get_member-put_other name first value members (other_name name first parts.0)

-- the value of the first name
first_stays : (name word : List ℕ) (names words : List (List ℕ)) (members after : Members) → not (is_among name names) ≡ true → with_fields (name ∷ names) (word ∷ words) members ≡ Some after
    → (between : Members) × (option_and_then word_of (get_member name after) ≡ Some word) × (with_fields names words between ≡ Some after)
first_stays name word names words members after apart is =
    let (between, put_first, rest) = fields_step (with_field name word members) names words after is in
    let (value, has, put_is) = field_put name word (value_of word) members between put_first in
    let found : get_member name after ≡ Some value = others_stay name names words between after apart rest ∙ ap (get_member name) put_is ∙ get_member-put name value members in
    (between, ap (option_and_then word_of) found ∙ value_says word value has, rest)

-- a plain word stands for itself
plain_for : (value : Data) (word : List ℕ) → is_plain_word word ≡ true → word_for value word ≡ Some word
plain_for value [] plain = refl
plain_for value (first ∷ rest) plain = by (first == 58) plain
  where
    by : (b : Bool) → not b ≡ true → cond b (option_and_then word_of (get rest value)) (Some (first ∷ rest)) ≡ Some (first ∷ rest)
    by true is = absurd cc
    by false is = refl

with_more : (value : Data) (word one : List ℕ) (template rest : List (List ℕ)) → word_for value word ≡ Some one → words_for value template ≡ Some rest → words_for value (word ∷ template) ≡ Some (one ∷ rest)
with_more value word one template rest here behind = rw (here, behind) refl

-- the open places of a first place and of those behind it
abbrev share : Part → ℕ
share place = cond (not (is_fixed place)) 1 0

open_one : (place : Part) (places : List Part) → open_places (place ∷ places) ≡ share place + open_places places
open_one place places = sum_by-cons share place places

-- the words behind a first place
abbrev Says : List Part → List (List ℕ) → List (List ℕ) → Members → Type 0
Says places names ws after = (members : Members) → with_fields names (open_words places ws) members ≡ Some after → words_for (object after) (filled places (map marked names)) ≡ Some ws

open_says : (places : List Part) (name word : List ℕ) (names ws : List (List ℕ)) (members after : Members) → Says places names ws after → not (is_among name names) ≡ true
    → with_fields (name ∷ names) (word ∷ open_words places ws) members ≡ Some after → words_for (object after) (marked name ∷ filled places (map marked names)) ≡ Some (word ∷ ws)
open_says places name word names ws members after behind apart is =
    let (between, found, rest) = first_stays name word names (open_words places ws) members after apart is in
    with_more (object after) (marked name) word (filled places (map marked names)) ws found (behind between rest)

text_says : (text : List ℕ) (places : List Part) (word : List ℕ) (names ws : List (List ℕ)) (members after : Members) → Says places names ws after → word ≡ text → is_plain_word text ≡ true
    → with_fields names (open_words places ws) members ≡ Some after → words_for (object after) (text ∷ filled places (map marked names)) ≡ Some (word ∷ ws)
text_says text places word names ws members after behind same plain is =
    with_more (object after) text word (filled places (map marked names)) ws (plain_for (object after) text plain ∙ ap (λ (w : List ℕ). Some w) (sym same)) (behind members is)

-- the words of the form, with the values in the places of the names
filled_says : (places : List Part) (names ws : List (List ℕ)) (after : Members) → Fits places ws → length names ≡ open_places places → are_apart names ≡ true → are_plain places ≡ true → Says places names ws after
filled_says [] names [] after fits count apart plain members is = refl
filled_says [] names (word ∷ ws) after fits count apart plain members is = absurd fits
filled_says (part.Text text ∷ places) names [] after fits count apart plain members is = absurd fits
filled_says (part.Text text ∷ places) names (word ∷ ws) after fits count apart plain members is =
    let parts = and_parts (is_plain_word text) (are_plain places) plain in
    text_says text places word names ws members after (filled_says places names ws after fits.1 (omega (arith, count, open_one (part.Text text) places)) apart parts.1) fits.0 parts.0 is
filled_says (part.Number ∷ places) names [] after fits count apart plain members is = absurd fits
filled_says (part.Number ∷ places) [] (word ∷ ws) after fits count apart plain members is = absurd (omega (arith, count, open_one part.Number places))
filled_says (part.Number ∷ places) (name ∷ names) (word ∷ ws) after fits count apart plain members is =
    let parts = and_parts (not (is_among name names)) (are_apart names) apart in
    open_says places name word names ws members after (filled_says places names ws after fits (omega (arith, count, open_one part.Number places)) parts.1 plain) parts.0 is
filled_says (part.Count ∷ places) names [] after fits count apart plain members is = absurd fits
filled_says (part.Count ∷ places) [] (word ∷ ws) after fits count apart plain members is = absurd (omega (arith, count, open_one part.Count places))
filled_says (part.Count ∷ places) (name ∷ names) (word ∷ ws) after fits count apart plain members is =
    let parts = and_parts (not (is_among name names)) (are_apart names) apart in
    open_says places name word names ws members after (filled_says places names ws after fits (omega (arith, count, open_one part.Count places)) parts.1 plain) parts.0 is
filled_says (part.Desk ∷ places) names [] after fits count apart plain members is = absurd fits
filled_says (part.Desk ∷ places) [] (word ∷ ws) after fits count apart plain members is = absurd (omega (arith, count, open_one part.Desk places))
filled_says (part.Desk ∷ places) (name ∷ names) (word ∷ ws) after fits count apart plain members is =
    let parts = and_parts (not (is_among name names)) (are_apart names) apart in
    open_says places name word names ws members after (filled_says places names ws after fits (omega (arith, count, open_one part.Desk places)) parts.1 plain) parts.0 is
filled_says (part.Frame ∷ places) names [] after fits count apart plain members is = absurd fits
filled_says (part.Frame ∷ places) [] (word ∷ ws) after fits count apart plain members is = absurd (omega (arith, count, open_one part.Frame places))
filled_says (part.Frame ∷ places) (name ∷ names) (word ∷ ws) after fits count apart plain members is =
    let parts = and_parts (not (is_among name names)) (are_apart names) apart in
    open_says places name word names ws members after (filled_says places names ws after fits (omega (arith, count, open_one part.Frame places)) parts.1 plain) parts.0 is
filled_says (part.Beam ∷ places) names [] after fits count apart plain members is = absurd fits
filled_says (part.Beam ∷ places) [] (word ∷ ws) after fits count apart plain members is = absurd (omega (arith, count, open_one part.Beam places))
filled_says (part.Beam ∷ places) (name ∷ names) (word ∷ ws) after fits count apart plain members is =
    let parts = and_parts (not (is_among name names)) (are_apart names) apart in
    open_says places name word names ws members after (filled_says places names ws after fits (omega (arith, count, open_one part.Beam places)) parts.1 plain) parts.0 is
filled_says (part.Terminal ∷ places) names [] after fits count apart plain members is = absurd fits
filled_says (part.Terminal ∷ places) [] (word ∷ ws) after fits count apart plain members is = absurd (omega (arith, count, open_one part.Terminal places))
filled_says (part.Terminal ∷ places) (name ∷ names) (word ∷ ws) after fits count apart plain members is =
    let parts = and_parts (not (is_among name names)) (are_apart names) apart in
    open_says places name word names ws members after (filled_says places names ws after fits (omega (arith, count, open_one part.Terminal places)) parts.1 plain) parts.0 is
filled_says (part.Taken ∷ places) names [] after fits count apart plain members is = absurd fits
filled_says (part.Taken ∷ places) [] (word ∷ ws) after fits count apart plain members is = absurd (omega (arith, count, open_one part.Taken places))
filled_says (part.Taken ∷ places) (name ∷ names) (word ∷ ws) after fits count apart plain members is =
    let parts = and_parts (not (is_among name names)) (are_apart names) apart in
    open_says places name word names ws members after (filled_says places names ws after fits (omega (arith, count, open_one part.Taken places)) parts.1 plain) parts.0 is
filled_says (part.Heard ∷ places) names [] after fits count apart plain members is = absurd fits
filled_says (part.Heard ∷ places) [] (word ∷ ws) after fits count apart plain members is = absurd (omega (arith, count, open_one part.Heard places))
filled_says (part.Heard ∷ places) (name ∷ names) (word ∷ ws) after fits count apart plain members is =
    let parts = and_parts (not (is_among name names)) (are_apart names) apart in
    open_says places name word names ws members after (filled_says places names ws after fits (omega (arith, count, open_one part.Heard places)) parts.1 plain) parts.0 is
filled_says (part.Tag ∷ places) names [] after fits count apart plain members is = absurd fits
filled_says (part.Tag ∷ places) [] (word ∷ ws) after fits count apart plain members is = absurd (omega (arith, count, open_one part.Tag places))
filled_says (part.Tag ∷ places) (name ∷ names) (word ∷ ws) after fits count apart plain members is =
    let parts = and_parts (not (is_among name names)) (are_apart names) apart in
    open_says places name word names ws members after (filled_says places names ws after fits (omega (arith, count, open_one part.Tag places)) parts.1 plain) parts.0 is
filled_says (part.Moment ∷ places) names [] after fits count apart plain members is = absurd fits
filled_says (part.Moment ∷ places) [] (word ∷ ws) after fits count apart plain members is = absurd (omega (arith, count, open_one part.Moment places))
filled_says (part.Moment ∷ places) (name ∷ names) (word ∷ ws) after fits count apart plain members is =
    let parts = and_parts (not (is_among name names)) (are_apart names) apart in
    open_says places name word names ws members after (filled_says places names ws after fits (omega (arith, count, open_one part.Moment places)) parts.1 plain) parts.0 is

-- the whole line
pub form_says : (places : List Part) (names : List (List ℕ)) (line : List ℕ) (after : Members) → IsForm places names → Fits places (words line)
    → with_fields names (open_words places (words line)) (form_member places names) ≡ Some after → line_of_object (object after) ≡ Some line
form_says places names line after is fits has =
    let ws = form_words places names in
    let apart = and_parts (not (is_among (codes "form") names)) (are_apart names) is.apart in
    let plain = and_parts (are_plain places) (list_all (lacks 32) ws) is.plain in
    let form : get_member (codes "form") after ≡ Some (string (spaced ws)) = others_stay (codes "form") names (open_words places (words line)) (form_member places names) after apart.0 has in
    let said : words_for (object after) ws ≡ Some (words line) = filled_says places names (words line) after fits is.count apart.1 plain.0 (form_member places names) has in
    rw form (rw (words-spaced ws (leb-true 1 (length ws) is.some) plain.1, said) (ap (λ (l : List ℕ). Some l) (join_with_byte-slice_split 32 line)))

pub object_made : (made : Option Members) (value : Data) → option_map object made ≡ Some value → (members : Members) × (made ≡ Some members) × (value ≡ object members)
object_made None value is = absurd cc
object_made (Some members) value is = (members, refl, cc)

pub of_form : (places : List Part) (names : List (List ℕ)) (line : List ℕ) (value : Data) → IsForm places names → Fits places (words line) → form_object places names line ≡ Some value → line_of_object value ≡ Some line
of_form places names line value is fits made =
    let (members, has, same) = object_made (with_fields names (open_words places (words line)) (form_member places names)) value made in
    rw same (form_says places names line members is fits has)

pub text_made : (is : Bool) (line : List ℕ) (value : Data) → option_map (λ text. object (member (codes "text") text no_members)) (cond is (Some (string line)) None) ≡ Some value → value ≡ object (member (codes "text") (string line) no_members)
text_made true line value made = cc
text_made false line value made = absurd cc

-- a text
pub of_text : (line : List ℕ) (value : Data) → text_object line ≡ Some value → line_of_object value ≡ Some line
of_text line value made = ap line_of_object (text_made (is_utf8 line) line value made)

-- Words that have the shape of a form fit its places.
use Rattle.std.proofs.Common.{◌≡◌, ℕ, ◌+◌, ◌<◌, ◌≤◌, ◌==◌, ◌&&◌, Bool, true, false, cond, List, [], ◌∷◌, length, get_or, drop, Option, Some, sym, ap, ◌∙◌, arith, ◌⊎◌, inl, inr, refl, subst}
use Rattle.std.proofs.lemmas.Bool.{and_parts}
use Rattle.std.proofs.lemmas.Bool.Decides.{nat_tests}
use Rattle.std.proofs.lemmas.Slice.Eq.{bytes_eq-Decides}
use Rattle.bt_words.specs.declared.form.Form.{Form}
use Rattle.bt_words.specs.declared.token.Token.{Token}
use Rattle.bt_words.specs.declared.token.Token.TheVariants as token
use Rattle.bt_words.specs.Forms as part
use Rattle.bt_words.specs.Forms.{Part, forms_from, part_of, parts_of}
use Rattle.bt_words.proofs.Places.{places_at, places_at-cons}
use Rattle.bt_export.specs.Forms.{Fits}
use Rattle.bt_export.proofs.Fields.{no_place}
use Rattle.bt_export.specs.Json.{are_at, first_of, form_of, is_at}

pub fit : (places : List Part) (ws : List (List ℕ)) → are_at places ws ≡ true → Fits places ws
fit [] [] are = tt
fit [] (word ∷ ws) are = absurd cc
fit (place ∷ places) [] are = absurd cc
fit (part.Text text ∷ places) (word ∷ ws) are =
    let parts = and_parts (is_at (part.Text text) word) (are_at places ws) are in
    ((bytes_eq-Decides word text).0 parts.0, fit places ws parts.1)
fit (part.Number ∷ places) (word ∷ ws) are = fit places ws (and_parts (is_at part.Number word) (are_at places ws) are).1
fit (part.Count ∷ places) (word ∷ ws) are = fit places ws (and_parts (is_at part.Count word) (are_at places ws) are).1
fit (part.Desk ∷ places) (word ∷ ws) are = fit places ws (and_parts (is_at part.Desk word) (are_at places ws) are).1
fit (part.Frame ∷ places) (word ∷ ws) are = fit places ws (and_parts (is_at part.Frame word) (are_at places ws) are).1
fit (part.Beam ∷ places) (word ∷ ws) are = fit places ws (and_parts (is_at part.Beam word) (are_at places ws) are).1
fit (part.Terminal ∷ places) (word ∷ ws) are = fit places ws (and_parts (is_at part.Terminal word) (are_at places ws) are).1
fit (part.Taken ∷ places) (word ∷ ws) are = fit places ws (and_parts (is_at part.Taken word) (are_at places ws) are).1
fit (part.Heard ∷ places) (word ∷ ws) are = fit places ws (and_parts (is_at part.Heard word) (are_at places ws) are).1
fit (part.Tag ∷ places) (word ∷ ws) are = fit places ws (and_parts (is_at part.Tag word) (are_at places ws) are).1
fit (part.Moment ∷ places) (word ∷ ws) are = fit places ws (and_parts (is_at part.Moment word) (are_at places ws) are).1

tested : (is : Bool) (form found : Form) (rest : Option Form) → cond is (Some form) rest ≡ Some found → ((is ≡ true) × (form ≡ found)) ⊎ (rest ≡ Some found)
tested true form found rest has = inl (refl, cc)
tested false form found rest has = inr has

settled : (form found : Form) (ws : List (List ℕ)) (rest : Option Form) → (rest ≡ Some found → are_at (parts_of found) ws ≡ true) → ((are_at (parts_of form) ws ≡ true) × (form ≡ found)) ⊎ (rest ≡ Some found)
    → are_at (parts_of found) ws ≡ true
settled form found ws rest behind (inl here) = subst (λ (f : Form). are_at (parts_of f) ws ≡ true) here.1 here.0
settled form found ws rest behind (inr is) = behind is

first_fits : (forms : List Form) (ws : List (List ℕ)) (found : Form) → first_of forms ws ≡ Some found → are_at (parts_of found) ws ≡ true
first_fits [] ws found has = absurd cc
first_fits (form ∷ forms) ws found has =
    settled form found ws (first_of forms ws) (λ is. first_fits forms ws found is) (tested (are_at (parts_of form) ws) form found (first_of forms ws) has)

pub form_fits : (ws : List (List ℕ)) (found : Form) → form_of ws ≡ Some found → Fits (parts_of found) ws
form_fits [] found has = absurd cc
form_fits (head ∷ rest) found has = fit (parts_of found) (head ∷ rest) (first_fits (forms_from head) (head ∷ rest) found has)

-- ---- the places one after the other, as a loop goes over them

none_long_enough : {A : Type 0} (x : A) (xs : List A) → (length (x ∷ xs) == 0) ≡ false
none_long_enough x xs = grind (arith, nat_tests)

none_left : (ws : List (List ℕ)) → are_at [] ws ≡ (length ws == 0)
none_left [] = refl
none_left (word ∷ ws) = sym (none_long_enough word ws)

pub at_end : (tokens : List Token) (at : ℕ) (ws : List (List ℕ)) → length tokens ≤ at → are_at (places_at tokens at) ws ≡ (length ws == 0)
at_end tokens at ws past = ap (λ (places : List Part). are_at places ws) (no_place tokens at past) ∙ none_left ws

pub at_none : (tokens : List Token) (at : ℕ) (ws : List (List ℕ)) → at < length tokens → ws ≡ [] → are_at (places_at tokens at) ws ≡ false
at_none tokens at ws within none =
    ap (λ (places : List Part). are_at places ws) (places_at-cons tokens at within) ∙ ap (λ (words : List (List ℕ)). are_at (part_of (get_or tokens at token.Number) ∷ places_at tokens (at + 1)) words) none

pub at_word : (tokens : List Token) (at : ℕ) (ws : List (List ℕ)) (word : List ℕ) → at < length tokens → ws ≡ word ∷ drop 1 ws
    → are_at (places_at tokens at) ws ≡ (is_at (part_of (get_or tokens at token.Number)) word && are_at (places_at tokens (at + 1)) (drop 1 ws))
at_word tokens at ws word within first =
    ap (λ (places : List Part). are_at places ws) (places_at-cons tokens at within) ∙ ap (λ (words : List (List ℕ)). are_at (part_of (get_or tokens at token.Number) ∷ places_at tokens (at + 1)) words) first

-- Each form of a traffic or a plan is a form, and a line that has it fits its places.
use Rattle.std.proofs.Common.{◌≡◌, ℕ, Bool, true, false, cond, List, [], ◌∷◌, Option, Some, ◌⊎◌, inl, inr, refl, subst}
use Rattle.bt_export.specs.declared.text_form.TextForm.{TextForm}
use Rattle.bt_export.specs.declared.text_form.TextForm.TheVariants as form
use Rattle.bt_export.specs.TextForms.{text_names, text_parts}
use Rattle.bt_export.specs.Forms.{Fits, IsForm}
use Rattle.bt_export.specs.Json.{are_at, first_text}
use Rattle.bt_export.proofs.Shapes.{fit}

pub is_text_form : (form : TextForm) → IsForm (text_parts form) (text_names form)
is_text_form form.Link = record { some = refl; count = refl; apart = refl; plain = refl }
is_text_form form.Plan = record { some = refl; count = refl; apart = refl; plain = refl }
is_text_form form.Length = record { some = refl; count = refl; apart = refl; plain = refl }
is_text_form form.CriticalRow = record { some = refl; count = refl; apart = refl; plain = refl }
is_text_form form.CriticalColumn = record { some = refl; count = refl; apart = refl; plain = refl }
is_text_form form.End = record { some = refl; count = refl; apart = refl; plain = refl }

tested : (is : Bool) (form found : TextForm) (rest : Option TextForm) → cond is (Some form) rest ≡ Some found → ((is ≡ true) × (form ≡ found)) ⊎ (rest ≡ Some found)
tested true form found rest has = inl (refl, cc)
tested false form found rest has = inr has

settled : (form found : TextForm) (ws : List (List ℕ)) (rest : Option TextForm) → (rest ≡ Some found → are_at (text_parts found) ws ≡ true) → ((are_at (text_parts form) ws ≡ true) × (form ≡ found)) ⊎ (rest ≡ Some found)
    → are_at (text_parts found) ws ≡ true
settled form found ws rest behind (inl here) = subst (λ (f : TextForm). are_at (text_parts f) ws ≡ true) here.1 here.0
settled form found ws rest behind (inr is) = behind is

first_at : (forms : List TextForm) (ws : List (List ℕ)) (found : TextForm) → first_text forms ws ≡ Some found → are_at (text_parts found) ws ≡ true
first_at [] ws found has = absurd cc
first_at (form ∷ forms) ws found has =
    settled form found ws (first_text forms ws) (λ is. first_at forms ws found is) (tested (are_at (text_parts form) ws) form found (first_text forms ws) has)

pub text_fits : (forms : List TextForm) (ws : List (List ℕ)) (found : TextForm) → first_text forms ws ≡ Some found → Fits (text_parts found) ws
text_fits forms ws found has = fit (text_parts found) ws (first_at forms ws found has)

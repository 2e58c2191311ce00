-- The object of a line, by its form or its text.
use Rattle.std.proofs.Common.{◌≡◌, ℕ, List, Option, Some, None, refl}
use Rattle.bt_text.specs.Text.{words}
use Rattle.serde_json.specs.Data.{Data}
use Rattle.bt_words.specs.declared.form.Form.{Form}
use Rattle.bt_words.specs.Forms.{parts_of}
use Rattle.bt_words.specs.Names.{names_of}
use Rattle.bt_export.specs.Flat.{IsFlat}
use Rattle.bt_export.specs.Json.{first_text, form_of, line_object, object_by, object_of_text}
use Rattle.bt_export.specs.Said.{line_of_object}
use Rattle.bt_export.specs.TextForms.{text_forms, text_names, text_parts}
use Rattle.bt_export.specs.declared.text_form.TextForm.{TextForm}
use Rattle.bt_export.proofs.Back.{of_form, of_text}
use Rattle.bt_export.proofs.EachForm.{is_form}
use Rattle.bt_export.proofs.Flat.{form_flat, text_flat}
use Rattle.bt_export.proofs.Shapes.{form_fits}
use Rattle.bt_export.proofs.TextLines.{is_text_form, text_fits}

says_text : (line : List ℕ) (form : Option TextForm) (value : Data) → first_text text_forms (words line) ≡ form → object_of_text form line ≡ Some value → line_of_object value ≡ Some line
says_text line (Some form) value is made = of_form (text_parts form) (text_names form) line value (is_text_form form) (text_fits text_forms (words line) form is) made
says_text line None value is made = of_text line value made

says_by : (line : List ℕ) (form : Option Form) (value : Data) → form_of (words line) ≡ form → object_by form line ≡ Some value → line_of_object value ≡ Some line
says_by line (Some form) value is made = of_form (parts_of form) (names_of form) line value (is_form form) (form_fits (words line) form is) made
says_by line None value is made = says_text line (first_text text_forms (words line)) value refl made

pub line_says : (line : List ℕ) (value : Data) → line_object line ≡ Some value → line_of_object value ≡ Some line
line_says line value made = says_by line (form_of (words line)) value refl made

flat_text : (line : List ℕ) (form : Option TextForm) (value : Data) → object_of_text form line ≡ Some value → IsFlat value
flat_text line (Some form) value made = form_flat (text_parts form) (text_names form) line value made
flat_text line None value made = text_flat line value made

flat_by : (line : List ℕ) (form : Option Form) (value : Data) → object_by form line ≡ Some value → IsFlat value
flat_by line (Some form) value made = form_flat (parts_of form) (names_of form) line value made
flat_by line None value made = flat_text line (first_text text_forms (words line)) value made

pub line_flat : (line : List ℕ) (value : Data) → line_object line ≡ Some value → IsFlat value
line_flat line value made = flat_by line (form_of (words line)) value made

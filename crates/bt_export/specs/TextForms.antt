-- The forms of the lines of a traffic and of a plan that no run prints. A mode of a plan has as many words as there are beams, and
-- none of these.
use Rattle.std.specs.Prelude.{ℕ, codes, List, [], ◌∷◌}
use Rattle.bt_words.specs.Forms as part
use Rattle.bt_words.specs.Forms.{Part}
use Rattle.bt_export.specs.declared.text_form.TextForm.{TextForm}
use Rattle.bt_export.specs.declared.text_form.TextForm.TheVariants as form

-- the places of a form, in order
abbrev pub text_parts : TextForm → List Part
text_parts form.Link = part.Text (codes "link") ∷ part.Terminal ∷ part.Terminal ∷ part.Number ∷ []
text_parts form.Plan = part.Text (codes "plan") ∷ part.Number ∷ []
text_parts form.Length = part.Text (codes "length") ∷ part.Number ∷ []
text_parts form.CriticalRow = part.Text (codes "critical") ∷ part.Text (codes "row") ∷ part.Number ∷ []
text_parts form.CriticalColumn = part.Text (codes "critical") ∷ part.Text (codes "column") ∷ part.Number ∷ []
text_parts form.End = part.Text (codes "end") ∷ []

-- what the open ones are called
abbrev pub text_names : TextForm → List (List ℕ)
text_names form.Link = codes "from" ∷ codes "to" ∷ codes "units" ∷ []
text_names form.Plan = codes "edition" ∷ []
text_names form.Length = codes "length" ∷ []
text_names form.CriticalRow = codes "beam" ∷ []
text_names form.CriticalColumn = codes "beam" ∷ []
text_names form.End = []

-- all of them
abbrev pub text_forms : List TextForm
text_forms = form.Link ∷ form.Plan ∷ form.Length ∷ form.CriticalRow ∷ form.CriticalColumn ∷ form.End ∷ []

-- The lines of a session that no script has.
use Rattle.std.specs.Prelude.{ℕ, if◌then◌else◌, ◌-◌, ◌++◌, List, [], ◌∷◌, decimal, length, Option, Some, None, option_map}
use Rattle.bt_script.specs.declared.fault.ScriptCode.{ScriptCode}
use Rattle.bt_script.specs.declared.fault.ScriptCode.TheVariants.{S1, S2, S3, S4, S5}
use Rattle.bt_text.specs.Text.{lines}
use Rattle.bt_words.specs.declared.form.Form.{Form}
use Rattle.bt_words.specs.declared.form.Form.TheVariants as form
use Rattle.bt_words.specs.Filled.{form_line}
use Rattle.bt_words.specs.Moments.{is_moment}
use Rattle.bt_talk.specs.declared.block.Step.{Step}
use Rattle.bt_talk.specs.declared.block.Step.TheVariants as step
use Rattle.bt_talk.specs.Blocks.{Open, own_of}
use Rattle.bt_talk.specs.Tags.{tag_from}

-- so many lines were heard, and the next may come
abbrev pub ready_line : ℕ → List ℕ
ready_line at = form_line form.Ready (decimal at ∷ [])

-- the form of the answer to a line that is at fault, by its code
abbrev pub form_of_fault : ScriptCode → Form
form_of_fault S1 = form.LineFaultS1
form_of_fault S2 = form.LineFaultS2
form_of_fault S3 = form.LineFaultS3
form_of_fault S4 = form.LineFaultS4
form_of_fault S5 = form.LineFaultS5

-- line `at` is at fault
abbrev pub fault_line : ScriptCode → ℕ → List ℕ
fault_line code at = form_line (form_of_fault code) (decimal at ∷ [])

-- the input failed
abbrev pub input_fault_line : List ℕ
input_fault_line = form_line form.InputFault []

-- so many lines follow that are told
abbrev pub lines_line : ℕ → List ℕ
lines_line count = form_line form.Lines (decimal count ∷ [])

-- what is told, with the number of its lines in front
abbrev pub counted : List ℕ → List ℕ
counted text = lines_line (length (lines text) - 1) ++ text

-- the same of a line with this tag, behind which the block of the tag is open with so many lines, or closed
abbrev pub untimed_ready : ℕ → List ℕ → Option ℕ → List ℕ
untimed_ready at [] None = ready_line at
untimed_ready at [] (Some count) = form_line form.ReadyOpen (decimal at ∷ decimal count ∷ [])
untimed_ready at tag None = form_line form.ReadyTag (decimal at ∷ tag ∷ [])
untimed_ready at tag (Some count) = form_line form.ReadyOpenTag (decimal at ∷ decimal count ∷ tag ∷ [])

-- the same at a moment
abbrev pub timed_ready : ℕ → List ℕ → Option ℕ → List ℕ → List ℕ
timed_ready at [] None moment = form_line form.ReadyAt (decimal at ∷ moment ∷ [])
timed_ready at [] (Some count) moment = form_line form.ReadyOpenAt (decimal at ∷ decimal count ∷ moment ∷ [])
timed_ready at tag None moment = form_line form.ReadyAtTag (decimal at ∷ moment ∷ tag ∷ [])
timed_ready at tag (Some count) moment = form_line form.ReadyOpenAtTag (decimal at ∷ decimal count ∷ moment ∷ tag ∷ [])

-- what a clock told, where it was asked: said, if it is a moment
abbrev pub ready_of : ℕ → List ℕ → Option ℕ → Option (List ℕ) → List ℕ
ready_of at tag lines None = untimed_ready at tag lines
ready_of at tag lines (Some told) = if is_moment told then timed_ready at tag lines told else untimed_ready at tag lines

-- how many lines wait in the block of this tag, where it is open
abbrev pub count_in : List ℕ → Open → Option ℕ
count_in tag blocks = option_map (λ said. length said) (own_of tag blocks)

-- that line `at` is at fault, where it is
abbrev pub fault_in : ℕ → Step → List ℕ
fault_in at (step.Fault code) = fault_line code at
fault_in at _ = []

-- what stands behind the text of what line `at` plays or is told, where it comes to this and a clock told this, if it was asked: its
-- fault, where it has one, and that the next may come
abbrev pub answer_of : ℕ → Option (List ℕ) → Open × Step → Option (List ℕ) → List ℕ
answer_of at came row told = fault_in at row.1 ++ ready_of at (tag_from came) (count_in (tag_from came) row.0) told

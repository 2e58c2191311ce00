-- What is printed by a form, as printed lines.
use Rattle.std.specs.Prelude.{ℕ, List, [], ◌∷◌, map, Option, Some, None}
use Rattle.bt_net.specs.Network.{Net}
use Rattle.bt_air.specs.declared.sent.Answer.{Answer}
use Rattle.bt_air.specs.declared.sent.Answer.TheVariants as answer
use Rattle.bt_air.specs.declared.sent.Heard.TheVariants as heard
use Rattle.bt_air.specs.declared.sent.Place.{Place}
use Rattle.bt_air.specs.declared.sent.Place.TheVariants.{Satellite, Centre, Terminal}
use Rattle.bt_air.specs.declared.sent.Taken.TheVariants as taken
use Rattle.bt_words.specs.declared.form.Form.{Form}
use Rattle.bt_words.specs.declared.form.Form.TheVariants as form
use Rattle.bt_words.specs.Filled.{form_line}
use Rattle.bt_run_lines.specs.declared.printed.Printed.{Printed}
use Rattle.bt_run_lines.specs.declared.printed.Value.{Value}
use Rattle.bt_run_lines.specs.declared.printed.Value.TheVariants as value
use Rattle.bt_run_lines.specs.Spelled.{word_of}

-- what is printed by the form of the line, with the words of its values
abbrev pub printed_line : Net → Printed → List ℕ
printed_line net printed = form_line printed.form (map (word_of net) printed.said)

-- a line of this form with these values
abbrev pub line : Form → List Value → Printed
line form values = record { form = form; said = values }

-- a line of this form whose values are these numbers
abbrev pub numbers : List ℕ → List Value
numbers [] = []
numbers (first ∷ rest) = value.Number first ∷ numbers rest

-- a delivery, where the answer is one that its receiver may give
abbrev pub got_printed : ℕ → Place → Answer → Option Printed
got_printed number Satellite (answer.Taken taken.NotForMe) = Some (line form.NotForSatellite (numbers (number ∷ [])))
got_printed number Satellite (answer.Taken taken) = Some (line form.GotSatellite (value.Number number ∷ value.Taken taken ∷ []))
got_printed number Centre answer.Noted = Some (line form.GotCentre (numbers (number ∷ [])))
got_printed number Centre answer.NotForMe = Some (line form.NotForCentre (numbers (number ∷ [])))
got_printed number (Terminal terminal) (answer.Heard heard.NotForMe) = Some (line form.NotForTerminal (value.Number number ∷ value.Terminal terminal ∷ []))
got_printed number (Terminal terminal) (answer.Heard heard) = Some (line form.GotTerminal (value.Number number ∷ value.Terminal terminal ∷ value.Heard heard ∷ []))
got_printed number place answer = None

-- What a run prints, as printed lines: both are by the same forms.
use Rattle.std.proofs.Common.{◌≡◌, ℕ, [], ◌∷◌, ◌++◌, IfSome, refl}
use Rattle.bt_net.specs.Network.{Net}
use Rattle.bt_air.specs.declared.sent.Answer.{Answer}
use Rattle.bt_air.specs.declared.sent.Answer.TheVariants as answer
use Rattle.bt_air.specs.declared.sent.Heard.TheVariants as heard
use Rattle.bt_air.specs.declared.sent.Place.{Place}
use Rattle.bt_air.specs.declared.sent.Place.TheVariants.{Satellite, Centre, Terminal}
use Rattle.bt_air.specs.declared.sent.Taken.TheVariants as taken
use Rattle.bt_words.specs.Forms.{parts_of}
use Rattle.bt_words.proofs.Places.{line_of-spaced}
use Rattle.bt_timeline.specs.Air.{got_line}
use Rattle.bt_run_lines.specs.declared.printed.Printed.{Printed}
use Rattle.bt_run_lines.specs.Spelled.{words_of, spelled}
use Rattle.bt_run_lines.specs.Printers.{printed_line, got_printed}

-- what is printed by a form is spelled by it, with a newline
pub by_form : (net : Net) (printed : Printed) → printed_line net printed ≡ spelled net printed ++ 10 ∷ []
by_form net printed = line_of-spaced (words_of net (parts_of printed.form) printed.said)

-- the forms of deliveries differ in what may stand at their places, and the words are the same
pub got_lines : (net : Net) (number : ℕ) (place : Place) (answer : Answer) → IfSome (got_printed number place answer) (λ printed. got_line net number place answer ≡ printed_line net printed)
got_lines net number Satellite (answer.Taken taken.NotForMe) = refl
got_lines net number Satellite (answer.Taken taken) = refl
got_lines net number Satellite _ = tt
got_lines net number Centre answer.Noted = refl
got_lines net number Centre answer.NotForMe = refl
got_lines net number Centre _ = tt
got_lines net number (Terminal terminal) (answer.Heard heard.NotForMe) = refl
got_lines net number (Terminal terminal) (answer.Heard heard) = refl
got_lines net number (Terminal terminal) _ = tt

-- A text that is printed lines.
use Rattle.std.specs.Prelude.{◌≡◌, ℕ, Bool, true, false, List, All, flat_map}
use Rattle.bt_net.specs.Network.{Net}
use Rattle.bt_words.specs.declared.form.Form.{Form}
use Rattle.bt_words.specs.declared.form.Form.TheVariants as form
use Rattle.bt_run_lines.specs.declared.printed.Printed.{Printed}
use Rattle.bt_run_lines.specs.Printers.{printed_line}
use Rattle.bt_run_lines.specs.Spelled.{Suits}

-- a line of this form tells how many lines behind it are no printed lines
abbrev pub tells_lines : Form → Bool
tells_lines form.Lines = true
tells_lines _ = false

-- the values suit the form of the line, and it tells of no lines behind it
pub record IsLone (net : Net) (printed : Printed) : Type 0 where
  pub suits : Suits net printed
  pub lone : tells_lines printed.form ≡ false

-- the lines, each with its newline
abbrev pub text_of : Net → List Printed → List ℕ
text_of net all = flat_map (printed_line net) all

-- the text is printed lines
pub record AreLines (net : Net) (text : List ℕ) : Type 0 where
  pub all : List Printed
  pub each : All (IsLone net) all
  pub text_is : text ≡ text_of net all

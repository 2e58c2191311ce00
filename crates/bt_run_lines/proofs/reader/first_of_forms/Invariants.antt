-- the first of the forms that are left is the first of all
use Rattle.std.proofs.Common.{◌≡◌, drop}
use Rattle.bt_text.specs.Text.{words}
use Rattle.bt_run_lines.specs.Lines.{first_of_forms}
use Rattle.bt_run_lines.proofs.reader.first_of_forms.Given as goal

abbrev pub invariant-loop-form : goal.invariant-loop-form
invariant-loop-form l = first_of_forms l.net (drop l.form-index l.forms) (words l.line) ≡ first_of_forms l.net l.forms (words l.line)

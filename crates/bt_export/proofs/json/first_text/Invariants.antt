-- the first of the forms that are left is the first of all
use Rattle.std.proofs.Common.{◌≡◌, drop}
use Rattle.bt_text.specs.Text.{words}
use Rattle.bt_export.specs.Json.{first_text}
use Rattle.bt_export.proofs.json.first_text.Given as goal

abbrev pub invariant-loop-form : goal.invariant-loop-form
invariant-loop-form l = first_text (drop l.form-index l.forms) (words l.line) ≡ first_text l.forms (words l.line)

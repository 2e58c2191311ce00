-- the first of the forms that are left is the first of all
use Rattle.std.proofs.Common.{◌≡◌, drop}
use Rattle.bt_text.specs.Text.{words}
use Rattle.bt_export.specs.Json.{first_of}
use Rattle.bt_export.proofs.json.first_of.Given as goal

abbrev pub invariant-loop-form : goal.invariant-loop-form
invariant-loop-form l = first_of (drop l.form-index l.forms) (words l.line) ≡ first_of l.forms (words l.line)

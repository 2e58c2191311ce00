-- the bytes are UTF-8 just where the test says so
use Rattle.std.proofs.Common.{List, ℕ, Some, refl, ap, ◌∙◌}
use Rattle.std.specs.Str.{is_utf8}
use Rattle.std.proofs.lemmas.Bool.{false_from_ne_true}
use Rattle.std.proofs.lemmas.Str.{IsUtf8-from_is_utf8, is_utf8-from_IsUtf8}
use Rattle.serde_json.specs.Data.{Data, string}
use Rattle.bt_export.proofs.Fields.{view-String}
use Rattle.bt_export.proofs.object.text_value.Goals as goal

pub returns-in_ok-from_str-in-Ok : goal.returns-in_ok-from_str-in-Ok
returns-in_ok-from_str-in-Ok c = record {
  value = rw (is_utf8-from_IsUtf8 c.args.bytes.now c.in-Ok.ensures.cases.1)
      (ap (λ (d : Data). Some d) (view-String c.in_ok-from_str-in-Ok.field-0) ∙ ap (λ (t : List ℕ). Some (string t)) (c.in_ok-from_str-in-Ok.ensures.ok ∙ c.in-Ok.ensures.cases.0));
}

pub returns-in-Err : goal.returns-in-Err
returns-in-Err c = record {
  value = rw (false_from_ne_true (is_utf8 c.args.bytes.now) (λ is. c.in-Err.ensures.cases.0 (IsUtf8-from_is_utf8 c.args.bytes.now is))) refl;
}

-- there are three fields, or not
use Rattle.std.proofs.Common.{List, ℕ, Option, Bor, option_map, ap, sym, ◌∙◌, arith}
use Rattle.csv.specs.Records.{fields_of}
use Rattle.bt_export.proofs.Rows.{fewer, three, fourth_there, fourth_none}
use Rattle.bt_export.proofs.table.row_of.Goals as goal

-- what a call answered is the field
abbrev told : (answer : Option (Bor (List ℕ))) → Option (List ℕ)
told answer = option_map (λ (field : Bor (List ℕ)). field.now) answer

pub returns-in_default : goal.returns-in_default
returns-in_default c = record { fields = fewer (fields_of c.args.record.now) 0 (omega arith) (sym (ap told c.in_default.is) ∙ c.get.ensures.value) }

pub returns-in_default-get : goal.returns-in_default-get
returns-in_default-get c = record { fields = fewer (fields_of c.args.record.now) 1 (omega arith) (sym (ap told c.in_default-get.is) ∙ c.get-2.ensures.value) }

pub returns-in_default-get-2 : goal.returns-in_default-get-2
returns-in_default-get-2 c = record { fields = fewer (fields_of c.args.record.now) 2 (omega arith) (sym (ap told c.in_default-get-2.is) ∙ c.get-3.ensures.value) }

pub returns-then-is_some : goal.returns-then-is_some
returns-then-is_some c = record { fields = fourth_there (fields_of c.args.record.now) c.get-4.result (sym c.is_some.ensures ∙ c.if-is_some.true) c.get-4.ensures.value }

pub returns : goal.returns
returns c = record {
  fields = three (fields_of c.args.record.now) c.in-Some.from.now c.in-Some-get.to.now c.in-Some-get-2.units.now (sym (ap told c.in-Some.is) ∙ c.get.ensures.value) (sym (ap told c.in-Some-get.is) ∙ c.get-2.ensures.value)
      (sym (ap told c.in-Some-get-2.is) ∙ c.get-3.ensures.value) (fourth_none (fields_of c.args.record.now) c.get-4.result (sym c.is_some.ensures ∙ c.if-is_some.false) c.get-4.ensures.value);
}

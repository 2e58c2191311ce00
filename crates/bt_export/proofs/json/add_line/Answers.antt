-- the object of the line is written, and is read back
use Rattle.std.proofs.Common.{◌≡◌, ℕ, List, [], ◌∷◌, ◌++◌, Option, Some, IfSome, option_map, option_and_then, string_bytes, sym, ap, subst, ◌∙◌, append_assoc}
use Rattle.serde_json.specs.Read.{read}
use Rattle.serde_json.specs.View.{view}
use Rattle.serde_json.specs.Written.{compact_text}
use Rattle.bt_export.specs.Json.{line_object}
use Rattle.bt_export.specs.Said.{line_of_object, said_by}
use Rattle.bt_export.proofs.Lines.{line_flat, line_says}
use Rattle.bt_export.proofs.json.add_line.Goals as goal

pub returns-clause-added : goal.returns-clause-added
returns-clause-added c =
    let json = c.args.json.now.items in
    let value = view c.in-Some.value in
    let made : line_object c.args.line.now ≡ Some value = sym c.in_ok-value.ensures.object ∙ ap (option_map view) c.in-Some.is in
    let text : string_bytes c.in_ok-one.one ≡ compact_text value = c.in_ok-one.ensures.text (line_flat c.args.line.now value made).exact in
    let written : c.push.new.self.items ≡ json ++ (compact_text value ++ 10 ∷ []) =
    c.in_ok-push.ensures.items
    ∙ (ap (λ (t : List ℕ). t ++ 10 ∷ []) (c.in_ok-extend_from_slice.ensures.items ∙ ap (λ (t : List ℕ). json ++ t) (c.as_bytes.ensures.value ∙ text)) ∙ append_assoc json (compact_text value) (10 ∷ [])) in
    ap (λ (t : List ℕ). Some t) written ∙ sym (ap (option_map (λ (one : List ℕ). json ++ (one ++ 10 ∷ []))) (ap (option_map compact_text) made))

pub returns-clause-back : goal.returns-clause-back
returns-clause-back c =
    let line = c.args.line.now in
    let value = view c.in-Some.value in
    let made : line_object line ≡ Some value = sym c.in_ok-value.ensures.object ∙ ap (option_map view) c.in-Some.is in
    let flat = line_flat line value made in
    let text : string_bytes c.in_ok-one.one ≡ compact_text value = c.in_ok-one.ensures.text flat.exact in
    let said : said_by (compact_text value) ≡ Some line =
    ap (option_and_then line_of_object) (ap read (sym text) ∙ c.in_ok-one.ensures.reads_back flat.shallow) ∙ line_says line value made in
    subst (λ (one : Option (List ℕ)). IfSome one (λ t. said_by t ≡ Some line)) (sym (ap (option_map compact_text) made)) said

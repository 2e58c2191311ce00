-- What is spelled by a form and values that suit it is read as these.
use Rattle.std.proofs.Common.{◌≡◌, ◌+◌, ◌<◌, true, Option, Some, List, [], ◌∷◌, ◌++◌, length, option_map, take, drop, refl, sym, ap, ◌∙◌, arith}
use Rattle.std.specs.List.{list_all}
use Rattle.std.proofs.lemmas.Bool.{and_parts}
use Rattle.std.proofs.lemmas.Cmp.{nat_list_eq_equiv}
use Rattle.bt_text.specs.Text.{lacks}
use Rattle.bt_text.proofs.TextLines.{words-spaced}
use Rattle.bt_net.specs.Network.{Net, IsSound}
use Rattle.bt_words.specs.declared.form.Form.{Form}
use Rattle.bt_run_lines.specs.declared.printed.Printed.{Printed}
use Rattle.bt_run_lines.specs.declared.printed.Value.{Value}
use Rattle.bt_words.specs.Forms as part
use Rattle.bt_words.specs.Forms.{Part, parts_of}
use Rattle.bt_run_lines.specs.Lines.{values_in, or_else, first_of_forms, printed_in, line_in}
use Rattle.bt_run_lines.specs.Spelled.{words_of, spelled, SuitPlaces, Suits}
use Rattle.bt_run_lines.specs.Printers.{line}
use Rattle.bt_run_lines.proofs.WordsRead.{value_read, value_lacks}
use Rattle.bt_run_lines.proofs.FormsApart.{clash, clash_refused, texts_lack, head_of, forms_of, place_of, IsReached, reached}

module _ (net : Net) (sound : IsSound net) where
  -- no word of a line has a space
  words_lack : (places : List Part) (values : List Value) → SuitPlaces net places values → texts_lack places ≡ true → list_all (lacks 32) (words_of net places values) ≡ true
  words_lack [] values suits none = refl
  words_lack (part.Text text ∷ places) values suits none =
      let parts = and_parts (lacks 32 text) (texts_lack places) none in
      rw (parts.0, words_lack places values suits parts.1) refl
  words_lack (place ∷ places) [] suits none = absurd suits
  words_lack (place ∷ places) (one ∷ values) suits none = rw (value_lacks net sound place one suits.0, words_lack places values suits.1 none) refl

  -- the words of a line fit its own form
  fits : (places : List Part) (values : List Value) → SuitPlaces net places values → values_in net places (words_of net places values) ≡ Some values
  fits [] [] suits = refl
  fits [] (one ∷ values) suits = absurd suits
  fits (part.Text text ∷ places) values suits = rw (nat_list_eq_equiv.refl text, fits places values suits) refl
  fits (place ∷ places) [] suits = absurd suits
  fits (place ∷ places) (one ∷ values) suits = rw (value_read net sound place one suits.0, fits places values suits.1) refl

  -- and no form that is tried before it
  found : (front back : List Form) (own : Form) (values : List Value) → SuitPlaces net (parts_of own) values
      → list_all (λ other. clash (parts_of other) (parts_of own)) front ≡ true
      → first_of_forms net (front ++ own ∷ back) (words_of net (parts_of own) values) ≡ Some (line own values)
  found [] back own values suits differs =
      let ws = words_of net (parts_of own) values in
      ap (λ (read : Option (List Value)). or_else (option_map (line own) read) (first_of_forms net back ws)) (fits (parts_of own) values suits)
  found (other ∷ front) back own values suits differs =
      let ws = words_of net (parts_of own) values in
      let parts = and_parts (clash (parts_of other) (parts_of own)) (list_all (λ tried. clash (parts_of tried) (parts_of own)) front) differs in
      ap (λ (read : Option (List Value)). or_else (option_map (line other) read) (first_of_forms net (front ++ own ∷ back) ws))
      (clash_refused net sound (parts_of other) (parts_of own) values suits parts.0)
      ∙ found front back own values suits parts.1

  -- the words of a line are read as it
  read_by : (own : Form) (values : List Value) → IsReached own → SuitPlaces net (parts_of own) values → printed_in net (words_of net (parts_of own) values) ≡ Some (line own values)
  read_by own values reach suits =
      let ws = words_of net (parts_of own) values in
      let begins : ws ≡ head_of (parts_of own) ∷ words_of net (drop 1 (parts_of own)) values = ap (λ (places : List Part). words_of net places values) reach.begins in
      ap (printed_in net) begins ∙ ap (first_of_forms net (forms_of own)) (sym begins)
      ∙ ap (λ (forms : List Form). first_of_forms net forms ws) reach.stands
      ∙ found (take (place_of own) (forms_of own)) (drop (place_of own + 1) (forms_of own)) own values suits reach.differs

  some_word : (own : Form) (values : List Value) → IsReached own → 0 < length (words_of net (parts_of own) values)
  some_word own values reach =
      let begins = ap (λ (places : List Part). length (words_of net places values)) reach.begins in
      omega (arith, begins)

  pub spelled_read : (printed : Printed) → Suits net printed → line_in net (spelled net printed) ≡ Some printed
  spelled_read printed suits =
      let reach = reached printed.form suits.0 in
      let places = parts_of printed.form in
      ap (printed_in net) (words-spaced (words_of net places printed.said) (some_word printed.form printed.said reach) (words_lack places printed.said suits.1 reach.spaceless))
      ∙ read_by printed.form printed.said reach suits.1

-- What is read is by a form of a run.
use Rattle.std.proofs.Common.{◌≡◌, ℕ, Bool, true, false, if◌then◌else◌, Option, Some, None, List, [], ◌∷◌, option_map, refl, sym, ap, ◌∙◌}
use Rattle.std.specs.List.{list_all}
use Rattle.std.proofs.lemmas.Bool.{and_parts}
use Rattle.bt_text.specs.Text.{words}
use Rattle.bt_net.specs.Network.{Net}
use Rattle.bt_words.specs.declared.form.Form.{Form}
use Rattle.bt_words.specs.Forms.{is_of_a_run, forms_from, parts_of}
use Rattle.bt_run_lines.specs.declared.printed.Printed.{Printed}
use Rattle.bt_run_lines.specs.declared.printed.Value.{Value}
use Rattle.bt_run_lines.specs.Lines.{values_in, or_else, printed_as, first_of_forms, printed_in, line_in}

-- all of two lists where all of either are
all_of_either : (test : Bool) (here other : List Form) → list_all is_of_a_run (if test then here else other) ≡ (if test then list_all is_of_a_run here else list_all is_of_a_run other)
all_of_either true here other = refl
all_of_either false here other = refl

both_true : (test : Bool) → (if test then true else true) ≡ true
both_true true = refl
both_true false = refl

-- those that are tried are of a run
tried : (head : List ℕ) → list_all is_of_a_run (forms_from head) ≡ true
tried head = simp (all_of_either, both_true)

-- the line as one of a form is of that form
by_this : (one : Form) (values : Option (List Value)) (printed : Printed) → option_map (λ said. record { form = one; said = said }) values ≡ Some printed → one ≡ printed.form
by_this one None printed is = absurd cc
by_this one (Some said) printed is = let same : record { form = one; said = said } ≡ printed = cc in ap (λ (line : Printed). line.form) same

first_or_other : (a b : Option Printed) (printed : Printed) → or_else a b ≡ Some printed → (a ≡ Some printed → is_of_a_run printed.form ≡ true) → (b ≡ Some printed → is_of_a_run printed.form ≡ true) → is_of_a_run printed.form ≡ true
first_or_other None b printed is first other = other is
first_or_other (Some line) b printed is first other = first is

read_by_one : (net : Net) (forms : List Form) (ws : List (List ℕ)) (printed : Printed) → list_all is_of_a_run forms ≡ true → first_of_forms net forms ws ≡ Some printed → is_of_a_run printed.form ≡ true
read_by_one net [] ws printed all is = absurd cc
read_by_one net (one ∷ forms) ws printed all is =
    let parts = and_parts (is_of_a_run one) (list_all is_of_a_run forms) all in
    first_or_other (printed_as net one ws) (first_of_forms net forms ws) printed is
    (λ here. sym (ap is_of_a_run (by_this one (values_in net (parts_of one) ws) printed here)) ∙ parts.0)
    (read_by_one net forms ws printed parts.1)

words_of_a_run : (net : Net) (ws : List (List ℕ)) (printed : Printed) → printed_in net ws ≡ Some printed → is_of_a_run printed.form ≡ true
words_of_a_run net [] printed is = absurd cc
words_of_a_run net (head ∷ rest) printed is = read_by_one net (forms_from head) (head ∷ rest) printed (tried head) is

-- the form of a line that is read is one of a run
pub line_of_a_run : (net : Net) (bytes : List ℕ) (printed : Printed) → line_in net bytes ≡ Some printed → is_of_a_run printed.form ≡ true
line_of_a_run net bytes printed is = words_of_a_run net (words bytes) printed is

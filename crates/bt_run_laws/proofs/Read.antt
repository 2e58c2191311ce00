-- A text that is printed lines is read as them.
use Rattle.std.proofs.Common.{◌≡◌, ℕ, ◌+◌, ◌<◌, ◌==◌, ◌&&◌, Bool, true, false, List, [], ◌∷◌, ◌++◌, length, codes, decimal, drop, Ok, All, refl, sym, ap, ◌∙◌, append_assoc, append-nil, arith}
use Rattle.std.specs.Prelude.{flat_map}
use Rattle.std.specs.Char.{is_ascii_digit}
use Rattle.std.specs.List.{list_all}
use Rattle.std.proofs.lemmas.Bool.{and_parts}
use Rattle.std.proofs.lemmas.List.Concat.{flat_map-append}
use Rattle.std.proofs.lemmas.List.Elements.{All-nil, All-cons, All-head, All-tail, All-append}
use Rattle.bt_text.specs.Reading.{LineReading, or_fault}
use Rattle.bt_text.specs.Text.{lacks, lines, is_word}
use Rattle.bt_text.proofs.TextLines.{lacks-append, lacks-spaced, slice_split-next, words-spaced}
use Rattle.bt_text.proofs.TextNumbers.{lacks-decimal}
use Rattle.bt_net.specs.Name.{is_name, is_name_byte}
use Rattle.bt_net.specs.Network.{Net, IsSound}
use Rattle.bt_net.specs.Terminals.{name_at}
use Rattle.bt_plan.proofs.NamedTerminals.{is_name-name_at, name_lacks}
use Rattle.bt_air.specs.declared.sent.Heard.{Heard}
use Rattle.bt_air.specs.declared.sent.Heard.TheVariants as heard
use Rattle.bt_air.specs.declared.sent.Taken.{Taken}
use Rattle.bt_air.specs.declared.sent.Taken.TheVariants as taken
use Rattle.bt_timeline.specs.Air.{taken_name, heard_name}
use Rattle.bt_timeline.specs.Timeline.{name_of_beam}
use Rattle.bt_words.specs.declared.form.Form.{Form}
use Rattle.bt_words.specs.declared.form.Form.TheVariants as form
use Rattle.bt_words.specs.Forms as part
use Rattle.bt_words.specs.Forms.{Part, is_of_a_run, parts_of}
use Rattle.bt_run_lines.specs.declared.output.OutputCode.{OutputCode}
use Rattle.bt_run_lines.specs.declared.output.OutputCode.TheVariants.{O1}
use Rattle.bt_run_lines.specs.declared.printed.Printed.{Printed}
use Rattle.bt_run_lines.specs.declared.printed.Value.{Value}
use Rattle.bt_run_lines.specs.declared.printed.Value.TheVariants as value
use Rattle.bt_run_lines.specs.Lines.{lines_from, numbered_line, output_of, told_behind, told_in}
use Rattle.bt_run_lines.specs.Printers.{line, printed_line}
use Rattle.bt_run_lines.specs.Spelled.{word_of, words_of, spelled, SuitsPlace, SuitPlaces}
use Rattle.bt_run_lines.proofs.FormsApart.{head_of, reached}
use Rattle.bt_run_lines.proofs.Outputs.{lines_from-line, then_lines}
use Rattle.bt_run_lines.proofs.Printing.{by_form}
use Rattle.bt_run_lines.proofs.ReadBack.{spelled_read}
use Rattle.bt_run_lines.proofs.Moments.{is_moment_byte, moment_lacks}
use Rattle.bt_run_lines.proofs.Tags.{tag_lacks}
use Rattle.bt_run_laws.specs.Readable.{tells_lines, IsLone, text_of, AreLines}

-- no lines, lines behind lines, and one line
pub no_lines : (net : Net) → AreLines net []
no_lines net = record { all = []; each = All-nil (IsLone net); text_is = refl }

pub more_lines : (net : Net) (a b : List ℕ) → AreLines net a → AreLines net b → AreLines net (a ++ b)
more_lines net a b first second = record {
  all = first.all ++ second.all;
  each = All-append (IsLone net) first.all second.all first.each second.each;
  text_is = ap (λ (t : List ℕ). t ++ b) first.text_is ∙ ap (λ (t : List ℕ). text_of net first.all ++ t) second.text_is ∙ sym (flat_map-append (printed_line net) first.all second.all);
}

one_line : (net : Net) (printed : Printed) → IsLone net printed → AreLines net (printed_line net printed)
one_line net printed is = record {
  all = printed ∷ [];
  each = All-cons (IsLone net) printed [] is (All-nil (IsLone net));
  text_is = sym (append-nil (printed_line net printed));
}

-- parts that are printed lines, one behind the other
pub each_lines : {A : Type 0} (net : Net) (f : A → List ℕ) (parts : List A) → All (λ (part : A). AreLines net (f part)) parts → AreLines net (flat_map f parts)
each_lines net f [] each = no_lines net
each_lines {A} net f (part ∷ rest) each =
    let Holds = λ (part : A). AreLines net (f part) in
    more_lines net (f part) (flat_map f rest) (All-head Holds part rest each) (each_lines net f rest (All-tail Holds part rest each))

-- a line of a form of a run, which tells of no others, with values that suit it
pub line_printed : (net : Net) (one : Form) (said : List Value) → is_of_a_run one ≡ true → tells_lines one ≡ false → SuitPlaces net (parts_of one) said
    → AreLines net (printed_line net (line one said))
line_printed net one said of_a_run lone suits = one_line net (line one said) (record { suits = (of_a_run, suits); lone = lone })

-- the fixed words of places are names
abbrev texts_are_names : List Part → Bool
texts_are_names [] = true
texts_are_names (part.Text text ∷ places) = is_name text && texts_are_names places
texts_are_names (_ ∷ places) = texts_are_names places

-- they are so in each form; the words of answers are names too
form_of_names : (one : Form) → texts_are_names (parts_of one) ≡ true
form_of_names form.SentLoad = refl
form_of_names one = refl

taken_is_name : (answer : Taken) → is_name (taken_name answer) ≡ true
taken_is_name taken.Accepted = refl
taken_is_name answer = refl

heard_is_name : (answer : Heard) → is_name (heard_name answer) ≡ true
heard_is_name heard.Took = refl
heard_is_name answer = refl

-- a byte that is in no name, no number and no moment is in no word of a line
module _ (net : Net) (sound : IsSound net) (byte : ℕ) (no_digit : is_ascii_digit byte ≡ false) (no_name : is_name_byte byte ≡ false) (no_point : (46 == byte) ≡ false) (no_at : (64 == byte) ≡ false) (no_moment : is_moment_byte byte ≡ false) where
  word_lacks : (place : Part) (one : Value) → SuitsPlace net place one → lacks byte (word_of net one) ≡ true
  word_lacks part.Number (value.Number n) suits = lacks-decimal byte n no_digit (omega arith)
  word_lacks part.Count (value.Number n) suits = lacks-decimal byte n no_digit (omega arith)
  word_lacks part.Desk (value.Number n) suits = lacks-decimal byte n no_digit (omega (arith, suits.1))
  word_lacks part.Frame (value.Frame mark n) suits =
      lacks-append byte (decimal mark.0) (46 ∷ decimal n) ∙ rw (lacks-decimal byte mark.0 no_digit (omega (arith, suits.0)), no_point, lacks-decimal byte n no_digit (omega (arith, suits.1))) refl
  word_lacks part.Beam (value.Beam beam) suits = name_lacks byte (name_of_beam net beam) no_name (sound.beams.names.good beam.0 [] suits)
  word_lacks part.Terminal (value.Terminal terminal) suits = name_lacks byte (name_at net terminal) no_name (is_name-name_at net terminal sound suits)
  word_lacks part.Taken (value.Taken answer) suits = name_lacks byte (taken_name answer) no_name (taken_is_name answer)
  word_lacks part.Heard (value.Heard answer) suits = name_lacks byte (heard_name answer) no_name (heard_is_name answer)
  word_lacks part.Tag (value.Tag tag) suits = tag_lacks byte tag no_at no_name suits
  word_lacks part.Moment (value.Moment moment) suits = moment_lacks byte moment no_moment suits
  word_lacks place one suits = absurd suits

  words_lack : (places : List Part) (values : List Value) → SuitPlaces net places values → texts_are_names places ≡ true → list_all (lacks byte) (words_of net places values) ≡ true
  words_lack [] values suits names = refl
  words_lack (part.Text text ∷ places) values suits names =
      let parts = and_parts (is_name text) (texts_are_names places) names in
      rw (name_lacks byte text no_name parts.0, words_lack places values suits parts.1) refl
  words_lack (place ∷ places) [] suits names = absurd suits
  words_lack (place ∷ places) (one ∷ values) suits names = rw (word_lacks place one suits.0, words_lack places values suits.1 names) refl

-- the first word of a form of a line that tells of no others
other_head : (one : Form) → tells_lines one ≡ false → is_word (codes "lines") (head_of (parts_of one)) ≡ false
other_head form.Lines other = absurd cc
other_head one other = refl

module _ (net : Net) (sound : IsSound net) (printed : Printed) (is : IsLone net printed) where
  abbrev own_words : List (List ℕ)
  own_words = words_of net (parts_of printed.form) printed.said

  begins : own_words ≡ head_of (parts_of printed.form) ∷ words_of net (drop 1 (parts_of printed.form)) printed.said
  begins = ap (λ (places : List Part). words_of net places printed.said) (reached printed.form is.suits.0).begins

  -- it has no newline inside
  line_lacks : lacks 10 (spelled net printed) ≡ true
  line_lacks = lacks-spaced 10 own_words refl ∙ words_lack net sound 10 refl refl refl refl refl (parts_of printed.form) printed.said is.suits.1 (form_of_names printed.form)

  -- it tells of no line behind it
  none_told : told_behind (spelled net printed) ≡ 0
  none_told =
      let some : 0 < length own_words = omega (arith, ap length begins) in
      ap told_in (words-spaced own_words some (words_lack net sound 32 refl refl refl refl refl (parts_of printed.form) printed.said is.suits.1 (form_of_names printed.form)) ∙ begins)
      ∙ rw (other_head printed.form is.lone) refl

  -- it is read, and then what stands behind it
  line_first : (at : ℕ) (more : List ℕ) → lines_from net at 0 (lines (printed_line net printed ++ more)) ≡ then_lines (Ok printed) (lines_from net (at + 1) 0 (lines more))
  line_first at more =
      let own = spelled net printed in
      let reads : numbered_line net at own ≡ Ok printed = ap (or_fault (O1, at)) (spelled_read net sound printed is.suits) in
      let whole : printed_line net printed ++ more ≡ own ++ 10 ∷ more = ap (λ (l : List ℕ). l ++ more) (by_form net printed) ∙ append_assoc own (10 ∷ []) more in
      ap (λ (l : List ℕ). lines_from net at 0 (lines l)) whole
      ∙ ap (lines_from net at 0) (slice_split-next 10 own more line_lacks)
      ∙ lines_from-line net at 0 own more
      ∙ ap (λ (r : LineReading OutputCode Printed). then_lines r (lines_from net (at + 1) (told_behind own) (lines more))) reads
      ∙ ap (λ (n : ℕ). then_lines (Ok printed) (lines_from net (at + 1) n (lines more))) none_told

-- lines one after the other, the first of them line `at`
all_read : (net : Net) → IsSound net → (at : ℕ) (all : List Printed) → All (IsLone net) all → lines_from net at 0 (lines (text_of net all)) ≡ Ok all
all_read net sound at [] each = refl
all_read net sound at (printed ∷ more) each =
    line_first net sound printed (All-head (IsLone net) printed more each) at (text_of net more)
    ∙ ap (then_lines (Ok printed)) (all_read net sound (at + 1) more (All-tail (IsLone net) printed more each))

-- the output is read, and has no fault
pub lines_read : (net : Net) → IsSound net → (text : List ℕ) → (are : AreLines net text) → output_of net text ≡ Ok are.all
lines_read net sound text are = ap (output_of net) are.text_is ∙ all_read net sound 1 are.all are.each

-- What a word says has one spelling, and names what the network has.
use Rattle.std.proofs.Common.{◌≡◌, ℕ, ◌+◌, ◌-◌, ◌^◌, ◌<◌, ◌≤◌, ◌==◌, Bool, true, false, cond, nat_le, Option, Some, None, List, [], ◌∷◌, ◌++◌, length, get_or, take, drop, decimal, position, option_map, option_and_then, refl, sym, ap, subst, ◌∙◌, arith, add-one, IfSome}
use Rattle.std.specs.List.{All}
use Rattle.std.specs.Str.{bytes_eq}
use Rattle.std.proofs.lemmas.Bool.Decides.{nat_tests}
use Rattle.std.proofs.lemmas.List.Elements.{All-nil, All-cons}
use Rattle.std.proofs.lemmas.List.Quantifiers.{position-Some}
use Rattle.std.proofs.Math.Seq.{split_at}
use Rattle.std.proofs.lemmas.Slice.Eq.{bytes_eq-Decides}
use Rattle.bt_frame.specs.declared.limits.TheConstants.{MOST_DESKS}
use Rattle.bt_frame.specs.declared.numbers.BeamNo.{BeamNo}
use Rattle.bt_text.specs.Text.{is_word, number_of, number_of_digits, capped, words, spaced}
use Rattle.bt_text.specs.WordReader.{number_to}
use Rattle.bt_text.proofs.TextNumbers.{decimal_from_number_of, number_of-short}
use Rattle.bt_text.proofs.TextLines.{spaced-words}
use Rattle.bt_net.specs.Network.{Net}
use Rattle.bt_net.specs.Terminals.{terminal_of}
use Rattle.bt_plan.proofs.NamedTerminals.{terminal_named}
use Rattle.bt_air.specs.declared.sent.Heard.{Heard}
use Rattle.bt_air.specs.declared.sent.Heard.TheVariants as heard
use Rattle.bt_air.specs.declared.sent.Taken.{Taken}
use Rattle.bt_air.specs.declared.sent.Taken.TheVariants as taken
use Rattle.bt_timeline.specs.Air.{taken_name, heard_name}
use Rattle.bt_words.specs.declared.form.Form.{Form}
use Rattle.bt_run_lines.specs.declared.printed.Printed.{Printed}
use Rattle.bt_run_lines.specs.declared.printed.Value.{Value}
use Rattle.bt_run_lines.specs.declared.printed.Value.TheVariants as value
use Rattle.bt_words.specs.Forms as part
use Rattle.bt_words.specs.Forms.{Part, parts_of, forms_from}
use Rattle.bt_words.specs.Moments.{is_moment}
use Rattle.bt_words.specs.Tags.{is_tag}
use Rattle.bt_run_lines.specs.Words.{small_number, desk_number, frame_of, beam_of, taken_of, heard_of, tag_of, moment_of, value_of, said_by}
use Rattle.bt_run_lines.specs.Lines.{IsOf, followed, values_in, printed_as, or_else, first_of_forms, printed_in, line_in}
use Rattle.bt_run_lines.specs.Spelled.{word_of, words_of, spelled}

-- the word is the value's, and the value is the network's
abbrev pub IsSaid : Net → List ℕ → Value → Type 0
IsSaid net word one = (word_of net one ≡ word) × IsOf net one

-- numbers in a range
in_range : (most : ℕ) (o : Option ℕ) (n : ℕ) → option_and_then (λ m. cond (nat_le m most) (Some m) None) o ≡ Some n → (o ≡ Some n) × (n ≤ most)
in_range most None n is = absurd cc
in_range most (Some m) n is = (grind (arith, nat_tests), grind (arith, nat_tests))

number_word : (most : ℕ) (word : List ℕ) (n : ℕ) → most < 2 ^ 64 → number_to most word ≡ Some n → decimal n ≡ word
number_word most word n small is =
    let read = in_range most (number_of word) n is in
    sym (decimal_from_number_of word n (omega (arith, read.1)) read.0)

tested : {X : Type 0} (test : Bool) (o : Option X) (x : X) → cond test o None ≡ Some x → (test ≡ true) × (o ≡ Some x)
tested true o x is = (refl, is)
tested false o x is = absurd cc

count_word : (word : List ℕ) (n : ℕ) → number_of_digits 19 word ≡ Some n → decimal n ≡ word
count_word word n is =
    let read = tested (nat_le (length word) 19) (number_of word) n is in
    let short : length word ≤ 19 = grind (arith, nat_tests, read.0) in
    let cut : option_map capped (number_of word) ≡ number_of word = number_of-short word 19 short (omega arith) in
    let same : Some (capped n) ≡ Some n = sym (ap (option_map capped) read.1) ∙ cut ∙ read.1 in
    let small : capped n ≡ n = cc in
    sym (decimal_from_number_of word n (omega (arith, small)) read.1)

at_least_one : (o : Option ℕ) (n : ℕ) → option_and_then (λ d. cond (nat_le 1 d) (Some d) None) o ≡ Some n → o ≡ Some n
at_least_one None n is = absurd cc
at_least_one (Some m) n is = (tested (nat_le 1 m) (Some m) n is).1

-- a frame, cut at its point
both_of : (a b : Option ℕ) (one : Value) → frame_of a b ≡ Some one → (mark : ℕ) × (number : ℕ) × (a ≡ Some mark) × (b ≡ Some number) × (value.Frame (record { 0 = mark }) number ≡ one)
both_of None b one is = absurd cc
both_of (Some mark) None one is = absurd cc
both_of (Some mark) (Some number) one is = (mark, number, refl, refl, cc)

cut_at : (word : List ℕ) (at : ℕ) → at < length word → get_or word at 0 ≡ 46 → take at word ++ 46 ∷ drop (at + 1) word ≡ word
cut_at word at within point =
    let whole : word ≡ take at word ++ get_or word at 0 ∷ drop (at + 1) word = rw add-one (split_at word at 0 within) in
    ap (λ (byte : ℕ). take at word ++ byte ∷ drop (at + 1) word) (sym point) ∙ sym whole

frame_word : (net : Net) (word : List ℕ) (o : Option ℕ) (one : Value) → position (λ byte. byte == 46) word ≡ o
    → option_and_then (λ point. frame_of (small_number (take point word)) (small_number (drop (point + 1) word))) o ≡ Some one → IsSaid net word one
frame_word net word None one at is = absurd cc
frame_word net word (Some point) one at is =
    let place = position-Some (λ byte. byte == 46) word point 0 at in
    let here : get_or word point 0 ≡ 46 = grind (arith, nat_tests, place.1) in
    let (mark, number, front, back, same) = both_of (small_number (take point word)) (small_number (drop (point + 1) word)) one is in
    let first = number_word (2 ^ 32 - 1) (take point word) mark (omega arith) front in
    let second = number_word (2 ^ 32 - 1) (drop (point + 1) word) number (omega arith) back in
    let spelled_so : decimal mark ++ 46 ∷ decimal number ≡ word =
    ap (λ (f : List ℕ). f ++ 46 ∷ decimal number) first ∙ ap (λ (s : List ℕ). take point word ++ 46 ∷ s) second ∙ cut_at word point place.0 here in
    subst (IsSaid net word) same (spelled_so, tt)

-- a beam, by its name
beam_word : (net : Net) (word : List ℕ) (o : Option ℕ) (beam : BeamNo) → position (bytes_eq word) net.beams ≡ o → option_map (λ place. record { 0 = place }) o ≡ Some beam → IsSaid net word (value.Beam beam)
beam_word net word None beam at is = absurd cc
beam_word net word (Some i) beam at is =
    let place = position-Some (bytes_eq word) net.beams i [] at in
    let named : get_or net.beams i [] ≡ word = sym ((bytes_eq-Decides word (get_or net.beams i [])).0 place.1) in
    let own : IsSaid net word (value.Beam (record { 0 = i })) = (named, place.0) in
    let same : record { 0 = i } ≡ beam = cc in
    subst (λ (b : BeamNo). IsSaid net word (value.Beam b)) same own

-- one of several answers, by its word
one_of_cases : {X : Type 0} (name : X → List ℕ) (word : List ℕ) (x : X) (test : Bool) (rest : Option X) (y : X) → (test ≡ true → name x ≡ word) → cond test (Some x) rest ≡ Some y → (rest ≡ Some y → name y ≡ word) → name y ≡ word
one_of_cases name word x true rest y says is behind = let same : x ≡ y = cc in subst (λ z. name z ≡ word) same (says refl)
one_of_cases name word x false rest y says is behind = behind is

one_of : {X : Type 0} (name : X → List ℕ) (word : List ℕ) (x : X) (rest : Option X) (y : X) → cond (bytes_eq word (name x)) (Some x) rest ≡ Some y → (rest ≡ Some y → name y ≡ word) → name y ≡ word
one_of name word x rest y is behind = one_of_cases name word x (bytes_eq word (name x)) rest y (λ same. sym ((bytes_eq-Decides word (name x)).0 same)) is behind

nothing : {X : Type 0} (word name : List ℕ) (y : X) → None ≡ Some y → name ≡ word
nothing word name y is = absurd cc

taken_word : (word : List ℕ) (t : Taken) → taken_of word ≡ Some t → taken_name t ≡ word
taken_word word t is =
    one_of taken_name word taken.Accepted _ t is (λ is. one_of taken_name word taken.Stale _ t is (λ is. one_of taken_name word taken.Busy _ t is
    (λ is. one_of taken_name word taken.NotLoaded _ t is (λ is. one_of taken_name word taken.TooLate _ t is (nothing word (taken_name t) t)))))

heard_word : (word : List ℕ) (h : Heard) → heard_of word ≡ Some h → heard_name h ≡ word
heard_word word h is =
    one_of heard_name word heard.Took _ h is (λ is. one_of heard_name word heard.WrongMark _ h is (λ is. one_of heard_name word heard.Held _ h is
    (λ is. one_of heard_name word heard.Stored _ h is (λ is. one_of heard_name word heard.Older _ h is (λ is. one_of heard_name word heard.InUse _ h is (nothing word (heard_name h) h))))))

tag_word : (word tag : List ℕ) → tag_of word ≡ Some tag → tag ≡ word
tag_word word tag is = let same : Some word ≡ Some tag = (tested (is_tag word) (Some word) tag is).1 in cc

moment_word : (word moment : List ℕ) → moment_of word ≡ Some moment → moment ≡ word
moment_word word moment is = let same : Some word ≡ Some moment = (tested (is_moment word) (Some word) moment is).1 in cc

mapped : {X : Type 0} (wrap : X → Value) (o : Option X) (one : Value) → option_map wrap o ≡ Some one → (x : X) × (o ≡ Some x) × (wrap x ≡ one)
mapped wrap None one is = absurd cc
mapped wrap (Some x) one is = (x, refl, cc)

value_said : (net : Net) (place : Part) (word : List ℕ) (one : Value) → value_of net place word ≡ Some one → IsSaid net word one
value_said net part.Number word one is =
    let (n, read, same) = mapped (λ n. value.Number n) (small_number word) one is in
    subst (IsSaid net word) same (number_word (2 ^ 32 - 1) word n (omega arith) read, tt)
value_said net part.Count word one is =
    let (n, read, same) = mapped (λ n. value.Number n) (number_of_digits 19 word) one is in
    subst (IsSaid net word) same (count_word word n read, tt)
value_said net part.Desk word one is =
    let (n, read, same) = mapped (λ n. value.Number n) (desk_number word) one is in
    subst (IsSaid net word) same (number_word MOST_DESKS word n (omega arith) (at_least_one (number_to MOST_DESKS word) n read), tt)
value_said net part.Frame word one is = frame_word net word (position (λ byte. byte == 46) word) one refl is
value_said net part.Beam word one is =
    let (beam, read, same) = mapped (λ beam. value.Beam beam) (beam_of net word) one is in
    subst (IsSaid net word) same (beam_word net word (position (bytes_eq word) net.beams) beam refl read)
value_said net part.Terminal word one is =
    let (terminal, read, same) = mapped (λ terminal. value.Terminal terminal) (terminal_of net word) one is in
    let named = terminal_named net word terminal read in
    subst (IsSaid net word) same (sym named.0, named.1)
value_said net part.Taken word one is =
    let (t, read, same) = mapped (λ t. value.Taken t) (taken_of word) one is in
    subst (IsSaid net word) same (taken_word word t read, tt)
value_said net part.Heard word one is =
    let (h, read, same) = mapped (λ h. value.Heard h) (heard_of word) one is in
    subst (IsSaid net word) same (heard_word word h read, tt)
value_said net part.Tag word one is =
    let (tag, read, same) = mapped (λ tag. value.Tag tag) (tag_of word) one is in
    subst (IsSaid net word) same (tag_word word tag read, tt)
value_said net part.Moment word one is =
    let (moment, read, same) = mapped (λ moment. value.Moment moment) (moment_of word) one is in
    subst (IsSaid net word) same (moment_word word moment read, tt)
value_said net (part.Text text) word one is = absurd cc

-- the words of places
followed_some : (a b : Option (List Value)) (values : List Value) → followed a b ≡ Some values → (here : List Value) × (more : List Value) × (a ≡ Some here) × (b ≡ Some more) × (here ++ more ≡ values)
followed_some None b values is = absurd cc
followed_some (Some here) None values is = absurd cc
followed_some (Some here) (Some more) values is = (here, more, refl, refl, cc)

alone : (o : Option Value) (here : List Value) → option_map (λ one. one ∷ []) o ≡ Some here → (one : Value) × (o ≡ Some one) × (here ≡ one ∷ [])
alone None here is = absurd cc
alone (Some one) here is = (one, refl, cc)

-- these words are the places' and the values', which are the network's
abbrev pub AreSaid : Net → List Part → List (List ℕ) → List Value → Type 0
AreSaid net places ws values = (words_of net places values ≡ ws) × All (IsOf net) values

pub said_in : (net : Net) (places : List Part) (ws : List (List ℕ)) (values : List Value) → values_in net places ws ≡ Some values → AreSaid net places ws values
said_in net [] [] values is = let none : [] ≡ values = cc in subst (AreSaid net [] []) none (refl, All-nil (IsOf net))
said_in net [] (word ∷ ws) values is = absurd cc
said_in net (place ∷ places) [] values is = absurd cc
said_in net (part.Text text ∷ places) (word ∷ ws) values is =
    let (here, more, front, rest, whole) = followed_some (said_by net (part.Text text) word) (values_in net places ws) values is in
    let read = tested (is_word text word) (Some []) here front in
    let same : text ≡ word = sym ((bytes_eq-Decides word text).0 read.0) in
    let none : here ≡ [] = cc in
    let all : more ≡ values = ap (λ (h : List Value). h ++ more) (sym none) ∙ whole in
    let behind = said_in net places ws more rest in
    subst (AreSaid net (part.Text text ∷ places) (word ∷ ws)) all (ap (λ w. w ∷ words_of net places more) same ∙ ap (λ rest. word ∷ rest) behind.0, behind.1)
said_in net (place ∷ places) (word ∷ ws) values is =
    let (here, more, front, rest, whole) = followed_some (said_by net place word) (values_in net places ws) values is in
    let (one, read, only) = alone (value_of net place word) here front in
    let said = value_said net place word one read in
    let all : one ∷ more ≡ values = ap (λ (h : List Value). h ++ more) (sym only) ∙ whole in
    let behind = said_in net places ws more rest in
    subst (AreSaid net (place ∷ places) (word ∷ ws)) all (ap (λ w. w ∷ words_of net places more) said.0 ∙ ap (λ rest. word ∷ rest) behind.0, All-cons (IsOf net) one more said.1 behind.1)

-- the line of one of the forms, and its values
abbrev pub IsLine : Net → List (List ℕ) → Printed → Type 0
IsLine net ws printed = AreSaid net (parts_of printed.form) ws printed.said

form_said : (net : Net) (form : Form) (ws : List (List ℕ)) (o : Option (List Value)) (printed : Printed) → values_in net (parts_of form) ws ≡ o → option_map (λ values. record { form = form; said = values }) o ≡ Some printed → IsLine net ws printed
form_said net form ws None printed read is = absurd cc
form_said net form ws (Some values) printed read is =
    let same : record { form = form; said = values } ≡ printed = cc in
    subst (IsLine net ws) same (said_in net (parts_of form) ws values read)

either : (net : Net) (ws : List (List ℕ)) (a b : Option Printed) (printed : Printed) → or_else a b ≡ Some printed → (a ≡ Some printed → IsLine net ws printed) → (b ≡ Some printed → IsLine net ws printed) → IsLine net ws printed
either net ws None b printed is first second = second is
either net ws (Some line) b printed is first second = first is

forms_said : (net : Net) (forms : List Form) (ws : List (List ℕ)) (printed : Printed) → first_of_forms net forms ws ≡ Some printed → IsLine net ws printed
forms_said net [] ws printed is = absurd cc
forms_said net (form ∷ forms) ws printed is =
    either net ws (printed_as net form ws) (first_of_forms net forms ws) printed is (form_said net form ws (values_in net (parts_of form) ws) printed refl) (forms_said net forms ws printed)

words_said : (net : Net) (ws : List (List ℕ)) (printed : Printed) → printed_in net ws ≡ Some printed → IsLine net ws printed
words_said net [] printed is = absurd cc
words_said net (head ∷ rest) printed is = forms_said net (forms_from head) (head ∷ rest) printed is

-- the values of a printed line are the network's, and it has one spelling
pub line_range : (net : Net) (line : List ℕ) (printed : Printed) → line_in net line ≡ Some printed → All (IsOf net) printed.said
line_range net line printed is = (words_said net (words line) printed is).1

pub line_spelled : (net : Net) (line : List ℕ) (printed : Printed) → line_in net line ≡ Some printed → line ≡ spelled net printed
line_spelled net line printed is = sym (ap spaced (words_said net (words line) printed is).0 ∙ spaced-words line)

pub range_of : (net : Net) (line : List ℕ) (o : Option Printed) → o ≡ line_in net line → IfSome o (λ printed. All (IsOf net) printed.said)
range_of net line None is = tt
range_of net line (Some printed) is = line_range net line printed (sym is)

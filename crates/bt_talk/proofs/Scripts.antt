-- The lines of a script, heard one by one.
use Rattle.std.proofs.Common.{◌≡◌, ℕ, zero, suc, ◌+◌, ◌<◌, ◌≤◌, ◌&&◌, Bool, true, false, cond, List, [], ◌∷◌, ◌++◌, length, length-append, Option, Some, None, Ok, Err, refl, sym, ap, ◌∙◌, subst, append_assoc, arith}
use Rattle.std.specs.Prelude.{codes, count_by, flat_map, nat_le, option_and_then, option_map, nat_lt, ◌==◌}
use Rattle.std.specs.List.{fold, list_all}
use Rattle.std.proofs.lemmas.Bool.{and_parts, eqb-true}
use Rattle.std.proofs.lemmas.Grind.{flat_map-append}
use Rattle.std.proofs.lemmas.List.{append-nil}
use Rattle.std.proofs.lemmas.Slice.Eq.{bytes_eq-Decides}
use Rattle.bt_frame.specs.declared.limits.TheConstants.{MOST_LINES, MOST_NAME_BYTES}
use Rattle.bt_frame.specs.declared.numbers.TermNo.{TermNo}
use Rattle.bt_text.specs.Text.{is_word, lines, number_of_digits, spaced, words}
use Rattle.bt_text.specs.Reading.{◌>>=◌, or_fault}
use Rattle.bt_text.proofs.TextLines.{spaced-words}
use Rattle.bt_net.specs.Name.{are_names}
use Rattle.bt_net.specs.Network.{Net}
use Rattle.bt_journal.specs.declared.call.Change.{Change}
use Rattle.bt_script.specs.declared.fault.ScriptCode.TheVariants.{S1, S2, S3, S4, S5}
use Rattle.bt_script.specs.declared.sites.Sites.TheVariants.{Together}
use Rattle.bt_script.specs.declared.line.ScriptLine.{ScriptLine}
use Rattle.bt_script.specs.declared.line.ScriptLine.TheVariants as line
use Rattle.bt_script.specs.declared.script.DeskLine.{DeskLine}
use Rattle.bt_script.specs.declared.script.AirLine.{AirLine}
use Rattle.bt_script.specs.declared.script.Item.{Item}
use Rattle.bt_script.specs.declared.script.Item.TheVariants as item
use Rattle.bt_script.specs.declared.script.Round.{Round}
use Rattle.bt_script.specs.declared.shape.LineShape.{LineShape}
use Rattle.bt_script.specs.LineShape.{LinkWords, Shape, link_in, lone_number, shape_of, words_shape}
use Rattle.bt_script.specs.Reading.{Reading}
use Rattle.bt_script.specs.ScriptText.{air_lines, desks_of, ends_round, entry_of, is_open_behind, is_plan, items_of, limited_line, lines_in, own_lines, round_lines, round_of}
use Rattle.bt_script.specs.Stages.{in_range, line_in, may_stand, with_terminals}
use Rattle.bt_talk.specs.declared.block.Query.{Query}
use Rattle.bt_talk.specs.declared.block.Query.TheVariants as query
use Rattle.bt_talk.specs.declared.block.Step.{Step}
use Rattle.bt_talk.specs.declared.block.Step.TheVariants as step
use Rattle.bt_talk.specs.Asked.{part_in, parts_of}
use Rattle.bt_talk.specs.Block.{Own, all_row, asked_row, block_row, forget_row, go_row, joined, line_row, named_row, plays, read_row, room_names, said_row, try_row, word_asked}
use Rattle.bt_talk.specs.Blocks.{clock_asked, clock_row, in_own_row, kept_row, own_of, own_row, row_of, tagged_row}
use Rattle.bt_talk.specs.Opened.{Open, block_lines}
use Rattle.bt_talk.specs.Tags.{behind_tag, forgotten, tag_in, tag_of, untagged}
use Rattle.bt_words.specs.Tags.{is_tag, is_tag_byte}
use Rattle.bt_talk.specs.Scripts.{AskItems, came_from, session_of}
use Rattle.bt_talk.specs.Wishes.{desk_words, set_by, set_words, undo_words, wish_of, wished_in}

-- what was read in two steps
record Then {A B : Type 0} (first : Reading A) (next : A → Reading B) (value : B) : Type 0 where
  pub one : A
  pub is : first ≡ Ok one
  pub then : next one ≡ Ok value

then_ok : {A B : Type 0} (first : Reading A) (next : A → Reading B) (value : B) → (first >>= next) ≡ Ok value → Then first next value
then_ok (Ok one) next value is = record { one = one; is = refl; then = is }
then_ok (Err fault) next value is = absurd cc

-- the stages of a line: where it stands; its ranges; its terminals; its shape
abbrev place_at : ℕ → Bool → ScriptLine → Reading ScriptLine
place_at at is_open said = cond (may_stand is_open said) (Ok said) (Err (S4, at))

stands : (at : ℕ) (is_open : Bool) (said one : ScriptLine) → place_at at is_open said ≡ Ok one → place_at 1 true said ≡ Ok one
stands at true line.Remark one is = is
stands at true line.Round one is = is
stands at true line.Restart one is = is
stands at true (line.Desk desk own) one is = is
stands at true line.Plan one is = is
stands at true (line.Air own) one is = is
stands at false line.Remark one is = is
stands at false line.Round one is = is
stands at false line.Restart one is = is
stands at false (line.Desk desk own) one is = absurd cc
stands at false line.Plan one is = absurd cc
stands at false (line.Air own) one is = absurd cc

ranged : (at : ℕ) (is_open : Bool) (found : Option ScriptLine) (one : ScriptLine) → (or_fault (S3, at) found >>= place_at at is_open) ≡ Ok one → (or_fault (S3, 1) found >>= place_at 1 true) ≡ Ok one
ranged at is_open (Some said) one is = stands at is_open said one is
ranged at is_open None one is = absurd cc

abbrev range_at : ℕ → Bool → LineShape TermNo → Reading ScriptLine
range_at at is_open named = or_fault (S3, at) (in_range named) >>= place_at at is_open

named : (at : ℕ) (is_open : Bool) (found : Option (LineShape TermNo)) (one : ScriptLine) → (or_fault (S2, at) found >>= range_at at is_open) ≡ Ok one → (or_fault (S2, 1) found >>= range_at 1 true) ≡ Ok one
named at is_open (Some shape) one is = ranged at is_open (in_range shape) one is
named at is_open None one is = absurd cc

abbrev name_at : Net → ℕ → Bool → Shape → Reading ScriptLine
name_at net at is_open shape = or_fault (S2, at) (with_terminals net shape) >>= range_at at is_open

shaped : (net : Net) (at : ℕ) (is_open : Bool) (found : Option Shape) (one : ScriptLine) → (or_fault (S1, at) found >>= name_at net at is_open) ≡ Ok one → (or_fault (S1, 1) found >>= name_at net 1 true) ≡ Ok one
shaped net at is_open (Some shape) one is = named at is_open (with_terminals net shape) one is
shaped net at is_open None one is = absurd cc

-- a line that reads well says the same where a round is open, and as line 1
same_line : (net : Net) (at : ℕ) (is_open : Bool) (text : List ℕ) (one : ScriptLine) → line_in net at is_open text ≡ Ok one → line_in net 1 true text ≡ Ok one
same_line net at is_open text one is = shaped net at is_open (shape_of text) one is

-- a text without a shape reads as nothing
no_shape : (net : Net) (at : ℕ) (is_open : Bool) (found : Option Shape) (one : ScriptLine) → found ≡ None → (or_fault (S1, at) found >>= name_at net at is_open) ≡ Ok one → ⊥
no_shape net at is_open (Some shape) one none is = cc
no_shape net at is_open None one none is = cc

-- a word that is no line of a script is not this line
unlike : (net : Net) (at : ℕ) (is_open : Bool) (word text : List ℕ) (one : ScriptLine) (same : Bool) → shape_of word ≡ None → line_in net at is_open text ≡ Ok one → is_word word text ≡ same → same ≡ false
unlike net at is_open word text one false none is tells = refl
unlike net at is_open word text one true none is tells =
    absurd (no_shape net at is_open (shape_of text) one (ap shape_of ((bytes_eq-Decides text word).0 tells) ∙ none) is)

-- a text of words that have no shape has none
shapeless : (text : List ℕ) (ws : List (List ℕ)) → words text ≡ ws → shape_of (spaced ws) ≡ words_shape (words (spaced ws)) → words_shape ws ≡ None → shape_of text ≡ None
shapeless text ws cut computes none =
    let parts : text ≡ spaced ws = sym (spaced-words text) ∙ ap spaced cut in
    ap shape_of parts ∙ computes ∙ ap words_shape (ap words (sym parts) ∙ cut) ∙ none

-- the first of its words is `room`
passes : {A : Type 0} (test : Bool) (one found : A) → cond test (Some one) None ≡ Some found → test ≡ true
passes true one found is = refl
passes false one found is = absurd cc

head_is : (head from to : List ℕ) (names : List ℕ × List ℕ) → room_names (head ∷ from ∷ to ∷ []) ≡ Some names → head ≡ codes "room"
head_is head from to names is =
    let both = passes (is_word (codes "room") head && are_names from to) (from, to) names is in
    (bytes_eq-Decides head (codes "room")).0 (and_parts (is_word (codes "room") head) (are_names from to) both).0

named_room : (ws : List (List ℕ)) (names : List ℕ × List ℕ) → room_names ws ≡ Some names → (from : List ℕ) × (to : List ℕ) × (ws ≡ codes "room" ∷ from ∷ to ∷ [])
named_room [] names is = absurd cc
named_room (head ∷ []) names is = absurd cc
named_room (head ∷ from ∷ []) names is = absurd cc
named_room (head ∷ from ∷ to ∷ []) names is = (from, to, ap (λ (w : List ℕ). w ∷ from ∷ to ∷ []) (head_is head from to names is))
named_room (head ∷ from ∷ to ∷ more ∷ rest) names is = absurd cc

no_names : (net : Net) (at : ℕ) (is_open : Bool) (text : List ℕ) (one : ScriptLine) (found : Option (List ℕ × List ℕ)) → line_in net at is_open text ≡ Ok one → room_names (words text) ≡ found → found ≡ None
no_names net at is_open text one None is asked = refl
no_names net at is_open text one (Some names) is asked =
    let named = named_room (words text) names asked in
    absurd (no_shape net at is_open (shape_of text) one (shapeless text (codes "room" ∷ named.0 ∷ named.1 ∷ []) named.2 refl refl) is)

-- it is none of one word
no_word : (net : Net) (at : ℕ) (is_open : Bool) (text : List ℕ) (one : ScriptLine) → line_in net at is_open text ≡ Ok one → word_asked Together text ≡ None
no_word net at is_open text one is =
    let none = λ (word : List ℕ) (no : shape_of word ≡ None). unlike net at is_open word text one (is_word word text) no is refl in
    let last : Option Query = None in
    let helps : Option Query = cond (is_word (codes "help") text) (Some (query.Help Together)) last in
    let waits : Option Query = cond (is_word (codes "waiting") text) (Some query.Waiting) helps in
    let airs : Option Query = cond (is_word (codes "air") text) (Some query.Air) waits in
    let plans : Option Query = cond (is_word (codes "plans") text) (Some query.Plans) airs in
    let newest : Option Query = cond (is_word (codes "installed") text) (Some query.Installed) plans in
    let links : Option Query = cond (is_word (codes "demand") text) (Some query.Demand) newest in
    let frees : Option Query = cond (is_word (codes "capacity") text) (Some query.Capacity) links in
    ap (λ (b : Bool). cond b (Some query.State) frees) (none (codes "state") refl)
    ∙ ap (λ (b : Bool). cond b (Some query.Capacity) links) (none (codes "capacity") refl)
    ∙ ap (λ (b : Bool). cond b (Some query.Demand) newest) (none (codes "demand") refl)
    ∙ ap (λ (b : Bool). cond b (Some query.Installed) plans) (none (codes "installed") refl)
    ∙ ap (λ (b : Bool). cond b (Some query.Plans) airs) (none (codes "plans") refl)
    ∙ ap (λ (b : Bool). cond b (Some query.Air) waits) (none (codes "air") refl)
    ∙ ap (λ (b : Bool). cond b (Some query.Waiting) helps) (none (codes "waiting") refl)
    ∙ ap (λ (b : Bool). cond b (Some (query.Help Together)) last) (none (codes "help") refl)

-- so it asks nothing
asks_nothing : (net : Net) (at : ℕ) (is_open : Bool) (block : Own) (text : List ℕ) (one : ScriptLine) → line_in net at is_open text ≡ Ok one
    → asked_row net Together block text (word_asked Together text) ≡ read_row Together block (line_in net 1 true text)
asks_nothing net at is_open block text one is =
    ap (asked_row net Together block text) (no_word net at is_open text one is)
    ∙ ap (named_row net Together block text) (no_names net at is_open text one (room_names (words text)) is refl)

-- what a line of a script comes to in the block of its tag
says_own : (net : Net) (at : ℕ) (is_open : Bool) (block : Own) (text : List ℕ) (one : ScriptLine) → line_in net at is_open text ≡ Ok one → line_row net Together block text ≡ said_row block one
says_own net at is_open block text one is =
    let none = λ (word : List ℕ) (no : shape_of word ≡ None). unlike net at is_open word text one (is_word word text) no is refl in
    let rest : Own × Step = asked_row net Together block text (word_asked Together text) in
    let tries : Own × Step = cond (is_word (codes "try") text) (try_row block) rest in
    let alls : Own × Step = cond (is_word (codes "all") text) (all_row block) tries in
    let forgets : Own × Step = cond (is_word (codes "forget") text) (forget_row block) alls in
    ap (λ (b : Bool). cond b (go_row block) forgets) (none (codes "go") refl)
    ∙ ap (λ (b : Bool). cond b (forget_row block) alls) (none (codes "forget") refl)
    ∙ ap (λ (b : Bool). cond b (all_row block) tries) (none (codes "all") refl)
    ∙ ap (λ (b : Bool). cond b (try_row block) rest) (none (codes "try") refl)
    ∙ asks_nothing net at is_open block text one is
    ∙ ap (read_row Together block) (same_line net at is_open text one is)

-- none on both ways
either_none : (test : Bool) → (let none : Option Shape = None in cond test none none) ≡ None
either_none true = refl
either_none false = refl

-- a line with a tag is none
tagged_shape : (text tag second : List ℕ) (rest : List (List ℕ)) → is_tag tag ≡ true → words text ≡ tag ∷ second ∷ rest → shape_of text ≡ None
tagged_shape text [] second rest is cut = absurd cc
tagged_shape text (byte ∷ []) second rest is cut = absurd cc
tagged_shape text (byte ∷ letter ∷ letters) second rest is cut =
    let first : byte ≡ 64 = eqb-true byte 64 (and_parts (byte == 64) (nat_lt (length letters) MOST_NAME_BYTES) (and_parts (byte == 64 && nat_lt (length letters) MOST_NAME_BYTES) (list_all is_tag_byte (letter ∷ letters)) is).0).0 in
    shapeless text ((64 ∷ letter ∷ letters) ∷ second ∷ rest) (cut ∙ ap (λ (b : ℕ). (b ∷ letter ∷ letters) ∷ second ∷ rest) first) refl (either_none (length (second ∷ rest) == 0))

-- so a line of a script has none, and is the whole of its text
plain_first : (net : Net) (at : ℕ) (is_open : Bool) (text : List ℕ) (one : ScriptLine) (first second : List ℕ) (rest : List (List ℕ)) (test : Bool) → line_in net at is_open text ≡ Ok one → words text ≡ first ∷ second ∷ rest
    → is_tag first ≡ test → (cond test first [] ≡ []) × (cond test (spaced (second ∷ rest)) text ≡ text)
plain_first net at is_open text one first second rest false is cut tag = (refl, refl)
plain_first net at is_open text one first second rest true is cut tag = absurd (no_shape net at is_open (shape_of text) one (tagged_shape text first second rest tag cut) is)

plain_words : (net : Net) (at : ℕ) (is_open : Bool) (text : List ℕ) (one : ScriptLine) (ws : List (List ℕ)) → line_in net at is_open text ≡ Ok one → words text ≡ ws → (tag_of ws ≡ []) × (behind_tag ws text ≡ text)
plain_words net at is_open text one [] is cut = (refl, refl)
plain_words net at is_open text one (first ∷ []) is cut = (refl, refl)
plain_words net at is_open text one (first ∷ second ∷ rest) is cut = plain_first net at is_open text one first second rest (is_tag first) is cut refl

plain : (net : Net) (at : ℕ) (is_open : Bool) (text : List ℕ) (one : ScriptLine) → line_in net at is_open text ≡ Ok one → (tag_in text ≡ []) × (untagged text ≡ text)
plain net at is_open text one is = plain_words net at is_open text one (words text) is refl

-- it gives up no other's block
named_forget : (ws : List (List ℕ)) (other : List ℕ) → forgotten ws ≡ Some other → (tag : List ℕ) × (ws ≡ codes "forget" ∷ tag ∷ [])
named_forget [] other is = absurd cc
named_forget (head ∷ []) other is = absurd cc
named_forget (head ∷ tag ∷ []) other is =
    let both = passes (is_word (codes "forget") head && is_tag tag) tag other is in
    (tag, ap (λ (w : List ℕ). w ∷ tag ∷ []) ((bytes_eq-Decides head (codes "forget")).0 (and_parts (is_word (codes "forget") head) (is_tag tag) both).0))
named_forget (head ∷ tag ∷ more ∷ rest) other is = absurd cc

no_other : (net : Net) (at : ℕ) (is_open : Bool) (text : List ℕ) (one : ScriptLine) (found : Option (List ℕ)) → line_in net at is_open text ≡ Ok one → forgotten (words text) ≡ found → found ≡ None
no_other net at is_open text one None is asked = refl
no_other net at is_open text one (Some other) is asked =
    let named = named_forget (words text) other asked in
    absurd (no_shape net at is_open (shape_of text) one (shapeless text (codes "forget" ∷ named.0 ∷ []) named.1 refl refl) is)

-- it asks nothing of the clock
clock_head : (head word : List ℕ) (on first second : Bool) → cond first (Some true) (cond second (Some false) None) ≡ Some on → (first ≡ true → head ≡ codes "clock") → (second ≡ true → head ≡ codes "clock") → head ≡ codes "clock"
clock_head head word on true second is a b = a refl
clock_head head word on false true is a b = b refl
clock_head head word on false false is a b = absurd cc

named_clock : (ws : List (List ℕ)) (on : Bool) → clock_asked ws ≡ Some on → (word : List ℕ) × (ws ≡ codes "clock" ∷ word ∷ [])
named_clock [] on is = absurd cc
named_clock (head ∷ []) on is = absurd cc
named_clock (head ∷ word ∷ []) on is =
    let of_it = λ (said : List ℕ) (both : (is_word (codes "clock") head && is_word said word) ≡ true). (bytes_eq-Decides head (codes "clock")).0 (and_parts (is_word (codes "clock") head) (is_word said word) both).0 in
    (word, ap (λ (w : List ℕ). w ∷ word ∷ []) (clock_head head word on (is_word (codes "clock") head && is_word (codes "on") word) (is_word (codes "clock") head && is_word (codes "off") word) is (of_it (codes "on")) (of_it (codes "off"))))
named_clock (head ∷ word ∷ more ∷ rest) on is = absurd cc

no_clock : (net : Net) (at : ℕ) (is_open : Bool) (text : List ℕ) (one : ScriptLine) (found : Option Bool) → line_in net at is_open text ≡ Ok one → clock_asked (words text) ≡ found → found ≡ None
no_clock net at is_open text one None is asked = refl
no_clock net at is_open text one (Some on) is asked =
    let named = named_clock (words text) on asked in
    absurd (no_shape net at is_open (shape_of text) one (shapeless text (codes "clock" ∷ named.0 ∷ []) named.1 refl refl) is)

-- and wishes nothing
nothing_then : (test : Bool) (number : Option ℕ) → (let none : Option Shape = None in cond test none (option_and_then (λ (n : ℕ). none) number)) ≡ None
nothing_then true number = refl
nothing_then false None = refl
nothing_then false (Some n) = refl

passes_desk : {A : Type 0} (test : Bool) (o : Option A) (found : A) → cond test o None ≡ Some found → test ≡ true
passes_desk true o found is = refl
passes_desk false o found is = absurd cc

named_desk : (kind : List ℕ) (ws : List (List ℕ)) (found : ℕ × List (List ℕ)) → desk_words kind ws ≡ Some found → (desk : List ℕ) × (rest : List (List ℕ)) × (ws ≡ codes "desk" ∷ desk ∷ kind ∷ rest)
named_desk kind [] found is = absurd cc
named_desk kind (head ∷ []) found is = absurd cc
named_desk kind (head ∷ desk ∷ []) found is = absurd cc
named_desk kind (head ∷ desk ∷ word ∷ rest) found is =
    let numbered : Option (ℕ × List (List ℕ)) = option_map (λ number. (number, rest)) (number_of_digits 10 desk) in
    let both = and_parts (is_word (codes "desk") head) (is_word kind word) (passes_desk (is_word (codes "desk") head && is_word kind word) numbered found is) in (
      desk,
      rest,
      ap (λ (w : List ℕ). w ∷ desk ∷ word ∷ rest) ((bytes_eq-Decides head (codes "desk")).0 both.0) ∙ ap (λ (w : List ℕ). codes "desk" ∷ desk ∷ w ∷ rest) ((bytes_eq-Decides word kind).0 both.1),
    )

no_undo : (net : Net) (at : ℕ) (is_open : Bool) (text : List ℕ) (one : ScriptLine) (found : Option (ℕ × List (List ℕ))) → line_in net at is_open text ≡ Ok one → desk_words (codes "undo") (words text) ≡ found → found ≡ None
no_undo net at is_open text one None is asked = refl
no_undo net at is_open text one (Some found) is asked =
    let named = named_desk (codes "undo") (words text) found asked in
    absurd (no_shape net at is_open (shape_of text) one (shapeless text (codes "desk" ∷ named.0 ∷ codes "undo" ∷ named.1) named.2 refl (nothing_then (length (named.0 ∷ codes "undo" ∷ named.1) == 0) (number_of_digits 10 named.0))) is)

no_set : (net : Net) (at : ℕ) (is_open : Bool) (text : List ℕ) (one : ScriptLine) (found : Option (ℕ × List (List ℕ))) → line_in net at is_open text ≡ Ok one → desk_words (codes "set") (words text) ≡ found → found ≡ None
no_set net at is_open text one None is asked = refl
no_set net at is_open text one (Some found) is asked =
    let named = named_desk (codes "set") (words text) found asked in
    absurd (no_shape net at is_open (shape_of text) one (shapeless text (codes "desk" ∷ named.0 ∷ codes "set" ∷ named.1) named.2 refl (nothing_then (length (named.0 ∷ codes "set" ∷ named.1) == 0) (number_of_digits 10 named.0))) is)

undo_none : (ws : List (List ℕ)) (found : Option (ℕ × List (List ℕ))) → desk_words (codes "undo") ws ≡ found → found ≡ None → undo_words ws ≡ None
undo_none ws None is none = ap (λ (o : Option (ℕ × List (List ℕ))). option_and_then (λ (both : ℕ × List (List ℕ)). option_map (λ (number : ℕ). (let x : ℕ × ℕ = (both.0, number) in x)) (lone_number both.1)) o) is
undo_none ws (Some found) is none = absurd cc

set_none : (ws : List (List ℕ)) (found : Option (ℕ × List (List ℕ))) → desk_words (codes "set") ws ≡ found → found ≡ None → set_words ws ≡ None
set_none ws None is none = ap (λ (o : Option (ℕ × List (List ℕ))). option_and_then (λ (both : ℕ × List (List ℕ)). option_map (λ (link : LinkWords). (let x : ℕ × LinkWords = (both.0, link) in x)) (link_in both.1)) o) is
set_none ws (Some found) is none = absurd cc

no_wish : (net : Net) (changes : List Change) (at : ℕ) (is_open : Bool) (text : List ℕ) (one : ScriptLine) → line_in net at is_open text ≡ Ok one → wished_in net changes (words text) ≡ None
no_wish net changes at is_open text one is =
    let undo = desk_words (codes "undo") (words text) in
    let set = desk_words (codes "set") (words text) in
    ap (λ (u : Option (ℕ × ℕ)). wish_of net changes u (set_words (words text))) (undo_none (words text) undo refl (no_undo net at is_open text one undo is refl))
    ∙ ap (λ (s : Option (ℕ × LinkWords)). option_map (set_by net changes) s) (set_none (words text) set refl (no_set net at is_open text one set is refl))

-- what a line of a script comes to
says : (net : Net) (known : ℕ → List Change) (at : ℕ) (is_open : Bool) (n : ℕ) (blocks : Open) (text : List ℕ) (one : ScriptLine) → line_in net at is_open text ≡ Ok one
    → row_of net Together n blocks (known n) (Some text) ≡ kept_row n [] blocks (said_row (own_of [] blocks) one)
says net known at is_open n blocks text one is =
    let alone = plain net at is_open text one is in
    let rest : Open × Step = clock_row net Together n blocks (known n) [] text (clock_asked (words text)) in
    ap (λ (t : List ℕ). tagged_row net Together n blocks (known n) t (untagged text)) alone.0
    ∙ ap (tagged_row net Together n blocks (known n) []) alone.1
    ∙ ap (λ (b : Bool). cond b (blocks, step.Tells (query.Blocks (block_lines blocks))) rest) (unlike net at is_open (codes "blocks") text one (is_word (codes "blocks") text) refl is refl)
    ∙ ap (clock_row net Together n blocks (known n) [] text) (no_clock net at is_open text one (clock_asked (words text)) is refl)
    ∙ ap (own_row net Together n blocks (known n) [] text) (no_other net at is_open text one (forgotten (words text)) is refl)
    ∙ ap (in_own_row net Together n blocks [] text) (no_wish net (known n) at is_open text one is)
    ∙ ap (kept_row n [] blocks) (says_own net at is_open (own_of [] blocks) text one is)

-- the parts that it and the lines behind it ask
asks : (net : Net) (known : ℕ → List Change) (n : ℕ) (blocks behind : Open) (stp : Step) (text : List ℕ) (texts : List (List ℕ)) → row_of net Together n blocks (known n) (Some text) ≡ (behind, stp)
    → parts_of net Together n blocks (came_from known n (text ∷ texts)) ≡ part_in stp ++ parts_of net Together (n + 1) behind (came_from known (n + 1) texts)
asks net known n blocks behind stp text texts row = ap (λ (r : Open × Step). part_in r.1 ++ parts_of net Together (n + 1) r.0 (came_from known (n + 1) texts)) row

-- the block of the lines without a tag
abbrev block_at : ℕ → List ScriptLine → Open
block_at since acc = record { tag = []; since = since; said = acc } ∷ []

-- `go` plays it
goes : (net : Net) (known : ℕ → List Change) (n since : ℕ) (acc : List ScriptLine) (texts : List (List ℕ))
    → parts_of net Together n (block_at since acc) (came_from known n (codes "go" ∷ texts)) ≡ item.Round (round_of (round_lines acc)) ∷ parts_of net Together (n + 1) [] (came_from known (n + 1) texts)
goes net known n since acc texts = asks net known n (block_at since acc) [] (plays acc) (codes "go") texts refl

-- a remark is no line of a desk, of the planner or of the air
skipped : {A : Type 0} (f : ScriptLine → List A) (front rest : List ScriptLine) → f line.Remark ≡ [] → flat_map f (front ++ line.Remark ∷ rest) ≡ flat_map f (front ++ rest)
skipped {A} f front rest skips =
    flat_map-append f front (line.Remark ∷ rest) ∙ ap (λ (l : List A). flat_map f front ++ (l ++ flat_map f rest)) skips ∙ sym (flat_map-append f front rest)

uncounted_from : (n : ℕ) (front rest : List ScriptLine) → fold (λ (a : ℕ) (x : ScriptLine). a + cond (is_plan x) 1 0) n (front ++ line.Remark ∷ rest) ≡ fold (λ (a : ℕ) (x : ScriptLine). a + cond (is_plan x) 1 0) n (front ++ rest)
uncounted_from n [] rest = let same : n + 0 ≡ n = omega arith in ap (λ (m : ℕ). fold (λ (a : ℕ) (x : ScriptLine). a + cond (is_plan x) 1 0) m rest) same
uncounted_from n (first ∷ front) rest = uncounted_from (n + cond (is_plan first) 1 0) front rest

uncounted : (front rest : List ScriptLine) → count_by is_plan (front ++ line.Remark ∷ rest) ≡ count_by is_plan (front ++ rest)
uncounted front rest = uncounted_from 0 front rest

desks_same : (desk more : ℕ) (a b : List ScriptLine) → ((d : ℕ) → flat_map (own_lines d) a ≡ flat_map (own_lines d) b) → desks_of desk more a ≡ desks_of desk more b
desks_same desk zero a b same = refl
desks_same desk (suc more) a b same =
    ap (λ (l : List DeskLine). entry_of desk l ++ desks_of (desk + 1) more a) (same desk)
    ∙ ap (λ (l : List (ℕ × List DeskLine)). entry_of desk (flat_map (own_lines desk) b) ++ l) (desks_same (desk + 1) more a b same)

-- a round is the same without it
round_skips : (front rest : List ScriptLine) → round_of (front ++ line.Remark ∷ rest) ≡ round_of (front ++ rest)
round_skips front rest =
    let long = front ++ line.Remark ∷ rest in
    let short = front ++ rest in
    ap (λ (d : List (ℕ × List DeskLine)). let r : Round = record { desks = d; plans = count_by is_plan long; air = flat_map air_lines long } in r)
    (desks_same 1 16 long short (λ d. skipped (own_lines d) front rest refl))
    ∙ ap (λ (n : ℕ). let r : Round = record { desks = desks_of 1 16 short; plans = n; air = flat_map air_lines long } in r) (uncounted front rest)
    ∙ ap (λ (a : List AirLine). let r : Round = record { desks = desks_of 1 16 short; plans = count_by is_plan short; air = a } in r) (skipped air_lines front rest refl)

-- none of these lines ends a round
abbrev NoneEnds : List ScriptLine → Type 0
NoneEnds acc = round_lines acc ≡ acc

tail_is : (first : ScriptLine) (rest acc : List ScriptLine) → first ∷ rest ≡ first ∷ acc → rest ≡ acc
tail_is first rest acc is = cc

none_behind : (first : ScriptLine) (rest : List ScriptLine) → NoneEnds (first ∷ rest) → NoneEnds rest × (ends_round first ≡ false)
none_behind line.Remark rest none = (tail_is line.Remark (round_lines rest) rest none, refl)
none_behind line.Round rest none = absurd cc
none_behind line.Restart rest none = absurd cc
none_behind (line.Desk desk own) rest none = (tail_is (line.Desk desk own) (round_lines rest) rest none, refl)
none_behind line.Plan rest none = (tail_is line.Plan (round_lines rest) rest none, refl)
none_behind (line.Air own) rest none = (tail_is (line.Air own) (round_lines rest) rest none, refl)

none_more : (acc : List ScriptLine) (one : ScriptLine) → NoneEnds acc → ends_round one ≡ false → NoneEnds (acc ++ one ∷ [])
none_more [] one none is = ap (λ (b : Bool). cond b [] (one ∷ [])) is
none_more (first ∷ acc) one none is =
    let behind = none_behind first acc none in
    ap (λ (b : Bool). cond b [] (first ∷ round_lines (acc ++ one ∷ []))) behind.1 ∙ ap (λ (l : List ScriptLine). first ∷ l) (none_more acc one behind.0 is)

-- the line is one that waits in a block
joins : (acc : List ScriptLine) (one : ScriptLine) → length acc < MOST_LINES → joined acc one ≡ (Some (acc ++ one ∷ []), step.Nothing)
joins acc one few = grind arith

-- a line that is not one too many
record IsLimited (net : Net) (at : ℕ) (is_open : Bool) (text : List ℕ) (one : ScriptLine) : Type 0 where
  pub few : at ≤ MOST_LINES
  pub reads : line_in net at is_open text ≡ Ok one

limited : (net : Net) (at : ℕ) (is_open : Bool) (text : List ℕ) (one : ScriptLine) (test : Bool) → nat_le at MOST_LINES ≡ test → cond test (line_in net at is_open text) (Err (S5, at)) ≡ Ok one → IsLimited net at is_open text one
limited net at is_open text one true few is = record { few = grind arith; reads = is }
limited net at is_open text one false few is = absurd cc

no_last : (at : ℕ) (said : List ScriptLine) (test : Bool) → cond test (let fault : Reading (List ScriptLine) = Err (S1, at) in fault) (Err (S5, at)) ≡ Ok said → ⊥
no_last at said true is = cc
no_last at said false is = cc

-- the lines of a text, each of them read
record IsRead (net : Net) (at : ℕ) (is_open : Bool) (text : List ℕ) (rest : List (List ℕ)) (said : List ScriptLine) : Type 0 where
  pub one : ScriptLine
  pub more : List ScriptLine
  pub all : said ≡ one ∷ more
  pub line : IsLimited net at is_open text one
  pub lines : lines_in net (at + 1) (is_open_behind is_open one) rest ≡ Ok more

ok_is : (a b : List ScriptLine) → (let x : Reading (List ScriptLine) = Ok a in x) ≡ Ok b → b ≡ a
ok_is a b is = cc

reads : (net : Net) (at : ℕ) (is_open : Bool) (text next : List ℕ) (rest : List (List ℕ)) (said : List ScriptLine) → lines_in net at is_open (text ∷ next ∷ rest) ≡ Ok said → IsRead net at is_open text (next ∷ rest) said
reads net at is_open text next rest said is =
    let first = then_ok (limited_line net at is_open text) (λ one. lines_in net (at + 1) (is_open_behind is_open one) (next ∷ rest) >>= λ more. Ok (one ∷ more)) said is in
    let second = then_ok (lines_in net (at + 1) (is_open_behind is_open first.one) (next ∷ rest)) (λ more. Ok (first.one ∷ more)) said first.then in
    record {
      one = first.one;
      more = second.one;
      all = ok_is (first.one ∷ second.one) said second.then;
      line = limited net at is_open text first.one (nat_le at MOST_LINES) refl first.is;
      lines = second.is;
    }

-- behind the last line nothing is said
none_last : (net : Net) (at : ℕ) (is_open : Bool) (last : List ℕ) (said : List ScriptLine) → lines_in net at is_open (last ∷ []) ≡ Ok said → said ≡ []
none_last net at is_open [] said is = ok_is [] said is
none_last net at is_open (byte ∷ last) said is = absurd (no_last at said (nat_le at MOST_LINES) is)

-- what a session is behind lines that end a round, and behind others
abbrev Closed : Net → (ℕ → List Change) → List (List ℕ) → List ScriptLine → Type 0
Closed net known texts said = (n : ℕ) → parts_of net Together n [] (came_from known n (session_of false texts said)) ≡ items_of said

abbrev Opened : Net → (ℕ → List Change) → List ScriptLine → List (List ℕ) → List ScriptLine → Type 0
Opened net known acc texts said = (n since : ℕ) → parts_of net Together n (block_at since acc) (came_from known n (session_of true texts said)) ≡ item.Round (round_of (acc ++ round_lines said)) ∷ items_of said

-- no line more: the block is played
opened_none : (net : Net) (known : ℕ → List Change) (acc : List ScriptLine) (texts : List (List ℕ)) → NoneEnds acc → Opened net known acc texts []
opened_none net known acc [] none n since = goes net known n since acc [] ∙ ap (λ (l : List ScriptLine). item.Round (round_of l) ∷ []) (none ∙ sym (append-nil acc))
opened_none net known acc (text ∷ texts) none n since = goes net known n since acc [] ∙ ap (λ (l : List ScriptLine). item.Round (round_of l) ∷ []) (none ∙ sym (append-nil acc))

closed_none : (net : Net) (known : ℕ → List Change) (texts : List (List ℕ)) → Closed net known texts []
closed_none net known [] n = refl
closed_none net known (text ∷ texts) n = refl

-- a line that waits in the block
opened_joins : (net : Net) (known : ℕ → List Change) (at n since : ℕ) (acc : List ScriptLine) (text : List ℕ) (texts : List (List ℕ)) (one : ScriptLine) (more : List ScriptLine) → line_in net at true text ≡ Ok one → block_row acc one ≡ joined acc one
    → length acc < MOST_LINES → Opened net known (acc ++ one ∷ []) texts more
    → parts_of net Together n (block_at since acc) (came_from known n (text ∷ session_of true texts more)) ≡ item.Round (round_of (acc ++ one ∷ round_lines more)) ∷ items_of more
opened_joins net known at n since acc text texts one more is row few next =
    asks net known n (block_at since acc) (block_at since (acc ++ one ∷ [])) step.Nothing text (session_of true texts more)
    (says net known at true n (block_at since acc) text one is ∙ ap (kept_row n [] (block_at since acc)) (row ∙ joins acc one few))
    ∙ next (n + 1) since
    ∙ ap (λ (l : List ScriptLine). item.Round (round_of l) ∷ items_of more) (append_assoc acc (one ∷ []) (round_lines more))

-- one line more, in an open block
opened_line : (net : Net) (known : ℕ → List Change) (at : ℕ) (acc : List ScriptLine) (text : List ℕ) (texts : List (List ℕ)) (one : ScriptLine) (more : List ScriptLine) → line_in net at true text ≡ Ok one → length acc < MOST_LINES → NoneEnds acc
    → ((front : List ScriptLine) → NoneEnds front → length front ≤ length acc + 1 → is_open_behind true one ≡ true → Opened net known front texts more) → (is_open_behind true one ≡ false → Closed net known texts more)
    → Opened net known acc (text ∷ texts) (one ∷ more)
opened_line net known at acc text texts line.Remark more is few none opened closed n since =
    asks net known n (block_at since acc) (block_at since acc) step.Nothing text (session_of true texts more) (says net known at true n (block_at since acc) text line.Remark is)
    ∙ opened acc none (omega arith) refl (n + 1) since
    ∙ ap (λ (r : Round). item.Round r ∷ items_of more) (sym (round_skips acc (round_lines more)))
opened_line net known at acc text texts line.Round more is few none opened closed n since =
    goes net known n since acc (text ∷ session_of true texts more)
    ∙ ap (λ (l : List Item). item.Round (round_of (round_lines acc)) ∷ l)
    (asks net known (n + 1) [] (block_at (n + 1) []) step.Nothing text (session_of true texts more) (says net known at true (n + 1) [] text line.Round is) ∙ opened [] refl (omega arith) refl (n + 1 + 1) (n + 1))
    ∙ ap (λ (l : List ScriptLine). item.Round (round_of l) ∷ item.Round (round_of (round_lines more)) ∷ items_of more) (none ∙ sym (append-nil acc))
opened_line net known at acc text texts line.Restart more is few none opened closed n since =
    goes net known n since acc (text ∷ session_of false texts more)
    ∙ ap (λ (l : List Item). item.Round (round_of (round_lines acc)) ∷ l)
    (asks net known (n + 1) [] [] (step.Plays item.Restart) text (session_of false texts more) (says net known at true (n + 1) [] text line.Restart is) ∙ ap (λ (l : List Item). item.Restart ∷ l) (closed refl (n + 1 + 1)))
    ∙ ap (λ (l : List ScriptLine). item.Round (round_of l) ∷ item.Restart ∷ items_of more) (none ∙ sym (append-nil acc))
opened_line net known at acc text texts (line.Desk desk own) more is few none opened closed n since =
    let one = line.Desk desk own in
    opened_joins net known at n since acc text texts one more is refl few (opened (acc ++ one ∷ []) (none_more acc one none refl) (omega (arith, length-append acc (one ∷ []))) refl)
opened_line net known at acc text texts line.Plan more is few none opened closed n since =
    let one = line.Plan in
    opened_joins net known at n since acc text texts one more is refl few (opened (acc ++ one ∷ []) (none_more acc one none refl) (omega (arith, length-append acc (one ∷ []))) refl)
opened_line net known at acc text texts (line.Air own) more is few none opened closed n since =
    let one = line.Air own in
    opened_joins net known at n since acc text texts one more is refl few (opened (acc ++ one ∷ []) (none_more acc one none refl) (omega (arith, length-append acc (one ∷ []))) refl)

-- no line but a round, a restart or a remark stands where no round is open
outside_said : (at : ℕ) (said one : ScriptLine) → place_at at false said ≡ Ok one → may_stand false one ≡ true
outside_said at line.Remark one is = let same : one ≡ line.Remark = cc in ap (may_stand false) same
outside_said at line.Round one is = let same : one ≡ line.Round = cc in ap (may_stand false) same
outside_said at line.Restart one is = let same : one ≡ line.Restart = cc in ap (may_stand false) same
outside_said at (line.Desk desk own) one is = absurd cc
outside_said at line.Plan one is = absurd cc
outside_said at (line.Air own) one is = absurd cc

outside_range : (at : ℕ) (found : Option ScriptLine) (one : ScriptLine) → (or_fault (S3, at) found >>= place_at at false) ≡ Ok one → may_stand false one ≡ true
outside_range at (Some said) one is = outside_said at said one is
outside_range at None one is = absurd cc

outside_name : (at : ℕ) (found : Option (LineShape TermNo)) (one : ScriptLine) → (or_fault (S2, at) found >>= range_at at false) ≡ Ok one → may_stand false one ≡ true
outside_name at (Some shape) one is = outside_range at (in_range shape) one is
outside_name at None one is = absurd cc

outside_shape : (net : Net) (at : ℕ) (found : Option Shape) (one : ScriptLine) → (or_fault (S1, at) found >>= name_at net at false) ≡ Ok one → may_stand false one ≡ true
outside_shape net at (Some shape) one is = outside_name at (with_terminals net shape) one is
outside_shape net at None one is = absurd cc

outside : (net : Net) (at : ℕ) (text : List ℕ) (one : ScriptLine) → line_in net at false text ≡ Ok one → may_stand false one ≡ true
outside net at text one is = outside_shape net at (shape_of text) one is

no_line : (let b : Bool = false in b) ≡ true → ⊥
no_line is = cc

-- one line more, where no round is open
closed_line : (net : Net) (known : ℕ → List Change) (at : ℕ) (text : List ℕ) (texts : List (List ℕ)) (one : ScriptLine) (more : List ScriptLine) → line_in net at false text ≡ Ok one
    → (is_open_behind false one ≡ true → Opened net known [] texts more) → (is_open_behind false one ≡ false → Closed net known texts more) → Closed net known (text ∷ texts) (one ∷ more)
closed_line net known at text texts line.Remark more is opened closed n =
    asks net known n [] [] step.Nothing text (session_of false texts more) (says net known at false n [] text line.Remark is) ∙ closed refl (n + 1)
closed_line net known at text texts line.Round more is opened closed n =
    asks net known n [] (block_at n []) step.Nothing text (session_of true texts more) (says net known at false n [] text line.Round is) ∙ opened refl (n + 1) n
closed_line net known at text texts line.Restart more is opened closed n =
    asks net known n [] [] (step.Plays item.Restart) text (session_of false texts more) (says net known at false n [] text line.Restart is) ∙ ap (λ (l : List Item). item.Restart ∷ l) (closed refl (n + 1))
closed_line net known at text texts (line.Desk desk own) more is opened closed n = absurd (no_line (outside net at text (line.Desk desk own) is))
closed_line net known at text texts line.Plan more is opened closed n = absurd (no_line (outside net at text line.Plan is))
closed_line net known at text texts (line.Air own) more is opened closed n = absurd (no_line (outside net at text (line.Air own) is))

none_said : (said : List ScriptLine) → (let x : Reading (List ScriptLine) = Ok [] in x) ≡ Ok said → said ≡ []
none_said said is = ok_is [] said is

-- from an open round on, or from none
abbrev FromHere : Net → (ℕ → List Change) → Bool → List ScriptLine → List (List ℕ) → List ScriptLine → Type 0
FromHere net known true acc texts said = Opened net known acc texts said
FromHere net known false acc texts said = Closed net known texts said

-- all lines of a text
asks_all : (net : Net) (known : ℕ → List Change) (at : ℕ) (is_open : Bool) (texts : List (List ℕ)) (said acc : List ScriptLine) → lines_in net at is_open texts ≡ Ok said → NoneEnds acc → length acc < at → FromHere net known is_open acc texts said
asks_all net known at true [] said acc is none few = subst (Opened net known acc []) (sym (none_said said is)) (opened_none net known acc [] none)
asks_all net known at false [] said acc is none few = subst (Closed net known []) (sym (none_said said is)) (closed_none net known [])
asks_all net known at true (last ∷ []) said acc is none few = subst (Opened net known acc (last ∷ [])) (sym (none_last net at true last said is)) (opened_none net known acc (last ∷ []) none)
asks_all net known at false (last ∷ []) said acc is none few = subst (Closed net known (last ∷ [])) (sym (none_last net at false last said is)) (closed_none net known (last ∷ []))
asks_all net known at true (text ∷ next ∷ rest) said acc is none few =
    let so = reads net at true text next rest said is in
    subst (Opened net known acc (text ∷ next ∷ rest)) (sym so.all)
    (opened_line net known at acc text (next ∷ rest) so.one so.more so.line.reads (omega (arith, few, so.line.few)) none
    (λ front ends short begins. subst (λ (b : Bool). FromHere net known b front (next ∷ rest) so.more) begins
    (asks_all net known (at + 1) (is_open_behind true so.one) (next ∷ rest) so.more front so.lines ends (omega (arith, short, few))))
    (λ shut. subst (λ (b : Bool). FromHere net known b [] (next ∷ rest) so.more) shut
    (asks_all net known (at + 1) (is_open_behind true so.one) (next ∷ rest) so.more [] so.lines refl (omega arith))))
asks_all net known at false (text ∷ next ∷ rest) said acc is none few =
    let so = reads net at false text next rest said is in
    subst (Closed net known (text ∷ next ∷ rest)) (sym so.all)
    (closed_line net known at text (next ∷ rest) so.one so.more so.line.reads
    (λ begins. subst (λ (b : Bool). FromHere net known b [] (next ∷ rest) so.more) begins
    (asks_all net known (at + 1) (is_open_behind false so.one) (next ∷ rest) so.more [] so.lines refl (omega arith)))
    (λ shut. subst (λ (b : Bool). FromHere net known b [] (next ∷ rest) so.more) shut
    (asks_all net known (at + 1) (is_open_behind false so.one) (next ∷ rest) so.more [] so.lines refl (omega arith))))

-- a script that reads well
pub asks_items : AskItems
asks_items net text said known is = asks_all net known 1 false (lines text) said [] is refl (omega arith) 1

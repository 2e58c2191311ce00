-- A mark is read as its numbers, no other line is read as it, and it is the line of no change.
use Rattle.std.proofs.Common.{◌≡◌, ◌≢◌, ℕ, ◌≤◌, Bool, true, false, cond, List, [], ◌∷◌, ◌++◌, codes, decimal, drop, Option, Some, None, refl, sym, ap, subst, ◌∙◌, append_assoc, arith, length, length-append, lit<}
use Rattle.std.specs.Prelude.{◌&&◌, option_and_then, IfSome, IfNone}
use Rattle.std.specs.List.{list_all}
use Rattle.std.specs.Char.{is_ascii_digit}
use Rattle.std.proofs.lemmas.List.{append_cancel_right, append-nil}
use Rattle.std.proofs.lemmas.Fmt.{length-decimal-le}
use Rattle.std.proofs.lemmas.Option.{same_Some}
use Rattle.bt_text.specs.Text.{words, lines, spaced, lacks}
use Rattle.bt_text.specs.WordReader.{is_first}
use Rattle.bt_text.proofs.TextLines.{words-spaced, spaced-words, lacks-spaced, slice_split-next, text_from_first_line}
use Rattle.bt_text.proofs.TextNumbers.{lacks-decimal}
use Rattle.bt_net.specs.Name.{is_name_byte}
use Rattle.bt_plan.proofs.NamedTerminals.{name_lacks}
use Rattle.bt_plan.proofs.OneText.{is_word-same}
use Rattle.bt_journal.specs.Mark.{mark_words, mark_line, IsMarkOf}
use Rattle.bt_journal.specs.LineReading.{at_end, number_from, sizes_in, mark_in}
use Rattle.bt_journal.proofs.Words.{number_read}
use Rattle.bt_journal.proofs.Spelled.{then, ended, front, number_spelled}

-- a byte that is no digit and stands in no name stands in none of the words
mark-lacks : (byte beams terminals : ℕ) → is_ascii_digit byte ≡ false → is_name_byte byte ≡ false → lacks byte (codes "2") ≡ true → IsMarkOf beams terminals → list_all (lacks byte) (mark_words beams terminals) ≡ true
mark-lacks byte beams terminals digit other version range =
    rw (name_lacks byte (codes "journal") other refl, version, lacks-decimal byte beams digit (let few = range.0.1 in omega arith), lacks-decimal byte terminals digit (let few = range.1.1 in omega arith)) refl

-- a mark has few bytes, since its numbers have at most two digits each
pub short : (beams terminals : ℕ) → IsMarkOf beams terminals → length (mark_line beams terminals) ≤ 16
short beams terminals range =
    omega (
      arith,
      length-append (spaced (mark_words beams terminals)) (10 ∷ []),
      length-append (decimal beams) (32 ∷ decimal terminals),
      length-decimal-le 2 beams (omega arith) (omega (arith, range.0.1)) (omega (arith, range.0.1)),
      length-decimal-le 2 terminals (omega arith) (omega (arith, range.1.1)) (omega (arith, range.1.1)),
    )

-- no newline stands in the text of a mark
pub once : (beams terminals : ℕ) → IsMarkOf beams terminals → lacks 10 (spaced (mark_words beams terminals)) ≡ true
once beams terminals range = lacks-spaced 10 (mark_words beams terminals) refl ∙ mark-lacks 10 beams terminals refl refl refl range

pub cut : (beams terminals : ℕ) (rest : List ℕ) → IsMarkOf beams terminals → lines (mark_line beams terminals ++ rest) ≡ spaced (mark_words beams terminals) ∷ lines rest
cut beams terminals rest range =
    let text = spaced (mark_words beams terminals) in
    ap lines (append_assoc text (10 ∷ []) rest) ∙ slice_split-next 10 text rest (once beams terminals range)

-- a mark is read as its numbers
words_are : (beams terminals : ℕ) → IsMarkOf beams terminals → words (spaced (mark_words beams terminals)) ≡ mark_words beams terminals
words_are beams terminals range = words-spaced (mark_words beams terminals) (omega arith) (mark-lacks 32 beams terminals refl refl refl range)

words_read : (beams terminals : ℕ) → IsMarkOf beams terminals → mark_in (mark_words beams terminals) ≡ Some (beams, terminals)
words_read beams terminals range =
    rw (number_read 1 32 beams (decimal terminals ∷ []) range.0.0 range.0.1 (lit< tt), number_read 1 64 terminals [] range.1.0 range.1.1 (lit< tt)) refl

pub mark_read : (beams terminals : ℕ) → IsMarkOf beams terminals → mark_in (words (spaced (mark_words beams terminals))) ≡ Some (beams, terminals)
mark_read beams terminals range = ap mark_in (words_are beams terminals range) ∙ words_read beams terminals range

-- what is read as two numbers are these words
pub record IsMarkText (ws : List (List ℕ)) (said : ℕ × ℕ) : Type 0 where
  pub spelled : ws ≡ mark_words said.0 said.1
  pub range : IsMarkOf said.0 said.1

record AreSizes (ws : List (List ℕ)) (said : ℕ × ℕ) : Type 0 where
  spelled : ws ≡ decimal said.0 ∷ decimal said.1 ∷ []
  range : IsMarkOf said.0 said.1

sizes_spelled : (ws : List (List ℕ)) (said : ℕ × ℕ) → sizes_in ws ≡ Some said → AreSizes ws said
sizes_spelled ws said is =
    let rest = drop 1 (drop 1 ws) in
    let (beams, beams_read, more) = then (λ (b : ℕ). option_and_then (λ (t : ℕ). at_end rest (b, t)) (number_from 1 64 (drop 1 ws))) (number_from 1 32 ws) said is in
    let (terminals, terminals_read, done) = then (λ (t : ℕ). at_end rest (beams, t)) (number_from 1 64 (drop 1 ws)) said more in
    let last = ended rest (beams, terminals) said done in
    let first = number_spelled 1 32 beams ws (lit< tt) beams_read in
    let second = number_spelled 1 64 terminals (drop 1 ws) (lit< tt) terminals_read in
    let here : AreSizes ws (beams, terminals) = record {
      spelled = front ws (decimal beams) (decimal terminals ∷ []) first.spelled (front (drop 1 ws) (decimal terminals) [] second.spelled last.0);
      range = ((first.above, first.below), (second.above, second.below));
    } in
    subst (AreSizes ws) last.1 here

both_first : (ws : List (List ℕ)) (said : ℕ × ℕ) (journal version : Bool) → is_first (codes "journal") ws ≡ journal → is_first (codes "2") (drop 1 ws) ≡ version
    → cond (journal && version) (sizes_in (drop 1 (drop 1 ws))) None ≡ Some said → IsMarkText ws said
both_first [] said true version j v is = absurd cc
both_first [] said false version j v is = absurd cc
both_first (first ∷ []) said true true j v is = absurd cc
both_first (first ∷ []) said true false j v is = absurd cc
both_first (first ∷ []) said false version j v is = absurd cc
both_first (first ∷ second ∷ rest) said true true j v is =
    let sizes = sizes_spelled rest said is in
    record {
      spelled = rw (is_word-same (codes "journal") first j, is_word-same (codes "2") second v, sizes.spelled) refl;
      range = sizes.range;
    }
both_first (first ∷ second ∷ rest) said true false j v is = absurd cc
both_first (first ∷ second ∷ rest) said false version j v is = absurd cc

pub mark_spelled : (ws : List (List ℕ)) (said : ℕ × ℕ) → mark_in ws ≡ Some said → IsMarkText ws said
mark_spelled ws said is = both_first ws said _ _ refl refl is

-- two marks with one line have the same numbers
texts_same : (beams terminals other another : ℕ) → mark_line beams terminals ≡ mark_line other another → spaced (mark_words beams terminals) ≡ spaced (mark_words other another)
texts_same beams terminals other another same = append_cancel_right (spaced (mark_words beams terminals)) (spaced (mark_words other another)) (10 ∷ []) same

pub same_sizes : (beams terminals other another : ℕ) → IsMarkOf beams terminals → IsMarkOf other another → mark_line beams terminals ≡ mark_line other another → (beams ≡ other) × (terminals ≡ another)
same_sizes beams terminals other another range ranged same =
    let read = sym (mark_read beams terminals range) ∙ (ap (λ t. mark_in (words t)) (texts_same beams terminals other another same) ∙ mark_read other another ranged) in
    let both : (beams, terminals) ≡ (other, another) = same_Some (beams, terminals) (other, another) read in
    (ap (λ (said : ℕ × ℕ). said.0) both, ap (λ (said : ℕ × ℕ). said.1) both)

-- the line of a mark is one
own_line : (line : List ℕ) (beams terminals : ℕ) → IsMarkOf beams terminals → line ≡ mark_line beams terminals → lines line ≡ spaced (mark_words beams terminals) ∷ [] ∷ []
own_line line beams terminals range is = ap lines (is ∙ sym (append-nil (mark_line beams terminals))) ∙ cut beams terminals [] range

pub no_line : (line : List ℕ) → ((text : List ℕ) → lines line ≡ text ∷ [] ∷ [] → ⊥) → (beams terminals : ℕ) → IsMarkOf beams terminals → line ≢ mark_line beams terminals
no_line line none beams terminals range is = none _ (own_line line beams terminals range is)

-- what a line is read as, whose text this is
pub line_spelled : (line text : List ℕ) (said : ℕ × ℕ) → lines line ≡ text ∷ [] ∷ [] → mark_in (words text) ≡ Some said → (line ≡ mark_line said.0 said.1) × IsMarkOf said.0 said.1
line_spelled line text said is read =
    let here = mark_spelled (words text) said read in
    (text_from_first_line line text [] is ∙ ap (λ t. t ++ 10 ∷ []) (sym (spaced-words text) ∙ ap spaced here.spelled), here.range)

pub line_not_read : (line text : List ℕ) → lines line ≡ text ∷ [] ∷ [] → mark_in (words text) ≡ None → (beams terminals : ℕ) → IsMarkOf beams terminals → line ≢ mark_line beams terminals
line_not_read line text first none beams terminals range is =
    let both : text ∷ [] ∷ [] ≡ spaced (mark_words beams terminals) ∷ [] ∷ [] = sym first ∙ own_line line beams terminals range is in
    let same : text ≡ spaced (mark_words beams terminals) = cc in
    let read = sym none ∙ (ap (λ t. mark_in (words t)) same ∙ mark_read beams terminals range) in
    absurd cc

-- the answer to a line
pub record IsAnswer (line : List ℕ) (result : Option (ℕ × ℕ)) : Type 0 where
  pub range : IfSome result (λ said. IsMarkOf said.0 said.1)
  pub line_is : IfSome result (λ said. line ≡ mark_line said.0 said.1)
  pub none : IfNone result ((beams terminals : ℕ) → IsMarkOf beams terminals → line ≢ mark_line beams terminals)

pub answered : (line text : List ℕ) (result : Option (ℕ × ℕ)) → lines line ≡ text ∷ [] ∷ [] → result ≡ mark_in (words text) → IsAnswer line result
answered line text (Some said) is read =
    let here = line_spelled line text said is (sym read) in
    record { range = here.1; line_is = here.0; none = tt }
answered line text None is read = record { range = tt; line_is = tt; none = line_not_read line text is (sym read) }

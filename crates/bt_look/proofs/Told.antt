-- The lines of a journal's text, measured one by one: their bytes without the mark are those of its changes.
use Rattle.std.proofs.Common.{◌≡◌, ℕ, ◌+◌, ◌-◌, ◌≤◌, Bool, true, false, List, [], ◌∷◌, ◌++◌, length, take, slice_index_or, Option, Some, None, refl, sym, ap, ◌∙◌, subst, append_assoc, length-append, arith}
use Rattle.std.proofs.lemmas.Bool.{false_from_ne_true}
use Rattle.std.proofs.lemmas.Slice.Eq.{bytes_eq-Decides}
use Rattle.std.proofs.Math.Seq.{take-append_seam}
use Rattle.bt_text.specs.Text.{is_word, lines, spaced}
use Rattle.bt_text.proofs.FirstLine.{HasFirst, lines-HasFirst}
use Rattle.bt_text.proofs.TextLines.{text_from_first_line}
use Rattle.bt_plan.proofs.OneText.{is_word-same}
use Rattle.bt_net.specs.Network.{Net}
use Rattle.bt_journal.specs.declared.call.Change.{Change}
use Rattle.bt_journal.specs.JournalLines.{change_line, change_parts, edits_in, lines_from, IsChangeInRange}
use Rattle.bt_journal.specs.Kept.{changes_in, lines_said}
use Rattle.bt_journal.specs.Mark.{mark_of, text_of_mark}
use Rattle.bt_history.specs.Machine.{bytes_of}
use Rattle.bt_history.specs.Recovery.{AreInRange, Recovered, tail_of, whole}
use Rattle.bt_history.proofs.OneJournal.{AreLines}
use Rattle.bt_history.proofs.OneMore.{ended_length}
use Rattle.bt_history.proofs.Replayed.{tail-cons}
use Rattle.bt_look.specs.Measure.{IsRest, IsTail, bytes_of_line, unmarked}

-- the first line, and the others
unmarked-cons : (mark line : List ℕ) (ls : List (List ℕ)) → HasFirst ls → unmarked mark (line ∷ ls) ≡ bytes_of_line (is_word mark line) line + unmarked mark ls
unmarked-cons mark line ls (first, rest, is) = rw is refl

pub unmarked-next : (mark text line rest : List ℕ) → lines text ≡ line ∷ lines rest → unmarked mark (lines text) ≡ bytes_of_line (is_word mark line) line + unmarked mark (lines rest)
unmarked-next mark text line rest cut = ap (unmarked mark) cut ∙ unmarked-cons mark line (lines rest) (lines-HasFirst rest)

-- a text is its own rest
pub rest_at_start : (text : List ℕ) → IsRest text text
rest_at_start text = record { front = []; parts = refl; tail = refl }

-- and what stands behind a line of the rest is one
pub rest_next : (text rest line after : List ℕ) → IsRest text rest → lines rest ≡ line ∷ lines after → IsRest text after
rest_next text rest line after stands cut = record {
  front = stands.front ++ (line ++ 10 ∷ []);
  parts = stands.parts
      ∙ (ap (λ (r : List ℕ). stands.front ++ r) (text_from_first_line rest line after cut ∙ sym (append_assoc line (10 ∷ []) after))
      ∙ sym (append_assoc stands.front (line ++ 10 ∷ []) after));
  tail = stands.tail ∙ (ap (λ (ls : List (List ℕ)). slice_index_or ls (length ls - 1) []) cut ∙ tail-cons line (lines after) (lines-HasFirst after));
}

-- the line is no longer than the rest
pub line_fits : (rest line after : List ℕ) → lines rest ≡ line ∷ lines after → length rest ≡ length line + 1 + length after
line_fits rest line after cut = omega (arith, ap length (text_from_first_line rest line after cut), length-append line (10 ∷ after))

-- and it has no more bytes than it has with its newline
pub line_at_most : (marked : Bool) (line : List ℕ) → bytes_of_line marked line ≤ length line + 1
line_at_most true line = omega arith
line_at_most false line = omega arith

-- once all lines were taken the rest is the tail
pub tail_is_rest : (text rest : List ℕ) → IsTail text rest → tail_of text ≡ rest
tail_is_rest text rest is = is.stands.tail ∙ ap (λ (ls : List (List ℕ)). slice_index_or ls (length ls - 1) []) is.none

whole_is_front : (text rest : List ℕ) → (is : IsTail text rest) → whole text ≡ is.stands.front
whole_is_front text rest is =
    let front = is.stands.front in
    let size : length text - length (tail_of text) ≡ length front = omega (arith, ap length (tail_is_rest text rest is), ap length is.stands.parts, length-append front rest) in
    ap (λ (k : ℕ). take k text) size ∙ (ap (λ (t : List ℕ). take (length front) t) is.stands.parts ∙ take-append_seam front rest)

-- the mark is itself, and no change is the mark
mark_itself : (mark : List ℕ) → is_word mark mark ≡ true
mark_itself mark = (bytes_eq-Decides mark mark).1 refl

change_no_mark : (net : Net) (are : AreLines net) (number : ℕ) (one : Change) → IsChangeInRange net number one → is_word (text_of_mark net) (spaced (change_parts net number one)) ≡ false
change_no_mark net are number one range =
    let text = spaced (change_parts net number one) in
    false_from_ne_true (is_word (text_of_mark net) text)
    (λ yes. are.no_change number one (length net.beams) (length net.terminals) range are.of_net (ap (λ (l : List ℕ). l ++ 10 ∷ []) (sym (is_word-same (text_of_mark net) text yes))))

-- the lines of what is said, with a tail behind them: without the mark they have the bytes of the changes
unmarked-said : (net : Net) (are : AreLines net) (edits : ℕ) (said : List (Option Change)) (tail : List ℕ) → AreInRange net edits (changes_in said) → lines tail ≡ tail ∷ []
    → unmarked (text_of_mark net) (lines (lines_said net edits said ++ tail)) ≡ length (lines_from net edits (changes_in said))
unmarked-said net are edits [] tail ranges none = ap (unmarked (text_of_mark net)) none
unmarked-said net are edits (None ∷ said) tail ranges none =
    let mark = text_of_mark net in
    let rest = lines_said net edits said ++ tail in
    let cut : lines ((mark_of net ++ lines_said net edits said) ++ tail) ≡ mark ∷ lines rest = ap lines (append_assoc (mark_of net) (lines_said net edits said) tail) ∙ are.mark_cut rest in
    let nothing : bytes_of_line (is_word mark mark) mark ≡ 0 = ap (λ (b : Bool). bytes_of_line b mark) (mark_itself mark) in
    omega (arith, unmarked-next mark ((mark_of net ++ lines_said net edits said) ++ tail) mark rest cut, nothing, unmarked-said net are edits said tail ranges none)
unmarked-said net are edits (Some one ∷ said) tail ranges none =
    let mark = text_of_mark net in
    let number = edits + edits_in one in
    let line = spaced (change_parts net number one) in
    let rest = lines_said net number said ++ tail in
    let cut : lines ((change_line net number one ++ lines_said net number said) ++ tail) ≡ line ∷ lines rest =
    ap lines (append_assoc (change_line net number one) (lines_said net number said) tail) ∙ are.cut number one rest ranges.0 in
    let all : bytes_of_line (is_word mark line) line ≡ length line + 1 = ap (λ (b : Bool). bytes_of_line b line) (change_no_mark net are number one ranges.0) in
    omega (
      arith,
      unmarked-next mark ((change_line net number one ++ lines_said net number said) ++ tail) line rest cut,
      all,
      ended_length line,
      length-append (change_line net number one) (lines_from net number (changes_in said)),
      unmarked-said net are number said tail ranges.1 none,
    )

-- so the bytes that were measured are those of the changes that the text tells
pub measured : (net : Net) (are : AreLines net) (text rest : List ℕ) (changes : List Change) → IsTail text rest → Recovered net text changes
    → unmarked (text_of_mark net) (lines text) ≡ bytes_of net changes
measured net are text rest changes is told =
    let said = told.lines.said in
    let front : is.stands.front ≡ lines_said net 0 said = sym (whole_is_front text rest is) ∙ told.lines.lines in
    let parts : text ≡ lines_said net 0 said ++ rest = is.stands.parts ∙ ap (λ (f : List ℕ). f ++ rest) front in
    let ranges : AreInRange net 0 (changes_in said) = subst (AreInRange net 0) (sym told.lines.changes_are) told.ranges in
    ap (λ (t : List ℕ). unmarked (text_of_mark net) (lines t)) parts
    ∙ (unmarked-said net are 0 said rest ranges is.none ∙ ap (bytes_of net) told.lines.changes_are)

-- The mark among the lines of a journal, and behind them once a recovery appended it, whole or in part.
use Rattle.std.proofs.Common.{◌≡◌, ◌⊎◌, ℕ, ◌+◌, ◌-◌, ◌≤◌, ◌||◌, cond, leb, Bool, true, false, List, [], ◌∷◌, ◌++◌, length, take, slice_index_or, Option, Some, None, refl, sym, ap, ◌∙◌, subst, arith, length-append, inl, inr, ⊎_elim}
use Rattle.std.specs.Prelude.{option_map}
use Rattle.std.specs.List.{list_any}
use Rattle.std.proofs.lemmas.Bool.{cases_eq, false_from_ne_true, le-leb, leb-true}
use Rattle.std.proofs.lemmas.List.{append-nil, length-take, length-take-le, take_all}
use Rattle.std.proofs.Math.Seq.{take-append_seam}
use Rattle.std.proofs.lemmas.Slice.Eq.{bytes_eq-Decides}
use Rattle.bt_frame.specs.declared.limits.TheConstants.{MOST_JOURNAL_BYTES}
use Rattle.bt_outside.specs.Told.{gained, Gives}
use Rattle.bt_text.specs.Text.{is_word, lacks, lines, spaced}
use Rattle.bt_text.proofs.TextLines.{first_line_lacks}
use Rattle.bt_plan.proofs.OneText.{is_word-same}
use Rattle.bt_net.specs.Network.{Net}
use Rattle.bt_journal.specs.declared.call.Change.{Change}
use Rattle.bt_journal.specs.JournalLines.{change_line, change_parts, edits_in}
use Rattle.bt_journal.specs.Kept.{Keeps, changes_in, lines_said, marks_in}
use Rattle.bt_journal.specs.Mark.{mark_of, text_of_mark}
use Rattle.bt_history.specs.Machine.{State}
use Rattle.bt_history.specs.Records.{Records, TakesText, marks_where}
use Rattle.bt_history.specs.Recovery.{AreInRange, MaybeCut, MaybeMarked, MaybeTrimmed, Recovered, TellsSome, has_mark, mark_owed, mark_where, marked, marked_in_part, tail_of, whole}
use Rattle.bt_history.proofs.OneJournal.{AreLines}
use Rattle.bt_history.proofs.NextOpening.{part_of, told_lines, whole_kept}
use Rattle.bt_history.proofs.Replayed.{Stands, one_mark_at_most}
use Rattle.bt_history.proofs.SaidLines.{changes_in-append, keeps_mark, lines_said-mark, marks_in-append, marks_in-change, marks_in-mark}

-- whether some line of a text is this one, where the first and the others are known
any_line : (text first : List ℕ) (bytes rest : List ℕ) (here : Bool) → lines bytes ≡ first ∷ lines rest → is_word text first ≡ here → list_any (is_word text) (lines bytes) ≡ (here || list_any (is_word text) (lines rest))
any_line text first bytes rest here cut is = ap (list_any (is_word text)) cut ∙ ap (λ (b : Bool). b || list_any (is_word text) (lines rest)) is

-- a text is itself
is_word-itself : (text : List ℕ) → is_word text text ≡ true
is_word-itself text = (bytes_eq-Decides text text).1 refl

-- the text of a change is not that of the mark
not_mark : (net : Net) (are : AreLines net) (number : ℕ) (one : Change) (range : AreInRange net number (one ∷ [])) → is_word (text_of_mark net) (spaced (change_parts net (number + edits_in one) one)) ≡ false
not_mark net are number one range =
    let text = spaced (change_parts net (number + edits_in one) one) in
    false_from_ne_true (is_word (text_of_mark net) text)
    (λ yes. are.no_change (number + edits_in one) one (length net.beams) (length net.terminals) range.0 are.of_net (ap (λ (l : List ℕ). l ++ 10 ∷ []) (sym (is_word-same (text_of_mark net) text yes))))

-- some line is the mark just where it is said
pub has_mark-said : (net : Net) (are : AreLines net) (edits : ℕ) (said : List (Option Change)) (stands : Bool) → AreInRange net edits (changes_in said) → marks_in said ≡ marks_where stands
    → has_mark net (lines_said net edits said) ≡ stands
has_mark-said net are edits [] true ranges marks = absurd (omega (arith, marks))
has_mark-said net are edits [] false ranges marks = refl
has_mark-said net are edits (None ∷ said) true ranges marks =
    any_line (text_of_mark net) (text_of_mark net) (mark_of net ++ lines_said net edits said) (lines_said net edits said) true (are.mark_cut (lines_said net edits said)) (is_word-itself (text_of_mark net))
has_mark-said net are edits (None ∷ said) false ranges marks = absurd (omega (arith, marks, marks_in-mark said))
has_mark-said net are edits (Some one ∷ said) stands ranges marks =
    let number = edits + edits_in one in
    any_line (text_of_mark net) (spaced (change_parts net number one)) (change_line net number one ++ lines_said net number said) (lines_said net number said) false
    (are.cut number one (lines_said net number said) ranges.0) (not_mark net are edits one (ranges.0, tt))
    ∙ has_mark-said net are number said stands ranges.1 (sym (marks_in-change one said) ∙ marks)

-- where at most one mark is said, it is said or not
pub stands_or_not : (said : List (Option Change)) → marks_in said ≤ 1 → (marks_in said ≡ marks_where true) ⊎ (marks_in said ≡ marks_where false)
stands_or_not said few = ⊎_elim
    (λ (one : marks_in said ≡ 1). inl one)
    (λ (none : marks_in said ≡ 1 → ⊥). inr (omega (arith, few, none)))
    (cases_eq (marks_in said) 1)

-- the mark, where it does not stand and has room
pub record IsMarkWhere (net : Net) (stands : Bool) (size : ℕ) : Type 0 where
  pub is : mark_where net stands size ≡ mark_of net
  pub first : stands ≡ false
  pub room : size + length (mark_of net) ≤ MOST_JOURNAL_BYTES

by_room : (net : Net) (size : ℕ) (room : Bool) → leb (size + length (mark_of net)) MOST_JOURNAL_BYTES ≡ room → IsMarkWhere net false size ⊎ (mark_where net false size ≡ [])
by_room net size true is = inl (record { is = ap (λ (b : Bool). cond b (mark_of net) []) is; first = refl; room = leb-true (size + length (mark_of net)) MOST_JOURNAL_BYTES is })
by_room net size false is = inr (ap (λ (b : Bool). cond b (mark_of net) []) is)

-- it is what is appended, or nothing is
mark_or_none : (net : Net) (stands : Bool) (size : ℕ) → IsMarkWhere net stands size ⊎ (mark_where net stands size ≡ [])
mark_or_none net true size = inr refl
mark_or_none net false size = by_room net size (leb (size + length (mark_of net)) MOST_JOURNAL_BYTES) refl

-- where there is room
pub where_room : (net : Net) (stands : Bool) (size : ℕ) → stands ≡ false → size + length (mark_of net) ≤ MOST_JOURNAL_BYTES → mark_where net stands size ≡ mark_of net
where_room net true size first room = absurd cc
where_room net false size first room = ap (λ (b : Bool). cond b (mark_of net) []) (le-leb (size + length (mark_of net)) MOST_JOURNAL_BYTES room)

-- of bytes that are read no more are left than are read
pub marked_short : (net : Net) (bytes : List ℕ) → length bytes ≤ MOST_JOURNAL_BYTES → length (marked net bytes) ≤ MOST_JOURNAL_BYTES
marked_short net bytes short = ⊎_elim
    (λ (owed : IsMarkWhere net (has_mark net (whole bytes)) (length (whole bytes))).
    omega (arith, owed.room, ap length owed.is, length-append (whole bytes) (mark_owed net bytes)))
    (λ (none : mark_owed net bytes ≡ []).
    omega (arith, short, ap length none, length-append (whole bytes) (mark_owed net bytes), length-take (length bytes - length (tail_of bytes)) bytes))
    (mark_or_none net (has_mark net (whole bytes)) (length (whole bytes)))

-- bytes that keep changes and have no line that is the mark say none
none_said : (net : Net) (are : AreLines net) (bytes : List ℕ) (changes : List Change) (keeps : Keeps net bytes changes) → AreInRange net 0 changes → has_mark net bytes ≡ false
    → marks_in keeps.said ≡ 0
none_said net are bytes changes keeps ranges none = ⊎_elim
    (λ (one : marks_in keeps.said ≡ marks_where true).
    let here = has_mark-said net are 0 keeps.said true (subst (AreInRange net 0) (sym keeps.changes_are) ranges) one in
    let bad : true ≡ false = sym here ∙ (ap (has_mark net) (sym keeps.lines) ∙ none) in
    absurd cc)
    (λ (no : marks_in keeps.said ≡ marks_where false). no)
    (stands_or_not keeps.said keeps.one_mark)

-- what a recovery leaves, where it appends the mark
pub keeps_owed : (net : Net) (are : AreLines net) (bytes : List ℕ) (changes : List Change) → Recovered net bytes changes → has_mark net (whole bytes) ≡ false
    → Keeps net (whole bytes ++ mark_of net) changes
keeps_owed net are bytes changes tells none = keeps_mark net (whole bytes) changes tells.lines (none_said net are (whole bytes) changes tells.lines tells.ranges none)

-- the bytes up to the last newline tell the same changes
pub whole_tells : (net : Net) (are : AreLines net) (bytes : List ℕ) (changes : List Change) → Recovered net bytes changes → Recovered net (whole bytes) changes
whole_tells net are bytes changes tells = told_lines net are (whole bytes) (whole bytes) changes [] tells.lines tells.ranges tells.follow refl (sym (append-nil (whole bytes)))

-- no newline stands in the text of the mark
mark_lacks : (net : Net) (are : AreLines net) → lacks 10 (text_of_mark net) ≡ true
mark_lacks net are = first_line_lacks (mark_of net ++ []) (text_of_mark net) (lines []) (are.mark_cut [])

-- where the mark is appended, in part or whole
owed_tells : (net : Net) (are : AreLines net) (bytes : List ℕ) (changes : List Change) (kept : ℕ) → Recovered net bytes changes → has_mark net (whole bytes) ≡ false
    → Recovered net (whole bytes ++ take kept (mark_of net)) changes
owed_tells net are bytes changes kept tells none = ⊎_elim
    (λ (part : lacks 10 (take kept (mark_of net)) ≡ true).
    told_lines net are (whole bytes ++ take kept (mark_of net)) (whole bytes) changes (take kept (mark_of net)) tells.lines tells.ranges tells.follow part refl)
    (λ (all : take kept (mark_of net) ≡ mark_of net).
    told_lines net are (whole bytes ++ take kept (mark_of net)) (whole bytes ++ mark_of net) changes [] (keeps_owed net are bytes changes tells none) tells.ranges tells.follow refl
    (ap (λ (m : List ℕ). whole bytes ++ m) all ∙ sym (append-nil (whole bytes ++ mark_of net))))
    (part_of (text_of_mark net) kept (mark_lacks net are))

nothing_taken : (kept : ℕ) (piece : List ℕ) → piece ≡ [] → take kept piece ≡ []
nothing_taken kept piece none = ap (take kept) none ∙ take_all kept [] (omega arith)

-- so bytes that were marked, whole or in part, tell the same changes
pub part_tells : (net : Net) (are : AreLines net) (bytes : List ℕ) (changes : List Change) (kept : ℕ) → Recovered net bytes changes → Recovered net (marked_in_part net kept bytes) changes
part_tells net are bytes changes kept tells = ⊎_elim
    (λ (owed : IsMarkWhere net (has_mark net (whole bytes)) (length (whole bytes))).
    subst (λ (m : List ℕ). Recovered net (whole bytes ++ take kept m) changes) (sym owed.is) (owed_tells net are bytes changes kept tells owed.first))
    (λ (none : mark_owed net bytes ≡ []).
    subst (λ (b : List ℕ). Recovered net b changes)
    (sym (ap (λ (m : List ℕ). whole bytes ++ m) (nothing_taken kept (mark_owed net bytes) none) ∙ append-nil (whole bytes)))
    (whole_tells net are bytes changes tells))
    (mark_or_none net (has_mark net (whole bytes)) (length (whole bytes)))

-- and they keep them
pub keeps_marked : (net : Net) (are : AreLines net) (bytes : List ℕ) (changes : List Change) → Recovered net bytes changes → Keeps net (marked net bytes) changes
keeps_marked net are bytes changes tells = ⊎_elim
    (λ (owed : IsMarkWhere net (has_mark net (whole bytes)) (length (whole bytes))).
    subst (λ (m : List ℕ). Keeps net (whole bytes ++ m) changes) (sym owed.is) (keeps_owed net are bytes changes tells owed.first))
    (λ (none : mark_owed net bytes ≡ []).
    subst (λ (b : List ℕ). Keeps net b changes) (sym (ap (λ (m : List ℕ). whole bytes ++ m) none ∙ append-nil (whole bytes))) tells.lines)
    (mark_or_none net (has_mark net (whole bytes)) (length (whole bytes)))

pub marked_tells : (net : Net) (are : AreLines net) (bytes : List ℕ) (changes : List Change) → Recovered net bytes changes → Recovered net (marked net bytes) changes
marked_tells net are bytes changes tells =
    told_lines net are (marked net bytes) (marked net bytes) changes [] (keeps_marked net are bytes changes tells) tells.ranges tells.follow refl (sym (append-nil (marked net bytes)))

-- all of them stand before the last newline
whole_marked : (net : Net) (are : AreLines net) (bytes : List ℕ) (changes : List Change) → Recovered net bytes changes → whole (marked net bytes) ≡ marked net bytes
whole_marked net are bytes changes tells =
    whole_kept net are (marked net bytes) (marked net bytes) changes [] (keeps_marked net are bytes changes tells) tells.ranges refl (sym (append-nil (marked net bytes)))

-- with the mark behind them, some line is it
has_mark-owed : (net : Net) (are : AreLines net) (bytes : List ℕ) (changes : List Change) → Recovered net bytes changes → has_mark net (whole bytes) ≡ false
    → has_mark net (whole bytes ++ mark_of net) ≡ true
has_mark-owed net are bytes changes tells none =
    let said = tells.lines.said in
    let zero = none_said net are (whole bytes) changes tells.lines tells.ranges none in
    let spelled : whole bytes ++ mark_of net ≡ lines_said net 0 (said ++ None ∷ []) = ap (λ (b : List ℕ). b ++ mark_of net) tells.lines.lines ∙ sym (lines_said-mark net said) in
    let same : changes_in (said ++ None ∷ []) ≡ changes = changes_in-append said (None ∷ []) ∙ (append-nil (changes_in said) ∙ tells.lines.changes_are) in
    let marks : marks_in (said ++ None ∷ []) ≡ marks_where true = omega (arith, zero, marks_in-append said (None ∷ []), marks_in-mark []) in
    ap (has_mark net) spelled ∙ has_mark-said net are 0 (said ++ None ∷ []) true (subst (AreInRange net 0) (sym same) tells.ranges) marks

-- so nothing more is appended to them
nothing_owed : (net : Net) (are : AreLines net) (bytes : List ℕ) (changes : List Change) → Recovered net bytes changes → mark_owed net (marked net bytes) ≡ []
nothing_owed net are bytes changes tells =
    let same = ap (λ (b : List ℕ). mark_where net (has_mark net b) (length b)) (whole_marked net are bytes changes tells) in
    ⊎_elim
    (λ (owed : IsMarkWhere net (has_mark net (whole bytes)) (length (whole bytes))).
    let now : has_mark net (marked net bytes) ≡ true = ap (λ (m : List ℕ). has_mark net (whole bytes ++ m)) owed.is ∙ has_mark-owed net are bytes changes tells owed.first in
    same ∙ ap (λ (b : Bool). mark_where net b (length (marked net bytes))) now)
    (λ (none : mark_owed net bytes ≡ []).
    let stays : marked net bytes ≡ whole bytes = ap (λ (m : List ℕ). whole bytes ++ m) none ∙ append-nil (whole bytes) in
    same ∙ (ap (λ (b : List ℕ). mark_where net (has_mark net b) (length b)) stays ∙ none))
    (mark_or_none net (has_mark net (whole bytes)) (length (whole bytes)))

-- and a second recovery leaves them as they are
pub marked_again : (net : Net) (are : AreLines net) (bytes : List ℕ) (changes : List Change) → Recovered net bytes changes → marked net (marked net bytes) ≡ marked net bytes
marked_again net are bytes changes tells =
    ap (λ (m : List ℕ). whole (marked net bytes) ++ m) (nothing_owed net are bytes changes tells)
    ∙ (append-nil (whole (marked net bytes)) ∙ whole_marked net are bytes changes tells)

-- what was read says whether the mark is owed
pub owed_taken : (net : Net) (are : AreLines net) (bytes : List ℕ) (state : State) (kept : ℕ) (stands : Bool) → TakesText net bytes state kept stands
    → mark_where net stands kept ≡ mark_owed net bytes
owed_taken net are bytes state kept stands taken =
    let keeps = taken.told.lines in
    let here : has_mark net (whole bytes) ≡ stands =
    ap (has_mark net) keeps.lines ∙ has_mark-said net are 0 keeps.said stands (subst (AreInRange net 0) (sym keeps.changes_are) taken.told.ranges) taken.marks in
    let size : length (whole bytes) ≡ kept = ap length (sym taken.kept_is) ∙ length-take-le kept bytes taken.within in
    sym (ap (λ (b : Bool). mark_where net b (length (whole bytes))) here ∙ ap (mark_where net stands) size)

-- what a store tells that gained a first part of it
pub gained_part : (net : Net) (told : Option (List ℕ)) (bytes piece : List ℕ) (kept : ℕ) → Gives told bytes → piece ≡ mark_owed net bytes
    → gained (option_map whole told) (take kept piece) ≡ option_map (marked_in_part net kept) told
gained_part net None bytes piece kept gives is = refl
gained_part net (Some held) bytes piece kept gives is = ap (λ (m : List ℕ). Some (whole held ++ take kept m)) (is ∙ ap (mark_owed net) gives)

-- and of one that gained all of it
pub gained_all : (net : Net) (told : Option (List ℕ)) (bytes piece : List ℕ) → Gives told bytes → piece ≡ mark_owed net bytes
    → gained (option_map whole told) piece ≡ option_map (marked net) told
gained_all net None bytes piece gives is = refl
gained_all net (Some held) bytes piece gives is = ap (λ (m : List ℕ). Some (whole held ++ m)) (is ∙ ap (mark_owed net) gives)

-- a fault in the cut is one in the mark, of which nothing is appended
pub cut_or_marked : (net : Net) (old new : Option (List ℕ)) → TellsSome net old → MaybeCut old new → MaybeMarked net old new
cut_or_marked net old new tells (inl same) = inl same
cut_or_marked net None new tells (inr cut) = inr ((0, cut), tells)
cut_or_marked net (Some bytes) new tells (inr cut) = inr ((0, cut ∙ ap Some (sym (append-nil (whole bytes)))), tells)

-- and so is one where memory ran out
pub cut_or_trimmed : (net : Net) (old new : Option (List ℕ)) → TellsSome net old → MaybeCut old new → MaybeTrimmed net old new
cut_or_trimmed net old new tells (inl same) = inl same
cut_or_trimmed net old new tells (inr cut) = inr (cut, tells)

-- a text without a newline is behind the last one
tail-none : (rest : List ℕ) → lines rest ≡ rest ∷ [] → tail_of rest ≡ rest
tail-none rest none = ap (λ (ls : List (List ℕ)). slice_index_or ls (length ls - 1) []) none

-- once no line is left, all were taken
pub Stands-end : (net : Net) (text rest : List ℕ) (machine : Records) (count : ℕ) (marked : Bool) → Stands net text rest machine count marked → lines rest ≡ rest ∷ []
    → TakesText net text machine.state (length text - length rest) marked
Stands-end net text rest machine count marked stands none =
    let end : tail_of text ≡ rest = stands.tail_is ∙ tail-none rest none in
    let size : length text - length (tail_of text) ≡ length text - length rest = ap (λ (t : List ℕ). length text - length t) end in
    let front : length text - length rest ≡ length (lines_said net 0 stands.said) =
    omega (arith, ap length stands.text_is, length-append (lines_said net 0 stands.said) rest) in
    let whole_is : whole text ≡ lines_said net 0 stands.said =
    ap (λ (k : ℕ). take k text) (size ∙ front) ∙ (ap (λ (b : List ℕ). take (length (lines_said net 0 stands.said)) b) stands.text_is ∙ take-append_seam (lines_said net 0 stands.said) rest) in
    record {
      told = record {
        lines = record { said = stands.said; lines = whole_is; changes_are = stands.made; one_mark = omega (arith, stands.marks, one_mark_at_most marked) };
        ranges = stands.ranges;
        follow = stands.follow;
      };
      marks = stands.marks;
      runs = stands.runs;
      kept_is = ap (λ (k : ℕ). take k text) (sym size);
      within = omega arith;
    }

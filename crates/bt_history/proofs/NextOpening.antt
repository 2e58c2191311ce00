-- What a book leaves in its store is told by the next opening.
use Rattle.std.proofs.Common.{◌≡◌, ◌⊎◌, ℕ, ◌+◌, ◌-◌, true, List, [], ◌∷◌, ◌++◌, length, take, drop, slice_index_or, Option, Some, None, refl, sym, ap, ◌∙◌, subst, arith, append_assoc, length-append, inl, inr, ⊎_elim}
use Rattle.std.specs.Prelude.{IfSome}
use Rattle.std.proofs.lemmas.Bool.{and_parts, cases_eq}
use Rattle.std.proofs.lemmas.List.{append-nil, take_all, take-append-drop, take-append-le}
use Rattle.std.proofs.Math.Seq.{take-append_seam}
use Rattle.bt_text.specs.Text.{lines, lacks, spaced}
use Rattle.bt_text.proofs.FirstLine.{lines-HasFirst}
use Rattle.bt_text.proofs.TextLines.{first_line_lacks, lacks-append, slice_split-lacks}
use Rattle.bt_net.specs.Network.{Net}
use Rattle.bt_journal.specs.declared.call.Change.{Change}
use Rattle.bt_journal.specs.JournalLines.{IsChangeInRange, change_line, change_parts, edits_in}
use Rattle.bt_journal.specs.Kept.{Keeps, changes_in, lines_said}
use Rattle.bt_journal.specs.Mark.{mark_of, text_of_mark}
use Rattle.bt_history.specs.Causes.{Follows}
use Rattle.bt_history.specs.Changes.{edition}
use Rattle.bt_history.specs.Machine.{line_behind}
use Rattle.bt_history.specs.Recovery.{AreInRange, Recovered, tail_of, whole}
use Rattle.bt_history.specs.Store.{IsStored}
use Rattle.bt_history.specs.Crash.{TellsNext}
use Rattle.bt_history.proofs.OneMore.{ended_length}
use Rattle.bt_history.proofs.SaidLines.{keeps_change}
use Rattle.bt_history.proofs.OneJournal.{AreLines, in_range-behind}
use Rattle.bt_history.proofs.Replayed.{tail-cons}

-- a text without a newline is its own tail
tail-lacks : (text : List ℕ) → lacks 10 text ≡ true → tail_of text ≡ text
tail-lacks text none = ap (λ (ls : List (List ℕ)). slice_index_or ls (length ls - 1) []) (slice_split-lacks 10 text none)

-- and the tail behind lines
tail_behind : (net : Net) (are : AreLines net) (edits : ℕ) (said : List (Option Change)) (tail : List ℕ) → AreInRange net edits (changes_in said) → lacks 10 tail ≡ true
    → tail_of (lines_said net edits said ++ tail) ≡ tail
tail_behind net are edits [] tail ranges none = tail-lacks tail none
tail_behind net are edits (None ∷ said) tail ranges none =
    let rest = lines_said net edits said ++ tail in
    let cut : lines ((mark_of net ++ lines_said net edits said) ++ tail) ≡ text_of_mark net ∷ lines rest =
    ap lines (append_assoc (mark_of net) (lines_said net edits said) tail) ∙ are.mark_cut rest in
    ap (λ (ls : List (List ℕ)). slice_index_or ls (length ls - 1) []) cut
    ∙ (tail-cons (text_of_mark net) (lines rest) (lines-HasFirst rest) ∙ tail_behind net are edits said tail ranges none)
tail_behind net are edits (Some first ∷ said) tail ranges none =
    let number = edits + edits_in first in
    let rest = lines_said net number said ++ tail in
    let cut : lines ((change_line net number first ++ lines_said net number said) ++ tail) ≡ spaced (change_parts net number first) ∷ lines rest =
    ap lines (append_assoc (change_line net number first) (lines_said net number said) tail) ∙ are.cut number first rest ranges.0 in
    ap (λ (ls : List (List ℕ)). slice_index_or ls (length ls - 1) []) cut
    ∙ (tail-cons (spaced (change_parts net number first)) (lines rest) (lines-HasFirst rest)
    ∙ tail_behind net are number said tail ranges.1 none)

-- the bytes up to the last newline, where a tail without one stands behind lines
pub whole_behind : (net : Net) (are : AreLines net) (bytes : List ℕ) (said : List (Option Change)) (tail : List ℕ) → AreInRange net 0 (changes_in said) → lacks 10 tail ≡ true
    → bytes ≡ lines_said net 0 said ++ tail → whole bytes ≡ lines_said net 0 said
whole_behind net are bytes said tail ranges none is =
    let told = lines_said net 0 said in
    let end : tail_of bytes ≡ tail = ap tail_of is ∙ tail_behind net are 0 said tail ranges none in
    let size : length bytes - length (tail_of bytes) ≡ length told = omega (arith, ap length end, ap length is, length-append told tail) in
    ap (λ (k : ℕ). take k bytes) size ∙ (ap (λ (b : List ℕ). take (length told) b) is ∙ take-append_seam told tail)

-- so bytes that keep changes, and a tail without a newline behind them, tell the changes
pub told_lines : (net : Net) (are : AreLines net) (bytes kept : List ℕ) (changes : List Change) (tail : List ℕ) → Keeps net kept changes → AreInRange net 0 changes → Follows net changes
    → lacks 10 tail ≡ true → bytes ≡ kept ++ tail → Recovered net bytes changes
told_lines net are bytes kept changes tail keeps ranges follow none is = record {
  lines = record {
    said = keeps.said;
    lines = whole_behind net are bytes keeps.said tail (subst (AreInRange net 0) (sym keeps.changes_are) ranges) none (is ∙ ap (λ (b : List ℕ). b ++ tail) keeps.lines);
    changes_are = keeps.changes_are;
    one_mark = keeps.one_mark;
  };
  ranges = ranges;
  follow = follow;
}

-- and the bytes that keep them are those up to the last newline
pub whole_kept : (net : Net) (are : AreLines net) (bytes kept : List ℕ) (changes : List Change) (tail : List ℕ) → Keeps net kept changes → AreInRange net 0 changes
    → lacks 10 tail ≡ true → bytes ≡ kept ++ tail → whole bytes ≡ kept
whole_kept net are bytes kept changes tail keeps ranges none is =
    whole_behind net are bytes keeps.said tail (subst (AreInRange net 0) (sym keeps.changes_are) ranges) none (is ∙ ap (λ (b : List ℕ). b ++ tail) keeps.lines) ∙ sym keeps.lines

-- the first of changes in range are in range
ranges_first : (net : Net) (edits : ℕ) (changes more : List Change) → AreInRange net edits (changes ++ more) → AreInRange net edits changes
ranges_first net edits [] more ranges = tt
ranges_first net edits (first ∷ changes) more ranges = (ranges.0, ranges_first net (edits + edits_in first) changes more ranges.1)

-- a first part of a text without a newline has none
pub lacks-take : (text : List ℕ) (kept : ℕ) → lacks 10 text ≡ true → lacks 10 (take kept text) ≡ true
lacks-take text kept none =
    (and_parts (lacks 10 (take kept text)) (lacks 10 (drop kept text))
    (sym (lacks-append 10 (take kept text) (drop kept text)) ∙ (ap (lacks 10) (take-append-drop kept text) ∙ none))).0

-- a first part of a text that is ended by a newline is a first part of the text, or all of it with the newline
pub part_of : (text : List ℕ) (kept : ℕ) → lacks 10 text ≡ true → (lacks 10 (take kept (text ++ 10 ∷ [])) ≡ true) ⊎ (take kept (text ++ 10 ∷ []) ≡ text ++ 10 ∷ [])
part_of text kept none = ⊎_elim
    (λ (all : length text + 1 - kept ≡ 0). inr (take_all kept (text ++ 10 ∷ []) (omega (arith, all, ended_length text))))
    (λ (few : length text + 1 - kept ≡ 0 → ⊥). inl (ap (lacks 10) (take-append-le kept text (10 ∷ []) (omega (arith, few))) ∙ lacks-take text kept none))
    (cases_eq (length text + 1 - kept) 0)

-- where a line was lost, its bytes are not all there, or it is the last
opening_part : (net : Net) (are : AreLines net) (bytes lines_kept : List ℕ) (changes : List Change) (one : Change) (kept : ℕ) → Follows net changes → IsStored net (Some bytes) changes (one ∷ [])
    → Keeps net lines_kept changes → bytes ≡ lines_kept ++ take kept (line_behind net changes one) → TellsNext net changes (one ∷ []) bytes
opening_part net are bytes lines_kept changes one kept follow stored keeps is =
    let number = edition changes + edits_in one in
    let line = line_behind net changes one in
    let text = spaced (change_parts net number one) in
    let range : IsChangeInRange net number one = subst (λ (n : ℕ). IsChangeInRange net n one) (omega arith) (in_range-behind net 0 changes (one ∷ []) stored.ranges).0 in
    let none : lacks 10 text ≡ true = first_line_lacks (line ++ []) text (lines []) (are.cut number one [] range) in
    ⊎_elim
    (λ (part : lacks 10 (take kept line) ≡ true).
    (changes, told_lines net are bytes lines_kept changes (take kept line) keeps (ranges_first net 0 changes (one ∷ []) stored.ranges) follow part is, inl refl))
    (λ (all : take kept line ≡ line).
    let whole_is : bytes ≡ (lines_kept ++ line) ++ [] = is ∙ (ap (λ (l : List ℕ). lines_kept ++ l) all ∙ sym (append-nil (lines_kept ++ line))) in
    (changes ++ one ∷ [], told_lines net are bytes (lines_kept ++ line) (changes ++ one ∷ []) [] (keeps_change net lines_kept changes one keeps) stored.ranges stored.follow refl whole_is, inr (one, refl, refl)))
    (part_of text kept none)

-- so the next opening of a store has the changes, or these and the lost one
pub next_opening : (net : Net) (are : AreLines net) (told : Option (List ℕ)) (changes lost : List Change) → Follows net changes → IsStored net told changes lost
    → IfSome told (λ bytes. TellsNext net changes lost bytes)
next_opening net are None changes lost follow stored = tt
next_opening net are (Some bytes) changes [] follow stored =
    let ranges = subst (AreInRange net 0) (append-nil changes) stored.ranges in
    (changes, told_lines net are bytes bytes changes [] stored.kept ranges follow refl (sym (append-nil bytes)), inl refl)
next_opening net are (Some bytes) changes (one ∷ []) follow stored =
    let (lines_kept, kept, keeps, is) = stored.kept in
    opening_part net are bytes lines_kept changes one kept follow stored keeps is
next_opening net are (Some bytes) changes (one ∷ two ∷ more) follow stored = absurd (omega (arith, stored.one))

-- The lines of changes with one more behind them, and how many bytes they have.
use Rattle.std.proofs.Common.{◌≡◌, ℕ, ◌+◌, ◌≤◌, List, [], ◌∷◌, ◌++◌, length, sym, ap, ◌∙◌, arith, append_assoc, length-append}
use Rattle.std.proofs.lemmas.List.{append-nil}
use Rattle.std.proofs.lemmas.List.Sums.{sum_by-cons}
use Rattle.bt_text.specs.Text.{spaced}
use Rattle.bt_net.specs.Network.{Net}
use Rattle.bt_journal.specs.declared.call.Change.{Change}
use Rattle.bt_journal.specs.JournalLines.{change_line, change_parts, edits_in, journal_lines, lines_from}
use Rattle.bt_history.specs.Changes.{edition}
use Rattle.bt_history.specs.Machine.{bytes_of, bytes_with, line_behind}

-- one line more
lines_from-push : (net : Net) (edits : ℕ) (changes : List Change) (one : Change) (number : ℕ) → number ≡ edits + edition changes + edits_in one
    → lines_from net edits (changes ++ one ∷ []) ≡ lines_from net edits changes ++ change_line net number one
lines_from-push net edits [] one number is =
    append-nil (change_line net (edits + edits_in one) one) ∙ ap (λ (n : ℕ). change_line net n one) (omega (arith, is))
lines_from-push net edits (first ∷ changes) one number is =
    let line = change_line net (edits + edits_in first) first in
    ap (λ (bytes : List ℕ). line ++ bytes)
    (lines_from-push net (edits + edits_in first) changes one number (omega (arith, is, sum_by-cons edits_in first changes)))
    ∙ sym (append_assoc line (lines_from net (edits + edits_in first) changes) (change_line net number one))

-- from no changes on
pub journal_lines-push : (net : Net) (changes : List Change) (one : Change)
    → journal_lines net (changes ++ one ∷ []) ≡ journal_lines net changes ++ line_behind net changes one
journal_lines-push net changes one = lines_from-push net 0 changes one (edition changes + edits_in one) (omega arith)

-- as many bytes more
pub bytes_of-push : (net : Net) (changes : List Change) (one : Change) → bytes_of net (changes ++ one ∷ []) ≡ bytes_with net changes one
bytes_of-push net changes one = ap length (journal_lines-push net changes one) ∙ length-append (journal_lines net changes) (line_behind net changes one)

-- what a newline behind a line makes of its length
pub ended_length : (line : List ℕ) → length (line ++ 10 ∷ []) ≡ length line + 1
ended_length line = length-append line (10 ∷ [])

-- a line has a newline at least
pub some_byte : (net : Net) (changes : List Change) (one : Change) → 1 ≤ length (line_behind net changes one)
some_byte net changes one = omega (arith, ended_length (spaced (change_parts net (edition changes + edits_in one) one)))

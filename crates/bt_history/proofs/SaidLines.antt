-- What the lines of a journal say: the changes and the marks among them, and how long the lines are.
use Rattle.std.proofs.Common.{◌≡◌, ℕ, ◌+◌, ◌*◌, ◌≤◌, List, [], ◌∷◌, ◌++◌, length, Option, Some, None, cond, is_none, sym, ap, ◌∙◌, arith, append_assoc, length-append}
use Rattle.std.proofs.lemmas.List.{append-nil}
use Rattle.std.proofs.lemmas.List.Elements.{filter_map-append}
use Rattle.std.proofs.lemmas.List.Sums.{sum_by-append, sum_by-cons}
use Rattle.bt_text.specs.Text.{spaced}
use Rattle.bt_net.specs.Network.{Net}
use Rattle.bt_journal.specs.declared.call.Change.{Change}
use Rattle.bt_journal.specs.JournalLines.{change_line, change_parts, edits_in, lines_from}
use Rattle.bt_journal.specs.Kept.{Keeps, changes_in, lines_said, marks_in}
use Rattle.bt_journal.specs.Mark.{mark_of, text_of_mark}
use Rattle.bt_history.specs.Changes.{edition}
use Rattle.bt_history.specs.Machine.{bytes_of, line_behind}
use Rattle.bt_history.proofs.OneMore.{ended_length}

-- a line of the mark counts
pub marks_in-mark : (said : List (Option Change)) → marks_in (None ∷ said) ≡ marks_in said + 1
marks_in-mark said = omega (arith, sum_by-cons (λ (line : Option Change). cond (is_none line) 1 0) None said)

-- a line of a change does not
pub marks_in-change : (one : Change) (said : List (Option Change)) → marks_in (Some one ∷ said) ≡ marks_in said
marks_in-change one said = omega (arith, sum_by-cons (λ (line : Option Change). cond (is_none line) 1 0) (Some one) said)

pub marks_in-append : (a b : List (Option Change)) → marks_in (a ++ b) ≡ marks_in a + marks_in b
marks_in-append a b = sum_by-append (λ (line : Option Change). cond (is_none line) 1 0) a b

pub changes_in-append : (a b : List (Option Change)) → changes_in (a ++ b) ≡ changes_in a ++ changes_in b
changes_in-append a b = filter_map-append (λ (line : Option Change). line) a b

-- the lines of what is said first, and then of the rest
pub lines_said-append : (net : Net) (edits : ℕ) (a b : List (Option Change)) → lines_said net edits (a ++ b) ≡ lines_said net edits a ++ lines_said net (edits + edition (changes_in a)) b
lines_said-append net edits [] b = ap (λ (n : ℕ). lines_said net n b) (omega arith)
lines_said-append net edits (None ∷ a) b =
    ap (λ (l : List ℕ). mark_of net ++ l) (lines_said-append net edits a b)
    ∙ sym (append_assoc (mark_of net) (lines_said net edits a) (lines_said net (edits + edition (changes_in a)) b))
lines_said-append net edits (Some one ∷ a) b =
    let number = edits + edits_in one in
    let line = change_line net number one in
    ap (λ (l : List ℕ). line ++ l)
    (lines_said-append net number a b ∙ ap (λ (n : ℕ). lines_said net number a ++ lines_said net n b) (omega (arith, sum_by-cons edits_in one (changes_in a))))
    ∙ sym (append_assoc line (lines_said net number a) (lines_said net (edits + edition (one ∷ changes_in a)) b))

-- one line more
pub lines_said-change : (net : Net) (said : List (Option Change)) (one : Change) → lines_said net 0 (said ++ Some one ∷ []) ≡ lines_said net 0 said ++ line_behind net (changes_in said) one
lines_said-change net said one =
    let number = edition (changes_in said) + edits_in one in
    let here : 0 + edition (changes_in said) + edits_in one ≡ number = omega arith in
    lines_said-append net 0 said (Some one ∷ [])
    ∙ ap (λ (l : List ℕ). lines_said net 0 said ++ l) (append-nil (change_line net (0 + edition (changes_in said) + edits_in one) one) ∙ ap (λ (n : ℕ). change_line net n one) here)

pub lines_said-mark : (net : Net) (said : List (Option Change)) → lines_said net 0 (said ++ None ∷ []) ≡ lines_said net 0 said ++ mark_of net
lines_said-mark net said = lines_said-append net 0 said (None ∷ []) ∙ ap (λ (l : List ℕ). lines_said net 0 said ++ l) (append-nil (mark_of net))

-- the lines have the bytes of the changes and those of the marks
pub length-lines_said : (net : Net) (edits : ℕ) (said : List (Option Change))
    → length (lines_said net edits said) ≡ length (lines_from net edits (changes_in said)) + marks_in said * length (mark_of net)
length-lines_said net edits [] = omega arith
length-lines_said net edits (None ∷ said) =
    let size = length (mark_of net) in
    let more : marks_in (None ∷ said) * size ≡ (marks_in said + 1) * size = ap (λ (n : ℕ). n * size) (marks_in-mark said) in
    omega (arith, more, length-lines_said net edits said, length-append (mark_of net) (lines_said net edits said))
length-lines_said net edits (Some one ∷ said) =
    let size = length (mark_of net) in
    let number = edits + edits_in one in
    let line = change_line net number one in
    let same : marks_in (Some one ∷ said) * size ≡ marks_in said * size = ap (λ (n : ℕ). n * size) (marks_in-change one said) in
    omega (
      arith,
      same,
      length-lines_said net number said,
      length-append line (lines_said net number said),
      length-append line (lines_from net number (changes_in said)),
    )

-- each line has a byte at least
pub length-said : (net : Net) (edits : ℕ) (said : List (Option Change)) → length said ≤ length (lines_said net edits said)
length-said net edits [] = omega arith
length-said net edits (None ∷ said) =
    omega (arith, length-said net edits said, length-append (mark_of net) (lines_said net edits said), ended_length (text_of_mark net))
length-said net edits (Some one ∷ said) =
    let number = edits + edits_in one in
    omega (
      arith,
      length-said net number said,
      length-append (change_line net number one) (lines_said net number said),
      ended_length (spaced (change_parts net number one)),
    )

-- how many bytes keep changes: those of their lines, and with the mark at most as many more as it has
pub kept_length : (net : Net) (bytes : List ℕ) (changes : List Change) (few : ℕ) → length (mark_of net) ≤ few → Keeps net bytes changes → length bytes ≤ bytes_of net changes + few
kept_length net bytes changes few short keeps =
    let size = length (mark_of net) in
    let marks = marks_in keeps.said in
    let once : marks * size ≤ 1 * size = grind (arith, keeps.one_mark) in
    omega (arith, once, short, ap length keeps.lines, length-lines_said net 0 keeps.said, ap (bytes_of net) keeps.changes_are)

-- with the line of one change more, the bytes keep one change more
pub keeps_change : (net : Net) (bytes : List ℕ) (changes : List Change) (one : Change) → Keeps net bytes changes → Keeps net (bytes ++ line_behind net changes one) (changes ++ one ∷ [])
keeps_change net bytes changes one keeps = record {
  said = keeps.said ++ Some one ∷ [];
  lines = ap (λ (b : List ℕ). b ++ line_behind net changes one) keeps.lines
      ∙ (ap (λ (c : List Change). lines_said net 0 keeps.said ++ line_behind net c one) (sym keeps.changes_are) ∙ sym (lines_said-change net keeps.said one));
  changes_are = changes_in-append keeps.said (Some one ∷ []) ∙ ap (λ (c : List Change). c ++ one ∷ []) keeps.changes_are;
  one_mark = omega (arith, keeps.one_mark, marks_in-append keeps.said (Some one ∷ []), marks_in-change one []);
}

-- with the mark behind lines that have none, they keep the same
pub keeps_mark : (net : Net) (bytes : List ℕ) (changes : List Change) (keeps : Keeps net bytes changes) → marks_in keeps.said ≡ 0 → Keeps net (bytes ++ mark_of net) changes
keeps_mark net bytes changes keeps none = record {
  said = keeps.said ++ None ∷ [];
  lines = ap (λ (b : List ℕ). b ++ mark_of net) keeps.lines ∙ sym (lines_said-mark net keeps.said);
  changes_are = changes_in-append keeps.said (None ∷ []) ∙ (append-nil (changes_in keeps.said) ∙ keeps.changes_are);
  one_mark = omega (arith, none, marks_in-append keeps.said (None ∷ []), marks_in-mark []);
}

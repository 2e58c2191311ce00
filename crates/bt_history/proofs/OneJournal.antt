-- The same bytes tell one list of changes, or have one first line that is of no change that follows.
use Rattle.std.proofs.Common.{◌≡◌, ◌≢◌, ℕ, ◌+◌, ◌-◌, ◌≤◌, ◌⊎◌, true, List, [], ◌∷◌, ◌++◌, length, take, slice_index_or, Option, Some, None, refl, sym, ap, ◌∙◌, subst, arith, append_assoc, length-append, inl, inr, ⊎_elim}
use Rattle.std.specs.Prelude.{IfSome}
use Rattle.std.specs.List.{list_all, join_with_byte}
use Rattle.std.proofs.lemmas.Bool.{and_parts}
use Rattle.std.proofs.lemmas.List.{append-nil, append_cancel_left}
use Rattle.std.proofs.lemmas.List.Splits.{join_with_byte-slice_split}
use Rattle.std.proofs.lemmas.List.Sums.{sum_by-cons}
use Rattle.std.proofs.Math.Seq.{take-append_seam}
use Rattle.bt_frame.specs.declared.numbers.EditionNo.{EditionNo}
use Rattle.bt_text.specs.Text.{lines, lacks, spaced}
use Rattle.bt_text.proofs.FirstLine.{HasFirst, lines-HasFirst}
use Rattle.bt_text.proofs.TextLines.{lacks-append, parts_lack, slice_split-next}
use Rattle.bt_net.specs.Network.{Net, IsSound}
use Rattle.bt_journal.specs.declared.call.Change.{Change}
use Rattle.bt_journal.specs.declared.call.Change.TheVariants as change
use Rattle.bt_journal.specs.JournalLines.{IsChangeInRange, change_line, change_parts, edition_said, edits_in}
use Rattle.bt_journal.specs.Kept.{changes_in, lines_said, marks_in}
use Rattle.bt_journal.specs.Mark.{IsMarkOf, mark_line, mark_of, mark_words, text_of_mark}
use Rattle.bt_history.specs.declared.fault.RecoverFault.{RecoverFault}
use Rattle.bt_history.specs.declared.fault.RecoverFault.TheVariants.{J1, J2, StoreFault, TooLong, OutOfMemory}
use Rattle.bt_history.specs.Changes.{edition}
use Rattle.bt_history.specs.Causes.{Follows, IsGood}
use Rattle.bt_history.specs.Recovery.{AreInRange, IsFirst, IsFirstNoLine, IsFirstStray, IsNoLine, IsNumbered, IsOutside, IsRecoverFault, IsStray, IsStrayChange, Recovered, tail_of, whole}
use Rattle.bt_history.proofs.Redone.{FollowFrom-at}
use Rattle.bt_history.proofs.SaidLines.{changes_in-append, length-said, marks_in-append, marks_in-mark}
use Rattle.bt_history.proofs.Replayed.{tail-cons}

-- what is known of the lines of changes in range and of the mark: where one ends, and that no two changes, and no change and a
-- mark, have one
pub record AreLines (net : Net) : Type 0 where
  pub cut : (number : ℕ) → (one : Change) → (rest : List ℕ) → IsChangeInRange net number one
      → lines (change_line net number one ++ rest) ≡ spaced (change_parts net number one) ∷ lines rest
  pub one_change : (number other : ℕ) → (one two : Change) → IsChangeInRange net number one → IsChangeInRange net other two
      → change_line net number one ≡ change_line net other two → one ≡ two
  pub one_edition : (number other : ℕ) → (one two : Change) → IsChangeInRange net number one → IsChangeInRange net other two
      → change_line net number one ≡ change_line net other two → edition_said number one ≡ edition_said other two
  pub of_net : IsMarkOf (length net.beams) (length net.terminals)
  pub short : length (mark_of net) ≤ 16
  pub mark_cut : (rest : List ℕ) → lines (mark_of net ++ rest) ≡ text_of_mark net ∷ lines rest
  pub one_mark : (beams terminals : ℕ) → IsMarkOf beams terminals → mark_line beams terminals ≡ mark_of net → (beams ≡ length net.beams) × (terminals ≡ length net.terminals)
  pub no_change : (number : ℕ) → (one : Change) → (beams terminals : ℕ) → IsChangeInRange net number one → IsMarkOf beams terminals → mark_line beams terminals ≢ change_line net number one

-- on a sound network, as the laws of lines say it
pub are_lines : (net : Net) → IsSound net
    → ((n : Net) (number : ℕ) (one : Change) (rest : List ℕ) → IsSound n → IsChangeInRange n number one
    → lines (change_line n number one ++ rest) ≡ spaced (change_parts n number one) ∷ lines rest)
    → ((n : Net) (number other : ℕ) (one two : Change) → IsSound n → IsChangeInRange n number one → IsChangeInRange n other two
    → change_line n number one ≡ change_line n other two → one ≡ two)
    → ((n : Net) (number other : ℕ) (one two : Change) → IsSound n → IsChangeInRange n number one → IsChangeInRange n other two
    → change_line n number one ≡ change_line n other two → edition_said number one ≡ edition_said other two)
    → ((beams terminals : ℕ) → IsMarkOf beams terminals → length (mark_line beams terminals) ≤ 16)
    → ((beams terminals : ℕ) (rest : List ℕ) → IsMarkOf beams terminals → lines (mark_line beams terminals ++ rest) ≡ spaced (mark_words beams terminals) ∷ lines rest)
    → ((beams terminals other another : ℕ) → IsMarkOf beams terminals → IsMarkOf other another → mark_line beams terminals ≡ mark_line other another → beams ≡ other)
    → ((beams terminals other another : ℕ) → IsMarkOf beams terminals → IsMarkOf other another → mark_line beams terminals ≡ mark_line other another → terminals ≡ another)
    → ((n : Net) (number : ℕ) (one : Change) (beams terminals : ℕ) → IsSound n → IsChangeInRange n number one → IsMarkOf beams terminals → mark_line beams terminals ≢ change_line n number one)
    → AreLines net
are_lines net sound cut one_change one_edition short mark_cut one_beams one_terminals no_change =
    let here : IsMarkOf (length net.beams) (length net.terminals) = (sound.beams.count, sound.terminals.count) in
    record {
      cut = λ number one rest range. cut net number one rest sound range;
      one_change = λ number other one two range also same. one_change net number other one two sound range also same;
      one_edition = λ number other one two range also same. one_edition net number other one two sound range also same;
      of_net = here;
      short = short (length net.beams) (length net.terminals) here;
      mark_cut = λ rest. mark_cut (length net.beams) (length net.terminals) rest here;
      one_mark = λ beams terminals range same. (
        one_beams beams terminals (length net.beams) (length net.terminals) range here same,
        one_terminals beams terminals (length net.beams) (length net.terminals) range here same,
      );
      no_change = λ number one beams terminals range mark. no_change net number one beams terminals sound range mark;
    }

-- the first lines of equal bytes are equal
same_first : (net : Net) (are : AreLines net) (number other : ℕ) (one two : Change) (r s : List ℕ) → IsChangeInRange net number one → IsChangeInRange net other two
    → change_line net number one ++ r ≡ change_line net other two ++ s → change_line net number one ≡ change_line net other two
same_first net are number other one two r s range also same =
    let cuts : spaced (change_parts net number one) ∷ lines r ≡ spaced (change_parts net other two) ∷ lines s =
    sym (are.cut number one r range) ∙ (ap lines same ∙ are.cut other two s also) in
    let first : spaced (change_parts net number one) ≡ spaced (change_parts net other two) = cc in
    ap (λ (text : List ℕ). text ++ 10 ∷ []) first

-- the mark of the network is the line of no change
mark_not_change : (net : Net) (are : AreLines net) (number : ℕ) (one : Change) → IsChangeInRange net number one → mark_of net ≢ change_line net number one
mark_not_change net are number one range = are.no_change number one (length net.beams) (length net.terminals) range are.of_net

-- so bytes do not begin with both
mark_not_first : (net : Net) (are : AreLines net) (number : ℕ) (one : Change) (r s : List ℕ) → IsChangeInRange net number one → mark_of net ++ r ≡ change_line net number one ++ s → ⊥
mark_not_first net are number one r s range same =
    let cuts : text_of_mark net ∷ lines r ≡ spaced (change_parts net number one) ∷ lines s = sym (are.mark_cut r) ∙ (ap lines same ∙ are.cut number one s range) in
    let first : text_of_mark net ≡ spaced (change_parts net number one) = cc in
    mark_not_change net are number one range (ap (λ (text : List ℕ). text ++ 10 ∷ []) first)

-- the lines of b go on where those of a end
pub record GoesOn (net : Net) (edits : ℕ) (a b : List (Option Change)) (r s : List ℕ) : Type 0 where
  pub more : List (Option Change)
  pub is : b ≡ a ++ more
  pub ahead : r ≡ lines_said net (edits + edition (changes_in a)) more ++ s

goes_on-change : (net : Net) (edits : ℕ) (x y : Change) (a b : List (Option Change)) (r s : List ℕ) → x ≡ y → GoesOn net (edits + edits_in x) a b r s
    → GoesOn net edits (Some x ∷ a) (Some y ∷ b) r s
goes_on-change net edits x y a b r s same on = record {
  more = on.more;
  is = ap (λ (c : Change). Some c ∷ b) (sym same) ∙ ap (λ (c : List (Option Change)). Some x ∷ c) on.is;
  ahead = on.ahead ∙ ap (λ (n : ℕ). lines_said net n on.more ++ s) (omega (arith, sum_by-cons edits_in x (changes_in a)));
}

goes_on-mark : (net : Net) (edits : ℕ) (a b : List (Option Change)) (r s : List ℕ) → GoesOn net edits a b r s → GoesOn net edits (None ∷ a) (None ∷ b) r s
goes_on-mark net edits a b r s on = record { more = on.more; is = ap (λ (c : List (Option Change)). None ∷ c) on.is; ahead = on.ahead }

-- of two lists of what is said whose lines begin the same bytes, one goes on where the other ends
compare : (net : Net) (are : AreLines net) (edits : ℕ) (a b : List (Option Change)) (r s : List ℕ) → AreInRange net edits (changes_in a) → AreInRange net edits (changes_in b)
    → lines_said net edits a ++ r ≡ lines_said net edits b ++ s → GoesOn net edits a b r s ⊎ GoesOn net edits b a s r
compare net are edits [] b r s range also same =
    inl (record { more = b; is = refl; ahead = same ∙ ap (λ (n : ℕ). lines_said net n b ++ s) (omega arith) })
compare net are edits (x ∷ a) [] r s range also same =
    inr (record { more = x ∷ a; is = refl; ahead = sym same ∙ ap (λ (n : ℕ). lines_said net n (x ∷ a) ++ r) (omega arith) })
compare net are edits (None ∷ a) (None ∷ b) r s range also same =
    let mark = mark_of net in
    let rest : lines_said net edits a ++ r ≡ lines_said net edits b ++ s =
    append_cancel_left mark (lines_said net edits a ++ r) (lines_said net edits b ++ s)
    (sym (append_assoc mark (lines_said net edits a) r) ∙ (same ∙ append_assoc mark (lines_said net edits b) s)) in
    ⊎_elim
    (λ (on : GoesOn net edits a b r s). let so : GoesOn net edits (None ∷ a) (None ∷ b) r s = goes_on-mark net edits a b r s on in inl so)
    (λ (on : GoesOn net edits b a s r). let so : GoesOn net edits (None ∷ b) (None ∷ a) s r = goes_on-mark net edits b a s r on in inr so)
    (compare net are edits a b r s range also rest)
compare net are edits (None ∷ a) (Some y ∷ b) r s range also same =
    let number = edits + edits_in y in
    absurd (mark_not_first net are number y (lines_said net edits a ++ r) (lines_said net number b ++ s) also.0
    (sym (append_assoc (mark_of net) (lines_said net edits a) r) ∙ (same ∙ append_assoc (change_line net number y) (lines_said net number b) s)))
compare net are edits (Some x ∷ a) (None ∷ b) r s range also same =
    let number = edits + edits_in x in
    absurd (mark_not_first net are number x (lines_said net edits b ++ s) (lines_said net number a ++ r) range.0
    (sym (append_assoc (mark_of net) (lines_said net edits b) s) ∙ (sym same ∙ append_assoc (change_line net number x) (lines_said net number a) r)))
compare net are edits (Some x ∷ a) (Some y ∷ b) r s range also same =
    let line = change_line net (edits + edits_in x) x in
    let other = change_line net (edits + edits_in y) y in
    let parted : line ++ (lines_said net (edits + edits_in x) a ++ r) ≡ other ++ (lines_said net (edits + edits_in y) b ++ s) =
    sym (append_assoc line (lines_said net (edits + edits_in x) a) r) ∙ (same ∙ append_assoc other (lines_said net (edits + edits_in y) b) s) in
    let first : line ≡ other = same_first net are (edits + edits_in x) (edits + edits_in y) x y _ _ range.0 also.0 parted in
    let one : x ≡ y = are.one_change (edits + edits_in x) (edits + edits_in y) x y range.0 also.0 first in
    let rest : lines_said net (edits + edits_in x) a ++ r ≡ lines_said net (edits + edits_in x) b ++ s =
    append_cancel_left line (lines_said net (edits + edits_in x) a ++ r) (lines_said net (edits + edits_in y) b ++ s) (parted ∙ ap (λ (l : List ℕ). l ++ (lines_said net (edits + edits_in y) b ++ s)) (sym first))
    ∙ ap (λ (c : Change). lines_said net (edits + edits_in c) b ++ s) (sym one) in
    let ranges = subst (λ (c : Change). AreInRange net (edits + edits_in c) (changes_in b)) (sym one) also.1 in
    ⊎_elim
    (λ (on : GoesOn net (edits + edits_in x) a b r s). let so : GoesOn net edits (Some x ∷ a) (Some y ∷ b) r s = goes_on-change net edits x y a b r s one on in inl so)
    (λ (on : GoesOn net (edits + edits_in x) b a s r).
    let so : GoesOn net edits (Some y ∷ b) (Some x ∷ a) s r = goes_on-change net edits y x b a s r (sym one) (subst (λ (c : Change). GoesOn net (edits + edits_in c) b a s r) one on) in inr so)
    (compare net are (edits + edits_in x) a b r s range.1 ranges rest)

pub in_range-behind : (net : Net) (edits : ℕ) (a more : List Change) → AreInRange net edits (a ++ more) → AreInRange net (edits + edition a) more
in_range-behind net edits [] more ranges = subst (λ (n : ℕ). AreInRange net n more) (omega arith) ranges
in_range-behind net edits (x ∷ a) more ranges =
    subst (λ (n : ℕ). AreInRange net n more) (omega (arith, sum_by-cons edits_in x a)) (in_range-behind net (edits + edits_in x) a more ranges.1)

-- the line, its newline included, is of a change that follows
pub record IsNextChange (net : Net) (before : List Change) (line : List ℕ) : Type 0 where
  pub one : Change
  pub range : IsChangeInRange net (edition before + edits_in one) one
  pub spelled : line ≡ change_line net (edition before + edits_in one) one
  pub good : IsGood net before one

-- it is of one, or it is the mark, where none stands
abbrev pub IsNextLine : Net → List (Option Change) → List ℕ → Type 0
IsNextLine net before line = IsNextChange net (changes_in before) line ⊎ ((marks_in before ≡ 0) × (line ≡ mark_of net))

next_no_line : (net : Net) (are : AreLines net) (before : List (Option Change)) (line : List ℕ) → IsNoLine net line → IsNextLine net before line → ⊥
next_no_line net are before line none (inl next) = none.0 (edition (changes_in before) + edits_in next.one) next.one next.range next.spelled
next_no_line net are before line none (inr mark) = none.1 (length net.beams) (length net.terminals) are.of_net mark.1

numbered_as : (before : List Change) (number : ℕ) (one two : Change) → one ≡ two → edition_said number one ≡ edition_said (edition before + edits_in two) two → IsNumbered before number one
numbered_as before number (change.Edit edit) two same said =
    ap (λ (e : EditionNo). e.0) (said ∙ ap (λ (c : Change). edition_said (edition before + edits_in c) c) (sym same))
numbered_as before number (change.Install plan) two same said = tt
numbered_as before number (change.Order order) two same said = tt

next_stray_change : (net : Net) (are : AreLines net) (before : List Change) (line : List ℕ) → IsStrayChange net before line → IsNextChange net before line → ⊥
next_stray_change net are before line stray next =
    let lines_same = sym stray.spelled ∙ next.spelled in
    let one = are.one_change stray.number (edition before + edits_in next.one) stray.one next.one stray.range next.range lines_same in
    let said = are.one_edition stray.number (edition before + edits_in next.one) stray.one next.one stray.range next.range lines_same in
    stray.strays (numbered_as before stray.number stray.one next.one one said, subst (IsGood net before) (sym one) next.good)

next_stray : (net : Net) (are : AreLines net) (before : List (Option Change)) (line : List ℕ) → IsStray net before line → IsNextLine net before line → ⊥
next_stray net are before line (inl stray) (inl next) = next_stray_change net are (changes_in before) line stray next
next_stray net are before line (inl stray) (inr mark) = mark_not_change net are stray.number stray.one stray.range (sym mark.1 ∙ stray.spelled)
next_stray net are before line (inr (inl other)) (inl next) =
    are.no_change (edition (changes_in before) + edits_in next.one) next.one other.beams other.terminals next.range other.range (sym other.spelled ∙ next.spelled)
next_stray net are before line (inr (inl other)) (inr mark) = other.other (are.one_mark other.beams other.terminals other.range (sym other.spelled ∙ mark.1))
next_stray net are before line (inr (inr again)) (inl next) =
    mark_not_change net are (edition (changes_in before) + edits_in next.one) next.one next.range (sym again.1 ∙ next.spelled)
next_stray net are before line (inr (inr again)) (inr mark) = absurd (omega (arith, again.0, mark.0))

same_line : (line other rest behind : List ℕ) → lacks 10 line ≡ true → lacks 10 other ≡ true → line ++ 10 ∷ rest ≡ other ++ 10 ∷ behind → line ≡ other
same_line line other rest behind ends also same =
    let cuts : line ∷ lines rest ≡ other ∷ lines behind = sym (slice_split-next 10 line rest ends) ∙ (ap lines same ∙ slice_split-next 10 other behind also) in
    cc

-- a line behind which further lines go on is the next of these
behind_next : (net : Net) (are : AreLines net) (before more : List (Option Change)) (line rest t : List ℕ) → lacks 10 line ≡ true → AreInRange net 0 (changes_in (before ++ more))
    → Follows net (changes_in (before ++ more)) → marks_in (before ++ more) ≤ 1
    → line ++ 10 ∷ rest ≡ lines_said net (0 + edition (changes_in before)) more ++ t → (more ≡ []) ⊎ IsNextLine net before (line ++ 10 ∷ [])
behind_next net are before [] line rest t ends ranges follow marks same = inl refl
behind_next net are before (None ∷ more) line rest t ends ranges follow marks same =
    let behind = lines_said net (0 + edition (changes_in before)) more ++ t in
    let whole_is : line ++ 10 ∷ rest ≡ mark_of net ++ behind = same ∙ append_assoc (mark_of net) (lines_said net (0 + edition (changes_in before)) more) t in
    let cuts : line ∷ lines rest ≡ text_of_mark net ∷ lines behind = sym (slice_split-next 10 line rest ends) ∙ (ap lines whole_is ∙ are.mark_cut behind) in
    let first : line ≡ text_of_mark net = cc in
    inr (inr (omega (arith, marks, marks_in-append before (None ∷ more), marks_in-mark more), ap (λ (l : List ℕ). l ++ 10 ∷ []) first))
behind_next net are before (Some y ∷ more) line rest t ends ranges follow marks same =
    let changes = changes_in before in
    let number = edition changes + edits_in y in
    let here : 0 + edition changes + edits_in y ≡ number = omega arith in
    let parts : changes_in (before ++ Some y ∷ more) ≡ changes ++ y ∷ changes_in more = changes_in-append before (Some y ∷ more) in
    let range : IsChangeInRange net number y =
    subst (λ (n : ℕ). IsChangeInRange net n y) here (in_range-behind net 0 changes (y ∷ changes_in more) (subst (AreInRange net 0) parts ranges)).0 in
    let behind = lines_said net (0 + edition changes + edits_in y) more ++ t in
    let whole_is : line ++ 10 ∷ rest ≡ change_line net number y ++ behind =
    same ∙ (append_assoc (change_line net (0 + edition changes + edits_in y) y) (lines_said net (0 + edition changes + edits_in y) more) t ∙ ap (λ (n : ℕ). change_line net n y ++ behind) here) in
    let cuts : line ∷ lines rest ≡ spaced (change_parts net number y) ∷ lines behind = sym (slice_split-next 10 line rest ends) ∙ (ap lines whole_is ∙ are.cut number y behind range) in
    let first : line ≡ spaced (change_parts net number y) = cc in
    let next : IsNextChange net changes (line ++ 10 ∷ []) = record {
      one = y;
      range = range;
      spelled = ap (λ (l : List ℕ). l ++ 10 ∷ []) first;
      good = (FollowFrom-at net [] changes y (changes_in more) (subst (Follows net) parts follow)).1;
    } in
    inr (inl next)

-- two first lines that are wrong are one
pub record AreOne (a b : List (Option Change)) (first second : List ℕ) : Type 0 where
  pub before : a ≡ b
  pub line : first ≡ second

-- what is wrong with a line that is of no change that follows, nor the mark in its place
abbrev pub Wrongs : Net → (List (Option Change) → List ℕ → Type 0) → Type 0
Wrongs net IsWrong = (before : List (Option Change)) → (line : List ℕ) → IsWrong before line → IsNextLine net before line → ⊥

-- where one list goes on behind the other
one_if_on : (net : Net) (are : AreLines net) (bytes : List ℕ) (n m : ℕ) (IsWrong IsOther : List (Option Change) → List ℕ → Type 0) → Wrongs net IsWrong
    → (x : IsFirst net bytes n IsWrong) → (y : IsFirst net bytes m IsOther) → GoesOn net 0 x.before y.before (x.line ++ 10 ∷ x.rest) (y.line ++ 10 ∷ y.rest)
    → AreOne x.before y.before x.line y.line
one_if_on net are bytes n m IsWrong IsOther not_next x y on = ⊎_elim
    (λ (none : on.more ≡ []). record {
      before = sym (on.is ∙ (ap (λ (c : List (Option Change)). x.before ++ c) none ∙ append-nil x.before));
      line = same_line x.line y.line x.rest y.rest x.ends y.ends (on.ahead ∙ ap (λ (c : List (Option Change)). lines_said net (0 + edition (changes_in x.before)) c ++ (y.line ++ 10 ∷ y.rest)) none);
    })
    (λ (next : IsNextLine net x.before (x.line ++ 10 ∷ [])). absurd (not_next x.before (x.line ++ 10 ∷ []) x.wrong next))
    (behind_next net are x.before on.more x.line x.rest (y.line ++ 10 ∷ y.rest) x.ends (subst (λ (c : List (Option Change)). AreInRange net 0 (changes_in c)) on.is y.ranges)
    (subst (λ (c : List (Option Change)). Follows net (changes_in c)) on.is y.follow) (subst (λ (c : List (Option Change)). marks_in c ≤ 1) on.is y.one_mark) on.ahead)

one_place : (net : Net) (are : AreLines net) (bytes : List ℕ) (n m : ℕ) (IsWrong IsOther : List (Option Change) → List ℕ → Type 0) → Wrongs net IsWrong → Wrongs net IsOther
    → (x : IsFirst net bytes n IsWrong) → (y : IsFirst net bytes m IsOther) → AreOne x.before y.before x.line y.line
one_place net are bytes n m IsWrong IsOther not_next not_either x y = ⊎_elim
    (λ (on : GoesOn net 0 x.before y.before (x.line ++ 10 ∷ x.rest) (y.line ++ 10 ∷ y.rest)). one_if_on net are bytes n m IsWrong IsOther not_next x y on)
    (λ (on : GoesOn net 0 y.before x.before (y.line ++ 10 ∷ y.rest) (x.line ++ 10 ∷ x.rest)).
    let one = one_if_on net are bytes m n IsOther IsWrong not_either y x on in
    record { before = sym one.before; line = sym one.line })
    (compare net are 0 x.before y.before (x.line ++ 10 ∷ x.rest) (y.line ++ 10 ∷ y.rest) x.ranges y.ranges (sym x.there ∙ y.there))

-- the number of a first line that is wrong is one
pub one_number : (net : Net) (are : AreLines net) (bytes : List ℕ) (n m : ℕ) (IsWrong : List (Option Change) → List ℕ → Type 0) → Wrongs net IsWrong → IsFirst net bytes n IsWrong
    → IsFirst net bytes m IsWrong → n ≡ m
one_number net are bytes n m IsWrong not_next x y =
    let one = one_place net are bytes n m IsWrong IsWrong not_next not_next x y in
    omega (arith, x.counted, y.counted, ap length one.before)

pub no_line_Wrongs : (net : Net) → AreLines net → Wrongs net (λ _ line. IsNoLine net line)
no_line_Wrongs net are before line none next = next_no_line net are before line none next

pub stray_Wrongs : (net : Net) → AreLines net → Wrongs net (IsStray net)
stray_Wrongs net are before line stray next = next_stray net are before line stray next

-- a line that is of no change and no mark does not stray
not_stray : (net : Net) (are : AreLines net) (before : List (Option Change)) (line : List ℕ) → IsNoLine net line → IsStray net before line → ⊥
not_stray net are before line none (inl stray) = none.0 stray.number stray.one stray.range stray.spelled
not_stray net are before line none (inr (inl other)) = none.1 other.beams other.terminals other.range other.spelled
not_stray net are before line none (inr (inr again)) = none.1 (length net.beams) (length net.terminals) are.of_net again.1

-- so it is one or the other
pub not_both : (net : Net) (are : AreLines net) (bytes : List ℕ) (n m : ℕ) → IsFirstNoLine net bytes n → IsFirstStray net bytes m → ⊥
not_both net are bytes n m x y =
    let one = one_place net are bytes n m (λ _ line. IsNoLine net line) (IsStray net) (no_line_Wrongs net are) (stray_Wrongs net are) x y in
    not_stray net are y.before (y.line ++ 10 ∷ []) (subst (λ (l : List ℕ). IsNoLine net (l ++ 10 ∷ [])) one.line x.wrong) y.wrong

-- the last of some lines
abbrev last_of : List (List ℕ) → List ℕ
last_of ls = slice_index_or ls (length ls - 1) []

-- what is joined ends with the last
pub record EndsWith (bytes last : List ℕ) : Type 0 where
  pub front : List ℕ
  pub parts : bytes ≡ front ++ last

join_ends : (ls : List (List ℕ)) → HasFirst ls → EndsWith (join_with_byte 10 ls) (last_of ls)
join_ends [] has = absurd cc
join_ends (x ∷ []) has = record { front = []; parts = refl }
join_ends (x ∷ y ∷ more) has =
    let rest = join_ends (y ∷ more) (y, more, refl) in
    record {
      front = x ++ 10 ∷ rest.front;
      parts = ap (λ (b : List ℕ). x ++ 10 ∷ b) (rest.parts ∙ ap (λ (l : List ℕ). rest.front ++ l) (sym (tail-cons x (y ∷ more) (y, more, refl))))
          ∙ sym (append_assoc x (10 ∷ rest.front) (last_of (x ∷ y ∷ more)));
    }

last_lacks : (ls : List (List ℕ)) → list_all (lacks 10) ls ≡ true → lacks 10 (last_of ls) ≡ true
last_lacks [] all = refl
last_lacks (x ∷ []) all = (and_parts (lacks 10 x) true all).0
last_lacks (x ∷ y ∷ more) all =
    ap (lacks 10) (tail-cons x (y ∷ more) (y, more, refl)) ∙ last_lacks (y ∷ more) (and_parts (lacks 10 x) (list_all (lacks 10) (y ∷ more)) all).1

-- bytes are those up to the last newline, and a tail that has none
whole_and_tail : (bytes : List ℕ) → bytes ≡ whole bytes ++ tail_of bytes
whole_and_tail bytes =
    let ends = join_ends (lines bytes) (lines-HasFirst bytes) in
    let parts : bytes ≡ ends.front ++ tail_of bytes = sym (join_with_byte-slice_split 10 bytes) ∙ ends.parts in
    let size : length bytes - length (tail_of bytes) ≡ length ends.front = omega (arith, ap length parts, length-append ends.front (tail_of bytes)) in
    let front : whole bytes ≡ ends.front = ap (λ (k : ℕ). take k bytes) size ∙ (ap (λ (b : List ℕ). take (length ends.front) b) parts ∙ take-append_seam ends.front (tail_of bytes)) in
    parts ∙ ap (λ (f : List ℕ). f ++ tail_of bytes) (sym front)

tail_lacks : (bytes : List ℕ) → lacks 10 (tail_of bytes) ≡ true
tail_lacks bytes = last_lacks (lines bytes) (parts_lack 10 bytes)

-- a newline stands in what has one
has_newline : (before behind : List ℕ) → lacks 10 (before ++ 10 ∷ behind) ≡ true → ⊥
has_newline before behind none =
    let parts = (and_parts (lacks 10 before) (lacks 10 (10 ∷ behind)) (sym (lacks-append 10 before (10 ∷ behind)) ∙ none)).1 in
    cc

-- bytes that tell changes have no first line that is wrong
pub told_not_wrong : (net : Net) (are : AreLines net) (bytes : List ℕ) (changes : List Change) (n : ℕ) (IsWrong : List (Option Change) → List ℕ → Type 0) → Wrongs net IsWrong
    → Recovered net bytes changes → IsFirst net bytes n IsWrong → ⊥
told_not_wrong net are bytes changes n IsWrong not_next told x =
    let said = told.lines.said in
    let told_is : bytes ≡ lines_said net 0 said ++ tail_of bytes = whole_and_tail bytes ∙ ap (λ (w : List ℕ). w ++ tail_of bytes) told.lines.lines in
    let ranges = subst (AreInRange net 0) (sym told.lines.changes_are) told.ranges in
    let follow = subst (Follows net) (sym told.lines.changes_are) told.follow in
    ⊎_elim
    (λ (on : GoesOn net 0 said x.before (tail_of bytes) (x.line ++ 10 ∷ x.rest)).
    let ahead = lines_said net (0 + edition (changes_in said)) on.more in
    has_newline (ahead ++ x.line) x.rest (ap (lacks 10) (append_assoc ahead x.line (10 ∷ x.rest)) ∙ (ap (lacks 10) (sym on.ahead) ∙ tail_lacks bytes)))
    (λ (on : GoesOn net 0 x.before said (x.line ++ 10 ∷ x.rest) (tail_of bytes)). ⊎_elim
    (λ (none : on.more ≡ []).
    has_newline x.line x.rest (ap (lacks 10) (on.ahead ∙ ap (λ (c : List (Option Change)). lines_said net (0 + edition (changes_in x.before)) c ++ tail_of bytes) none) ∙ tail_lacks bytes))
    (λ (next : IsNextLine net x.before (x.line ++ 10 ∷ [])). not_next x.before (x.line ++ 10 ∷ []) x.wrong next)
    (behind_next net are x.before on.more x.line x.rest (tail_of bytes) x.ends (subst (λ (c : List (Option Change)). AreInRange net 0 (changes_in c)) on.is ranges)
    (subst (λ (c : List (Option Change)). Follows net (changes_in c)) on.is follow) (subst (λ (c : List (Option Change)). marks_in c ≤ 1) on.is told.lines.one_mark) on.ahead))
    (compare net are 0 said x.before (tail_of bytes) (x.line ++ 10 ∷ x.rest) ranges x.ranges (sym told_is ∙ x.there))

-- no more lines stand in no bytes
no_more : (net : Net) (edits : ℕ) (more : List (Option Change)) → [] ≡ lines_said net edits more ++ [] → more ≡ []
no_more net edits [] none = refl
no_more net edits (y ∷ more) none =
    let size = ap length none in
    absurd (omega (arith, size, length-append (lines_said net edits (y ∷ more)) [], length-said net edits (y ∷ more)))

only_if_on : (net : Net) (a b : List (Option Change)) → GoesOn net 0 a b [] [] → a ≡ b
only_if_on net a b on = sym (on.is ∙ (ap (λ (c : List (Option Change)). a ++ c) (no_more net (0 + edition (changes_in a)) on.more on.ahead) ∙ append-nil a))

-- bytes say one thing
one_said : (net : Net) (are : AreLines net) (bytes : List ℕ) (a b : List (Option Change)) → AreInRange net 0 (changes_in a) → AreInRange net 0 (changes_in b) → bytes ≡ lines_said net 0 a
    → bytes ≡ lines_said net 0 b → a ≡ b
one_said net are bytes a b range also is_a is_b = ⊎_elim
    (λ (on : GoesOn net 0 a b [] []). only_if_on net a b on)
    (λ (on : GoesOn net 0 b a [] []). sym (only_if_on net b a on))
    (compare net are 0 a b [] [] range also (append-nil (lines_said net 0 a) ∙ (sym is_a ∙ (is_b ∙ sym (append-nil (lines_said net 0 b))))))

-- so they tell one list of changes
pub one_list : (net : Net) (are : AreLines net) (bytes : List ℕ) (a b : List Change) → Recovered net bytes a → Recovered net bytes b → a ≡ b
one_list net are bytes a b told also =
    let one = one_said net are (whole bytes) told.lines.said also.lines.said (subst (AreInRange net 0) (sym told.lines.changes_are) told.ranges)
    (subst (AreInRange net 0) (sym also.lines.changes_are) also.ranges) told.lines.lines also.lines.lines in
    sym told.lines.changes_are ∙ (ap changes_in one ∙ also.lines.changes_are)

-- so a recovery's answer is exact: the changes that are told are those that were recovered
pub exact_changes : (net : Net) (are : AreLines net) (told : Option (List ℕ)) (mine : List Change) → IfSome told (λ bytes. Recovered net bytes mine)
    → IfSome told (λ bytes. (changes : List Change) → Recovered net bytes changes → mine ≡ changes)
exact_changes net are None mine recovered = tt
exact_changes net are (Some bytes) mine recovered = λ changes also. one_list net are bytes mine changes recovered also

-- no line is wrong where they are
pub exact_right : (net : Net) (are : AreLines net) (told : Option (List ℕ)) (mine : List Change) (IsWrong : List (Option Change) → List ℕ → Type 0) → Wrongs net IsWrong
    → IfSome told (λ bytes. Recovered net bytes mine) → IfSome told (λ bytes. (number : ℕ) → IsFirst net bytes number IsWrong → ⊥)
exact_right net are None mine IsWrong not_next recovered = tt
exact_right net are (Some bytes) mine IsWrong not_next recovered = λ number first. told_not_wrong net are bytes mine number IsWrong not_next recovered first

-- none are told where a line is
pub fault_changes : (net : Net) (are : AreLines net) (old new : Option (List ℕ)) (before now : ℕ) (fault : RecoverFault) → IsRecoverFault net old new before now fault
    → IfSome old (λ bytes. (changes : List Change) → Recovered net bytes changes → IsOutside fault)
fault_changes net are None new before now fault is = tt
fault_changes net are (Some bytes) new before now (J1 number) is =
    λ changes told. absurd (told_not_wrong net are bytes changes number (λ _ line. IsNoLine net line) (no_line_Wrongs net are) told is.2)
fault_changes net are (Some bytes) new before now (J2 number) is =
    λ changes told. absurd (told_not_wrong net are bytes changes number (IsStray net) (stray_Wrongs net are) told is.2)
fault_changes net are (Some bytes) new before now StoreFault is = λ _ _. tt
fault_changes net are (Some bytes) new before now TooLong is = λ _ _. tt
fault_changes net are (Some bytes) new before now OutOfMemory is = λ _ _. tt

-- and that line is the one that was found
pub fault_no_line : (net : Net) (are : AreLines net) (old new : Option (List ℕ)) (before now : ℕ) (fault : RecoverFault) → IsRecoverFault net old new before now fault
    → IfSome old (λ bytes. (number : ℕ) → IsFirstNoLine net bytes number → (fault ≡ J1 number) ⊎ IsOutside fault)
fault_no_line net are None new before now fault is = tt
fault_no_line net are (Some bytes) new before now (J1 found) is =
    λ number first. inl (ap J1 (one_number net are bytes found number (λ _ line. IsNoLine net line) (no_line_Wrongs net are) is.2 first))
fault_no_line net are (Some bytes) new before now (J2 found) is = λ number first. absurd (not_both net are bytes number found first is.2)
fault_no_line net are (Some bytes) new before now StoreFault is = λ _ _. inr tt
fault_no_line net are (Some bytes) new before now TooLong is = λ _ _. inr tt
fault_no_line net are (Some bytes) new before now OutOfMemory is = λ _ _. inr tt

pub fault_stray : (net : Net) (are : AreLines net) (old new : Option (List ℕ)) (before now : ℕ) (fault : RecoverFault) → IsRecoverFault net old new before now fault
    → IfSome old (λ bytes. (number : ℕ) → IsFirstStray net bytes number → (fault ≡ J2 number) ⊎ IsOutside fault)
fault_stray net are None new before now fault is = tt
fault_stray net are (Some bytes) new before now (J1 found) is = λ number first. absurd (not_both net are bytes found number is.2 first)
fault_stray net are (Some bytes) new before now (J2 found) is =
    λ number first. inl (ap J2 (one_number net are bytes found number (IsStray net) (stray_Wrongs net are) is.2 first))
fault_stray net are (Some bytes) new before now StoreFault is = λ _ _. inr tt
fault_stray net are (Some bytes) new before now TooLong is = λ _ _. inr tt
fault_stray net are (Some bytes) new before now OutOfMemory is = λ _ _. inr tt

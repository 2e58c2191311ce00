-- The line of a change in range is read as that change, and no other line is read as it.
use Rattle.std.proofs.Common.{◌≡◌, ℕ, ◌+◌, ◌<◌, ◌≤◌, length-append, Result, Ok, Err, Bool, true, false, cond, List, [], ◌∷◌, ◌++◌, codes, length, Some, None, refl, sym, ap, subst, ◌∙◌, append_assoc, arith}
use Rattle.std.specs.Prelude.{IfOk, IsErrOf}
use Rattle.std.specs.List.{join_with_byte}
use Rattle.std.proofs.lemmas.List.{append_cancel_right, append-nil}
use Rattle.std.proofs.lemmas.List.Splits.{join_with_byte-slice_split}
use Rattle.std.proofs.lemmas.Option.{same_Some}
use Rattle.bt_text.specs.Text.{words, lines, spaced, lacks, is_word}
use Rattle.bt_text.proofs.Fronts.{words-HasFirst}
use Rattle.bt_text.proofs.TextLines.{words-spaced, spaced-words, lacks-spaced, slice_split-next, text_from_first_line, first_line_lacks}
use Rattle.bt_net.specs.Network.{Net, IsSound}
use Rattle.bt_journal.specs.declared.call.Change.{Change}
use Rattle.bt_journal.specs.declared.call.Change.TheVariants as change
use Rattle.bt_air.specs.declared.order.Order.TheVariants.{Load, Arm}
use Rattle.bt_journal.specs.declared.line_fault.JournalLineFault.{JournalLineFault}
use Rattle.bt_journal.specs.declared.line_fault.JournalLineFault.TheVariants.{Bad, OutOfMemory}
use Rattle.bt_journal.specs.JournalLines.{order_words, change_parts, change_line, edition_said, IsChangeInRange}
use Rattle.bt_journal.specs.LineReading.{said_plan, said_small, said_in, Said, Answers}
use Rattle.bt_plan.proofs.PlanReadBack.{plan_lines-lack}
use Rattle.bt_journal.proofs.PlanWords.{plan-words, install_change_read, install_spelled}
use Rattle.bt_journal.proofs.Words.{edit-lacks, order-lacks, edit_change_read, order_change_read}
use Rattle.bt_journal.proofs.Spelled.{small_spelled}

module _ (net : Net) (sound : IsSound net) where
  -- no newline stands in the line
  pub once : (number : ℕ) (one : Change) → IsChangeInRange net number one → lacks 10 (spaced (change_parts net number one)) ≡ true
  once number (change.Edit edit) range = lacks-spaced 10 (change_parts net number (change.Edit edit)) refl ∙ edit-lacks net sound 10 refl refl number edit range
  once number (change.Install plan) range = lacks-spaced 10 (change_parts net number (change.Install plan)) refl ∙ plan_lines-lack net sound plan range
  once number (change.Order order) range = lacks-spaced 10 (change_parts net number (change.Order order)) refl ∙ order-lacks net sound 10 refl refl order range

  pub cut : (number : ℕ) (one : Change) (rest : List ℕ) → IsChangeInRange net number one → lines (change_line net number one ++ rest) ≡ spaced (change_parts net number one) ∷ lines rest
  cut number one rest range =
      let text = spaced (change_parts net number one) in
      ap lines (append_assoc text (10 ∷ []) rest) ∙ slice_split-next 10 text rest (once number one range)

  -- a change in range is read from its line
  pub change_read : (number : ℕ) (one : Change) → IsChangeInRange net number one → said_in net (words (spaced (change_parts net number one))) ≡ Some (edition_said number one, one)
  change_read number (change.Edit edit) range =
      ap (said_in net) (words-spaced (change_parts net number (change.Edit edit)) (omega arith) (edit-lacks net sound 32 refl refl number edit range)) ∙ edit_change_read net sound number edit range
  change_read number (change.Install plan) range = ap (said_in net) (plan-words net sound plan range) ∙ install_change_read net sound plan range
  change_read number (change.Order (Load command edition)) range =
      ap (said_in net) (words-spaced (order_words (Load command edition)) (omega arith) (order-lacks net sound 32 refl refl (Load command edition) range)) ∙ order_change_read net sound number (Load command edition) range
  change_read number (change.Order (Arm command edition due)) range =
      ap (said_in net) (words-spaced (order_words (Arm command edition due)) (omega arith) (order-lacks net sound 32 refl refl (Arm command edition due) range)) ∙ order_change_read net sound number (Arm command edition due) range

  -- what is read is spelled as it is, and in range
  pub record IsSpelledText (text : List ℕ) (said : Said) : Type 0 where
    pub spelled : text ≡ spaced (change_parts net said.0.0 said.1)
    pub range : IsChangeInRange net said.0.0 said.1
    pub edition : said.0 ≡ edition_said said.0.0 said.1

  text_spelled_by : (text kind : List ℕ) (rest : List (List ℕ)) (said : Said) (plan : Bool) → lacks 10 text ≡ true → words text ≡ kind ∷ rest
      → cond plan (said_plan net (kind ∷ rest)) (said_small net kind rest) ≡ Some said → IsSpelledText text said
  text_spelled_by text kind rest said true none are is =
      let here = install_spelled net sound text said none (ap (said_plan net) are ∙ is) in
      let plain : IsSpelledText text (here.plan.edition, change.Install here.plan) = record { spelled = here.spelled; range = here.range; edition = refl } in
      subst (IsSpelledText text) (sym here.change_is) plain
  text_spelled_by text kind rest said false none are is =
      let here = small_spelled net kind rest said is in
      record { spelled = sym (spaced-words text) ∙ ap spaced (are ∙ here.spelled); range = here.range; edition = here.edition }

  said_from : (ws : List (List ℕ)) (kind : List ℕ) (rest : List (List ℕ)) (said : Said) → ws ≡ kind ∷ rest → said_in net ws ≡ Some said → said_in net (kind ∷ rest) ≡ Some said
  said_from ws kind rest said are is = ap (said_in net) (sym are) ∙ is

  pub text_spelled : (text : List ℕ) (said : Said) → lacks 10 text ≡ true → said_in net (words text) ≡ Some said → IsSpelledText text said
  text_spelled text said none is =
      let (kind, rest, are) = words-HasFirst text in
      text_spelled_by text kind rest said (is_word (codes "plan") kind) none are (said_from (words text) kind rest said are is)

  -- two changes with one line are one
  read_twice : (ws : List (List ℕ)) (said again : Said) → said_in net ws ≡ Some said → said_in net ws ≡ Some again → said ≡ again
  read_twice ws said again first second = same_Some said again (sym first ∙ second)

  same_read : (number other : ℕ) (one two : Change) → IsChangeInRange net number one → IsChangeInRange net other two → change_line net number one ≡ change_line net other two
      → said_in net (words (spaced (change_parts net number one))) ≡ Some (edition_said other two, two)
  same_read number other one two range ranged same =
      let text = append_cancel_right (spaced (change_parts net number one)) (spaced (change_parts net other two)) (10 ∷ []) same in
      ap (λ t. said_in net (words t)) text ∙ change_read other two ranged

  pub same_change : (number other : ℕ) (one two : Change) → IsChangeInRange net number one → IsChangeInRange net other two → change_line net number one ≡ change_line net other two
      → (one ≡ two) × (edition_said number one ≡ edition_said other two)
  same_change number other one two range ranged same =
      let both = read_twice (words (spaced (change_parts net number one))) (edition_said number one, one) (edition_said other two, two) (change_read number one range) (same_read number other one two range ranged same) in
      (ap (λ (t : Said). t.1) both, ap (λ (t : Said). t.0) both)

  -- what is read of a line that is a text and a newline
  line_is : (line text : List ℕ) → lines line ≡ text ∷ [] ∷ [] → line ≡ text ++ 10 ∷ []
  line_is line text is = text_from_first_line line text [] is

  line_spelled : (line text : List ℕ) (said : Said) → lines line ≡ text ∷ [] ∷ [] → said_in net (words text) ≡ Some said
      → (line ≡ change_line net said.0.0 said.1) × IsChangeInRange net said.0.0 said.1 × (said.0 ≡ edition_said said.0.0 said.1)
  line_spelled line text said is read =
      let here = text_spelled text said (first_line_lacks line text ([] ∷ []) is) read in
      (line_is line text is ∙ ap (λ t. t ++ 10 ∷ []) here.spelled, here.range, here.edition)

  -- the line of a change is one, and is read
  pub own_lines : (line : List ℕ) (number : ℕ) (one : Change) → IsChangeInRange net number one → line ≡ change_line net number one → lines line ≡ spaced (change_parts net number one) ∷ [] ∷ []
  own_lines line number one range is = ap lines (is ∙ sym (append-nil (change_line net number one))) ∙ cut number one [] range

  not_said : (line text : List ℕ) (number : ℕ) (one : Change) → lines line ≡ text ∷ [] ∷ [] → said_in net (words text) ≡ None → IsChangeInRange net number one → line ≡ change_line net number one → ⊥
  not_said line text number one first none range is =
      let both : text ∷ [] ∷ [] ≡ spaced (change_parts net number one) ∷ [] ∷ [] = sym first ∙ own_lines line number one range is in
      let same : text ≡ spaced (change_parts net number one) = cc in
      let read = sym none ∙ (ap (λ t. said_in net (words t)) same ∙ change_read number one range) in
      absurd cc

  -- the answer to a line
  pub record IsAnswer (line : List ℕ) (result : Result Said JournalLineFault) : Type 0 where
    pub line_is : IfOk result (λ said. line ≡ change_line net said.0.0 said.1)
    pub range : IfOk result (λ said. IsChangeInRange net said.0.0 said.1)
    pub edition : IfOk result (λ said. said.0 ≡ edition_said said.0.0 said.1)
    pub bad : IsErrOf result Bad → (number : ℕ) (one : Change) → IsChangeInRange net number one → line ≡ change_line net number one → ⊥

  pub answered : (line text : List ℕ) (result : Result Said JournalLineFault) → lines line ≡ text ∷ [] ∷ [] → Answers result (said_in net (words text)) → IsAnswer line result
  answered line text (Ok said) is read =
      let here = line_spelled line text said is read in
      record { line_is = here.0; range = here.1; edition = here.2; bad = λ h. absurd cc }
  answered line text (Err Bad) is read = record { line_is = tt; range = tt; edition = tt; bad = λ h number one range same. not_said line text number one is read range same }
  answered line text (Err OutOfMemory) is read = record { line_is = tt; range = tt; edition = tt; bad = λ h. absurd cc }

-- a line is longer than its text
pub longer : (line text : List ℕ) → lines line ≡ text ∷ [] ∷ [] → length text + 1 ≤ length line
longer line text is = omega (arith, ap length (text_from_first_line line text [] is), length-append text (10 ∷ []))

-- a text is empty where its lines are one empty line
pub no_text : (text : List ℕ) → lines text ≡ [] ∷ [] → text ≡ []
no_text text is = sym (join_with_byte-slice_split 10 text) ∙ ap (join_with_byte 10) is

-- no text and a newline is a line with more behind its newline
pub more_behind : (line first rest text : List ℕ) → lines line ≡ first ∷ lines rest → 0 < length rest → lines line ≡ text ∷ [] ∷ [] → ⊥
more_behind line first rest text is some whole =
    let both : first ∷ lines rest ≡ text ∷ [] ∷ [] = sym is ∙ whole in
    let last : lines rest ≡ [] ∷ [] = cc in
    let none = ap length (no_text rest last) in
    omega arith

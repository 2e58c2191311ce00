-- Lines whose changes were made again, one after the other.
use Rattle.std.proofs.Common.{◌≡◌, ℕ, ◌+◌, ◌-◌, ◌≤◌, Bool, true, false, List, [], ◌∷◌, ◌++◌, length, take, slice_index_or, Option, Some, None, inl, inr, refl, sym, ap, ◌∙◌, subst, arith, append_assoc, length-append}
use Rattle.std.proofs.lemmas.List.{append-nil}
use Rattle.std.proofs.lemmas.List.Sums.{sum_by-cons}
use Rattle.std.proofs.Math.Seq.{take-append_seam}
use native.Mathlib.Numerals.{unary_clauses}
use Rattle.bt_frame.specs.declared.limits.TheConstants.{MOST_JOURNAL_BYTES}
use Rattle.bt_text.specs.Text.{lines}
use Rattle.bt_text.proofs.FirstLine.{HasFirst, lines-HasFirst}
use Rattle.bt_text.proofs.TextLines.{first_line_lacks, text_from_first_line}
use Rattle.bt_net.specs.Network.{Net}
use Rattle.bt_journal.specs.declared.call.Change.{Change}
use Rattle.bt_journal.specs.JournalLines.{IsChangeInRange, edits_in, journal_lines}
use Rattle.bt_journal.specs.Kept.{changes_in, lines_said, marks_in}
use Rattle.bt_journal.specs.Mark.{mark_of}
use Rattle.bt_history.specs.declared.fault.RecoverFault.{RecoverFault}
use Rattle.bt_history.specs.declared.fault.RecoverFault.TheVariants.{J1, J2, StoreFault, TooLong, OutOfMemory}
use Rattle.bt_history.specs.Causes.{Follows}
use Rattle.bt_history.specs.Changes.{edition}
use Rattle.bt_history.specs.Machine.{State, bytes_of, line_behind, running}
use Rattle.bt_history.specs.Records.{IsLineFault, IsTextFault, Records, TakesChange, TakesLine, TakesMark, marks_where}
use Rattle.bt_history.specs.Recovery.{AreInRange, IsFirst, IsNoLine, IsStray, IsStrayBehind, tail_of}
use Rattle.bt_history.proofs.Histories.{FollowFrom-grows}
use Rattle.bt_history.proofs.OneMore.{ended_length}
use Rattle.bt_history.proofs.SaidLines.{changes_in-append, length-lines_said, length-said, lines_said-change, lines_said-mark, marks_in-append, marks_in-change, marks_in-mark}

in_range-push : (net : Net) (edits : ℕ) (changes : List Change) (one : Change) (number : ℕ) → number ≡ edits + edition changes + edits_in one → AreInRange net edits changes
    → IsChangeInRange net number one → AreInRange net edits (changes ++ one ∷ [])
in_range-push net edits [] one number is ranges range = (subst (λ (n : ℕ). IsChangeInRange net n one) (omega (arith, is)) range, tt)
in_range-push net edits (first ∷ changes) one number is ranges range = (
  ranges.0,
  in_range-push net (edits + edits_in first) changes one number (omega (arith, is, sum_by-cons edits_in first changes)) ranges.1 range,
)

pub AreInRange-push : (net : Net) (changes : List Change) (one : Change) → AreInRange net 0 changes → IsChangeInRange net (edition changes + edits_in one) one
    → AreInRange net 0 (changes ++ one ∷ [])
AreInRange-push net changes one ranges range = in_range-push net 0 changes one (edition changes + edits_in one) (omega arith) ranges range

-- How the loop stands: the changes of the lines so far, so many, were made again, the mark stands among them or not, and the rest
-- is to come.
pub record Stands (net : Net) (text rest : List ℕ) (machine : Records) (count : ℕ) (stands : Bool) : Type 0 where
  pub net_is : machine.net ≡ net
  pub no_call : machine.history ≡ []
  pub runs : machine.state ≡ running machine.state.changes
  pub said : List (Option Change)
  pub text_is : text ≡ lines_said net 0 said ++ rest
  pub made : changes_in said ≡ machine.state.changes
  pub counted : count ≡ length said
  pub marks : marks_in said ≡ marks_where stands
  pub tail_is : tail_of text ≡ tail_of rest
  pub ranges : AreInRange net 0 machine.state.changes
  pub follow : Follows net machine.state.changes

-- before the first line
pub Stands-start : (net : Net) (text : List ℕ) (machine : Records) → machine.net ≡ net → machine.history ≡ [] → machine.state ≡ running [] → Stands net text text machine 0 false
Stands-start net text machine net_is no_call runs =
    let none : machine.state.changes ≡ [] = ap (λ (s : State). s.changes) runs in
    record {
      net_is = net_is;
      no_call = no_call;
      runs = runs ∙ ap running (sym none);
      said = [];
      text_is = refl;
      made = sym none;
      counted = refl;
      marks = refl;
      tail_is = refl;
      ranges = subst (AreInRange net 0) (sym none) tt;
      follow = subst (Follows net) (sym none) tt;
    }

pub tail-cons : (line : List ℕ) (ls : List (List ℕ)) → HasFirst ls → slice_index_or (line ∷ ls) (length (line ∷ ls) - 1) [] ≡ slice_index_or ls (length ls - 1) []
tail-cons line ls (first, rest, is) = rw is (simp unary_clauses)

-- the next line, with its newline, is what is read
pub line_read : (rest line after : List ℕ) → lines rest ≡ line ∷ lines after → take (length line + 1) rest ≡ line ++ 10 ∷ []
line_read rest line after is =
    let parts : rest ≡ (line ++ 10 ∷ []) ++ after = text_from_first_line rest line after is ∙ sym (append_assoc line (10 ∷ []) after) in
    let size : length line + 1 ≡ length (line ++ 10 ∷ []) = sym (ended_length line) in
    ap (λ (k : ℕ). take k rest) size ∙ (ap (λ (t : List ℕ). take (length (line ++ 10 ∷ [])) t) parts ∙ take-append_seam (line ++ 10 ∷ []) after)

pub length-line_read : (rest line after : List ℕ) → lines rest ≡ line ∷ lines after → length line + 1 ≡ length (take (length line + 1) rest)
length-line_read rest line after is = sym (ap length (line_read rest line after is) ∙ ended_length line)

-- the lines so far, and the next, are not too long
pub short_so_far : (net : Net) (text rest line after : List ℕ) (machine : Records) (count : ℕ) (marked : Bool) → Stands net text rest machine count marked → length text ≤ MOST_JOURNAL_BYTES
    → lines rest ≡ line ∷ lines after → bytes_of machine.net machine.state.changes + length (take (length line + 1) rest) ≤ MOST_JOURNAL_BYTES
short_so_far net text rest line after machine count marked stands short is =
    let said = stands.said in
    let rest_is = text_from_first_line rest line after is in
    let read = length-line_read rest line after is in
    let sum : bytes_of machine.net machine.state.changes ≡ length (journal_lines net (changes_in said)) =
    ap (λ (n : Net). bytes_of n machine.state.changes) stands.net_is ∙ ap (bytes_of net) (sym stands.made) in
    omega (
      arith,
      short,
      sum,
      read,
      length-lines_said net 0 said,
      ap length stands.text_is,
      length-append (lines_said net 0 said) rest,
      ap length rest_is,
      length-append line (10 ∷ after),
    )

-- so they are few
pub few_lines : (net : Net) (text rest : List ℕ) (machine : Records) (count : ℕ) (marked : Bool) → Stands net text rest machine count marked → length text ≤ MOST_JOURNAL_BYTES → count ≤ MOST_JOURNAL_BYTES
few_lines net text rest machine count marked stands short =
    omega (arith, short, stands.counted, length-said net 0 stands.said, ap length stands.text_is, length-append (lines_said net 0 stands.said) rest)

-- the next line, read with its newline, is passed
passed : (rest line after spelled : List ℕ) → lines rest ≡ line ∷ lines after → take (length line + 1) rest ≡ spelled → rest ≡ spelled ++ after
passed rest line after spelled cut is =
    text_from_first_line rest line after cut ∙ (sym (append_assoc line (10 ∷ []) after) ∙ ap (λ (l : List ℕ). l ++ after) (sym (line_read rest line after cut) ∙ is))

tail-passed : (rest line after : List ℕ) → lines rest ≡ line ∷ lines after → tail_of rest ≡ tail_of after
tail-passed rest line after cut = ap (λ (ls : List (List ℕ)). slice_index_or ls (length ls - 1) []) cut ∙ tail-cons line (lines after) (lines-HasFirst after)

-- the change of one line more was made again
stands-change : (net : Net) (text rest line after read : List ℕ) (old new : Records) (count : ℕ) (stood stands_now : Bool) → Stands net text rest old count stood → lines rest ≡ line ∷ lines after
    → read ≡ take (length line + 1) rest → TakesChange old.net old.state.changes read new.state → stands_now ≡ stood → new.net ≡ old.net → new.history ≡ []
    → Stands net text after new (count + 1) stands_now
stands-change net text rest line after read old new count stood stands_now stands cut read_is takes same net_is no_call =
    let before = old.state.changes in
    let said = stands.said in
    let taken = subst (λ (n : Net). TakesChange n before read new.state) stands.net_is takes in
    let one = taken.one in
    let now : new.state.changes ≡ before ++ one ∷ [] = ap (λ (s : State). s.changes) taken.after in
    let rest_is : rest ≡ line_behind net before one ++ after = passed rest line after (line_behind net before one) cut (sym read_is ∙ taken.spelled) in
    record {
      net_is = net_is ∙ stands.net_is;
      no_call = no_call;
      runs = taken.after ∙ ap running (sym now);
      said = said ++ Some one ∷ [];
      text_is = stands.text_is ∙ (ap (λ (r : List ℕ). lines_said net 0 said ++ r) (rest_is ∙ ap (λ (c : List Change). line_behind net c one ++ after) (sym stands.made))
          ∙ (sym (append_assoc (lines_said net 0 said) (line_behind net (changes_in said) one) after)
          ∙ ap (λ (l : List ℕ). l ++ after) (sym (lines_said-change net said one))));
      made = changes_in-append said (Some one ∷ []) ∙ (ap (λ (c : List Change). c ++ one ∷ []) stands.made ∙ sym now);
      counted = omega (arith, stands.counted, length-append said (Some one ∷ []));
      marks = omega (arith, stands.marks, ap marks_where same, marks_in-append said (Some one ∷ []), marks_in-change one []);
      tail_is = stands.tail_is ∙ tail-passed rest line after cut;
      ranges = subst (AreInRange net 0) (sym now) (AreInRange-push net before one stands.ranges taken.range);
      follow = subst (Follows net) (sym now) (FollowFrom-grows net [] before one stands.follow taken.on taken.good);
    }

-- one line more is the mark
stands-mark : (net : Net) (text rest line after read : List ℕ) (old new : Records) (count : ℕ) (stood stands_now : Bool) → Stands net text rest old count stood → lines rest ≡ line ∷ lines after
    → read ≡ take (length line + 1) rest → TakesMark old.net old.state stood read new.state stands_now → new.net ≡ old.net → new.history ≡ []
    → Stands net text after new (count + 1) stands_now
stands-mark net text rest line after read old new count stood stands_now stands cut read_is takes net_is no_call =
    let said = stands.said in
    let mark : read ≡ mark_of net = takes.spelled ∙ ap mark_of stands.net_is in
    let rest_is : rest ≡ mark_of net ++ after = passed rest line after (mark_of net) cut (sym read_is ∙ mark) in
    let now : new.state.changes ≡ old.state.changes = ap (λ (s : State). s.changes) takes.after in
    record {
      net_is = net_is ∙ stands.net_is;
      no_call = no_call;
      runs = takes.after ∙ (stands.runs ∙ ap running (sym now));
      said = said ++ None ∷ [];
      text_is = stands.text_is ∙ (ap (λ (r : List ℕ). lines_said net 0 said ++ r) rest_is
          ∙ (sym (append_assoc (lines_said net 0 said) (mark_of net) after) ∙ ap (λ (l : List ℕ). l ++ after) (sym (lines_said-mark net said))));
      made = changes_in-append said (None ∷ []) ∙ (append-nil (changes_in said) ∙ (stands.made ∙ sym now));
      counted = omega (arith, stands.counted, length-append said (None ∷ []));
      marks = omega (arith, stands.marks, ap marks_where takes.first, ap marks_where takes.marked, marks_in-append said (None ∷ []), marks_in-mark []);
      tail_is = stands.tail_is ∙ tail-passed rest line after cut;
      ranges = subst (AreInRange net 0) (sym now) stands.ranges;
      follow = subst (Follows net) (sym now) stands.follow;
    }

-- one line more was taken
pub Stands-line : (net : Net) (text rest line after read : List ℕ) (old new : Records) (count : ℕ) (stood stands_now : Bool) → Stands net text rest old count stood → lines rest ≡ line ∷ lines after
    → read ≡ take (length line + 1) rest → TakesLine old.net old.state stood read new.state stands_now → new.net ≡ old.net → new.history ≡ []
    → Stands net text after new (count + 1) stands_now
Stands-line net text rest line after read old new count stood stands_now stands cut read_is (inl change) net_is no_call =
    stands-change net text rest line after read old new count stood stands_now stands cut read_is change.0 change.1 net_is no_call
Stands-line net text rest line after read old new count stood stands_now stands cut read_is (inr mark) net_is no_call =
    stands-mark net text rest line after read old new count stood stands_now stands cut read_is mark net_is no_call

-- so many marks are one at most
pub one_mark_at_most : (stands : Bool) → marks_where stands ≤ 1
one_mark_at_most true = omega arith
one_mark_at_most false = omega arith

first_at : (net : Net) (text rest line after : List ℕ) (machine : Records) (count number : ℕ) (marked : Bool) (IsWrong : List (Option Change) → List ℕ → Type 0)
    → (stands : Stands net text rest machine count marked) → lines rest ≡ line ∷ lines after → number ≡ count + 1 → IsWrong stands.said (line ++ 10 ∷ []) → IsFirst net text number IsWrong
first_at net text rest line after machine count number marked IsWrong stands cut counted wrong = record {
  before = stands.said;
  ranges = subst (AreInRange net 0) (sym stands.made) stands.ranges;
  follow = subst (Follows net) (sym stands.made) stands.follow;
  one_mark = omega (arith, stands.marks, one_mark_at_most marked);
  line = line;
  rest = after;
  there = stands.text_is ∙ ap (λ (r : List ℕ). lines_said net 0 stands.said ++ r) (text_from_first_line rest line after cut);
  ends = first_line_lacks rest line (lines after) cut;
  counted = counted ∙ ap (λ (n : ℕ). n + 1) stands.counted;
  wrong = wrong;
}

fault_at : (net : Net) (text rest line after : List ℕ) (machine : Records) (count : ℕ) (marked : Bool) (fault : RecoverFault) → Stands net text rest machine count marked → lines rest ≡ line ∷ lines after
    → IsLineFault net machine.state.changes marked (count + 1) (line ++ 10 ∷ []) fault → IsTextFault net text fault
fault_at net text rest line after machine count marked (J1 number) stands cut wrong =
    first_at net text rest line after machine count number marked (λ _ l. IsNoLine net l) stands cut wrong.0 wrong.1
fault_at net text rest line after machine count marked (J2 number) stands cut wrong =
    let strays : IsStray net stands.said (line ++ 10 ∷ []) =
    subst (λ (c : List Change). IsStrayBehind net c (marks_in stands.said) (line ++ 10 ∷ [])) (sym stands.made)
    (subst (λ (m : ℕ). IsStrayBehind net machine.state.changes m (line ++ 10 ∷ [])) (sym stands.marks) wrong.1) in
    first_at net text rest line after machine count number marked (IsStray net) stands cut wrong.0 strays
fault_at net text rest line after machine count marked StoreFault stands cut wrong = absurd wrong
fault_at net text rest line after machine count marked TooLong stands cut wrong = absurd wrong
fault_at net text rest line after machine count marked OutOfMemory stands cut wrong = tt

-- a line that is wrong is the first
pub Stands-fault : (net : Net) (text rest line after read : List ℕ) (machine : Records) (count : ℕ) (marked : Bool) (fault : RecoverFault) → Stands net text rest machine count marked
    → lines rest ≡ line ∷ lines after → read ≡ take (length line + 1) rest → IsLineFault machine.net machine.state.changes marked (count + 1) read fault → IsTextFault net text fault
Stands-fault net text rest line after read machine count marked fault stands cut read_is wrong =
    fault_at net text rest line after machine count marked fault stands cut
    (subst (λ (l : List ℕ). IsLineFault net machine.state.changes marked (count + 1) l fault) (read_is ∙ line_read rest line after cut)
    (subst (λ (n : Net). IsLineFault n machine.state.changes marked (count + 1) read fault) stands.net_is wrong))

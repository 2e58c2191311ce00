-- A call of a caller of the line: what it has seen then, and that it stays the same caller.
use Rattle.std.proofs.Common.{◌≡◌, ◌==◌, if◌then◌else◌, Bool, true, false, ℕ, List, [], ◌∷◌, ◌++◌, map, refl, sym, ap, ◌∙◌, subst}
use Rattle.std.proofs.lemmas.Bool.{eq-eqb}
use Rattle.std.proofs.lemmas.List.{append_cancel_right, map-append}
use Rattle.std.proofs.lemmas.List.Elements.{filter-append}
use Rattle.atomic_table.specs.Seated.{TableId}
use Rattle.bt_net.specs.Network.{Net}
use Rattle.bt_shared.specs.declared.object.TurnEntry as line
use Rattle.bt_shared.specs.Legal.{Legal, calls_by, entry_of}
use Rattle.bt_shared.specs.Passes.{Gains, IsSamePass, Place, seen_at}
use Rattle.bt_journal.specs.declared.call.Call.{Call}
use Rattle.bt_journal.specs.declared.entry.Entry.{Entry}
use Rattle.bt_journal.specs.declared.reply.Reply.{Reply}
use Rattle.bt_journal.specs.Journal.{calls_of}
use Rattle.bt_history.specs.Book.{Books, book_steps, journal_entry}
use Rattle.bt_history.specs.Causes.{Follows}
use Rattle.bt_history.specs.Machine as machine
use Rattle.bt_round.specs.Callers.{Calling, IsAnswered, IsCalling, IsSameCaller, caller_number, own_in}

-- nobody is another than before
pub same_as_now : (caller : Calling) → IsSameCaller caller caller
same_as_now caller = record {
  table = refl;
  start = refl;
  place = record { table_is = refl; start_is = refl; number_is = refl; count_is = refl; kept_is = refl };
}

-- and who is the same for a while, and then for longer, is the same
pub still_same : (first between last : Calling) → IsSameCaller first between → IsSameCaller between last → IsSameCaller first last
still_same first between last one two = record {
  table = two.table ∙ one.table;
  start = two.start ∙ one.start;
  place = record {
    table_is = two.place.table_is ∙ one.place.table_is;
    start_is = two.place.start_is ∙ one.place.start_is;
    number_is = two.place.number_is ∙ one.place.number_is;
    count_is = two.place.count_is ∙ one.place.count_is;
    kept_is = two.place.kept_is ∙ one.place.kept_is;
  };
}

-- the same caller is on the same network
pub same_network : (old new : Calling) (net : Net) → IsSameCaller old new → old.start.net ≡ net → new.start.net ≡ net
same_network old new net same is = ap (λ (b : Books). b.net) same.start ∙ is

-- a caller at a place of a line
abbrev pub calling_at : TableId → Books → Place Books Call Reply → Calling
calling_at table start place = record { table = table; start = start; place = place }

-- a pass that has seen more of a legal history is that of a caller still
pub calls_on : (table : TableId) (start : Books) (old new : Place Books Call Reply) → IsCalling (calling_at table start old) → IsSamePass old new
    → (end : Books) × Legal book_steps start (seen_at new) end → IsCalling (calling_at table start new)
calls_on table start old new so same legal = record {
  of_line = record { table_is = same.table_is ∙ so.of_line.table_is; start_is = same.start_is ∙ so.of_line.start_is };
  begins = so.begins;
  legal = legal;
}

-- and so is one that has seen no more
pub calls_on_unseen : (table : TableId) (start : Books) (old new : Place Books Call Reply) → IsCalling (calling_at table start old)
    → IsSamePass old new → seen_at new ≡ seen_at old → IsCalling (calling_at table start new)
calls_on_unseen table start old new so same seen =
    calls_on table start old new so same
    (so.legal.0, subst (λ (log : List (line.TurnEntry Call Reply)). Legal book_steps start log so.legal.0) (sym seen) so.legal.1)

-- the entry of a call with its reply
abbrev pub made : ℕ → Call → Reply → Entry
made caller asked reply = record { caller = caller; call = asked; reply = reply }

-- calls of a line are steps, after changes that follow
abbrev pub AreAnswered : Type 0
AreAnswered = (start end : Books) (before : List (line.TurnEntry Call Reply)) (entry : line.TurnEntry Call Reply)
    → Follows start.net start.state.changes
    → Legal book_steps start (before ++ entry ∷ []) end
    → (old : machine.State) × (new : machine.State) × (old ≡ machine.state_from start.state (map journal_entry before))
    × Follows start.net old.changes × machine.Step start.net old entry.call entry.reply new

kept_entry : (number : ℕ) (test : Bool) (one : line.TurnEntry Call Reply) (rest : List (line.TurnEntry Call Reply)) (others : List Entry) → others ≡ own_in number rest
    → (if test then journal_entry one ∷ others else others) ≡ map journal_entry (if test then one ∷ calls_by number rest else calls_by number rest)
kept_entry number true one rest others is = ap (λ (e : List Entry). journal_entry one ∷ e) is
kept_entry number false one rest others is = is

-- the entries of a caller in a line's history
pub calls_in_log : (log : List (line.TurnEntry Call Reply)) (number : ℕ) → calls_of (map journal_entry log) number ≡ own_in number log
calls_in_log [] number = refl
calls_in_log (one ∷ rest) number = kept_entry number (one.caller == number) one rest _ (calls_in_log rest number)

-- of its own caller, what came before a call is what the caller had seen before
own_before : (start : Books) (old new : List (line.TurnEntry Call Reply)) (number : ℕ) (asked : Call) (reply : Reply) (gains : Gains book_steps start old (entry_of number asked reply) new)
    → calls_by number gains.before ≡ calls_by number old
own_before start old new number asked reply gains =
    let last : line.TurnEntry Call Reply = entry_of number asked reply in
    let is_own : line.TurnEntry Call Reply → Bool = λ (entry : line.TurnEntry Call Reply). entry.caller == number in
    let kept : calls_by number (last ∷ []) ≡ last ∷ [] = ap (λ (t : Bool). if t then last ∷ [] else []) (eq-eqb number number refl) in
    let parts : calls_by number (gains.before ++ last ∷ []) ≡ calls_by number gains.before ++ last ∷ [] =
    filter-append is_own gains.before (last ∷ []) ∙ ap (λ (l : List (line.TurnEntry Call Reply)). calls_by number gains.before ++ l) kept in
    append_cancel_right (calls_by number gains.before) (calls_by number old) (last ∷ [])
    (sym parts ∙ ap (calls_by number) (sym gains.ends) ∙ gains.own)

-- and with the call it has seen one entry of its own more
pub own_gained : (start : Books) (old new : List (line.TurnEntry Call Reply)) (number : ℕ) (asked : Call) (reply : Reply) → Gains book_steps start old (entry_of number asked reply) new
    → own_in number new ≡ own_in number old ++ made number asked reply ∷ []
own_gained start old new number asked reply gains = ap (map journal_entry) gains.own ∙ map-append journal_entry (calls_by number old) (entry_of number asked reply ∷ [])

-- so the entry of a call is one that was answered
pub answered_by_step : AreAnswered → (net : Net) (caller : Calling) (new : List (line.TurnEntry Call Reply)) (asked : Call) (entry : Entry) → caller.start.net ≡ net
    → Follows caller.start.net caller.start.state.changes → entry.call ≡ asked
    → Gains book_steps caller.start (seen_at caller.place) (entry_of (caller_number caller) asked entry.reply) new → IsAnswered net caller entry
answered_by_step law net caller new asked entry same so is gains =
    let start = caller.start in
    let number = caller_number caller in
    let last = entry_of number asked entry.reply in
    let legal : Legal book_steps start (gains.before ++ last ∷ []) gains.legal.0 =
    subst (λ (log : List (line.TurnEntry Call Reply)). Legal book_steps start log gains.legal.0) gains.ends gains.legal.1 in
    let step = law start gains.legal.0 gains.before last so legal in
    let there : machine.Step net step.0 asked entry.reply step.1 = subst (λ (n : Net). machine.Step n step.0 asked entry.reply step.1) same step.4 in
    record {
      old = step.0;
      new = step.1;
      since = map journal_entry gains.before;
      reached = step.2;
      own = calls_in_log gains.before number ∙ ap (map journal_entry) (own_before start (seen_at caller.place) new number asked entry.reply gains);
      follows = subst (λ (n : Net). Follows n step.0.changes) same step.3;
      step = subst (λ (c : Call). machine.Step net step.0 c entry.reply step.1) (sym is) there;
    }

-- The history that a turn lock makes of the calls of a book.
use Rattle.std.proofs.Common.{◌≡◌, ℕ, ◌+◌, ◌≤◌, List, [], ◌∷◌, ◌++◌, length, map, take, Option, None, Some, refl, sym, ap, ◌∙◌, subst, arith, length-append, inl, inr}
use Rattle.std.specs.Option.{is_some}
use Rattle.bt_outside.specs.Told.{Rose, gained}
use Rattle.bt_net.specs.Network.{Net}
use Rattle.bt_shared.specs.declared.object.TurnEntry as line
use Rattle.bt_shared.specs.Legal as line_legal
use Rattle.bt_journal.specs.declared.call.Call.{Call}
use Rattle.bt_journal.specs.declared.call.Change.{Change}
use Rattle.bt_journal.specs.declared.entry.Entry.{Entry}
use Rattle.bt_journal.specs.declared.reply.Reply.{Reply}
use Rattle.bt_journal.specs.declared.reply.Reply.TheVariants.{Done, SameTerminal, NotThere, RowFull, ColumnFull, BookFull, NotNewer, NoSuchEdition, NotGood, OutOfTurn, NotInstalled, Demand, Installed, Newest, Placed, StoreFault, Stopped}
use Rattle.bt_journal.specs.Journal.{change_asked}
use Rattle.bt_history.specs.Causes.{Follows}
use Rattle.bt_history.specs.Machine.{State, running, state_from, state_after, Step, AreSteps, Legal}
use Rattle.bt_history.specs.Book.{Books, book_steps, journal_entry}
use Rattle.bt_history.specs.Store.{RoseBy, StoreStep, asked_line, change_lost, lost_of}
use Rattle.bt_history.proofs.Histories.{AreSteps-append, steps_follow, as_list, state_from-append, state_from-first, state_from-none, Step-adds}
use Rattle.bt_history.proofs.Stored.{lost_of-cons}

-- the entries are steps of the machine
pub steps_of_line : (net : Net) (start end : Books) (log : List (line.TurnEntry Call Reply)) → start.net ≡ net → line_legal.Legal book_steps start log end
    → AreSteps net start.state (map journal_entry log)
steps_of_line net start end [] same legal = tt
steps_of_line net start end (entry ∷ entries) same (next, (step, more)) =
    (next.state, subst (λ (n : Net). Step n start.state entry.call entry.reply next.state) same step.step, steps_of_line net next end entries (step.net ∙ same) more)

-- behind a legal history of the book they are legal too
pub Legal-line : (start end : Books) (opening : List Change) (history : List Entry) (log : List (line.TurnEntry Call Reply)) → Legal start.net opening history
    → start.state ≡ state_after opening history → line_legal.Legal book_steps start log end → Legal start.net opening (history ++ map journal_entry log)
Legal-line start end opening history log legal is line =
    AreSteps-append start.net (running opening) history (map journal_entry log) legal
    (subst (λ (s : State). AreSteps start.net s (map journal_entry log)) is (steps_of_line start.net start end log refl line))

-- the state at the end is the one that they lead to
pub from_line : (start end : Books) (log : List (line.TurnEntry Call Reply)) → line_legal.Legal book_steps start log end → end.state ≡ state_from start.state (map journal_entry log)
from_line start end [] legal = ap (λ (b : Books). b.state) legal ∙ sym (state_from-none start.state)
from_line start end (entry ∷ entries) (next, (step, more)) =
    from_line next end entries more
    ∙ (ap (λ (s : State). state_from s (map journal_entry entries)) (Step-adds start.net start.state entry.call entry.reply next.state step.step)
    ∙ sym (state_from-first start.state (journal_entry entry) (map journal_entry entries)))

-- and lead to the state of the book at the end
pub state_of_line : (start end : Books) (opening : List Change) (history : List Entry) (log : List (line.TurnEntry Call Reply))
    → start.state ≡ state_after opening history → line_legal.Legal book_steps start log end → end.state ≡ state_after opening (history ++ map journal_entry log)
state_of_line start end opening history log is line =
    from_line start end log line
    ∙ ap (λ (s : State). state_from s (map journal_entry log)) is
    ∙ sym (state_from-append (running opening) history (map journal_entry log))

-- and the network stays
pub net_of_line : (start end : Books) (log : List (line.TurnEntry Call Reply)) → line_legal.Legal book_steps start log end → end.net ≡ start.net
net_of_line start end [] legal = ap (λ (b : Books). b.net) legal
net_of_line start end (entry ∷ entries) (next, (step, more)) = net_of_line next end entries more ∙ step.net

-- how many changes a reply lost
abbrev lost_by : Call → Reply → ℕ
lost_by asked reply = length (as_list (change_lost asked reply))

-- one at most
as_list-le : (o : Option Change) → length (as_list o) ≤ 1
as_list-le None = omega arith
as_list-le (Some one) = omega arith

-- a count that rose, rose by one
rose_one : (asked : Call) (before now : ℕ) → Rose before now → RoseBy (lost_by asked StoreFault) before now
rose_one asked before now (inl more) = inl (omega (arith, more, as_list-le (change_asked asked)))
rose_one asked before now (inr end) = inr end

-- the count rose by one where a change was lost
rose_by : (line : List ℕ) (asked : Call) (reply : Reply) (old new : Option (List ℕ)) (before now : ℕ) → StoreStep line reply old new before now → RoseBy (lost_by asked reply) before now
rose_by line asked (Done _ _) old new before now step = inl (omega (arith, step.1))
rose_by line asked SameTerminal old new before now step = inl (omega (arith, step.1))
rose_by line asked (NotThere _) old new before now step = inl (omega (arith, step.1))
rose_by line asked (RowFull _ _) old new before now step = inl (omega (arith, step.1))
rose_by line asked (ColumnFull _ _) old new before now step = inl (omega (arith, step.1))
rose_by line asked (BookFull _) old new before now step = inl (omega (arith, step.1))
rose_by line asked (NotNewer _) old new before now step = inl (omega (arith, step.1))
rose_by line asked (NoSuchEdition _) old new before now step = inl (omega (arith, step.1))
rose_by line asked (NotGood _) old new before now step = inl (omega (arith, step.1))
rose_by line asked (OutOfTurn _) old new before now step = inl (omega (arith, step.1))
rose_by line asked (NotInstalled _) old new before now step = inl (omega (arith, step.1))
rose_by line asked (Demand _ _ _) old new before now step = inl (omega (arith, step.1))
rose_by line asked (Installed _) old new before now step = inl (omega (arith, step.1))
rose_by line asked (Newest _) old new before now step = inl (omega (arith, step.1))
rose_by line asked Placed old new before now step = inl (omega (arith, step.1))
rose_by line asked StoreFault old new before now step = rose_one asked before now step.1
rose_by line asked Stopped old new before now step = inl (omega (arith, step.1))

-- two rises are one
rose_both : (a b before between now : ℕ) → RoseBy a before between → RoseBy b between now → RoseBy (a + b) before now
rose_both a b before between now (inl first) (inl second) = inl (omega (arith, first, second))
rose_both a b before between now (inr end) (inl second) = inr (omega (arith, end, second))
rose_both a b before between now first (inr end) = inr end

-- and by as many as were lost
pub rose_of_line : (start end : Books) (log : List (line.TurnEntry Call Reply)) → line_legal.Legal book_steps start log end
    → RoseBy (length (lost_of (map journal_entry log))) start.faults end.faults
rose_of_line start end [] legal = inl (omega (arith, ap (λ (b : Books). b.faults) legal))
rose_of_line start end (entry ∷ entries) (next, (step, more)) =
    let first = rose_by (asked_line start.net start.state.changes entry.call) entry.call entry.reply start.told next.told start.faults next.faults step.store in
    let rest = rose_of_line next end entries more in
    subst (λ (n : ℕ). RoseBy n start.faults end.faults)
    (sym (ap length (lost_of-cons (journal_entry entry) (map journal_entry entries)) ∙ length-append (as_list (change_lost entry.call entry.reply)) (lost_of (map journal_entry entries))))
    (rose_both (lost_by entry.call entry.reply) (length (lost_of (map journal_entry entries))) start.faults next.faults end.faults first rest)

-- the last of these calls is a step from the book that the others led to
pub last_step : (start end : Books) (before : List (line.TurnEntry Call Reply)) (entry : line.TurnEntry Call Reply) → line_legal.Legal book_steps start (before ++ entry ∷ []) end
    → (object : Books) × line_legal.Legal book_steps start before object × book_steps object entry.caller entry.call entry.reply end
last_step start end [] entry (next, (step, same)) =
    (start, refl, subst (λ (b : Books). book_steps start entry.caller entry.call entry.reply b) (sym same) step)
last_step start end (first ∷ rest) entry (next, (step, more)) =
    let last = last_step next end rest entry more in
    (last.0, (next, (step, last.1)), last.2)

-- and so one of the machine, from the state that the others led to, after changes that follow
pub answered : (start end : Books) (before : List (line.TurnEntry Call Reply)) (entry : line.TurnEntry Call Reply) → Follows start.net start.state.changes
    → line_legal.Legal book_steps start (before ++ entry ∷ []) end
    → (old : State) × (new : State) × (old ≡ state_from start.state (map journal_entry before)) × Follows start.net old.changes × Step start.net old entry.call entry.reply new
answered start end before entry follow line =
    let last = last_step start end before entry line in
    let at : last.0.state ≡ state_from start.state (map journal_entry before) = from_line start last.0 before last.1 in
    let net = net_of_line start last.0 before last.1 in (
      last.0.state,
      end.state,
      at,
      subst (λ (s : State). Follows start.net s.changes) (sym at)
          (steps_follow start.net start.state (map journal_entry before) follow (steps_of_line start.net start last.0 before refl last.1)),
      subst (λ (n : Net). Step n last.0.state entry.call entry.reply end.state) net last.2.step,
    )

-- the changes of the book at the end follow where those at the start do
pub follows_at_end : (start end : Books) (log : List (line.TurnEntry Call Reply)) → Follows start.net start.state.changes → line_legal.Legal book_steps start log end
    → Follows start.net end.state.changes
follows_at_end start end log follow line =
    subst (λ (s : State). Follows start.net s.changes) (sym (from_line start end log line))
    (steps_follow start.net start.state (map journal_entry log) follow (steps_of_line start.net start end log refl line))

tells_gained : (old : Option (List ℕ)) (piece : List ℕ) → is_some (gained old piece) ≡ is_some old
tells_gained None piece = refl
tells_gained (Some held) piece = refl

-- a store that tells its bytes tells them after a step too, and no other does
tells_on : (line : List ℕ) (reply : Reply) (old new : Option (List ℕ)) (before now : ℕ) → StoreStep line reply old new before now → is_some new ≡ is_some old
tells_on line (Done _ _) old new before now step = ap is_some step.0 ∙ tells_gained old line
tells_on line (Installed _) old new before now step = ap is_some step.0 ∙ tells_gained old line
tells_on line Placed old new before now step = ap is_some step.0 ∙ tells_gained old line
tells_on line StoreFault old new before now step = ap is_some step.0.1 ∙ tells_gained old (take step.0.0 line)
tells_on line SameTerminal old new before now step = ap is_some step.0
tells_on line (NotThere _) old new before now step = ap is_some step.0
tells_on line (RowFull _ _) old new before now step = ap is_some step.0
tells_on line (ColumnFull _ _) old new before now step = ap is_some step.0
tells_on line (BookFull _) old new before now step = ap is_some step.0
tells_on line (NotNewer _) old new before now step = ap is_some step.0
tells_on line (NoSuchEdition _) old new before now step = ap is_some step.0
tells_on line (NotGood _) old new before now step = ap is_some step.0
tells_on line (OutOfTurn _) old new before now step = ap is_some step.0
tells_on line (NotInstalled _) old new before now step = ap is_some step.0
tells_on line (Demand _ _ _) old new before now step = ap is_some step.0
tells_on line (Newest _) old new before now step = ap is_some step.0
tells_on line Stopped old new before now step = ap is_some step.0

pub tells_at_end : (start end : Books) (log : List (line.TurnEntry Call Reply)) → line_legal.Legal book_steps start log end → is_some end.told ≡ is_some start.told
tells_at_end start end [] legal = ap (λ (b : Books). is_some b.told) legal
tells_at_end start end (entry ∷ entries) (next, (step, more)) =
    tells_at_end next end entries more ∙ tells_on (asked_line start.net start.state.changes entry.call) entry.reply start.told next.told start.faults next.faults step.store

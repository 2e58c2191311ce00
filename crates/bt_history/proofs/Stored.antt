-- What a store tells after each step of a book, and what is kept of it.
use Rattle.std.proofs.Common.{◌≡◌, ℕ, ◌≤◌, Bool, true, false, if◌then◌else◌, List, [], ◌∷◌, ◌++◌, length, take, Option, Some, None, refl, sym, ap, ◌∙◌, subst, arith, length-append}
use Rattle.std.proofs.lemmas.List.{append-nil, length-take}
use Rattle.std.proofs.lemmas.List.Elements.{filter_map-append}
use Rattle.bt_frame.specs.declared.limits.TheConstants.{MOST_BOOK_BYTES, MOST_JOURNAL_BYTES}
use Rattle.bt_outside.specs.Told.{gained, GainsPrefix}
use Rattle.bt_net.specs.Network.{Net, IsSound}
use Rattle.bt_journal.specs.declared.call.Call.{Call}
use Rattle.bt_journal.specs.declared.call.Change.{Change}
use Rattle.bt_journal.specs.declared.call.Change.TheVariants as change
use Rattle.bt_journal.specs.declared.entry.Entry.{Entry}
use Rattle.bt_journal.specs.declared.reply.Reply.{Reply}
use Rattle.bt_journal.specs.declared.reply.Reply.TheVariants.{Done, SameTerminal, NotThere, RowFull, ColumnFull, BookFull, NotNewer, NoSuchEdition, NotGood, OutOfTurn, NotInstalled, Demand, Installed, Newest, Placed, StoreFault, Stopped}
use Rattle.bt_journal.specs.Journal.{change_asked, is_made}
use Rattle.bt_history.specs.Causes.{Follows, IsChangeOn}
use Rattle.bt_history.specs.Machine.{bytes_with, line_behind, running, CanMake}
use Rattle.bt_history.specs.Records.{IsSpelled, IsSpelledIf, call_of}
use Rattle.bt_history.specs.Recovery.{AreInRange, IsReadable}
use Rattle.bt_history.specs.Store.{IsKept, IsStored, StoreStep, change_lost, is_lost, lost_of}
use Rattle.bt_history.proofs.Histories.{FollowFrom-grows, as_list}
use Rattle.bt_history.proofs.OneJournal.{AreLines}
use Rattle.bt_history.proofs.Replayed.{AreInRange-push}
use Rattle.bt_history.proofs.SaidLines.{keeps_change, kept_length}

-- so both stay
pub told_stays : (line : List ℕ) (reply : Reply) (old new : Option (List ℕ)) (before now : ℕ) → is_made reply ≡ false → is_lost reply ≡ false
    → StoreStep line reply old new before now → (new ≡ old) × (now ≡ before)
told_stays line (Done _ _) old new before now none kept step = absurd cc
told_stays line SameTerminal old new before now none kept step = step
told_stays line (NotThere _) old new before now none kept step = step
told_stays line (RowFull _ _) old new before now none kept step = step
told_stays line (ColumnFull _ _) old new before now none kept step = step
told_stays line (BookFull _) old new before now none kept step = step
told_stays line (NotNewer _) old new before now none kept step = step
told_stays line (NoSuchEdition _) old new before now none kept step = step
told_stays line (NotGood _) old new before now none kept step = step
told_stays line (OutOfTurn _) old new before now none kept step = step
told_stays line (NotInstalled _) old new before now none kept step = step
told_stays line (Demand _ _ _) old new before now none kept step = step
told_stays line (Installed _) old new before now none kept step = absurd cc
told_stays line (Newest _) old new before now none kept step = step
told_stays line Placed old new before now none kept step = absurd cc
told_stays line StoreFault old new before now none kept step = absurd cc
told_stays line Stopped old new before now none kept step = step

-- where one was made, the store has its line
pub told_gains : (line : List ℕ) (reply : Reply) (old new : Option (List ℕ)) (before now : ℕ) → is_made reply ≡ true
    → StoreStep line reply old new before now → (new ≡ gained old line) × (before ≤ now)
told_gains line (Done _ _) old new before now made step = step
told_gains line SameTerminal old new before now made step = absurd cc
told_gains line (NotThere _) old new before now made step = absurd cc
told_gains line (RowFull _ _) old new before now made step = absurd cc
told_gains line (ColumnFull _ _) old new before now made step = absurd cc
told_gains line (BookFull _) old new before now made step = absurd cc
told_gains line (NotNewer _) old new before now made step = absurd cc
told_gains line (NoSuchEdition _) old new before now made step = absurd cc
told_gains line (NotGood _) old new before now made step = absurd cc
told_gains line (OutOfTurn _) old new before now made step = absurd cc
told_gains line (NotInstalled _) old new before now made step = absurd cc
told_gains line (Demand _ _ _) old new before now made step = absurd cc
told_gains line (Installed _) old new before now made step = step
told_gains line (Newest _) old new before now made step = absurd cc
told_gains line Placed old new before now made step = step
told_gains line StoreFault old new before now made step = absurd cc
told_gains line Stopped old new before now made step = absurd cc

-- and the line was spelled where the change was made
pub spelled_made : (net : Net) (changes : List Change) (one : Change) (reply : Reply) → is_made reply ≡ true → IsSpelledIf net changes one reply → IsSpelled net changes one
spelled_made net changes one (Done _ _) made spelled = spelled
spelled_made net changes one SameTerminal made spelled = absurd cc
spelled_made net changes one (NotThere _) made spelled = absurd cc
spelled_made net changes one (RowFull _ _) made spelled = absurd cc
spelled_made net changes one (ColumnFull _ _) made spelled = absurd cc
spelled_made net changes one (BookFull _) made spelled = absurd cc
spelled_made net changes one (NotNewer _) made spelled = absurd cc
spelled_made net changes one (NoSuchEdition _) made spelled = absurd cc
spelled_made net changes one (NotGood _) made spelled = absurd cc
spelled_made net changes one (OutOfTurn _) made spelled = absurd cc
spelled_made net changes one (NotInstalled _) made spelled = absurd cc
spelled_made net changes one (Demand _ _ _) made spelled = absurd cc
spelled_made net changes one (Installed _) made spelled = spelled
spelled_made net changes one (Newest _) made spelled = absurd cc
spelled_made net changes one Placed made spelled = spelled
spelled_made net changes one StoreFault made spelled = absurd cc
spelled_made net changes one Stopped made spelled = absurd cc

-- what one entry lost
lost_of-one : (entry : Entry) (o : Option Change) → change_lost entry.call entry.reply ≡ o → lost_of (entry ∷ []) ≡ as_list o
lost_of-one entry None is = rw is refl
lost_of-one entry (Some change) is = rw is refl

-- the changes that were lost from a first entry on
pub lost_of-cons : (first : Entry) (rest : List Entry) → lost_of (first ∷ rest) ≡ as_list (change_lost first.call first.reply) ++ lost_of rest
lost_of-cons first rest =
    filter_map-append (λ (e : Entry). change_lost e.call e.reply) (first ∷ []) rest ∙ ap (λ (one : List Change). one ++ lost_of rest) (lost_of-one first _ refl)

-- with one entry more the changes that were lost are those before it, and what it lost
pub lost_grows : (history after : List Entry) (entry : Entry) (o : Option Change) → after ≡ history ++ entry ∷ [] → change_lost entry.call entry.reply ≡ o
    → lost_of after ≡ lost_of history ++ as_list o
lost_grows history after entry o grown is =
    ap lost_of grown
    ∙ (filter_map-append (λ (e : Entry). change_lost e.call e.reply) history (entry ∷ [])
    ∙ ap (λ (one : List Change). lost_of history ++ one) (lost_of-one entry o is))

-- nothing is lost but by a fault of the store
none_lost : (asked : Call) (reply : Reply) → is_lost reply ≡ false → change_lost asked reply ≡ None
none_lost asked reply is = ap (λ (lost : Bool). if lost then change_asked asked else None) is

-- the call of a change asks for it
pub asks : (one : Change) → change_asked (call_of one) ≡ Some one
asks (change.Edit edit) = refl
asks (change.Install plan) = refl
asks (change.Order order) = refl

-- and a fault of the store loses it
pub one_lost : (one : Change) (reply : Reply) → reply ≡ StoreFault → change_lost (call_of one) reply ≡ Some one
one_lost one reply is = ap (change_lost (call_of one)) is ∙ asks one

-- behind an entry that lost nothing as much is lost as before
pub lost_stays : (history after : List Entry) (entry : Entry) → after ≡ history ++ entry ∷ [] → is_lost entry.reply ≡ false → lost_of after ≡ lost_of history
lost_stays history after entry grown kept = lost_grows history after entry None grown (none_lost entry.call entry.reply kept) ∙ append-nil (lost_of history)

-- with the line of one change more, the bytes are the lines of one change more
kept_gains : (net : Net) (told new : Option (List ℕ)) (changes : List Change) (one : Change) → new ≡ gained told (line_behind net changes one) → IsKept net told changes []
    → IsKept net new (changes ++ one ∷ []) []
kept_gains net None new changes one is kept = rw is tt
kept_gains net (Some bytes) new changes one is kept = rw is (keeps_change net bytes changes one kept)

-- with a first part of it, that change is the lost one
kept_part : (net : Net) (told new : Option (List ℕ)) (changes : List Change) (one : Change) → GainsPrefix told (line_behind net changes one) new → IsKept net told changes []
    → IsKept net new changes (one ∷ [])
kept_part net None new changes one gains kept = rw gains.1 tt
kept_part net (Some bytes) new changes one gains kept =
    rw gains.1 (bytes, gains.0, kept, refl)

-- the bytes that are told are not more than are read, since the mark has room beside those of the changes
readable_gains : (net : Net) (are : AreLines net) (told new : Option (List ℕ)) (changes : List Change) (one : Change) → new ≡ gained told (line_behind net changes one) → IsKept net told changes []
    → bytes_with net changes one ≤ MOST_BOOK_BYTES → IsReadable new
readable_gains net are None new changes one is kept room = rw is tt
readable_gains net are (Some bytes) new changes one is kept room =
    let line = line_behind net changes one in
    let few : length (bytes ++ line) ≤ MOST_JOURNAL_BYTES = omega (arith, room, kept_length net bytes changes 16 are.short kept, length-append bytes line) in
    rw is few

-- nor are they with a first part of the line
readable_part : (net : Net) (are : AreLines net) (told new : Option (List ℕ)) (changes : List Change) (one : Change) → GainsPrefix told (line_behind net changes one) new → IsKept net told changes []
    → bytes_with net changes one ≤ MOST_BOOK_BYTES → IsReadable new
readable_part net are None new changes one gains kept room = rw gains.1 tt
readable_part net are (Some bytes) new changes one gains kept room =
    let line = line_behind net changes one in
    let few : length (bytes ++ take gains.0 line) ≤ MOST_JOURNAL_BYTES =
    omega (arith, room, kept_length net bytes changes 16 are.short kept, length-append bytes (take gains.0 line), length-take gains.0 line) in
    rw gains.1 few

-- what a store tells once the line of a change was kept
pub stored_gains : (net : Net) (are : AreLines net) (told new : Option (List ℕ)) (changes : List Change) (one : Change) → IsSound net → IsStored net told changes [] → IsChangeOn net one
    → CanMake net (running changes) one → IsSpelled net changes one → new ≡ gained told (line_behind net changes one) → IsStored net new (changes ++ one ∷ []) []
stored_gains net are told new changes one sound stored on can spelled is =
    let follow = subst (Follows net) (append-nil changes) stored.follow in
    let ranges = subst (AreInRange net 0) (append-nil changes) stored.ranges in
    record {
      kept = kept_gains net told new changes one is stored.kept;
      one = omega arith;
      follow = subst (Follows net) (sym (append-nil (changes ++ one ∷ []))) (FollowFrom-grows net [] changes one follow on can.good);
      ranges = subst (AreInRange net 0) (sym (append-nil (changes ++ one ∷ []))) (AreInRange-push net changes one ranges spelled);
      readable = readable_gains net are told new changes one is stored.kept (omega (arith, can.room, sound.journal.1));
    }

-- and once a first part of it was
pub stored_part : (net : Net) (are : AreLines net) (told new : Option (List ℕ)) (changes : List Change) (one : Change) → IsSound net → IsStored net told changes [] → IsChangeOn net one
    → CanMake net (running changes) one → IsSpelled net changes one → GainsPrefix told (line_behind net changes one) new → IsStored net new changes (one ∷ [])
stored_part net are told new changes one sound stored on can spelled gains =
    let follow = subst (Follows net) (append-nil changes) stored.follow in
    let ranges = subst (AreInRange net 0) (append-nil changes) stored.ranges in
    record {
      kept = kept_part net told new changes one gains stored.kept;
      one = omega arith;
      follow = FollowFrom-grows net [] changes one follow on can.good;
      ranges = AreInRange-push net changes one ranges spelled;
      readable = readable_part net are told new changes one gains stored.kept (omega (arith, can.room, sound.journal.1));
    }

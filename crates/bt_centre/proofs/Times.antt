-- The times of a run, one after the other, and what its store lost in them.
use Rattle.std.proofs.Common.{◌≡◌, ℕ, ◌+◌, ◌≤◌, Bool, true, false, List, [], ◌∷◌, ◌++◌, length, length-append, Option, Some, None, refl, ap, ◌∙◌, subst, arith, inl, inr}
use Rattle.std.specs.Prelude.{IfSome}
use Rattle.std.specs.Option.{is_some}
use Rattle.std.proofs.lemmas.List.{append-nil}
use Rattle.std.proofs.lemmas.List.Elements.{filter_map-append}
use Rattle.std.proofs.lemmas.Grind.{flat_map-append}
use Rattle.bt_net.specs.Network.{Net}
use Rattle.bt_journal.specs.declared.call.Change.{Change}
use Rattle.bt_journal.specs.declared.entry.Entry.{Entry}
use Rattle.bt_journal.specs.Journal.{changes_of}
use Rattle.bt_history.specs.Store.{IsNextOpening, RoseBy, change_lost, lost_of}
use Rattle.bt_centre.specs.declared.history.History.{History}
use Rattle.bt_centre.specs.Run.{AreTimes, IsLegalHistory, IsNextTime, entries_of, lost_in}

-- the changes that more entries lost stand behind the others
pub lost_of-append : (a b : List Entry) → lost_of (a ++ b) ≡ lost_of a ++ lost_of b
lost_of-append a b = filter_map-append (λ (entry : Entry). change_lost entry.call entry.reply) a b

-- the entries of one history more stand behind the others
pub entries_of-last : (over : List History) (last : History) → entries_of (over ++ last ∷ []) ≡ entries_of over ++ last.entries
entries_of-last over last =
    flat_map-append (λ (history : History). history.entries) over (last ∷ []) ∙ ap (λ (l : List Entry). entries_of over ++ l) (append-nil last.entries)

-- how many changes were lost, with one history more
pub lost_count : (over : List History) (last : History) → length (lost_in (over ++ last ∷ [])) ≡ length (lost_in over) + length (lost_of last.entries)
lost_count over last =
    ap (λ (l : List Entry). length (lost_of l)) (entries_of-last over last)
    ∙ ap length (lost_of-append (entries_of over) last.entries)
    ∙ length-append (lost_in over) (lost_of last.entries)

-- and with more entries in it
pub lost_more : (over : List History) (old new : History) (more : List Entry) → new.entries ≡ old.entries ++ more
    → length (lost_in (over ++ new ∷ [])) ≡ length (lost_in (over ++ old ∷ [])) + length (lost_of more)
lost_more over old new more is =
    omega (
      arith,
      lost_count over new,
      lost_count over old,
      ap (λ (l : List Entry). length (lost_of l)) is,
      ap length (lost_of-append old.entries more),
      length-append (lost_of old.entries) (lost_of more),
    )

-- a count that rose twice
pub rose_on : (a b c before between now : ℕ) → c ≡ a + b → RoseBy a before between → RoseBy b between now → RoseBy c before now
rose_on a b c before between now is (inl first) (inl second) = inl (omega (arith, first, second, is))
rose_on a b c before between now is (inr end) (inl second) = inr (omega (arith, end, second))
rose_on a b c before between now is first (inr end) = inr end

-- a count that rose, and did not fall since
pub rose_still : (a b before between now : ℕ) → b ≡ a → RoseBy a before between → between ≤ now → RoseBy b before now
rose_still a b before between now is rose later = rose_on a 0 b before between now (omega (arith, is)) rose (inl (omega (arith, later)))

-- and one that did not fall before
pub rose_since : (a before between now : ℕ) → before ≤ between → RoseBy a between now → RoseBy a before now
rose_since a before between now later rose = rose_on 0 a a before between now (omega arith) (inl (omega (arith, later))) rose

-- a time more
pub times_more : (net : Net) (tells : Bool) (first last next : List Change) (over : List History) (one : History) → AreTimes net tells first over last
    → IsLegalHistory net last one → IsNextTime tells last one.entries next → AreTimes net tells first (over ++ one ∷ []) next
times_more net tells first last next [] one is legal on =
    (subst (λ (c : List Change). IsLegalHistory net c one) is legal, (next, subst (λ (c : List Change). IsNextTime tells c one.entries next) is on, refl))
times_more net tells first last next (begun ∷ over) one (was, (between, after, more)) legal on =
    (was, (between, after, times_more net tells between last next over one more legal on))

-- what a store that tells its bytes makes of the next time
pub next_time : (told : Option (List ℕ)) (tells : Bool) (changes opening next : List Change) (history : List Entry) → is_some told ≡ tells
    → IfSome told (λ _. IsNextOpening changes (lost_of history) next) → changes ≡ opening ++ changes_of history → IsNextTime tells opening history next
next_time (Some bytes) true changes opening next history tells is same = subst (λ (c : List Change). IsNextOpening c (lost_of history) next) same is
next_time (Some bytes) false changes opening next history tells is same = tt
next_time None true changes opening next history tells is same = absurd cc
next_time None false changes opening next history tells is same = tt

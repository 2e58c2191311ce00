-- Histories over a store that lost no change: it failed over none of their calls.
use Rattle.std.proofs.Common.{◌≡◌, ◌+◌, Bool, true, false, ◌||◌, List, [], ◌∷◌, ◌++◌, length, length-append, Option, Some, None, if◌then◌else◌, refl, sym, ap, ◌∙◌, arith}
use Rattle.std.specs.List.{cons_option, list_any}
use Rattle.std.proofs.lemmas.List.Elements.{filter_map-append}
use Rattle.bt_net.specs.Network.{Net}
use Rattle.bt_journal.specs.declared.call.Call.{Call}
use Rattle.bt_journal.specs.declared.call.Call.TheVariants as call
use Rattle.bt_journal.specs.declared.call.Change.{Change}
use Rattle.bt_journal.specs.declared.entry.Entry.{Entry}
use Rattle.bt_journal.specs.declared.reply.Reply.{Reply}
use Rattle.bt_history.specs.Machine.{AreSteps, CallStep, State, running}
use Rattle.bt_history.specs.Store.{change_lost, is_lost, lost_of}
use Rattle.bt_centre.specs.declared.history.History.{History}
use Rattle.bt_centre.specs.Run.{AreLegalTimes, AreTimes, IsLegalHistory, entries_of, has_lost, lost_in, status_after}

-- what gives nothing is not asked
test_none : (test : Bool) (one : Change) → (if test then Some one else None) ≡ None → test ≡ false
test_none true one is = cc
test_none false one is = refl

neither : (a b : Bool) → a ≡ false → b ≡ false → (a || b) ≡ false
neither a b first second = ap (λ (t : Bool). t || b) first ∙ second

-- a call that lost no change was answered otherwise than by a fault of the store
reply_kept : (net : Net) (old new : State) (asked : Call) (reply : Reply) → CallStep net old asked reply new → change_lost asked reply ≡ None → is_lost reply ≡ false
reply_kept net old new call.Snapshot reply step none = ap is_lost step.0.told
reply_kept net old new (call.Newest after) reply step none = ap is_lost step.0
reply_kept net old new (call.Edit edit) reply step none = test_none (is_lost reply) _ none
reply_kept net old new (call.Install plan) reply step none = test_none (is_lost reply) _ none
reply_kept net old new (call.Place order) reply step none = test_none (is_lost reply) _ none

-- of a list with nothing in it the first gives nothing, and neither do the others
none_first : (first : Option Change) (rest : List Change) → length (cons_option first rest) ≡ 0 → first ≡ None
none_first None rest none = refl
none_first (Some one) rest none = absurd (omega (arith, none))

none_rest : (first : Option Change) (rest : List Change) → length (cons_option first rest) ≡ 0 → length rest ≡ 0
none_rest None rest none = none
none_rest (Some one) rest none = absurd (omega (arith, none))

-- and so were all calls of a legal history that lost none
entries_kept : (net : Net) (old : State) (entries : List Entry) → AreSteps net old entries → length (lost_of entries) ≡ 0
    → list_any (λ (entry : Entry). is_lost entry.reply) entries ≡ false
entries_kept net old [] steps none = refl
entries_kept net old (entry ∷ entries) (new, step, steps) none =
    neither (is_lost entry.reply) _
    (reply_kept net old new entry.call entry.reply step.answered (none_first (change_lost entry.call entry.reply) (lost_of entries) none))
    (entries_kept net new entries steps (none_rest (change_lost entry.call entry.reply) (lost_of entries) none))

-- the changes that a history lost, and those that the histories behind it lost
lost_apart : (history : History) (histories : List History) → length (lost_in (history ∷ histories)) ≡ length (lost_of history.entries) + length (lost_in histories)
lost_apart history histories =
    ap length (filter_map-append (λ (entry : Entry). change_lost entry.call entry.reply) history.entries (entries_of histories)) ∙ length-append (lost_of history.entries) (lost_in histories)

first_kept : (net : Net) (opening : List Change) (history : History) (histories : List History) → IsLegalHistory net opening history
    → (length (lost_in histories) ≡ 0 → has_lost histories ≡ false) → length (lost_in (history ∷ histories)) ≡ 0 → has_lost (history ∷ histories) ≡ false
first_kept net opening history histories legal others none =
    neither _ (has_lost histories)
    (entries_kept net (running opening) history.entries legal.legal (omega (arith, none, lost_apart history histories)))
    (others (omega (arith, none, lost_apart history histories)))

times_kept : (net : Net) (tells : Bool) (opening : List Change) (over : List History) (last : List Change) (present : History) → AreTimes net tells opening over last
    → IsLegalHistory net last present → length (lost_in (over ++ present ∷ [])) ≡ 0 → has_lost (over ++ present ∷ []) ≡ false
times_kept net tells opening [] last present times legal = first_kept net last present [] legal (λ none. refl)
times_kept net tells opening (history ∷ over) last present (first, (next, linked, times)) legal =
    first_kept net opening history (over ++ present ∷ []) first (times_kept net tells next over last present times legal)

-- so a run that came to its end, and lost none, has status 0
pub kept_status : (net : Net) (tells : Bool) (first last : List Change) (histories : List History) → AreLegalTimes net tells first last histories → length (lost_in histories) ≡ 0
    → status_after histories ≡ 0
kept_status net tells first last histories legal none =
    let counted : length (lost_in (legal.over ++ legal.present ∷ [])) ≡ 0 = ap (λ (h : List History). length (lost_in h)) (sym legal.all) ∙ none in
    let kept : has_lost histories ≡ false = ap has_lost legal.all ∙ times_kept net tells first legal.over last legal.present legal.times legal.legal counted in
    ap (λ (b : Bool). if b then 7 else 0) kept

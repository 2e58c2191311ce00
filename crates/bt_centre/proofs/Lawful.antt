-- Wherever a run stands over a store that tells its bytes, the history of the present time is legal from the changes on with which that
-- time began.
use Rattle.std.proofs.Common.{◌≡◌, ℕ, true, List, [], ◌∷◌, ◌++◌, length, take, refl, sym, ap, ◌∙◌, subst, append_assoc, arith, inl, inr}
use Rattle.std.proofs.Math.Seq.{take-append_seam}
use Rattle.std.proofs.lemmas.List.{append-nil, append_cancel_left, length-append}
use Rattle.bt_net.specs.Network.{Net}
use Rattle.bt_journal.specs.declared.call.Change.{Change}
use Rattle.bt_journal.specs.declared.entry.Entry.{Entry}
use Rattle.bt_journal.specs.Journal.{changes_of}
use Rattle.bt_history.specs.Causes.{Follows}
use Rattle.bt_history.specs.Machine.{AreSteps, Legal, State, Step, running, state_from}
use Rattle.bt_history.specs.Store.{IsNextOpening, lost_of}
use Rattle.bt_history.proofs.Histories.{Step-adds, state_from-first, state_from-none}
use Rattle.bt_script.specs.declared.script.Item.{Item}
use Rattle.bt_script.specs.declared.script.Item.TheVariants as item
use Rattle.bt_centre.specs.declared.history.History.{History}
use Rattle.bt_centre.specs.Run.{AreLegalTimes, AreTimes, IsLegalHistory, IsNextTime, PlaysItem, PlaysItems, Stand, histories_at, history_at}

-- a first part of the steps
pub steps_first : (net : Net) (old : State) (a b : List Entry) → AreSteps net old (a ++ b) → AreSteps net old a
steps_first net old [] b steps = tt
steps_first net old (first ∷ a) b (new, step, more) = (new, step, steps_first net new a b more)

-- the step of an entry, from the state after those before it
pub step_at : (net : Net) (old : State) (a : List Entry) (one : Entry) (b : List Entry) → AreSteps net old (a ++ one ∷ b)
    → (new : State) × Step net (state_from old a) one.call one.reply new
step_at net old [] one b (new, step, more) = (new, subst (λ (s : State). Step net s one.call one.reply new) (sym (state_from-none old)) step)
step_at net old (first ∷ a) one b (between, step, more) =
    let at = step_at net between a one b more in
    let same : state_from between a ≡ state_from old (first ∷ a) =
    ap (λ (s : State). state_from s a) (Step-adds net old first.call first.reply between step) ∙ sym (state_from-first old first a) in
    (at.0, subst (λ (s : State). Step net s one.call one.reply at.0) same at.1)

-- the changes of the next time are those of this one and maybe more
pub next_more : (changes lost next : List Change) → IsNextOpening changes lost next → (more : List Change) × (next ≡ changes ++ more)
next_more changes lost next (inl same) = ([], same ∙ sym (append-nil changes))
next_more changes lost next (inr (one, is, more)) = (one ∷ [], more)

-- two first parts of a list that are as long as each other are the same
same_first : (a b x y all : List Change) → length a ≡ length b → all ≡ a ++ x → all ≡ b ++ y → a ≡ b
same_first a b x y all long first second =
    sym (take-append_seam a x) ∙ ap (take (length a)) (sym first ∙ second) ∙ ap (λ (n : ℕ). take n (b ++ y)) long ∙ take-append_seam b y

-- what stands last of two lists that are the same, and what stands before it
pub same_last : (a b : List History) (x y : History) → a ++ x ∷ [] ≡ b ++ y ∷ [] → (a ≡ b) × (x ≡ y)
same_last a b x y is =
    let long : length a ≡ length b = omega (arith, length-append a (x ∷ []), length-append b (y ∷ []), ap length is) in
    let before : a ≡ b = sym (take-append_seam a (x ∷ [])) ∙ ap (take (length a)) is ∙ ap (λ (n : ℕ). take n (b ++ y ∷ [])) long ∙ take-append_seam b (y ∷ []) in
    let last : x ∷ [] ≡ y ∷ [] = append_cancel_left b (x ∷ []) (y ∷ []) (ap (λ (l : List History). l ++ x ∷ []) (sym before) ∙ is) in
    (before, one x y last)
  where
    one : (x y : History) → (let list : List History = x ∷ [] in list) ≡ y ∷ [] → x ≡ y
    one x y is = cc

-- the last of these times, and those before it
record IsLastTime (net : Net) (first : List Change) (over : List History) (history : History) (last : List Change) : Type 0 where
  pub opening : List Change
  pub times : AreTimes net true first over opening
  pub own : IsLegalHistory net opening history
  pub next : IsNextTime true opening history.entries last

last_time : (net : Net) (first : List Change) (over : List History) (history : History) (last : List Change) → AreTimes net true first (over ++ history ∷ []) last
    → IsLastTime net first over history last
last_time net first [] history last (own, (next, begins, is)) =
    record { opening = first; times = refl; own = own; next = subst (IsNextTime true first history.entries) (sym is) begins }
last_time net first (one ∷ over) history last (own, (next, begins, more)) =
    let rest = last_time net next over history last more in
    record { opening = rest.opening; times = (own, (next, begins, rest.times)); own = rest.own; next = rest.next }

-- a run that began with these changes came here by legal times, and the present one is legal so far
pub record IsLawful (net : Net) (first : List Change) (stand : Stand) : Type 0 where
  pub times : AreTimes net true first stand.over stand.opening
  pub follow : Follows net stand.opening
  pub legal : Legal net stand.opening stand.history

-- at the end of a run
pub lawful_end : (net : Net) (first : List Change) (end : Stand) → AreLegalTimes net true first end.opening (histories_at end) → IsLawful net first end
lawful_end net first end is =
    let last = same_last end.over is.over (history_at end) is.present is.all in
    let own = subst (IsLegalHistory net end.opening) (sym last.1) is.legal in
    record {
      times = subst (λ (l : List History). AreTimes net true first l end.opening) (sym last.0) is.times;
      follow = own.follow;
      legal = own.legal;
    }

-- the same changes began the time that a restart ended
restart_opening : (net : Net) (before after : Stand) (first : List Change) → IsNextTime true before.opening before.history after.opening
    → (last : IsLastTime net first before.over (history_at before) after.opening) → last.opening ≡ before.opening
restart_opening net before after first next last =
    let told = next_more (last.opening ++ changes_of before.history) (lost_of before.history) after.opening last.next in
    let known = next_more (before.opening ++ changes_of before.history) (lost_of before.history) after.opening next in
    same_first last.opening before.opening (changes_of before.history ++ told.0) (changes_of before.history ++ known.0) after.opening (sym last.own.counted)
    (told.1 ∙ append_assoc last.opening (changes_of before.history) told.0)
    (known.1 ∙ append_assoc before.opening (changes_of before.history) known.0)

lawful_at : (net : Net) (first : List Change) (before : Stand) (after : List Change) (last : IsLastTime net first before.over (history_at before) after) → last.opening ≡ before.opening
    → IsLawful net first before
lawful_at net first before after last is =
    let own = subst (λ (o : List Change). IsLegalHistory net o (history_at before)) is last.own in
    record { times = subst (AreTimes net true first before.over) is last.times; follow = own.follow; legal = own.legal }

-- before a part, where it is so behind it
lawful_before : (net : Net) (first : List Change) (before : Stand) (one : Item) (text : List ℕ) (after : Stand) → PlaysItem net true before one text after
    → IsLawful net first after → IsLawful net first before
lawful_before net first before (item.Round round) text after played so = record {
  times = subst (λ (o : List Change). AreTimes net true first before.over o) played.opening
      (subst (λ (l : List History). AreTimes net true first l after.opening) played.over so.times);
  follow = subst (Follows net) played.opening so.follow;
  legal = steps_first net (running before.opening) before.history played.entries
      (subst (λ (o : List Change). Legal net o (before.history ++ played.entries)) played.opening (subst (Legal net after.opening) played.kept so.legal));
}
lawful_before net first before item.Restart text after played so =
    let last = last_time net first before.over (history_at before) after.opening (subst (λ (l : List History). AreTimes net true first l after.opening) played.over so.times) in
    lawful_at net first before after.opening last (restart_opening net before after first played.next last)
lawful_before net first before (item.Heard line) text after played so =
    let there = subst (IsLawful net first) played.1 so in
    record { times = there.times; follow = there.follow; legal = there.legal }

-- before parts
pub lawful_from : (net : Net) (first : List Change) (before : Stand) (items : List Item) (text : List ℕ) (after : Stand) → PlaysItems net true before items text after
    → IsLawful net first after → IsLawful net first before
lawful_from net first before [] text after (nothing, is) so = subst (IsLawful net first) is so
lawful_from net first before (one ∷ items) text after (between, own, others, now, more, text_is) so =
    lawful_before net first before one own between now (lawful_from net first between items others after more so)

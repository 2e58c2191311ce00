-- Each of the edits is done, by one who asks for them one after the other.
use Rattle.std.proofs.Common.{◌≡◌, ◌≢◌, ◌≤◌, inl, inr, true, false, List, [], ◌∷◌, ◌++◌, sym, subst, append_assoc, arith}
use Rattle.std.proofs.lemmas.List.{append-nil}
use Rattle.bt_net.specs.Network.{Net}
use Rattle.bt_journal.specs.declared.call.Change.{Change}
use Rattle.bt_journal.specs.declared.reply.Reply.{Reply}
use Rattle.bt_journal.specs.declared.reply.Reply.TheVariants.{StoreFault}
use Rattle.bt_journal.specs.Journal.{is_made}
use Rattle.bt_history.specs.Causes.{FollowFrom, IsGood}
use Rattle.bt_history.specs.Machine.{ChangeStep, State, bytes_with, running}
use Rattle.bt_history.proofs.Strays.{cause_strays}

-- the change behind some of those that follow has no cause of a refusal
good_behind : (net : Net) (changes before rest : List Change) (one : Change) → FollowFrom net changes (before ++ one ∷ rest) → IsGood net (changes ++ before) one
good_behind net changes [] rest one follow = subst (λ (c : List Change). IsGood net c one) (sym (append-nil changes)) follow.1
good_behind net changes (first ∷ before) rest one follow =
    subst (λ (c : List Change). IsGood net c one) (append_assoc changes (first ∷ []) before) (good_behind net (changes ++ first ∷ []) before rest one follow.2)

-- so it is made, where there is room for its line and the store does not fail
made_step : (net : Net) (changes : List Change) (one : Change) (reply : Reply) (new : State) → IsGood net changes one → ChangeStep net (running changes) one reply new
    → bytes_with net changes one ≤ net.journal → reply ≢ StoreFault → (is_made reply ≡ true) × (new ≡ running (changes ++ one ∷ []))
made_step net changes one reply new good (inl halted) room kept = absurd (let no : false ≡ true = halted.stopped in cc)
made_step net changes one reply new good (inr (inl refused)) room kept = absurd (cause_strays net changes one reply refused.cause good)
made_step net changes one reply new good (inr (inr (inl full))) room kept = absurd (omega (arith, full.no_room, room))
made_step net changes one reply new good (inr (inr (inr (inl done)))) room kept = (done.made, done.makes.after)
made_step net changes one reply new good (inr (inr (inr (inr lost)))) room kept = absurd (kept lost.told)

pub each_made : (net : Net) (changes edits before rest : List Change) (one : Change) (reply : Reply) (new : State) → FollowFrom net changes edits → edits ≡ before ++ one ∷ rest
    → ChangeStep net (running (changes ++ before)) one reply new → bytes_with net (changes ++ before) one ≤ net.journal → reply ≢ StoreFault
    → (is_made reply ≡ true) × (new ≡ running ((changes ++ before) ++ one ∷ []))
each_made net changes edits before rest one reply new follow parts step room kept =
    made_step net (changes ++ before) one reply new (good_behind net changes before rest one (subst (FollowFrom net changes) parts follow)) step room kept

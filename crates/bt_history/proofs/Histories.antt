-- Histories that grow by a step, and the beams that replies name.
use Rattle.std.proofs.Common.{◌≡◌, ℕ, ◌<◌, ◌||◌, Bool, true, false, if◌then◌else◌, List, [], ◌∷◌, ◌++◌, length, All, Option, Some, None, refl, sym, ap, ◌∙◌, subst, append_assoc, inl, inr}
use Rattle.std.specs.Prelude.{slice_get, option_map}
use Rattle.std.specs.List.{list_any}
use Rattle.std.proofs.Math.Bool.{or-false, or_assoc}
use Rattle.std.proofs.lemmas.List.{append-nil}
use Rattle.std.proofs.lemmas.List.Folds.{list_any-append}
use Rattle.std.proofs.lemmas.List.Elements.{filter_map-append, All-get_or}
use Rattle.std.proofs.lemmas.Option.{same_Some, slice_get_within, get_or_from_slice_get}
use Rattle.bt_frame.specs.declared.numbers.BeamNo.{BeamNo}
use Rattle.bt_frame.specs.declared.numbers.TermNo.{TermNo}
use Rattle.bt_net.specs.Network.{Net, IsSound}
use Rattle.bt_net.specs.Terminals.{IsInBeam}
use Rattle.bt_demand.specs.declared.demand.Link.{Link}
use Rattle.bt_demand.specs.declared.plan.Plan.{Plan}
use Rattle.bt_demand.specs.declared.verdict.Verdict.{Verdict}
use Rattle.bt_demand.specs.declared.verdict.Verdict.TheVariants.{Good, V1, V2, V3, V4, V5, V6, V7, V8}
use Rattle.bt_demand.specs.PlanVerdict.{IsPlanVerdict}
use Rattle.bt_journal.specs.declared.call.Call.{Call}
use Rattle.bt_journal.specs.declared.call.Call.TheVariants as call
use Rattle.bt_journal.specs.declared.call.Change.{Change}
use Rattle.bt_journal.specs.declared.call.Change.TheVariants as change
use Rattle.bt_journal.specs.declared.call.Edit.{Edit}
use Rattle.bt_journal.specs.declared.call.Edit.TheVariants.{Add, Drop, Move}
use Rattle.bt_journal.specs.declared.entry.Entry.{Entry}
use Rattle.bt_journal.specs.declared.reply.Reply.{Reply}
use Rattle.bt_journal.specs.declared.reply.Reply.TheVariants.{Done, SameTerminal, NotThere, RowFull, ColumnFull, BookFull, NotNewer, NoSuchEdition, NotGood, OutOfTurn, NotInstalled, Demand, Installed, Newest, Placed, StoreFault, Stopped}
use Rattle.bt_journal.specs.Journal.{change_asked, change_made, changes_of, is_made, is_fault}
use Rattle.bt_history.specs.EditCauses.{GainsFrom, GainsTo}
use Rattle.bt_history.specs.Causes.{IsGood, IsCause, IsChangeOn, FollowFrom, Follows}
use Rattle.bt_history.specs.Machine.{State, running, halted, state_from, state_after, IsOfNetwork, ChangeStep, CallStep, Step, AreSteps, Legal, NamesBeams}
use Rattle.bt_history.proofs.Replies.{made_no_fault, refusal_not_made, refusal_no_fault}

-- what a call made, as a list of one change or none
abbrev pub as_list : Option Change → List Change
as_list None = []
as_list (Some change) = change ∷ []

changes_of-one : (entry : Entry) (o : Option Change) → change_made entry.call entry.reply ≡ o → changes_of (entry ∷ []) ≡ as_list o
changes_of-one entry None is = rw is refl
changes_of-one entry (Some change) is = rw is refl

pub changes_of-cons : (first : Entry) (rest : List Entry) → changes_of (first ∷ rest) ≡ as_list (change_made first.call first.reply) ++ changes_of rest
changes_of-cons first rest = filter_map-append (λ (e : Entry). change_made e.call e.reply) (first ∷ []) rest ∙ ap (λ one. one ++ changes_of rest) (changes_of-one first _ refl)

-- with one entry more the changes are those before it, and what it made
pub changes_grow : (opening : List Change) (history : List Entry) (entry : Entry) (o : Option Change) → change_made entry.call entry.reply ≡ o
    → opening ++ changes_of (history ++ entry ∷ []) ≡ (opening ++ changes_of history) ++ as_list o
changes_grow opening history entry o is =
    let both : changes_of (history ++ entry ∷ []) ≡ changes_of history ++ changes_of (entry ∷ []) = filter_map-append (λ (e : Entry). change_made e.call e.reply) history (entry ∷ []) in
    ap (λ all. opening ++ all) (both ∙ ap (λ one. changes_of history ++ one) (changes_of-one entry o is))
    ∙ sym (append_assoc opening (changes_of history) (as_list o))

-- states with the same parts are the same
pub same_state : (one other : State) → one.changes ≡ other.changes → one.stopped ≡ other.stopped → one ≡ other
same_state one other changes stopped =
    ap (λ (c : List Change). let state : State = record { changes = c; stopped = one.stopped } in state) changes
    ∙ ap (λ (s : Bool). let state : State = record { changes = other.changes; stopped = s } in state) stopped

-- the state after one call: with the change that it made, and stopped where its reply tells of a fault
abbrev pub after_call : State → Call → Reply → State
after_call old asked reply = record { changes = old.changes ++ as_list (change_made asked reply); stopped = old.stopped || is_fault reply }

pub none_made : (asked : Call) (reply : Reply) → is_made reply ≡ false → change_made asked reply ≡ None
none_made asked reply is = ap (λ (made : Bool). if made then change_asked asked else None) is

pub one_made : (asked : Call) (reply : Reply) (one : Change) → is_made reply ≡ true → change_asked asked ≡ Some one → change_made asked reply ≡ Some one
one_made asked reply one is asks = ap (λ (made : Bool). if made then change_asked asked else None) is ∙ asks

same_changes : (changes : List Change) (asked : Call) (reply : Reply) → is_made reply ≡ false → changes ++ as_list (change_made asked reply) ≡ changes
same_changes changes asked reply none = ap (λ (o : Option Change). changes ++ as_list o) (none_made asked reply none) ∙ append-nil changes

one_more : (changes : List Change) (asked : Call) (reply : Reply) (one : Change) → is_made reply ≡ true → change_asked asked ≡ Some one
    → changes ++ as_list (change_made asked reply) ≡ changes ++ one ∷ []
one_more changes asked reply one made asks = ap (λ (o : Option Change). changes ++ as_list o) (one_made asked reply one made asks)

stays : (old new : State) (asked : Call) (reply : Reply) → new ≡ old → is_made reply ≡ false → (old.stopped || is_fault reply) ≡ old.stopped → new ≡ after_call old asked reply
stays old new asked reply same none sure = same ∙ same_state old (after_call old asked reply) (sym (same_changes old.changes asked reply none)) (sym sure)

no_fault : (stopped fault : Bool) → fault ≡ false → (stopped || fault) ≡ stopped
no_fault stopped fault none = ap (λ (f : Bool). stopped || f) none ∙ or-false stopped

change_adds : (net : Net) (old : State) (asked : Call) (one : Change) (reply : Reply) (new : State) → change_asked asked ≡ Some one → ChangeStep net old one reply new
    → new ≡ after_call old asked reply
change_adds net old asked one reply new asks (inl halts) =
    stays old new asked reply halts.same (ap is_made halts.told) (ap (λ (s : Bool). s || is_fault reply) halts.stopped ∙ sym halts.stopped)
change_adds net old asked one reply new asks (inr (inl refused)) =
    stays old new asked reply refused.same (refusal_not_made reply refused.refuses) (no_fault old.stopped (is_fault reply) (refusal_no_fault reply refused.refuses))
change_adds net old asked one reply new asks (inr (inr (inl full))) =
    stays old new asked reply full.same (ap is_made full.told) (no_fault old.stopped (is_fault reply) (ap is_fault full.told))
change_adds net old asked one reply new asks (inr (inr (inr (inl done)))) =
    done.makes.after ∙ same_state (running (old.changes ++ one ∷ [])) (after_call old asked reply) (sym (one_more old.changes asked reply one done.made asks))
    (sym (ap (λ (s : Bool). s || is_fault reply) done.makes.can.runs ∙ made_no_fault reply done.made))
change_adds net old asked one reply new asks (inr (inr (inr (inr lost)))) =
    lost.stops ∙ same_state (halted old) (after_call old asked reply) (sym (same_changes old.changes asked reply (ap is_made lost.told)))
    (sym (ap (λ (s : Bool). s || is_fault reply) lost.can.runs ∙ ap is_fault lost.told))

call_adds : (net : Net) (old : State) (asked : Call) (reply : Reply) (new : State) → CallStep net old asked reply new → new ≡ after_call old asked reply
call_adds net old (call.Edit edit) reply new step = change_adds net old (call.Edit edit) (change.Edit edit) reply new refl step
call_adds net old (call.Install plan) reply new step = change_adds net old (call.Install plan) (change.Install plan) reply new refl step
call_adds net old (call.Place order) reply new step = change_adds net old (call.Place order) (change.Order order) reply new refl step
call_adds net old call.Snapshot reply new step =
    stays old new call.Snapshot reply step.1 (ap is_made step.0.told) (no_fault old.stopped (is_fault reply) (ap is_fault step.0.told))
call_adds net old (call.Newest after) reply new step =
    stays old new (call.Newest after) reply step.1 (ap is_made step.0) (no_fault old.stopped (is_fault reply) (ap is_fault step.0))

-- a step adds what it made, and stops where it tells of a fault
pub Step-adds : (net : Net) (old : State) (asked : Call) (reply : Reply) (new : State) → Step net old asked reply new → new ≡ after_call old asked reply
Step-adds net old asked reply new step = call_adds net old asked reply new step.answered

-- whether an entry tells of a fault
abbrev pub tells_fault : Entry → Bool
tells_fault entry = is_fault entry.reply

-- one entry more is one call more
pub state_from-more : (old : State) (history : List Entry) (entry : Entry)
    → state_from old (history ++ entry ∷ []) ≡ after_call (state_from old history) entry.call entry.reply
state_from-more old history entry = same_state (state_from old (history ++ entry ∷ [])) (after_call (state_from old history) entry.call entry.reply)
    (changes_grow old.changes history entry _ refl)
    (ap (λ (s : Bool). old.stopped || s) (list_any-append tells_fault history (entry ∷ []) ∙ ap (λ (s : Bool). list_any tells_fault history || s) (or-false (tells_fault entry)))
    ∙ sym (or_assoc old.stopped (list_any tells_fault history) (tells_fault entry)))

pub state_grows : (net : Net) (opening : List Change) (history : List Entry) (entry : Entry) (after : State)
    → Step net (state_after opening history) entry.call entry.reply after → after ≡ state_after opening (history ++ entry ∷ [])
state_grows net opening history entry after step =
    Step-adds net (state_after opening history) entry.call entry.reply after step ∙ sym (state_from-more (running opening) history entry)

-- after its first entry, a history goes on from what that made
pub first_made : (changes : List Change) (first : Entry) (rest : List Entry)
    → changes ++ changes_of (first ∷ rest) ≡ (changes ++ as_list (change_made first.call first.reply)) ++ changes_of rest
first_made changes first rest =
    ap (λ c. changes ++ c) (changes_of-cons first rest) ∙ sym (append_assoc changes (as_list (change_made first.call first.reply)) (changes_of rest))

pub state_from-first : (old : State) (first : Entry) (rest : List Entry)
    → state_from old (first ∷ rest) ≡ state_from (after_call old first.call first.reply) rest
state_from-first old first rest = same_state (state_from old (first ∷ rest)) (state_from (after_call old first.call first.reply) rest)
    (first_made old.changes first rest) (sym (or_assoc old.stopped (tells_fault first) (list_any tells_fault rest)))

pub state_from-none : (old : State) → state_from old [] ≡ old
state_from-none old = same_state (state_from old []) old (append-nil old.changes) (or-false old.stopped)

AreSteps-grow : (net : Net) (old : State) (history : List Entry) (entry : Entry) (after : State) → AreSteps net old history
    → Step net (state_from old history) entry.call entry.reply after → AreSteps net old (history ++ entry ∷ [])
AreSteps-grow net old [] entry after steps step = (after, subst (λ (s : State). Step net s entry.call entry.reply after) (state_from-none old) step, tt)
AreSteps-grow net old (first ∷ rest) entry after (between, one, more) step =
    let is = Step-adds net old first.call first.reply between one in
    let here = subst (λ (s : State). Step net s entry.call entry.reply after) (state_from-first old first rest ∙ ap (λ (s : State). state_from s rest) (sym is)) step in
    (between, one, AreSteps-grow net between rest entry after more here)

-- steps, and more from the state that they come to
pub AreSteps-append : (net : Net) (old : State) (first more : List Entry) → AreSteps net old first → AreSteps net (state_from old first) more → AreSteps net old (first ++ more)
AreSteps-append net old [] more steps later = subst (λ (s : State). AreSteps net s more) (state_from-none old) later
AreSteps-append net old (one ∷ rest) more (between, step, steps) later =
    let is = Step-adds net old one.call one.reply between step in
    let here = subst (λ (s : State). AreSteps net s more) (state_from-first old one rest ∙ ap (λ (s : State). state_from s rest) (sym is)) later in
    (between, step, AreSteps-append net between rest more steps here)

pub state_from-append : (old : State) (first more : List Entry) → state_from old (first ++ more) ≡ state_from (state_from old first) more
state_from-append old [] more = ap (λ (s : State). state_from s more) (sym (state_from-none old))
state_from-append old (one ∷ rest) more =
    state_from-first old one (rest ++ more)
    ∙ state_from-append (after_call old one.call one.reply) rest more
    ∙ ap (λ (s : State). state_from s more) (sym (state_from-first old one rest))

pub Legal-grows : (net : Net) (changes : List Change) (history : List Entry) (entry : Entry) (after : State) → Legal net changes history
    → Step net (state_after changes history) entry.call entry.reply after → Legal net changes (history ++ entry ∷ [])
Legal-grows net changes history entry after legal step = AreSteps-grow net (running changes) history entry after legal step

-- changes that follow, and one more that follows them
pub FollowFrom-grows : (net : Net) (before changes : List Change) (more : Change) → FollowFrom net before changes → IsChangeOn net more
    → IsGood net (before ++ changes) more → FollowFrom net before (changes ++ more ∷ [])
FollowFrom-grows net before [] more follow on good = (on, subst (λ (c : List Change). IsGood net c more) (append-nil before) good, tt)
FollowFrom-grows net before (first ∷ rest) more follow on good = (
  follow.0,
  follow.1,
  FollowFrom-grows net (before ++ first ∷ []) rest more follow.2 on
      (subst (λ (c : List Change). IsGood net c more) (sym (append_assoc before (first ∷ []) rest)) good),
)

change_follows : (net : Net) (old : State) (asked : Call) (one : Change) (reply : Reply) (new : State) → change_asked asked ≡ Some one → Follows net old.changes
    → IsChangeOn net one → ChangeStep net old one reply new → Follows net (old.changes ++ as_list (change_made asked reply))
change_follows net old asked one reply new asks follow on (inl halts) =
    subst (Follows net) (sym (same_changes old.changes asked reply (ap is_made halts.told))) follow
change_follows net old asked one reply new asks follow on (inr (inl refused)) =
    subst (Follows net) (sym (same_changes old.changes asked reply (refusal_not_made reply refused.refuses))) follow
change_follows net old asked one reply new asks follow on (inr (inr (inl full))) =
    subst (Follows net) (sym (same_changes old.changes asked reply (ap is_made full.told))) follow
change_follows net old asked one reply new asks follow on (inr (inr (inr (inl done)))) =
    subst (Follows net) (sym (one_more old.changes asked reply one done.made asks)) (FollowFrom-grows net [] old.changes one follow on done.makes.can.good)
change_follows net old asked one reply new asks follow on (inr (inr (inr (inr lost)))) =
    subst (Follows net) (sym (same_changes old.changes asked reply (ap is_made lost.told))) follow

call_follows : (net : Net) (old : State) (asked : Call) (reply : Reply) (new : State) → Follows net old.changes → IsOfNetwork net asked
    → CallStep net old asked reply new → Follows net (old.changes ++ as_list (change_made asked reply))
call_follows net old (call.Edit edit) reply new follow on step = change_follows net old (call.Edit edit) (change.Edit edit) reply new refl follow on step
call_follows net old (call.Install plan) reply new follow on step = change_follows net old (call.Install plan) (change.Install plan) reply new refl follow on step
call_follows net old (call.Place order) reply new follow on step = change_follows net old (call.Place order) (change.Order order) reply new refl follow on step
call_follows net old call.Snapshot reply new follow on step = subst (Follows net) (sym (same_changes old.changes call.Snapshot reply (ap is_made step.0.told))) follow
call_follows net old (call.Newest after) reply new follow on step = subst (Follows net) (sym (same_changes old.changes (call.Newest after) reply (ap is_made step.0))) follow

pub steps_follow : (net : Net) (old : State) (history : List Entry) → Follows net old.changes → AreSteps net old history → Follows net (old.changes ++ changes_of history)
steps_follow net old [] follow steps = subst (Follows net) (sym (append-nil old.changes)) follow
steps_follow net old (first ∷ rest) follow (between, one, more) =
    let is = ap (λ (s : State). s.changes) (Step-adds net old first.call first.reply between one) in
    let here = subst (Follows net) (sym is) (call_follows net old first.call first.reply between follow one.named one.answered) in
    subst (Follows net) (sym (first_made old.changes first rest ∙ ap (λ (c : List Change). c ++ changes_of rest) (sym is))) (steps_follow net between rest here more)

-- a legal history leaves changes that follow
pub Legal-follows : (net : Net) (changes : List Change) (history : List Entry) → Follows net changes → Legal net changes history
    → Follows net (changes ++ changes_of history)
Legal-follows net changes history follow legal = steps_follow net (running changes) history follow legal

beam_of_terminal : (terminals : List (List ℕ × BeamNo)) (beams place : ℕ) (o : Option (List ℕ × BeamNo)) (beam : BeamNo) → All (λ (t : List ℕ × BeamNo). t.1.0 < beams) terminals → slice_get terminals place ≡ o → option_map (λ (t : List ℕ × BeamNo). t.1) o ≡ Some beam → beam.0 < beams
beam_of_terminal terminals beams place None beam all is found = absurd cc
beam_of_terminal terminals beams place (Some t) beam all is found =
    let here = All-get_or (λ (t : List ℕ × BeamNo). t.1.0 < beams) terminals place t (slice_get_within terminals place t is) all in
    let one : t.1.0 < beams = subst (λ (u : List ℕ × BeamNo). u.1.0 < beams) (get_or_from_slice_get terminals place t t is) here in
    subst (λ (b : BeamNo). b.0 < beams) (same_Some t.1 beam found) one

in_beam : (net : Net) (terminal : TermNo) (beam : BeamNo) → IsSound net → IsInBeam net terminal beam → beam.0 < length net.beams
in_beam net terminal beam sound is = beam_of_terminal net.terminals (length net.beams) terminal.0 _ beam sound.terminals.in_beam refl is

from_beam : (net : Net) (edit : Edit) (beam : BeamNo) → IsSound net → GainsFrom net edit beam → beam.0 < length net.beams
from_beam net (Add from to _) beam sound gains = in_beam net from beam sound gains
from_beam net (Drop _ _ _) beam sound gains = absurd gains
from_beam net (Move _ _ new_from _ _) beam sound gains = in_beam net new_from beam sound gains

to_beam : (net : Net) (edit : Edit) (beam : BeamNo) → IsSound net → GainsTo net edit beam → beam.0 < length net.beams
to_beam net (Add from to _) beam sound gains = in_beam net to beam sound gains
to_beam net (Drop _ _ _) beam sound gains = absurd gains
to_beam net (Move _ _ _ new_to _) beam sound gains = in_beam net new_to beam sound gains

-- a verdict that names a link is on a plan whose link is the network's
verdict_names : (net : Net) (links : List Link) (plan : Plan) (verdict : Verdict) → IsPlanVerdict net links plan verdict → NamesBeams net (NotGood verdict)
verdict_names net links plan Good is = tt
verdict_names net links plan (V1 _) is = tt
verdict_names net links plan (V2 _) is = tt
verdict_names net links plan (V3 _ _) is = tt
verdict_names net links plan (V4 _ _) is = tt
verdict_names net links plan (V5 _ _) is = tt
verdict_names net links plan (V6 _) is = tt
verdict_names net links plan (V7 from to want have) is = (is.3.sends, is.3.receives)
verdict_names net links plan (V8 _ _ _ _) is = tt

cause_names : (net : Net) (changes : List Change) (asked : Change) (reply : Reply) → IsSound net → IsCause net changes asked reply → NamesBeams net reply
cause_names net changes (change.Edit edit) (RowFull beam sum) sound is = from_beam net edit beam sound is.2.gains
cause_names net changes (change.Install plan) (RowFull beam sum) sound is = absurd is
cause_names net changes (change.Order order) (RowFull beam sum) sound is = absurd is
cause_names net changes (change.Edit edit) (ColumnFull beam sum) sound is = to_beam net edit beam sound is.3.gains
cause_names net changes (change.Install plan) (ColumnFull beam sum) sound is = absurd is
cause_names net changes (change.Order order) (ColumnFull beam sum) sound is = absurd is
cause_names net changes (change.Edit edit) (NotGood verdict) sound is = absurd is
cause_names net changes (change.Install plan) (NotGood verdict) sound is = verdict_names net is.3.links plan verdict is.3.checked
cause_names net changes (change.Order order) (NotGood verdict) sound is = absurd is
cause_names net changes asked (Done _ _) sound is = tt
cause_names net changes asked SameTerminal sound is = tt
cause_names net changes asked (NotThere _) sound is = tt
cause_names net changes asked (BookFull _) sound is = tt
cause_names net changes asked (NotNewer _) sound is = tt
cause_names net changes asked (NoSuchEdition _) sound is = tt
cause_names net changes asked (OutOfTurn _) sound is = tt
cause_names net changes asked (NotInstalled _) sound is = tt
cause_names net changes asked (Demand _ _ _) sound is = tt
cause_names net changes asked (Installed _) sound is = tt
cause_names net changes asked (Newest _) sound is = tt
cause_names net changes asked Placed sound is = tt
cause_names net changes asked StoreFault sound is = tt
cause_names net changes asked Stopped sound is = tt

made_names : (net : Net) (reply : Reply) → is_made reply ≡ true → NamesBeams net reply
made_names net (Done _ _) is = tt
made_names net (Installed _) is = tt
made_names net Placed is = tt
made_names net SameTerminal is = absurd cc
made_names net (NotThere _) is = absurd cc
made_names net (RowFull _ _) is = absurd cc
made_names net (ColumnFull _ _) is = absurd cc
made_names net (BookFull _) is = absurd cc
made_names net (NotNewer _) is = absurd cc
made_names net (NoSuchEdition _) is = absurd cc
made_names net (NotGood _) is = absurd cc
made_names net (OutOfTurn _) is = absurd cc
made_names net (NotInstalled _) is = absurd cc
made_names net (Demand _ _ _) is = absurd cc
made_names net (Newest _) is = absurd cc
made_names net StoreFault is = absurd cc
made_names net Stopped is = absurd cc

change_names : (net : Net) (old : State) (asked : Change) (reply : Reply) (new : State) → IsSound net → ChangeStep net old asked reply new → NamesBeams net reply
change_names net old asked reply new sound (inl halts) = subst (NamesBeams net) (sym halts.told) tt
change_names net old asked reply new sound (inr (inl refused)) = cause_names net old.changes asked reply sound refused.cause
change_names net old asked reply new sound (inr (inr (inl full))) = subst (NamesBeams net) (sym full.told) tt
change_names net old asked reply new sound (inr (inr (inr (inl done)))) = made_names net reply done.made
change_names net old asked reply new sound (inr (inr (inr (inr lost)))) = subst (NamesBeams net) (sym lost.told) tt

call_names : (net : Net) (old : State) (asked : Call) (reply : Reply) (new : State) → IsSound net → CallStep net old asked reply new → NamesBeams net reply
call_names net old (call.Edit edit) reply new sound step = change_names net old (change.Edit edit) reply new sound step
call_names net old (call.Install plan) reply new sound step = change_names net old (change.Install plan) reply new sound step
call_names net old (call.Place order) reply new sound step = change_names net old (change.Order order) reply new sound step
call_names net old call.Snapshot reply new sound step = subst (NamesBeams net) (sym step.0.told) tt
call_names net old (call.Newest after) reply new sound step = subst (NamesBeams net) (sym step.0) tt

pub beams_named : (net : Net) (old : State) (asked : Call) (reply : Reply) (new : State) → IsSound net → Step net old asked reply new → NamesBeams net reply
beams_named net old asked reply new sound step = call_names net old asked reply new sound step.answered

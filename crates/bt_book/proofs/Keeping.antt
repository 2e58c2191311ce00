-- What is kept beside the changes: before the first, where room is taken, and where one more is made.
use Rattle.std.proofs.Common.{◌≡◌, ℕ, ◌+◌, ◌≤◌, Bool, true, false, List, [], ◌∷◌, ◌++◌, length, Option, refl, sym, ap, ◌∙◌, subst}
use Rattle.std.specs.List.{filter_map}
use Rattle.std.proofs.lemmas.List.{append-nil}
use Rattle.bt_outside.specs.Crash.{Crashes}
use Rattle.bt_outside.specs.Told.{gained}
use Rattle.bt_frame.specs.declared.numbers.EditionNo.{EditionNo}
use Rattle.bt_frame.specs.declared.schedule.Critical.{Critical}
use Rattle.bt_net.specs.Network.{IsSound, Net}
use Rattle.bt_matrix.specs.Traffic.{IsHeaviest}
use Rattle.bt_demand.specs.declared.plan.Plan.{Plan}
use Rattle.bt_demand.specs.Plan.{empty_plan}
use Rattle.bt_demand.specs.Traffic.{matrix_of}
use Rattle.bt_journal.specs.declared.call.Edit.{Edit}
use Rattle.bt_journal.specs.declared.call.Change.{Change}
use Rattle.bt_journal.specs.declared.call.Change.TheVariants as change
use Rattle.bt_journal.specs.declared.entry.Entry.{Entry}
use Rattle.bt_journal.specs.Journal.{NamesTerminals, is_made}
use Rattle.bt_history.specs.Occupancy.{EditsLinks}
use Rattle.bt_history.specs.Causes.{IsChangeOn}
use Rattle.bt_history.specs.Changes.{edits_among, edits_in, order_in, plan_in}
use Rattle.bt_history.specs.Machine.{State, Tells, halted, line_behind, running}
use Rattle.bt_history.specs.Records.{CanJoin, IsSpelled, Lists, Records, Stores}
use Rattle.bt_history.specs.Store.{is_lost}
use Rattle.bt_history.proofs.After.{matrix_after-AddsUp}
use Rattle.bt_history.proofs.Entries.{keeps_made, keeps_other, lists_more}
use Rattle.bt_history.proofs.Histories.{same_state}
use Rattle.bt_history.proofs.Start.{Counts-start, KeepsUp-start}
use Rattle.bt_book.specs.Answered.{with_store}
use Rattle.bt_book.specs.Kept.{KeepsAll, reply_to}
use Rattle.bt_book.specs.declared.kept.Kept.{Kept}
use Rattle.bt_book.proofs.Past.{more_edits}

-- before the first change
pub keeps_open : (kept : Kept) (none : List Plan) (one : Plan) → kept.changes ≡ [] → kept.occupancy.links ≡ [] → kept.past.items ≡ [] → none ≡ []
    → kept.plans.items ≡ none ++ one ∷ [] → one ≡ empty_plan → kept.orders.items ≡ [] → kept.count ≡ 0 → kept.edits ≡ 0 → kept.bytes ≡ 0 → KeepsAll kept
keeps_open kept none one changes links past no_plan plans one_is orders count edits bytes =
    let lists : Lists [] kept.plans.items kept.orders.items = record {
      installs = plans ∙ (ap (λ (all : List Plan). all ++ one ∷ []) no_plan ∙ ap (λ (p : Plan). p ∷ []) one_is);
      places = orders;
    } in
    record {
      keeps = rw (changes, links) (KeepsUp-start kept.occupancy.net);
      counts = rw (changes, count, edits, bytes) (Counts-start kept.occupancy.net);
      lists = rw changes lists;
      past = rw (changes, past) refl;
    }

-- after an edit
pub keeps_edit : (old new : Kept) (edit : Edit) (line : ℕ) → new.changes ≡ old.changes ++ change.Edit edit ∷ [] → new.occupancy.net ≡ old.occupancy.net
    → EditsLinks old.occupancy.links edit new.occupancy.links → new.past.items ≡ old.past.items ++ edit ∷ [] → new.plans.items ≡ old.plans.items → new.orders.items ≡ old.orders.items
    → new.count ≡ old.count + 1 → new.edits ≡ old.edits + 1 → new.bytes ≡ old.bytes + line → IsSound old.occupancy.net → NamesTerminals old.occupancy.net edit
    → CanJoin old.occupancy.net (running old.changes) (change.Edit edit) → line ≡ length (line_behind old.occupancy.net old.changes (change.Edit edit)) → KeepsAll old → KeepsAll new
keeps_edit old new edit line changes net edits past plans orders count number bytes sound on can line_is keeps =
    let both = keeps_made old.occupancy.net new.occupancy.net (running old.changes) old.changes new.changes old.occupancy.links new.occupancy.links old.count old.edits old.bytes line edit
    net refl changes keeps.keeps keeps.counts sound on can line_is edits in
    let lists = lists_more old.changes (change.Edit edit) old.plans.items new.plans.items old.orders.items new.orders.items keeps.lists
    (plans ∙ sym (append-nil old.plans.items)) (orders ∙ sym (append-nil old.orders.items)) in
    record {
      keeps = both.0;
      counts = rw (count, number, bytes) both.1;
      lists = rw changes lists;
      past = more_edits old.changes new.changes (change.Edit edit) old.past.items new.past.items keeps.past changes past;
    }

-- after a plan was installed or an order placed
pub keeps_else : (old new : Kept) (one : Change) (line : ℕ) → edits_in one ≡ 0 → new.changes ≡ old.changes ++ one ∷ [] → new.occupancy ≡ old.occupancy
    → new.past.items ≡ old.past.items ++ edits_among (one ∷ []) → new.plans.items ≡ old.plans.items ++ filter_map plan_in (one ∷ [])
    → new.orders.items ≡ old.orders.items ++ filter_map order_in (one ∷ []) → new.count ≡ old.count + 1 → new.edits ≡ old.edits → new.bytes ≡ old.bytes + line
    → IsChangeOn old.occupancy.net one → CanJoin old.occupancy.net (running old.changes) one → line ≡ length (line_behind old.occupancy.net old.changes one) → KeepsAll old → KeepsAll new
keeps_else old new one line none changes occupancy past plans orders count number bytes on can line_is keeps =
    let both = keeps_other old.occupancy.net (running old.changes) old.changes new.changes old.occupancy.links old.count old.edits old.bytes line one
    refl changes none keeps.keeps keeps.counts on can line_is in
    let lists = lists_more old.changes one old.plans.items new.plans.items old.orders.items new.orders.items keeps.lists plans orders in
    record {
      keeps = rw occupancy both.0;
      counts = rw (occupancy, count, number, bytes) both.1;
      lists = rw changes lists;
      past = more_edits old.changes new.changes one old.past.items new.past.items keeps.past changes past;
    }

-- what a change needs that is made beside these
pub record CanApply (kept : Kept) (one : Change) (line : ℕ) : Type 0 where
  pub on : IsChangeOn kept.occupancy.net one
  pub can : CanJoin kept.occupancy.net (running kept.changes) one
  pub line_is : line ≡ length (line_behind kept.occupancy.net kept.changes one)

-- it has it where it can join them
pub can_apply : (net : Net) (old : State) (asked one : Change) (kept : Kept) (line : ℕ) → kept.occupancy.net ≡ net → kept.changes ≡ old.changes → one ≡ asked
    → IsChangeOn net asked → CanJoin net old asked → line ≡ length (line_behind net old.changes asked) → CanApply kept one line
can_apply net old asked one kept line net_is changes_are one_is on can line_is = record {
  on = rw (net_is, one_is) on;
  can = rw (net_is, changes_are, one_is) (let joins : CanJoin net (running old.changes) asked = record { runs = refl; good = can.good; room = can.room } in joins);
  line_is = rw (net_is, changes_are, one_is) line_is;
}

-- what a change that was made is answered tells of it
pub tells_reply : (kept : Kept) (asked : Change) (number : EditionNo) (most : ℕ) → KeepsAll kept → number.0 ≡ kept.edits
    → (line : Critical) × IsHeaviest (matrix_of kept.occupancy.net kept.occupancy.links) line most → Tells kept.occupancy.net kept.changes asked (reply_to asked number most)
tells_reply kept (change.Edit edit) number most keeps is heaviest =
    let rows = sym (matrix_after-AddsUp kept.occupancy.net kept.changes kept.occupancy.links keeps.keeps.adds_up) in
    (is ∙ keeps.counts.edited, (heaviest.0, subst (λ (m : List (List ℕ)). IsHeaviest m heaviest.0 most) rows heaviest.1))
tells_reply kept (change.Install plan) number most keeps is heaviest = refl
tells_reply kept (change.Order order) number most keeps is heaviest = tt

-- it is no refusal and no fault
pub made_reply : (asked : Change) (number : EditionNo) (most : ℕ) → is_made (reply_to asked number most) ≡ true
made_reply (change.Edit edit) number most = refl
made_reply (change.Install plan) number most = refl
made_reply (change.Order order) number most = refl

pub kept_reply : (asked : Change) (number : EditionNo) (most : ℕ) → is_lost (reply_to asked number most) ≡ false
kept_reply (change.Edit edit) number most = refl
kept_reply (change.Install plan) number most = refl
kept_reply (change.Order order) number most = refl

-- and the store has its line
pub stores_reply : (net : Net) (changes : List Change) (asked : Change) (number : EditionNo) (most : ℕ) (line : List ℕ) (old new : Option (List ℕ)) (before now : ℕ)
    → line ≡ line_behind net changes asked → IsSpelled net changes asked → new ≡ gained old line → before ≤ now → Stores net changes asked (reply_to asked number most) old new before now
stores_reply net changes (change.Edit edit) number most line old new before now is spelled told later = record { step = (told ∙ ap (gained old) is, later); spelled = spelled }
stores_reply net changes (change.Install plan) number most line old new before now is spelled told later = record { step = (told ∙ ap (gained old) is, later); spelled = spelled }
stores_reply net changes (change.Order order) number most line old new before now is spelled told later = record { step = (told ∙ ap (gained old) is, later); spelled = spelled }

-- what contracts see of a machine
abbrev pub view_of : Net → List Change → Bool → List Entry → Records
view_of net changes stopped history = record { net = net; state = record { changes = changes; stopped = stopped }; history = history }

-- where memory ran out it is as before, and so is the store
pub same_book : (now : Records) (net new_net : Net) (changes new_changes : List Change) (stopped : Bool) (history new_history : List Entry) (told new_told : Option (List ℕ)) (faults new_faults : ℕ)
    (crashes new_crashes : Option Crashes) → new_net ≡ net → new_changes ≡ changes → new_history ≡ history → view_of net changes stopped history ≡ now → new_told ≡ told → new_faults ≡ faults
    → new_crashes ≡ crashes → with_store (view_of new_net new_changes stopped new_history) new_told new_faults new_crashes ≡ with_store now told faults crashes
same_book now net new_net changes new_changes stopped history new_history told new_told faults new_faults crashes new_crashes nets same calls view tells counts leaves =
    rw (nets, same, calls, tells, counts, leaves) (ap (λ (r : Records). with_store r told faults crashes) view)

-- the state has the change that was made
pub made_state : (now : Records) (net : Net) (changes reserved after : List Change) (stopped : Bool) (history : List Entry) (asked one : Change) → view_of net changes stopped history ≡ now
    → now.state.stopped ≡ false → reserved ≡ changes → after ≡ reserved ++ one ∷ [] → one ≡ asked
    → (let state : State = record { changes = after; stopped = stopped } in state) ≡ running (now.state.changes ++ asked ∷ [])
made_state now net changes reserved after stopped history asked one view runs same is copied =
    same_state _ (running (now.state.changes ++ asked ∷ []))
    (is ∙ (ap (λ (all : List Change). all ++ one ∷ []) (same ∙ ap (λ (r : Records). r.state.changes) view) ∙ ap (λ (x : Change). now.state.changes ++ x ∷ []) copied))
    (ap (λ (r : Records). r.state.stopped) view ∙ runs)

-- and where the change was lost it is stopped
pub lost_state : (now : Records) (net : Net) (changes reserved : List Change) (stopped : Bool) (history : List Entry) → view_of net changes stopped history ≡ now → reserved ≡ changes
    → (let state : State = record { changes = reserved; stopped = true } in state) ≡ halted now.state
lost_state now net changes reserved stopped history view same = same_state _ (halted now.state) (same ∙ ap (λ (r : Records). r.state.changes) view) refl

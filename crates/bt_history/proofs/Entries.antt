-- What one change more makes, and what is kept beside the changes then.
use Rattle.std.proofs.Common.{◌≡◌, ℕ, suc, ◌+◌, ◌<◌, ◌≤◌, List, [], ◌∷◌, ◌++◌, length, true, Option, Some, None, refl, sym, ap, ◌∙◌, subst, arith, length-append, inl, inr}
use Rattle.std.specs.List.{filter_map, cons_option}
use Rattle.std.proofs.lemmas.List.Elements.{filter_map-append}
use Rattle.std.proofs.lemmas.List.Sums.{sum_by-append, sum_by-cons}
use Rattle.bt_frame.specs.declared.limits.TheConstants.{MOST_JOURNAL_BYTES}
use Rattle.bt_net.specs.Network.{Net, IsSound}
use Rattle.bt_demand.specs.declared.demand.Link.{Link}
use Rattle.bt_demand.specs.declared.plan.Plan.{Plan}
use Rattle.bt_air.specs.declared.order.Order.{Order}
use Rattle.bt_journal.specs.declared.call.Edit.{Edit}
use Rattle.bt_journal.specs.declared.call.Change.{Change}
use Rattle.bt_journal.specs.declared.call.Change.TheVariants as change
use Rattle.bt_journal.specs.declared.reply.Reply.{Reply}
use Rattle.bt_journal.specs.declared.reply.Reply.TheVariants.{StoreFault}
use Rattle.bt_journal.specs.Journal.{NamesTerminals, is_made}
use Rattle.bt_history.specs.Occupancy.{EditsLinks}
use Rattle.bt_demand.specs.Plan.{empty_plan}
use Rattle.bt_history.specs.Changes.{edits_in, edition, plan_in, order_in}
use Rattle.bt_history.specs.EditCauses.{with_edit, IsGoodEdit}
use Rattle.bt_history.specs.Causes.{IsGood, IsChangeOn}
use Rattle.bt_history.specs.Machine.{State, running, halted, bytes_with, line_behind, CanMake, Tells, ChangeStep}
use Rattle.bt_history.specs.Records.{KeepsUp, Counts, Lists, CanJoin}
use Rattle.bt_history.proofs.After.{AddsUp-other}
use Rattle.bt_history.proofs.Done.{AddsUp-edit, fits_after}
use Rattle.bt_history.proofs.OneMore.{bytes_of-push, some_byte}
use Rattle.bt_history.proofs.Histories.{FollowFrom-grows}

-- a change that was made is the machine's step
pub done_step : (net : Net) (old new : State) (asked : Change) (reply : Reply) → is_made reply ≡ true → CanMake net old asked → new ≡ running (old.changes ++ asked ∷ [])
    → Tells net new.changes asked reply → ChangeStep net old asked reply new
done_step net old new asked reply made can after told = inr (inr (inr (inl (record { made = made; makes = record { can = can; after = after }; told = told }))))

-- and so is one that was lost
pub lost_step : (net : Net) (old new : State) (asked : Change) → CanMake net old asked → new ≡ halted old → ChangeStep net old asked StoreFault new
lost_step net old new asked can stops = inr (inr (inr (inr (record { can = can; told = refl; stops = stops }))))

-- one edit more is one edition more
pub edition-more : (changes : List Change) (edit : Edit) → edition (with_edit changes edit) ≡ edition changes + 1
edition-more changes edit = omega (arith, sum_by-append edits_in changes (change.Edit edit ∷ []), sum_by-cons edits_in (change.Edit edit) [])

-- and another change makes none
pub edition-other : (changes : List Change) (one : Change) → edits_in one ≡ 0 → edition (changes ++ one ∷ []) ≡ edition changes
edition-other changes one none = omega (arith, sum_by-append edits_in changes (one ∷ []), sum_by-cons edits_in one [], none)

-- a change that can be made can join the others
pub joins : (net : Net) (old : State) (one : Change) → IsSound net → CanMake net old one → CanJoin net old one
joins net old one sound can = record { runs = can.runs; good = can.good; room = omega (arith, can.room, sound.journal.1) }

-- the numbers after an edit was made
counts_made : (net : Net) (changes : List Change) (count edits bytes line : ℕ) (old : State) (edit : Edit) → old.changes ≡ changes → Counts net changes count edits bytes
    → CanJoin net old (change.Edit edit) → line ≡ length (line_behind net changes (change.Edit edit)) → Counts net (with_edit changes edit) (count + 1) (edits + 1) (bytes + line)
counts_made net changes count edits bytes line old edit same counts can line_is =
    let longer = length-append changes (change.Edit edit ∷ []) in
    let sum = bytes_of-push net changes (change.Edit edit) in
    let room : bytes_with net changes (change.Edit edit) ≤ MOST_JOURNAL_BYTES = subst (λ (c : List Change). bytes_with net c (change.Edit edit) ≤ MOST_JOURNAL_BYTES) same can.room in
    record {
      counted = omega (arith, counts.counted, longer);
      edited = omega (arith, counts.edited, edition-more changes edit);
      fewer = omega (arith, counts.fewer);
      summed = omega (arith, counts.summed, line_is, sum);
      covered = omega (arith, counts.covered, line_is, some_byte net changes (change.Edit edit));
      readable = omega (arith, counts.summed, line_is, room);
    }

-- and after another change
counts_other : (net : Net) (changes : List Change) (count edits bytes line : ℕ) (old : State) (one : Change) → old.changes ≡ changes → edits_in one ≡ 0
    → Counts net changes count edits bytes → CanJoin net old one → line ≡ length (line_behind net changes one) → Counts net (changes ++ one ∷ []) (count + 1) edits (bytes + line)
counts_other net changes count edits bytes line old one same none counts can line_is =
    let longer = length-append changes (one ∷ []) in
    let sum = bytes_of-push net changes one in
    let room : bytes_with net changes one ≤ MOST_JOURNAL_BYTES = subst (λ (c : List Change). bytes_with net c one ≤ MOST_JOURNAL_BYTES) same can.room in
    record {
      counted = omega (arith, counts.counted, longer);
      edited = omega (arith, counts.edited, edition-other changes one none);
      fewer = omega (arith, counts.fewer);
      summed = omega (arith, counts.summed, line_is, sum);
      covered = omega (arith, counts.covered, line_is, some_byte net changes one);
      readable = omega (arith, counts.summed, line_is, room);
    }

-- a list has one element more at most
cons-le : {Y : Type 0} (o : Option Y) (ys : List Y) → length (cons_option o ys) ≤ suc (length ys)
cons-le None ys = omega arith
cons-le (Some y) ys = omega arith

-- changes make no more plans or orders than they are
pub filter_map-le : {X Y : Type 0} (f : X → Option Y) (xs : List X) → length (filter_map f xs) ≤ length xs
filter_map-le f [] = omega arith
filter_map-le f (x ∷ xs) = omega (arith, cons-le (f x) (filter_map f xs), filter_map-le f xs)

-- so their numbers are small
pub few_plans : (net : Net) (changes : List Change) (count edits bytes number : ℕ) (installed : List Plan) (placed : List Order) → number ≡ length installed
    → Counts net changes count edits bytes → Lists changes installed placed → number < 4294967296
few_plans net changes count edits bytes number installed placed is counts lists =
    omega (arith, is, ap length lists.installs, filter_map-le plan_in changes, counts.counted, counts.covered, counts.readable)

-- no more than bytes are read from a store
pub few_orders : (net : Net) (changes : List Change) (count edits bytes number : ℕ) (installed : List Plan) (placed : List Order) → number ≡ length placed
    → Counts net changes count edits bytes → Lists changes installed placed → number ≤ MOST_JOURNAL_BYTES
few_orders net changes count edits bytes number installed placed is counts lists =
    omega (arith, is, ap length lists.places, filter_map-le order_in changes, counts.counted, counts.covered, counts.readable)

-- the lists have what the change gives them
pub lists_more : (changes : List Change) (one : Change) (installed more_installed : List Plan) (placed more_placed : List Order) → Lists changes installed placed
    → more_installed ≡ installed ++ filter_map plan_in (one ∷ []) → more_placed ≡ placed ++ filter_map order_in (one ∷ []) → Lists (changes ++ one ∷ []) more_installed more_placed
lists_more changes one installed more_installed placed more_placed lists installs places = record {
  installs = installs ∙ (ap (λ (all : List Plan). all ++ filter_map plan_in (one ∷ [])) lists.installs
      ∙ sym (ap (λ (all : List Plan). empty_plan ∷ all) (filter_map-append plan_in changes (one ∷ []))));
  places = places ∙ (ap (λ (all : List Order). all ++ filter_map order_in (one ∷ [])) lists.places ∙ sym (filter_map-append order_in changes (one ∷ [])));
}

-- what is kept after an edit was made
pub keeps_made : (net now : Net) (old : State) (changes after : List Change) (links new : List Link) (count edits bytes line : ℕ) (edit : Edit) → now ≡ net
    → old.changes ≡ changes → after ≡ with_edit changes edit → KeepsUp net changes links → Counts net changes count edits bytes → IsSound net → NamesTerminals net edit
    → CanJoin net old (change.Edit edit) → line ≡ length (line_behind net changes (change.Edit edit)) → EditsLinks links edit new
    → KeepsUp now after new × Counts now after (count + 1) (edits + 1) (bytes + line)
keeps_made net now old changes after links new count edits bytes line edit net_is same after_is keeps counts sound names can line_is edits_links =
    let good = subst (λ (c : List Change). IsGoodEdit net c edit) same can.good in
    let kept : KeepsUp net (with_edit changes edit) new = record {
      adds_up = AddsUp-edit changes links new edit keeps.adds_up edits_links;
      fits = fits_after net changes links new edit sound names keeps.adds_up keeps.fits good edits_links;
      follows = FollowFrom-grows net [] changes (change.Edit edit) keeps.follows names good;
    } in
    rw (net_is, after_is) (kept, counts_made net changes count edits bytes line old edit same counts can line_is)

-- and after a plan was installed or an order placed
pub keeps_other : (net : Net) (old : State) (changes after : List Change) (links : List Link) (count edits bytes line : ℕ) (one : Change) → old.changes ≡ changes
    → after ≡ changes ++ one ∷ [] → edits_in one ≡ 0 → KeepsUp net changes links → Counts net changes count edits bytes → IsChangeOn net one → CanJoin net old one
    → line ≡ length (line_behind net changes one) → KeepsUp net after links × Counts net after (count + 1) edits (bytes + line)
keeps_other net old changes after links count edits bytes line one same after_is none keeps counts on can line_is =
    let kept : KeepsUp net (changes ++ one ∷ []) links = record {
      adds_up = AddsUp-other changes links one none keeps.adds_up;
      fits = keeps.fits;
      follows = FollowFrom-grows net [] changes one keeps.follows on (subst (λ (c : List Change). IsGood net c one) same can.good);
    } in
    rw after_is (kept, counts_other net changes count edits bytes line old one same none counts can line_is)

-- What the centre's worker does in its turn are deeds of its process.
use Rattle.std.proofs.Common.{◌≡◌, inl, inr, ℕ, ◌==◌, if◌then◌else◌, Bool, true, false, List, [], ◌∷◌, ◌++◌, Option, Some, None, IfSome, refl, sym, ap, ◌∙◌, subst, append_assoc, arith}
use Rattle.std.specs.Prelude.{IsSome, nat_lt, ◌<◌}
use Rattle.std.proofs.lemmas.Bool.Decides.{nat_tests}
use Rattle.bt_frame.specs.declared.numbers.EditionNo.{EditionNo}
use Rattle.bt_net.specs.Network.{IsSound, Net}
use Rattle.bt_demand.specs.declared.plan.Plan.{Plan}
use Rattle.bt_air.specs.declared.order.Order.{Order}
use Rattle.bt_machines.specs.Plans.{first_or, newest_of, plan_of}
use Rattle.bt_journal.specs.declared.call.Call.{Call}
use Rattle.bt_journal.specs.declared.call.Call.TheVariants as call
use Rattle.bt_journal.specs.declared.call.Change.{Change}
use Rattle.bt_journal.specs.declared.call.Change.TheVariants as change
use Rattle.bt_journal.specs.declared.entry.Entry.{Entry}
use Rattle.bt_journal.specs.declared.reply.Reply.{Reply}
use Rattle.bt_journal.specs.declared.reply.Reply.TheVariants as reply
use Rattle.bt_history.specs.Causes.{IsGood}
use Rattle.bt_history.specs.Changes.{newest}
use Rattle.bt_history.specs.Machine.{AreSteps, CallStep, ChangeStep, IsOfNetwork, State, newer_than, running}
use Rattle.bt_history.proofs.Histories.{FollowFrom-grows}
use Rattle.bt_site.proofs.Banks.{still}
use Rattle.bt_apart.specs.Apart.{IsInstalled}
use Rattle.bt_round.specs.AirLines.{AirState, PlaysOrder, PlaysTurn, PlaysTurnIf, PlaysTurning, having, installing, once_answered, target_by, target_of, turning, wanted_in}
use Rattle.bt_round.specs.declared.worker.CentreOver.TheVariants.{Apart}
use Rattle.bt_apart_laws.specs.Premises.{AreProcesses}
use Rattle.bt_apart_laws.specs.Processes.{Deed, Learns, Places, Start, Turns, centre_by, journal_by}
use Rattle.bt_apart_laws.specs.Worker.{ComesByDeeds}
use Rattle.bt_apart_laws.proofs.Running.{stands}

-- an order that was placed had no cause of a refusal
placed-good : (net : Net) (old new : State) (one : Change) → ChangeStep net old one reply.Placed new → IsGood net old.changes one
placed-good net old new one (inl halted) = absurd (cc halted.told)
placed-good net old new one (inr (inl refused)) = absurd (cc refused.refuses)
placed-good net old new one (inr (inr (inl full))) = absurd (cc full.told)
placed-good net old new one (inr (inr (inr (inl done)))) = done.makes.can.good
placed-good net old new one (inr (inr (inr (inr lost)))) = absurd (cc lost.told)

-- the answer to the order that it wants
by-answer : (s : Start) (mid : List Deed) (order : Order) (answer : Reply) (new : State) (after : AirState) → IsSound s.net → AreProcesses s mid → (centre_by s mid).marked ≡ true
    → (centre_by s mid).centre.wanted ≡ Some order → IsOfNetwork s.net (call.Place order) → CallStep s.net (running (journal_by s mid)) (call.Place order) answer new
    → after ≡ once_answered (Apart (centre_by s mid)) answer → ComesByDeeds s mid after
by-answer s mid order reply.Placed new after sound are marked wants named step is =
    let follows = FollowFrom-grows s.net [] (journal_by s mid) (change.Order order) (stands s sound mid are).follows named (placed-good s.net (running (journal_by s mid)) new (change.Order order) step) in
    record { deeds = Places order ∷ []; are = ((marked, wants, follows), are); stands = is }
by-answer s mid order _ new after sound are marked wants named step is = record { deeds = []; are = are; stands = is }

by-order : (s : Start) (mid : List Deed) (one : Option Order) (others : List Entry) (text : List ℕ) (after : AirState) → IsSound s.net → AreProcesses s mid → (centre_by s mid).marked ≡ true
    → (centre_by s mid).centre.wanted ≡ one → AreSteps s.net (running (journal_by s mid)) others → PlaysOrder s.net (Apart (centre_by s mid)) one others text after → ComesByDeeds s mid after
by-order s mid None [] text after sound are marked wants steps played = record { deeds = []; are = are; stands = played.1 }
by-order s mid None (entry ∷ more) text after sound are marked wants steps played = absurd played
by-order s mid (Some order) [] text after sound are marked wants steps played = absurd played
by-order s mid (Some order) (entry ∷ []) text after sound are marked wants steps played =
    let step = steps.1 in
    by-answer s mid order entry.reply steps.0 after sound are marked wants (subst (λ (c : Call). IsOfNetwork s.net c) played.0 step.named)
    (subst (λ (c : Call). CallStep s.net (running (journal_by s mid)) c entry.reply steps.0) played.0 step.answered) played.2
by-order s mid (Some order) (entry ∷ next ∷ more) text after sound are marked wants steps played = absurd played

-- deeds behind one more
behind-one : (s : Start) (before : List Deed) (one : Deed) (after : AirState) → ComesByDeeds s (one ∷ before) after → ComesByDeeds s before after
behind-one s before one after comes =
    let same = append_assoc comes.deeds (one ∷ []) before in
    record {
      deeds = comes.deeds ++ one ∷ [];
      are = subst (λ (list : List Deed). AreProcesses s list) (sym same) comes.are;
      stands = comes.stands ∙ ap (λ (list : List Deed). Apart (centre_by s list)) (sym same);
    }

-- the turn, and the order that it wants
by-turning : (s : Start) (before : List Deed) (others : List Entry) (text : List ℕ) (after : AirState) → IsSound s.net → AreProcesses s before → (centre_by s before).marked ≡ true
    → IsSome (plan_of (centre_by s before).plans (target_of (Apart (centre_by s before)))) → AreSteps s.net (running (journal_by s before)) others
    → PlaysTurning s.net (Apart (centre_by s before)) others text after → ComesByDeeds s before after
by-turning s before others text after sound are marked planned steps turned =
    let target = target_of (Apart (centre_by s before)) in
    let mid = Turns target ∷ before in
    let rest = by-order s mid (wanted_in (having (Apart (centre_by s before)) (turning (Apart (centre_by s before))))) others turned.rest after sound ((marked, planned), are) marked refl steps turned.placed in
    behind-one s before (Turns target) after rest

-- the target has a plan
newest-first : (found : Option Plan) (plan : Plan) (test : Bool) → (plan.edition.0 == plan.edition.0) ≡ test → IsSome (first_or found plan.edition plan)
newest-first (Some own) plan test is = refl
newest-first None plan true is = rw is refl
newest-first None plan false is = absurd (grind (arith, nat_tests, is))

target-planned : (all : List Plan) (back : Option EditionNo) → IsInstalled all (newest_of all) → IfSome back (IsInstalled all) → IsSome (plan_of all (target_by back (newest_of all)))
target-planned all None newest back = newest
target-planned all (Some edition) newest back = back

back-still : (plan : Plan) (all : List Plan) (back : Option EditionNo) → IfSome back (IsInstalled all) → IfSome back (IsInstalled (plan ∷ all))
back-still plan all None has = tt
back-still plan all (Some edition) has = still plan all edition has

-- what it is told of a newer plan
newer-some : (after : EditionNo) (plan told : Plan) (test : Bool) → nat_lt after.0 plan.edition.0 ≡ test → Some told ≡ (if test then Some plan else None) → (told ≡ plan) × (after.0 < plan.edition.0)
newer-some after plan told true is same = (cc same, grind (arith, nat_tests, is))
newer-some after plan told false is same = absurd (cc same)

by-newer : (s : Start) (before : List Deed) (newer : Option Plan) (others : List Entry) (text : List ℕ) (after : AirState) → IsSound s.net → AreProcesses s before → (centre_by s before).marked ≡ true
    → IsInstalled (centre_by s before).plans (newest_of (centre_by s before).plans) → IfSome (centre_by s before).back (IsInstalled (centre_by s before).plans)
    → newer ≡ newer_than (newest_of (centre_by s before).plans) (newest (journal_by s before)) → AreSteps s.net (running (journal_by s before)) others
    → PlaysTurning s.net (installing (Apart (centre_by s before)) newer) others text after → ComesByDeeds s before after
by-newer s before None others text after sound are marked newest back told steps turned =
    let air = centre_by s before in
    by-turning s before others text after sound are marked (target-planned air.plans air.back newest back) steps turned
by-newer s before (Some plan) others text after sound are marked newest_has back told steps turned =
    let air = centre_by s before in
    let last = newest (journal_by s before) in
    let new = newer-some (newest_of air.plans) last plan (nat_lt (newest_of air.plans).0 last.edition.0) refl told in
    let mid = Learns plan ∷ before in
    let later : (newest_of air.plans).0 < plan.edition.0 = subst (λ (p : Plan). (newest_of air.plans).0 < p.edition.0) (sym new.0) new.1 in
    let rest = by-turning s mid others text after sound ((new.0, later), are) marked
    (target-planned (plan ∷ air.plans) air.back (newest-first (plan_of air.plans plan.edition) plan (plan.edition.0 == plan.edition.0) refl) (back-still plan air.plans air.back back)) steps turned in
    behind-one s before (Learns plan) after rest

reply-newer : (a b : Option Plan) → reply.Newest a ≡ reply.Newest b → a ≡ b
reply-newer a b same = cc same

by-if : (s : Start) (before : List Deed) (marked : Bool) (entries : List Entry) (text : List ℕ) (after : AirState) → (centre_by s before).marked ≡ marked → IsSound s.net → AreProcesses s before
    → IsInstalled (centre_by s before).plans (newest_of (centre_by s before).plans) → IfSome (centre_by s before).back (IsInstalled (centre_by s before).plans)
    → AreSteps s.net (running (journal_by s before)) entries → PlaysTurnIf marked s.net (Apart (centre_by s before)) entries text after → ComesByDeeds s before after
by-if s before false entries text after is sound are newest_has back steps played = record { deeds = []; are = are; stands = played.2 }
by-if s before true entries text after is sound are newest_has back steps played =
    let old = running (journal_by s before) in
    let all = subst (λ (list : List Entry). AreSteps s.net old list) played.all steps in
    let answered = subst (λ (r : Reply). CallStep s.net old (call.Newest (newest_of (centre_by s before).plans)) r all.0) played.reply
    (subst (λ (c : Call). CallStep s.net old c played.asked.reply all.0) played.call all.1.answered) in
    by-newer s before played.newer played.others text after sound are is newest_has back
    (reply-newer played.newer (newer_than (newest_of (centre_by s before).plans) (newest (journal_by s before))) answered.0)
    (subst (λ (state : State). AreSteps s.net state played.others) answered.1 all.2) played.turned

pub turn-comes : (s : Start) (before : List Deed) (entries : List Entry) (text : List ℕ) (after : AirState) → IsSound s.net → AreProcesses s before
    → IsInstalled (centre_by s before).plans (newest_of (centre_by s before).plans) → IfSome (centre_by s before).back (IsInstalled (centre_by s before).plans)
    → AreSteps s.net (running (journal_by s before)) entries → PlaysTurn s.net (Apart (centre_by s before)) entries text after → ComesByDeeds s before after
turn-comes s before entries text after sound are newest_has back steps played = by-if s before (centre_by s before).marked entries text after refl sound are newest_has back steps played

-- The plans that changes install: they stay, and their editions ascend.
use Rattle.std.proofs.Common.{◌≡◌, ◌-◌, ◌≤◌, List, [], ◌∷◌, ◌++◌, length, get_or, All, refl, sym, ap, ◌∙◌, subst, append_assoc, length-append, arith}
use Rattle.std.specs.List.{Contains, filter_map}
use Rattle.std.proofs.Math.Seq.{get_or-append_seam}
use Rattle.std.proofs.lemmas.List.{append-nil, get_or_default}
use Rattle.std.proofs.lemmas.List.Elements.{filter_map-append, Contains-append_left, All-append, All-contains, All-cons, All-nil}
use Rattle.bt_net.specs.Network.{Net}
use Rattle.bt_demand.specs.declared.plan.Plan.{Plan}
use Rattle.bt_journal.specs.declared.call.Change.{Change}
use Rattle.bt_journal.specs.declared.call.Change.TheVariants as change
use Rattle.bt_history.specs.Causes.{FollowFrom, Follows, IsGood}
use Rattle.bt_demand.specs.Plan.{empty_plan}
use Rattle.bt_history.specs.Changes.{newest, plan_in, plans}

-- the plans of more changes stand behind the others
pub plans-append : (a b : List Change) → plans (a ++ b) ≡ plans a ++ filter_map plan_in b
plans-append a b = ap (λ (all : List Plan). empty_plan ∷ all) (filter_map-append plan_in a b)

-- a plan that is installed stays installed
pub stays_installed : (a b : List Change) (plan : Plan) → Contains (plans a) plan → Contains (plans (a ++ b)) plan
stays_installed a b plan is =
    subst (λ (all : List Plan). Contains all plan) (sym (plans-append a b)) (Contains-append_left (plans a) (filter_map plan_in b) plan is)

-- the newest plan is installed
pub newest_is_installed : (changes : List Change) → Contains (plans changes) (newest changes)
newest_is_installed changes =
    (length (plans changes) - 1, omega arith, get_or_default (plans changes) (length (plans changes) - 1) (newest changes) empty_plan (omega arith))

-- a plan that is installed is the newest then
pub newest-install : (changes : List Change) (plan : Plan) → newest (changes ++ change.Install plan ∷ []) ≡ plan
newest-install changes plan =
    let n : length (plans changes ++ plan ∷ []) - 1 ≡ length (plans changes) = omega (arith, length-append (plans changes) (plan ∷ [])) in
    ap (λ (l : List Plan). get_or l (length l - 1) empty_plan) (plans-append changes (change.Install plan ∷ []))
    ∙ ap (λ k. get_or (plans changes ++ plan ∷ []) k empty_plan) n
    ∙ get_or-append_seam (plans changes) plan [] empty_plan

-- and another change leaves it
pub newest-other : (changes more : List Change) → filter_map plan_in more ≡ [] → newest (changes ++ more) ≡ newest changes
newest-other changes more none =
    ap (λ (l : List Plan). get_or l (length l - 1) empty_plan) (plans-append changes more ∙ ap (λ (l : List Plan). plans changes ++ l) none ∙ append-nil (plans changes))

-- one change more makes the newest plan no older
one_ascends : (net : Net) (changes : List Change) (one : Change) → IsGood net changes one → (newest changes).edition.0 ≤ (newest (changes ++ one ∷ [])).edition.0
one_ascends net changes (change.Edit edit) good = omega (arith, ap (λ (p : Plan). p.edition.0) (newest-other changes (change.Edit edit ∷ []) refl))
one_ascends net changes (change.Install plan) good = omega (arith, good.0, ap (λ (p : Plan). p.edition.0) (newest-install changes plan))
one_ascends net changes (change.Order order) good = omega (arith, ap (λ (p : Plan). p.edition.0) (newest-other changes (change.Order order ∷ []) refl))

ascends_from : (net : Net) (a b : List Change) → FollowFrom net a b → (newest a).edition.0 ≤ (newest (a ++ b)).edition.0
ascends_from net a [] follow = omega (arith, ap (λ (c : List Change). (newest c).edition.0) (append-nil a))
ascends_from net a (first ∷ rest) follow =
    omega (arith, one_ascends net a first follow.1, ascends_from net (a ++ first ∷ []) rest follow.2, ap (λ (c : List Change). (newest c).edition.0) (append_assoc a (first ∷ []) rest))

follow_on : (net : Net) (before a b : List Change) → FollowFrom net before (a ++ b) → FollowFrom net (before ++ a) b
follow_on net before [] b follow = subst (λ (c : List Change). FollowFrom net c b) (sym (append-nil before)) follow
follow_on net before (first ∷ rest) b follow =
    subst (λ (c : List Change). FollowFrom net c b) (append_assoc before (first ∷ []) rest) (follow_on net (before ++ first ∷ []) rest b follow.2)

-- with more changes the newest plan is no older
pub newest_ascends : (net : Net) (a b : List Change) → Follows net (a ++ b) → (newest a).edition.0 ≤ (newest (a ++ b)).edition.0
newest_ascends net a b follow = ascends_from net a b (follow_on net [] a b follow)

-- the plan is no newer than the newest after these changes
abbrev IsAmong : List Change → Plan → Type 0
IsAmong changes plan = plan.edition.0 ≤ (newest changes).edition.0

new_among : (changes : List Change) (one : Change) → All (IsAmong (changes ++ one ∷ [])) (filter_map plan_in (one ∷ []))
new_among changes (change.Edit edit) = All-nil (IsAmong (changes ++ change.Edit edit ∷ []))
new_among changes (change.Install plan) =
    All-cons (IsAmong (changes ++ change.Install plan ∷ [])) plan [] (omega (arith, ap (λ (p : Plan). p.edition.0) (newest-install changes plan))) (All-nil (IsAmong (changes ++ change.Install plan ∷ [])))
new_among changes (change.Order order) = All-nil (IsAmong (changes ++ change.Order order ∷ []))

one_among : (net : Net) (changes : List Change) (one : Change) → IsGood net changes one → All (IsAmong changes) (plans changes) → All (IsAmong (changes ++ one ∷ [])) (plans (changes ++ one ∷ []))
one_among net changes one good all =
    let up = one_ascends net changes one good in
    let old : All (IsAmong (changes ++ one ∷ [])) (plans changes) = λ k d within. omega (arith, all k d within, up) in
    subst (All (IsAmong (changes ++ one ∷ []))) (sym (plans-append changes (one ∷ [])))
    (All-append (IsAmong (changes ++ one ∷ [])) (plans changes) (filter_map plan_in (one ∷ [])) old (new_among changes one))

among_from : (net : Net) (before more : List Change) → FollowFrom net before more → All (IsAmong before) (plans before) → All (IsAmong (before ++ more)) (plans (before ++ more))
among_from net before [] follow all = subst (λ (c : List Change). All (IsAmong c) (plans c)) (sym (append-nil before)) all
among_from net before (first ∷ rest) follow all =
    subst (λ (c : List Change). All (IsAmong c) (plans c)) (append_assoc before (first ∷ []) rest)
    (among_from net (before ++ first ∷ []) rest follow.2 (one_among net before first follow.1 all))

-- a plan that is installed is no newer than the newest
pub installed_is_no_newer : (net : Net) (changes : List Change) (plan : Plan) → Follows net changes → Contains (plans changes) plan → plan.edition.0 ≤ (newest changes).edition.0
installed_is_no_newer net changes plan follow there =
    All-contains (IsAmong changes) (plans changes) plan
    (among_from net [] changes follow (All-cons (IsAmong []) empty_plan [] (omega arith) (All-nil (IsAmong [])))) there

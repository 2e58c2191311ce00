-- Each plan that changes that follow install is of a greater edition than all before it.
use Rattle.std.proofs.Common.{◌≡◌, ℕ, ◌-◌, ◌<◌, ◌≤◌, List, [], ◌∷◌, ◌++◌, AllPairs, length, get_or, refl, sym, ap, ◌∙◌, subst, append_assoc, arith, ⊎_elim}
use Rattle.std.specs.List.{filter_map}
use Rattle.std.proofs.lemmas.Bool.{cases_eq}
use Rattle.std.proofs.lemmas.List.{append-nil, get_or_default}
use Rattle.std.proofs.lemmas.List.Elements.{filter_map-append}
use Rattle.std.proofs.lemmas.List.Quantifiers.{all_pairs_push}
use Rattle.bt_net.specs.Network.{Net}
use Rattle.bt_demand.specs.declared.plan.Plan.{Plan}
use Rattle.bt_demand.specs.Plan.{empty_plan}
use Rattle.bt_journal.specs.declared.call.Change.{Change}
use Rattle.bt_journal.specs.declared.call.Change.TheVariants as change
use Rattle.bt_history.specs.Changes.{newest, plan_in, plans}
use Rattle.bt_history.specs.Causes.{Follows, FollowFrom}

-- the one plan is of a lesser edition than the other
abbrev IsOlder : Plan → Plan → Type 0
IsOlder a b = a.edition.0 < b.edition.0

-- no plan is newer than the newest
up_to_newest : (changes : List Change) → AllPairs IsOlder (plans changes) → (k : ℕ) (d : Plan) → k < length (plans changes)
    → (get_or (plans changes) k d).edition.0 ≤ (newest changes).edition.0
up_to_newest changes pairs k d within =
    let all = plans changes in
    let last = length all - 1 in
    let here : (get_or all last d).edition.0 ≡ (newest changes).edition.0 = ap (λ (p : Plan). p.edition.0) (get_or_default all last d empty_plan (omega (arith, within))) in
    ⊎_elim
    (λ (is : k ≡ last). let same : (get_or all k d).edition.0 ≡ (get_or all last d).edition.0 = ap (λ (i : ℕ). (get_or all i d).edition.0) is in omega (arith, same, here))
    (λ (not : k ≡ last → ⊥). let less : (get_or all k d).edition.0 < (get_or all last d).edition.0 = pairs k last d (omega (arith, within, not)) (omega (arith, within)) in omega (arith, less, here))
    (cases_eq k last)

-- the plans with those of one change more
plans_more : (before : List Change) (one : Change) → plans (before ++ one ∷ []) ≡ plans before ++ filter_map plan_in (one ∷ [])
plans_more before one = ap (λ (all : List Plan). empty_plan ∷ all) (filter_map-append plan_in before (one ∷ []))

older_other : (before : List Change) (one : Change) → filter_map plan_in (one ∷ []) ≡ [] → AllPairs IsOlder (plans before) → AllPairs IsOlder (plans (before ++ one ∷ []))
older_other before one none pairs =
    subst (AllPairs IsOlder) (sym (plans_more before one ∙ (ap (λ (more : List Plan). plans before ++ more) none ∙ append-nil (plans before)))) pairs

older_install : (before : List Change) (plan : Plan) → (newest before).edition.0 < plan.edition.0 → AllPairs IsOlder (plans before)
    → AllPairs IsOlder (plans (before ++ change.Install plan ∷ []))
older_install before plan newer pairs =
    subst (AllPairs IsOlder) (sym (plans_more before (change.Install plan)))
    (all_pairs_push IsOlder (plans before) plan pairs (λ k d within. omega (arith, newer, up_to_newest before pairs k d within)))

older_from : (net : Net) (before changes : List Change) → FollowFrom net before changes → AllPairs IsOlder (plans before) → AllPairs IsOlder (plans (before ++ changes))
older_from net before [] follow pairs = subst (λ (all : List Change). AllPairs IsOlder (plans all)) (sym (append-nil before)) pairs
older_from net before (change.Edit edit ∷ rest) follow pairs =
    subst (λ (all : List Change). AllPairs IsOlder (plans all)) (append_assoc before (change.Edit edit ∷ []) rest)
    (older_from net (before ++ change.Edit edit ∷ []) rest follow.2 (older_other before (change.Edit edit) refl pairs))
older_from net before (change.Install plan ∷ rest) follow pairs =
    subst (λ (all : List Change). AllPairs IsOlder (plans all)) (append_assoc before (change.Install plan ∷ []) rest)
    (older_from net (before ++ change.Install plan ∷ []) rest follow.2 (older_install before plan follow.1.0 pairs))
older_from net before (change.Order order ∷ rest) follow pairs =
    subst (λ (all : List Change). AllPairs IsOlder (plans all)) (append_assoc before (change.Order order ∷ []) rest)
    (older_from net (before ++ change.Order order ∷ []) rest follow.2 (older_other before (change.Order order) refl pairs))

pub plans_grow : (net : Net) (changes : List Change) → Follows net changes → AllPairs (λ (a b : Plan). a.edition.0 < b.edition.0) (plans changes)
plans_grow net changes follow = older_from net [] changes follow (λ i j d less within. absurd (omega (arith, less, within)))

-- What holds of the installed plan that is asked for.
use Rattle.std.proofs.Common.{◌≡◌, ℕ, zero, suc, ◌+◌, ◌-◌, ◌==◌, Bool, true, false, cond, List, [], ◌∷◌, All, length, get_or, Option, Some, None, Ok, IfSome, slice_get, refl, sym, ap, ◌∙◌, subst, arith, eqb-true}
use Rattle.std.specs.List.{find}
use Rattle.std.proofs.lemmas.List.Elements.{All-nil, All-cons}
use Rattle.std.proofs.lemmas.Option.{slice_get-get_or}
use Rattle.bt_frame.specs.declared.numbers.EditionNo.{EditionNo}
use Rattle.bt_net.specs.Network.{Net}
use Rattle.bt_demand.specs.declared.plan.Plan.{Plan}
use Rattle.bt_demand.specs.Plan.{empty_plan}
use Rattle.bt_plan.specs.PlanSpelling.{IsPlanInRange, plan_spelling}
use Rattle.bt_plan.specs.PlanText.{plan_reading}
use Rattle.bt_journal.specs.declared.call.Change.{Change}
use Rattle.bt_journal.specs.declared.call.Change.TheVariants as change
use Rattle.bt_journal.specs.JournalLines.{edits_in}
use Rattle.bt_history.specs.Changes.{installs, newest}
use Rattle.bt_history.specs.Recovery.{AreInRange}
use Rattle.bt_look.specs.Installed.{plan_asked}

-- what holds of each item holds of the one at a place, and of the first that passes
some_at : {X : Type 0} (P : X → Type 0) (xs : List X) (place : ℕ) → All P xs → IfSome (slice_get xs place) P
some_at P [] place all = tt
some_at P (x ∷ xs) zero all = all 0 x (omega arith)
some_at P (x ∷ xs) (suc place) all = some_at P xs place (λ k d within. all (suc k) d (omega (arith, within)))

some_first : {X : Type 0} (P : X → Type 0) (p : X → Bool) (xs : List X) → All P xs → IfSome (find p xs) P
some_first P p [] all = tt
some_first P p (x ∷ xs) all =
    elim (p x) as (λ b. IfSome (cond b (Some x) (find p xs)) P) [
      | true ↦ all 0 x (omega arith)
      | false ↦ some_first P p xs (λ k d within. all (suc k) d (omega (arith, within)))
    ]

-- and so of the plan that is asked for
pub plan_among : (P : Plan → Type 0) (changes : List Change) (asked : Option EditionNo) → All P (installs changes) → IfSome (plan_asked changes asked) P
plan_among P changes None all = some_at P (installs changes) (length (installs changes) - 1) all
plan_among P changes (Some number) all = some_first P (λ (plan : Plan). plan.edition.0 == number.0) (installs changes) all

-- it is of the edition that is asked for
first_passes : {X : Type 0} (p : X → Bool) (xs : List X) → IfSome (find p xs) (λ x. p x ≡ true)
first_passes p [] = tt
first_passes p (x ∷ xs) =
    elim (p x) as (λ b. p x ≡ b → IfSome (cond b (Some x) (find p xs)) (λ y. p y ≡ true)) [
      | true ↦ λ here. here
      | false ↦ λ _. first_passes p xs
    ] refl

some_more : {X : Type 0} (o : Option X) (P Q : X → Type 0) → ((x : X) → P x → Q x) → IfSome o P → IfSome o Q
some_more None P Q more some = tt
some_more (Some x) P Q more some = more x some

pub plan_of_edition : (changes : List Change) (number : EditionNo) → IfSome (plan_asked changes (Some number)) (λ plan. plan.edition.0 ≡ number.0)
plan_of_edition changes number =
    let test : Plan → Bool = λ plan. plan.edition.0 == number.0 in
    some_more (find test (installs changes)) (λ plan. test plan ≡ true) (λ plan. plan.edition.0 ≡ number.0)
    (λ plan is. eqb-true plan.edition.0 number.0 is) (first_passes test (installs changes))

-- or the newest
last_is : (all : List Plan) → IfSome (slice_get all (length all - 1)) (λ plan. plan ≡ get_or (empty_plan ∷ all) (length (empty_plan ∷ all) - 1) empty_plan)
last_is [] = tt
last_is (first ∷ rest) =
    let all = first ∷ rest in
    let last = length rest in
    let place : length all - 1 ≡ last = omega arith in
    let behind : length (empty_plan ∷ all) - 1 ≡ suc last = omega arith in
    let there : slice_get all (length all - 1) ≡ Some (get_or all last empty_plan) = ap (slice_get all) place ∙ slice_get-get_or all last empty_plan (omega arith) in
    let same : get_or all last empty_plan ≡ get_or (empty_plan ∷ all) (length (empty_plan ∷ all) - 1) empty_plan = ap (λ (k : ℕ). get_or (empty_plan ∷ all) k empty_plan) (sym behind) in
    subst (λ (o : Option Plan). IfSome o (λ plan. plan ≡ get_or (empty_plan ∷ all) (length (empty_plan ∷ all) - 1) empty_plan)) (sym there) same

pub plan_newest : (changes : List Change) → IfSome (plan_asked changes None) (λ plan. plan ≡ newest changes)
plan_newest changes = last_is (installs changes)

-- lines can spell the installed plans
pub installs_in_range : (net : Net) (edits : ℕ) (changes : List Change) → AreInRange net edits changes → All (IsPlanInRange net) (installs changes)
installs_in_range net edits [] ranges = All-nil (IsPlanInRange net)
installs_in_range net edits (change.Edit edit ∷ rest) ranges = installs_in_range net (edits + edits_in (change.Edit edit)) rest ranges.1
installs_in_range net edits (change.Install plan ∷ rest) ranges =
    All-cons (IsPlanInRange net) plan (installs rest) ranges.0 (installs_in_range net (edits + edits_in (change.Install plan)) rest ranges.1)
installs_in_range net edits (change.Order order ∷ rest) ranges = installs_in_range net (edits + edits_in (change.Order order)) rest ranges.1

-- so they are read back
pub plan_read : (net : Net) (changes : List Change) (asked : Option EditionNo) → ((plan : Plan) → IsPlanInRange net plan → plan_reading net (plan_spelling net plan) ≡ Ok plan)
    → AreInRange net 0 changes → IfSome (plan_asked changes asked) (λ plan. plan_reading net (plan_spelling net plan) ≡ Ok plan)
plan_read net changes asked read ranges =
    plan_among (λ plan. plan_reading net (plan_spelling net plan) ≡ Ok plan) changes asked
    (λ k d within. read (get_or (installs changes) k d) (installs_in_range net 0 changes ranges k d within))

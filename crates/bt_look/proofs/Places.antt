-- Where the plan that is asked for stands among all plans of a book, the empty one of which is at 0.
use Rattle.std.proofs.Common.{◌≡◌, ℕ, zero, suc, ◌<◌, ◌≤◌, ◌==◌, Bool, true, false, List, length, get_or, Some, None, slice_get, sym, ap, ◌∙◌, arith}
use Rattle.std.specs.List.{find}
use Rattle.std.proofs.lemmas.List.Folds.{find_at}
use Rattle.std.proofs.lemmas.List.Sums.{position_or_len_is}
use Rattle.std.proofs.lemmas.Option.{slice_get-get_or, slice_get_past}
use Rattle.bt_frame.specs.declared.numbers.EditionNo.{EditionNo}
use Rattle.bt_demand.specs.declared.plan.Plan.{Plan}
use Rattle.bt_demand.specs.Plan.{empty_plan}
use Rattle.bt_journal.specs.declared.call.Change.{Change}
use Rattle.bt_history.specs.Changes.{installs, plans}
use Rattle.bt_look.specs.Installed.{plan_asked, plan_at}

-- the first item that passes, and none that does
find_first : {X : Type 0} (p : X → Bool) (xs : List X) (i : ℕ) (d : X) → i < length xs → ((k : ℕ) → k < i → p (get_or xs k d) ≡ false)
    → p (get_or xs i d) ≡ true → find p xs ≡ Some (get_or xs i d)
find_first p xs i d within before here =
    find_at p xs ∙ (ap (slice_get xs) (position_or_len_is p xs i d (omega (arith, within)) before (λ _. here)) ∙ slice_get-get_or xs i d within)

find_nowhere : {X : Type 0} (p : X → Bool) (xs : List X) (d : X) → ((k : ℕ) → k < length xs → p (get_or xs k d) ≡ false) → find p xs ≡ None
find_nowhere p xs d before =
    let past : length xs ≤ length xs = omega arith in
    find_at p xs
    ∙ (ap (slice_get xs) (position_or_len_is p xs (length xs) d past before (λ (less : length xs < length xs). absurd (omega (arith, less))))
    ∙ slice_get_past xs (length xs) past)

-- the plan at a place is of that edition
abbrev pub is_at : List Change → EditionNo → ℕ → Bool
is_at changes number place = (plan_at changes place).edition.0 == number.0

-- the first place behind the empty plan at which one of that edition stands
pub asked_at : (changes : List Change) (number : EditionNo) (place : ℕ) → 1 ≤ place → place < length (plans changes)
    → ((k : ℕ) → k < place → 1 ≤ k → is_at changes number k ≡ false) → is_at changes number place ≡ true
    → Some (plan_at changes place) ≡ plan_asked changes (Some number)
asked_at changes number zero some within before here = absurd (omega (arith, some))
asked_at changes number (suc i) some within before here =
    sym (find_first (λ (plan : Plan). plan.edition.0 == number.0) (installs changes) i empty_plan (omega (arith, within))
    (λ k less. before (suc k) (omega (arith, less)) (omega arith)) here)

-- there is none
pub asked_nowhere : (changes : List Change) (number : EditionNo) → ((k : ℕ) → k < length (plans changes) → 1 ≤ k → is_at changes number k ≡ false)
    → None ≡ plan_asked changes (Some number)
asked_nowhere changes number before =
    sym (find_nowhere (λ (plan : Plan). plan.edition.0 == number.0) (installs changes) empty_plan
    (λ k less. before (suc k) (omega (arith, less)) (omega arith)))

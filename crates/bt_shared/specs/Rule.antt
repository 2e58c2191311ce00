-- The rule of the board, and what its steps tell.
use Rattle.std.specs.Prelude.{◌≡◌, ℕ, List, Some, None, MatchOption}
use Rattle.std.specs.Arc.{arc_value}
use mathlib.Core.Option.{some}
use mathlib.Core.List.{IsPrefix}
use lib.ListN.{get_elem?}
use Rattle.bt_shared.specs.Plans.{last_of, Ascends}
use Rattle.bt_shared.specs.declared.shown.ShownPlan.{ShownPlan}
use Rattle.bt_shared.specs.declared.seen_plans.SeenPlans.{SeenPlans}

-- the view of one who has seen nothing yet
abbrev pub newcomer : SeenPlans
newcomer = record { token = None }

-- the view of one who has seen the list of x, and no more
abbrev pub saw : ShownPlan → SeenPlans
saw x = record { token = Some x.seen }

-- what the view has seen, if it has seen a list, begins the list of x
abbrev pub Begins : SeenPlans → ShownPlan → Type 0
Begins v x = MatchOption v.token (Unit {0}) (λ s. (s.book ≡ x.seen.book) × IsPrefix s.log x.seen.log)

-- the view has seen the list of x, and may have seen more
abbrev pub HasSeen : SeenPlans → ShownPlan → Type 0
HasSeen v x = MatchOption v.token ⊥ (λ s. (s.book ≡ x.seen.book) × IsPrefix x.seen.log s.log)

-- what each has seen begins the list of what is shown
abbrev pub AllBegin : ShownPlan → List SeenPlans → Type 0
AllBegin x views = (seat : ℕ) (v : SeenPlans) → get_elem? views seat ≡ some v → Begins v x

-- the board goes forward: the plan that is shown is the last of its list, whose editions ascend, and what each has seen
-- begins that list
pub record GoesForward (x : ShownPlan) (views : List SeenPlans) : Type 0 where
  pub last : last_of x.seen.log ≡ Some (arc_value x.plan)
  pub ascends : Ascends x.seen.log
  pub begins : AllBegin x views

-- what was seen before begins the list of what is shown, and that list is what the view has seen now
abbrev pub Reads : SeenPlans → ShownPlan → ShownPlan → SeenPlans → Type 0
Reads v x y w = Begins v y × (w ≡ saw y)

-- the list of what was shown before begins that of what is shown from now on, which is what the view has seen
abbrev pub Posts : SeenPlans → ShownPlan → ShownPlan → SeenPlans → Type 0
Posts v x y w = (y.seen.book ≡ x.seen.book) × IsPrefix x.seen.log y.seen.log × (w ≡ saw y)

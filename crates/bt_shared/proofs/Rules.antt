-- The steps of the board keep its rule.
use Rattle.std.proofs.Common.{◌≡◌, ℕ, ◌≢◌, List, [], ◌∷◌, ◌++◌, set, refl, subst, sym, ◌∙◌, ⊎_elim, Some, None, Option, MatchOption}
use mathlib.Core.Option.{some}
use mathlib.Core.List.{IsPrefix}
use lib.ListN.{get_elem?}
use Rattle.left_right.specs.Register.{Admits, TurnsAt, Forks, Merges}
use Rattle.atomic_table.proofs.Lists.{at_set, at_snoc}
use Rattle.bt_frame.proofs.Prefixes.{prefix_self, prefix_trans}
use Rattle.logbook.specs.declared.tokens.Seen.{Seen}
use Rattle.bt_demand.specs.declared.plan.Plan.{Plan}
use Rattle.bt_shared.specs.declared.plan_log.PlanLog.{PlanLog}
use Rattle.bt_shared.specs.declared.shown.ShownPlan.{ShownPlan}
use Rattle.bt_shared.specs.declared.seen_plans.SeenPlans.{SeenPlans}
use Rattle.bt_shared.specs.Rule.{AllBegin, Begins, GoesForward, HasSeen, Reads, Posts, newcomer, saw}

-- a seat's view is replaced by one that begins the list as well
pub set_begins : (x : ShownPlan) (views : List SeenPlans) (seat : ℕ) (w : SeenPlans) → AllBegin x views → Begins w x → AllBegin x (set views seat w)
set_begins x views seat w h is j u e = ⊎_elim (λ (t : (j ≡ seat) × (w ≡ u)). subst (λ (z : SeenPlans). Begins z x) t.1 is) (λ (t : (j ≢ seat) × (get_elem? views j ≡ some u)). h j u t.1) (at_set views seat j w u e)

pub snoc_begins : (x : ShownPlan) (views : List SeenPlans) (w : SeenPlans) → AllBegin x views → Begins w x → AllBegin x (views ++ w ∷ [])
snoc_begins x views w h is j u e = ⊎_elim (h j u) (λ (same : w ≡ u). subst (λ (z : SeenPlans). Begins z x) same is) (at_snoc views w u j e)

-- who has seen the list of x has seen a beginning of it
pub saw_begins : (x : ShownPlan) → Begins (saw x) x
saw_begins x = (refl, prefix_self x.seen.log)

option_on : {S : Type 0} (P Q : S → Type 0) → ((s : S) → P s → Q s) → (o : Option S) → MatchOption o (Unit {0}) P → MatchOption o (Unit {0}) Q
option_on P Q f None h = tt
option_on P Q f (Some s) h = f s h

-- what begins a list begins each longer one of the same log
pub begins_longer : (x y : ShownPlan) → y.seen.book ≡ x.seen.book → IsPrefix x.seen.log y.seen.log → (v : SeenPlans) → Begins v x → Begins v y
begins_longer x y book grows v = option_on (λ (s : Seen Plan ℕ PlanLog). (s.book ≡ x.seen.book) × IsPrefix s.log x.seen.log) (λ (s : Seen Plan ℕ PlanLog). (s.book ≡ y.seen.book) × IsPrefix s.log y.seen.log)
    (λ s b. (b.0 ∙ sym book, prefix_trans s.log x.seen.log y.seen.log b.1 grows)) v.token

-- who has seen the list of x has seen that of each y with the same list
pub saw_same : (v : SeenPlans) (x y : ShownPlan) → v ≡ saw x → x.seen ≡ y.seen → HasSeen v y
saw_same v x y is same = subst (λ (w : SeenPlans). HasSeen w y) (sym is) (subst (λ (s : Seen Plan ℕ PlanLog). (x.seen.book ≡ s.book) × IsPrefix s.log x.seen.log) same (refl, prefix_self x.seen.log))

pub admits : Admits GoesForward newcomer
admits x views h = record { last = h.last; ascends = h.ascends; begins = snoc_begins x views newcomer h.begins tt }

-- a reader enters, and sees the list of what is shown
pub reads : (seat : ℕ) (v : SeenPlans) (x : ShownPlan) → TurnsAt GoesForward seat v x x Reads
reads seat v x views h at =
    (saw x, record { last = h.last; ascends = h.ascends; begins = set_begins x views seat (saw x) h.begins (saw_begins x) }, (h.begins seat v at, refl))

-- the publisher shows a plan whose list goes on from the one shown
pub posts : (seat : ℕ) (v : SeenPlans) (x y : ShownPlan) → y.seen.book ≡ x.seen.book → IsPrefix x.seen.log y.seen.log → TurnsAt GoesForward seat v x y Posts
posts seat v x y book grows views h at =
    let longer : AllBegin y views = λ j u e. begins_longer x y book grows u (h.begins j u e) in
    (saw y, record { last = y.last; ascends = y.ascends; begins = set_begins y views seat (saw y) longer (saw_begins y) }, (book, grows, refl))

pub forks : (seat : ℕ) (v : SeenPlans) → Forks GoesForward seat v v v
forks seat v x views h at =
    let own : Begins v x = h.begins seat v at in
    record { last = h.last; ascends = h.ascends; begins = snoc_begins x (set views seat v) v (set_begins x views seat v h.begins own) own }

pub merges : (seat : ℕ) (v : SeenPlans) (other : ℕ) (w : SeenPlans) → Merges GoesForward seat v other w w newcomer
merges seat v other w x views h at apart there =
    let own : Begins w x = ⊎_elim (λ (t : (other ≡ seat) × (w ≡ w)). absurd (apart t.0)) (λ (t : (other ≢ seat) × (get_elem? views other ≡ some w)). h.begins other w t.1) (at_set views seat other w w there) in
    record { last = h.last; ascends = h.ascends; begins = set_begins x (set views seat w) other newcomer (set_begins x views seat w h.begins own) tt }

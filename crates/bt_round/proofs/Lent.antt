-- What a reader has seen of the plans of a board, and the plans that changes install.
use Rattle.std.proofs.Common.{◌≡◌, ◌+◌, ◌-◌, ◌≤◌, List, [], ◌∷◌, ◌++◌, All, Option, Some, None, ◌⊎◌, inl, inr, ⊎_elim, refl, ap, subst, arith}
use Rattle.std.specs.List.{Contains}
use Rattle.std.proofs.lemmas.List.Elements.{Contains-append_left, Contains-append_right, filter_map-append}
use mathlib.Core.List.{IsPrefix}
use Rattle.bt_demand.specs.declared.plan.Plan.{Plan}
use Rattle.bt_journal.specs.declared.call.Change.{Change}
use Rattle.bt_shared.specs.Plans.{last_after, last_of, next_edition, next_of}
use Rattle.bt_frame.proofs.Prefixes.{prefix_self, prefix_trans}
use Rattle.bt_history.specs.Changes.{installs, plan_in}
use Rattle.bt_round.specs.Lent.{IsLent, IsNoNewer, Rises}

last_one : (before : Option Plan) (list : List Plan) (plan : Plan) → last_after before list ≡ Some plan → ((list ≡ []) × (before ≡ Some plan)) ⊎ Contains list plan
last_one before [] plan is = inl (refl, is)
last_one before (first ∷ rest) plan is = ⊎_elim
    (λ (none : (rest ≡ []) × (Some first ≡ Some plan)). let same : first ≡ plan = cc (none.1) in inr (0, omega arith, same))
    (λ (there : Contains rest plan). inr (Contains-append_right (first ∷ []) rest plan there))
    (last_one (Some first) rest plan is)

-- the last of these plans is one of them
pub last_is_one : (list : List Plan) (plan : Plan) → last_of list ≡ Some plan → Contains list plan
last_is_one list plan is = ⊎_elim
    (λ (none : (list ≡ []) × (None ≡ Some plan)). cc (none.1))
    (λ (there : Contains list plan). there)
    (last_one None list plan is)

-- what a reader has seen does not change
pub rises_same : (list : List Plan) → Rises list list
rises_same list = record { begins = prefix_self list; rises = omega arith }

-- and what rises twice rises
pub rises_on : (a b c : List Plan) → Rises a b → Rises b c → Rises a c
rises_on a b c one two = record { begins = prefix_trans a b c one.begins two.begins; rises = omega (arith, one.rises, two.rises) }

-- a plan of a list is one of each list that begins with it
pub contained_on : (a b : List Plan) (plan : Plan) → IsPrefix a b → Contains a plan → Contains b plan
contained_on a b plan begins there = subst (λ (list : List Plan). Contains list plan) begins.1 (Contains-append_left a begins.0 plan there)

-- the reader lends the last plan that it has seen
pub lent_last : (before after : List Plan) (plan : Plan) → last_of after ≡ Some plan → next_edition before ≤ next_edition after → IsLent before after plan
lent_last before after plan is up = record {
  seen = last_is_one after plan is;
  fresh = omega (arith, up, ap next_of is);
  last = omega (arith, ap next_of is);
}

-- a plan that was lent is one that was lent when the reader has seen more
pub lent_sooner : (a b c : List Plan) (plan : Plan) → Rises b c → IsLent a b plan → IsLent a c plan
lent_sooner a b c plan up so = record {
  seen = contained_on b c plan up.begins so.seen;
  fresh = so.fresh;
  last = omega (arith, so.last, up.rises);
}

-- and so is one that was lent later
pub lent_later : (a b c : List Plan) (plan : Plan) → Rises a b → IsLent b c plan → IsLent a c plan
lent_later a b c plan up so = record { seen = so.seen; fresh = omega (arith, so.fresh, up.rises); last = so.last }

-- what was lent sooner is no newer than what was lent later
pub lent_across : (a b c : List Plan) (one two : List Plan) → All (IsLent a b) one → All (IsLent b c) two → All (λ (plan : Plan). All (IsNoNewer plan) two) one
lent_across a b c one two sooner later k d within j e inside = omega (arith, (sooner k d within).last, (later j e inside).fresh)

-- the plans that more changes install stand behind the others
pub installs-append : (a b : List Change) → installs (a ++ b) ≡ installs a ++ installs b
installs-append a b = filter_map-append plan_in a b

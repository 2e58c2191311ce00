-- Where the plans stand among events that are all kept, and what a trace tells.
use Rattle.std.proofs.Common.{◌≡◌, ℕ, ◌<◌, List, length, get_or, arith, [], ◌∷◌, ◌++◌, map, reverse, Option, Some, None, slice_get, zero, suc, refl, sym, ◌∙◌, ap}
use Rattle.std.proofs.lemmas.List.{map-append, length-map, length-reverse}
use Rattle.std.proofs.lemmas.Option.{slice_get-get_or}
use Rattle.bt_demand.specs.declared.plan.Plan.{Plan}
use Rattle.bt_site.specs.Event.{Event, Tick, Turn, Second, Ordered, Deliver, Frame, ResetTerminal, RestartCentre, Install}
use Rattle.bt_world.specs.Life.{ArePlaces, BringsNoPlan, installs, installed_by, told_in}
use Rattle.bt_site.proofs.Indexed.{mapped-end}
use Rattle.bt_site.proofs.Lookup.{mapped-at}
use Rattle.bt_world.proofs.Kept.{last-first}

same-installs : (event : Event) (earlier : List Event) → BringsNoPlan event → installs (event ∷ earlier) ≡ installs earlier
same-installs Tick earlier none = refl
same-installs (Turn target) earlier none = refl
same-installs (Second in_force) earlier none = refl
same-installs Ordered earlier none = refl
same-installs (Deliver number place) earlier none = refl
same-installs Frame earlier none = refl
same-installs (ResetTerminal terminal) earlier none = refl
same-installs (RestartCentre kept) earlier none = refl
same-installs (Install plan) earlier none = absurd none

pub installs-more : (event : Event) (events : List Event) → BringsNoPlan event → installs (reverse (events ++ event ∷ [])) ≡ installs (reverse events)
installs-more event events none = ap installs (last-first events event) ∙ same-installs event (reverse events) none

-- what stands at a place still stands there
found-more : (xs ys : List Event) (k : ℕ) (x : Event) → slice_get xs k ≡ Some x → slice_get (xs ++ ys) k ≡ Some x
found-more [] ys k x e = cc
found-more (first ∷ rest) ys zero x e = e
found-more (first ∷ rest) ys (suc k) x e = found-more rest ys k x e

found-by : (events : List Event) (event : Event) (place : ℕ) (plan : Plan) (found : Option Event) → slice_get events place ≡ found → installed_by found ≡ Some plan
    → installed_by (slice_get (events ++ event ∷ []) place) ≡ Some plan
found-by events event place plan None e is = cc
found-by events event place plan (Some here) e is = ap installed_by (found-more events (event ∷ []) place here e) ∙ is

found-still : (events : List Event) (event : Event) (place : ℕ) (plan : Plan) → installed_by (slice_get events place) ≡ Some plan → installed_by (slice_get (events ++ event ∷ []) place) ≡ Some plan
found-still events event place plan found = found-by events event place plan (slice_get events place) refl found

places-still : (events : List Event) (event : Event) (places : List ℕ) (all : List Plan)
    → map (λ (place : ℕ). installed_by (slice_get events place)) places ≡ map (λ (plan : Plan). Some plan) all
    → map (λ (place : ℕ). installed_by (slice_get (events ++ event ∷ []) place)) places ≡ map (λ (plan : Plan). Some plan) all
places-still events event [] [] e = refl
places-still events event [] (plan ∷ all) e = cc
places-still events event (place ∷ places) [] e = cc
places-still events event (place ∷ places) (plan ∷ all) e =
    let here : installed_by (slice_get events place) ≡ Some plan = cc in
    let rest : map (λ (k : ℕ). installed_by (slice_get events k)) places ≡ map (λ (p : Plan). Some p) all = cc in
    let first = found-still events event place plan here in
    let others = places-still events event places all rest in
    cc

at-end : (events : List Event) (event : Event) → slice_get (events ++ event ∷ []) (length events) ≡ Some event
at-end [] event = refl
at-end (first ∷ rest) event = at-end rest event

-- an event more that installs no plan
pub places-more : (old new : List Event) (places : List ℕ) (event : Event) → ArePlaces old places → BringsNoPlan event → new ≡ old ++ event ∷ [] → ArePlaces new places
places-more old new places event are none more =
    ap (λ (list : List Event). map (λ (place : ℕ). installed_by (slice_get list place)) places) more
    ∙ places-still old event places (reverse (installs (reverse old))) are
    ∙ ap (λ (list : List Plan). map (λ (plan : Plan). Some plan) (reverse list)) (sym (ap (λ (list : List Event). installs (reverse list)) more ∙ installs-more event old none))

pub installs-installed : (old new : List Event) (plan : Plan) → new ≡ old ++ Install plan ∷ [] → installs (reverse new) ≡ plan ∷ installs (reverse old)
installs-installed old new plan more = ap (λ (list : List Event). installs (reverse list)) more ∙ ap installs (last-first old (Install plan))

-- a plan more
pub places-installed : (old new : List Event) (places next : List ℕ) (plan : Plan) → ArePlaces old places → new ≡ old ++ Install plan ∷ [] → next ≡ places ++ length old ∷ [] → ArePlaces new next
places-installed old new places next plan are more one-more =
    let one : Plan → Option Plan = λ (p : Plan). Some p in
    let after : ℕ → Option Plan = λ (place : ℕ). installed_by (slice_get (old ++ Install plan ∷ []) place) in
    ap (λ (list : List Event). map (λ (place : ℕ). installed_by (slice_get list place)) next) more
    ∙ ap (λ (list : List ℕ). map after list) one-more ∙ map-append after places (length old ∷ [])
    ∙ ap (λ (o : Option Plan). map after places ++ o ∷ []) (ap installed_by (at-end old (Install plan)))
    ∙ ap (λ (list : List (Option Plan)). list ++ Some plan ∷ []) (places-still old (Install plan) places (reverse (installs (reverse old))) are)
    ∙ sym (mapped-end one (installs (reverse old)) plan)
    ∙ ap (λ (list : List Plan). map one (reverse list)) (sym (installs-installed old new plan more))

-- an event brings the plan
pub record Brings (events : List Event) (place : ℕ) (plan : Plan) : Type 0 where
  pub within : place < length events
  pub is : (e : Event) → get_or events place e ≡ Install plan

brings : (event : Event) (plan : Plan) → installed_by (Some event) ≡ Some plan → event ≡ Install plan
brings Tick plan e = cc
brings (Turn target) plan e = cc
brings (Second in_force) plan e = cc
brings Ordered plan e = cc
brings (Deliver number place) plan e = cc
brings Frame plan e = cc
brings (ResetTerminal terminal) plan e = cc
brings (RestartCentre kept) plan e = cc
brings (Install other) plan e = let same : other ≡ plan = cc in ap (λ (p : Plan). Install p) same

stands-in : (events : List Event) (place : ℕ) (plan : Plan) → installed_by (slice_get events place) ≡ Some plan → Brings events place plan
stands-in [] place plan e = cc
stands-in (event ∷ rest) zero plan e = record { within = omega arith; is = λ _. brings event plan e }
stands-in (event ∷ rest) (suc place) plan e =
    let later = stands-in rest place plan e in
    record { within = omega (arith, later.within); is = λ d. later.is d }

-- the plan of a number stands in the event at its place
pub placed-at : (events : List Event) (places : List ℕ) (k : ℕ) (d : Plan) (x : ℕ) → ArePlaces events places → k < length (installs (reverse events))
    → Brings events (get_or places k x) (get_or (reverse (installs (reverse events))) k d)
placed-at events places k d x are within =
    let ri = reverse (installs (reverse events)) in
    let by : ℕ → Option Plan = λ (place : ℕ). installed_by (slice_get events place) in
    let one : Plan → Option Plan = λ (plan : Plan). Some plan in
    let inside : k < length ri = omega (arith, within, length-reverse (installs (reverse events))) in
    let listed : k < length places = omega (arith, inside, ap length are, length-map places by, length-map ri one) in
    let at : by (get_or places k x) ≡ Some (get_or ri k d) =
    sym (mapped-at by places k (Some d) x listed) ∙ ap (λ (list : List (Option Plan)). get_or list k (Some d)) are ∙ mapped-at one ri k (Some d) d inside in
    stands-in events _ _ at

-- each plan has a place
pub listed-at : (events : List Event) (places : List ℕ) (k : ℕ) → ArePlaces events places → k < length (installs (reverse events)) → k < length places
listed-at events places k are within =
    let ri = reverse (installs (reverse events)) in
    let by : ℕ → Option Plan = λ (place : ℕ). installed_by (slice_get events place) in
    let one : Plan → Option Plan = λ (plan : Plan). Some plan in
    omega (arith, within, length-reverse (installs (reverse events)), ap length are, length-map places by, length-map ri one)

pub plan-at : (events : List Event) (k : ℕ) (plan : Plan) → k < length (installs (reverse events)) → get_or (reverse (installs (reverse events))) k plan ≡ plan
    → slice_get (reverse (installs (reverse events))) k ≡ Some plan
plan-at events k plan within at =
    let ri = reverse (installs (reverse events)) in
    slice_get-get_or ri k plan (omega (arith, within, length-reverse (installs (reverse events)))) ∙ ap (λ (p : Plan). Some p) at

-- a trace with one event more
pub told-more : (old new : List (Event × Unit {0})) (event : Event) → new ≡ old ++ (event, tt) ∷ [] → told_in new ≡ told_in old ++ event ∷ []
told-more old new event more = ap told_in more ∙ map-append (λ (one : Event × Unit {0}). one.0) old ((event, tt) ∷ [])

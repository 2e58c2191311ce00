-- Where the process of the centre stands, which may know of fewer plans than its journal tells.
use Rattle.std.proofs.Common.{◌≡◌, ℕ, ◌+◌, ◌<◌, ◌≤◌, ◌==◌, max, if◌then◌else◌, Bool, true, false, List, [], ◌∷◌, length, All, Option, Some, None, IfSome, refl, sym, ap, ◌∙◌, subst, arith}
use Rattle.std.specs.Prelude.{IsSome, filter, nat_le}
use Rattle.std.proofs.Math.Nat.{le-max_right, max-le}
use Rattle.std.proofs.lemmas.Bool.{eqb-true}
use Rattle.std.proofs.lemmas.Bool.Decides.{nat_tests}
use Rattle.std.proofs.lemmas.List.Elements.{All-cons, All-head, All-weaker}
use Rattle.bt_frame.specs.declared.numbers.EditionNo.{EditionNo}
use Rattle.bt_frame.specs.declared.numbers.Mark.{Mark}
use Rattle.bt_frame.specs.declared.numbers.TermNo.{TermNo}
use Rattle.bt_net.specs.Network.{Net}
use Rattle.bt_demand.specs.declared.plan.Plan.{Plan}
use Rattle.bt_air.specs.declared.message.Message.{Message}
use Rattle.bt_air.specs.declared.message.Message.TheVariants as message
use Rattle.bt_air.specs.declared.order.Order.{Order}
use Rattle.bt_air.specs.declared.order.Order.TheVariants as order
use Rattle.bt_air.specs.Orders.{edition_ordered}
use Rattle.bt_machines.specs.Centre.{State as Centre, begins_with, having_placed, turn_at}
use Rattle.bt_machines.specs.CentreSteps.{beginning, needed_by, once_placed, orders_kept, set_of, with_wanted}
use Rattle.bt_machines.specs.Plans.{StartsEmpty, first_or, has_burst, newest_of, plan_of}
use Rattle.bt_site.specs.Event.{Install, Opening, Ordered, RestartCentre, Turn}
use Rattle.bt_site.specs.Fits.{HasPlan, IsOpening}
use Rattle.bt_site.specs.Sites.{centre_with}
use Rattle.bt_site.specs.World.{greatest_due, terminals}
use Rattle.bt_site.proofs.Banks.{act-planned, if-some-still, joined-planned, plan-stays, still}
use Rattle.bt_sites.specs.Fits.{order_count}
use Rattle.bt_sites.specs.Late.{now_of}
use Rattle.bt_sites.specs.Stamps.{Act, Begun, Hears, Installs, Line, Places, Radio, Restarts, Turns, actor_of, is_same_site, known, late_of, made_in, reached, steps_by}
use Rattle.bt_sites.specs.Step as step
use Rattle.bt_script.specs.declared.heard.BusLine.{BusLine}
use Rattle.bt_script.specs.declared.heard.BusLine.TheVariants as bus
use Rattle.bt_apart.specs.Apart.{ApartAir, apart_at_start, going_apart, having_apart, heard_apart, later_mark, noting_apart}
use Rattle.bt_station.specs.Acts.{heard_as}
use Rattle.bt_apart_laws.specs.Acts.{BeginsSome, IsCentreAt, known_in, takes_up}
use Rattle.bt_apart_laws.proofs.Acts.{hears, installs, known-some, orders, others, restarts, starts, turns}
use Rattle.bt_apart_laws.proofs.Others.{count-still, reached-more, reached-still, where-same, where-some}

-- the centre with these plans in the place of its own
abbrev pub with_plans : ApartAir → List Plan → ApartAir
with_plans air all = record air { plans = all }

-- whatever has a plan in the first has the same in the others
abbrev pub Agree : List Plan → List Plan → Type 0
Agree own all = (edition : EditionNo) → IsSome (plan_of own edition) → plan_of all edition ≡ plan_of own edition

-- Where the process of the centre is after acts, over a journal that tells these plans and these orders, the latest first: it is where
-- the site is but for plans that it does not know, and none of these is one of its orders'.
pub record IsNear (o : Opening) (acts : List Act) (air : ApartAir) (all : List Plan) (placed : List Order) (reach : ℕ) : Type 0 where
  pub at : IsCentreAt o acts (with_plans air all)
  pub agree : Agree air.plans all
  pub planned : All (HasPlan air.plans) air.centre.orders
  pub next : IfSome air.centre.wanted (HasPlan air.plans)
  pub orders : air.centre.orders ≡ placed
  pub count : order_count o (steps_by o acts) ≡ length placed
  pub reached : reached o step.Centre acts ≤ reach
  pub within : known_in air ≤ reach

pub has-all : (own all : List Plan) (edition : EditionNo) → Agree own all → IsSome (plan_of own edition) → IsSome (plan_of all edition)
has-all own all edition agree some = subst (λ (p : Option Plan). IsSome p) (sym (agree edition some)) some

-- where it opens
pub near-start : (o : Opening) (reach : ℕ) → IsOpening o → greatest_due o.orders ≤ reach → IsNear o [] (apart_at_start o) o.plans o.orders reach
near-start o reach opening from = record { at = starts o; agree = λ edition some. refl; planned = opening.planned; next = tt; orders = refl; count = refl; reached = from; within = omega arith }

-- another site does something
pub near-other : (o : Opening) (acts : List Act) (air : ApartAir) (all : List Plan) (placed : List Order) (reach : ℕ) (act : Act) → is_same_site (actor_of act) step.Centre ≡ false
    → IsNear o acts air all placed reach → IsNear o (act ∷ acts) air all placed (max reach (known_in air))
near-other o acts air all placed reach act other n =
    let at = others o acts (with_plans air all) act other n.at in
    record {
      at = at;
      agree = n.agree;
      planned = n.planned;
      next = n.next;
      orders = n.orders;
      count = count-still o acts act other ∙ n.count;
      reached = reached-more o step.Centre acts act reach (known_in air) n.reached at.knows;
      within = le-max_right reach (known_in air);
    }

-- nothing happens to it
pub near-idle : (o : Opening) (acts : List Act) (air : ApartAir) (all : List Plan) (placed : List Order) (reach : ℕ) → IsNear o acts air all placed reach → IsNear o acts air all placed (max reach (known_in air))
near-idle o acts air all placed reach n = record {
  at = n.at;
  agree = n.agree;
  planned = n.planned;
  next = n.next;
  orders = n.orders;
  count = n.count;
  reached = reached-still (reached o step.Centre acts) reach (known_in air) n.reached;
  within = le-max_right reach (known_in air);
}

-- it goes back or ahead
pub near-goes : (o : Opening) (acts : List Act) (air : ApartAir) (all : List Plan) (placed : List Order) (reach : ℕ) (back : Option EditionNo) → IsNear o acts air all placed reach
    → IsNear o acts (going_apart air back) all placed reach
near-goes o acts air all placed reach back n = record {
  at = record { net = n.at.net; plans = n.at.plans; centre = n.at.centre; knows = n.at.knows; some = n.at.some };
  agree = n.agree;
  planned = n.planned;
  next = n.next;
  orders = n.orders;
  count = n.count;
  reached = n.reached;
  within = n.within;
}

-- what it hears leaves its orders and the one that it wants
abbrev Keeps : Centre → Centre → Type 0
Keeps s t = (t.orders ≡ s.orders) × (t.wanted ≡ s.wanted)

with-keeps : (s : Centre) (mark : Mark) (message : Option Message) → Keeps s (centre_with s mark message)
with-keeps s mark None = (refl, refl)
with-keeps s mark (Some (message.Load command edition modes)) = (refl, refl)
with-keeps s mark (Some (message.Arm command edition due)) = (refl, refl)
with-keeps s mark (Some (message.Status status)) = (refl, refl)
with-keeps s mark (Some (message.PlanFor to load edition bursts)) = (refl, refl)
with-keeps s mark (Some (message.Confirm from load edition)) = (refl, refl)
with-keeps s mark (Some (message.Reference superframe in_force next)) = (refl, refl)
with-keeps s mark (Some (message.Lost from)) = (refl, refl)

-- and its plans
record Stays (air over : ApartAir) : Type 0 where
  plans : over.plans ≡ air.plans
  centre : Keeps air.centre over.centre

stays-if : (air over : ApartAir) (test : Bool) → Stays air over → Stays air (if test then over else air)
stays-if air over true stays = stays
stays-if air over false stays = record { plans = refl; centre = (refl, refl) }

heard-stays : (air : ApartAir) (one : BusLine) → Stays air (heard_apart air one)
heard-stays air (bus.Begun mark) = stays-if air (record air { mark = mark; marked = true }) (nat_le air.mark.0 mark.0) (record { plans = refl; centre = (refl, refl) })
heard-stays air (bus.Radio stamp message) =
    let mark = later_mark air.mark stamp in
    stays-if air (noting_apart air mark message) air.marked (record { plans = refl; centre = with-keeps air.centre mark message })

-- what it hears does not go by its plans
if-with : (all : List Plan) (test : Bool) (a b : ApartAir) → (if test then with_plans a all else with_plans b all) ≡ with_plans (if test then a else b) all
if-with all true a b = refl
if-with all false a b = refl

heard-with : (air : ApartAir) (all : List Plan) (one : BusLine) → heard_apart (with_plans air all) one ≡ with_plans (heard_apart air one) all
heard-with air all (bus.Begun mark) = if-with all (nat_le air.mark.0 mark.0) (record air { mark = mark; marked = true }) air
heard-with air all (bus.Radio stamp message) = if-with all air.marked (noting_apart air (later_mark air.mark stamp) message) air

takes-with : (air : ApartAir) (all : List Plan) (line : Line) → takes_up air line ≡ true → takes_up (with_plans air all) line ≡ true
takes-with air all (Begun stamp) takes = takes
takes-with air all (Radio stamp bytes) takes = takes

hear-count : (o : Opening) (acts : List Act) (line : Line) → order_count o (steps_by o (Hears step.Centre line ∷ acts)) ≡ order_count o (steps_by o acts)
hear-count o acts (Begun stamp) = refl
hear-count o acts (Radio stamp bytes) =
    where-same (λ list. order_count o list) (late_of o acts) (made_in o (now_of o (steps_by o acts)) acts (Hears step.Centre (Radio stamp bytes))) (max (known step.Centre acts) stamp)
    (λ (mark : Mark). step.CentreHears mark bytes) (λ mark. refl)

-- it takes up a line
pub near-heard : (o : Opening) (acts : List Act) (air : ApartAir) (all : List Plan) (placed : List Order) (reach : ℕ) (line : Line) → takes_up air line ≡ true → BeginsSome line
    → IsNear o acts air all placed reach
    → IsNear o (Hears step.Centre line ∷ acts) (heard_apart air (heard_as line)) all placed (max reach (known_in (heard_apart air (heard_as line))))
near-heard o acts air all placed reach line takes some n =
    let after = heard_apart air (heard_as line) in
    let takes-all : takes_up (with_plans air all) line ≡ true = takes-with air all line takes in
    let at = subst (λ (a : ApartAir). IsCentreAt o (Hears step.Centre line ∷ acts) a) (heard-with air all (heard_as line)) (hears o acts (with_plans air all) line n.at takes-all some) in
    let stays = heard-stays air (heard_as line) in
    record {
      at = at;
      agree = subst (λ (own : List Plan). Agree own all) (sym stays.plans) n.agree;
      planned = subst (λ (own : List Plan). All (HasPlan own) after.centre.orders) (sym stays.plans) (subst (λ (list : List Order). All (HasPlan air.plans) list) (sym stays.centre.0) n.planned);
      next = subst (λ (own : List Plan). IfSome after.centre.wanted (HasPlan own)) (sym stays.plans) (subst (λ (one : Option Order). IfSome one (HasPlan air.plans)) (sym stays.centre.1) n.next);
      orders = stays.centre.0 ∙ n.orders;
      count = hear-count o acts line ∙ n.count;
      reached = reached-more o step.Centre acts (Hears step.Centre line) reach (known_in after) n.reached at.knows;
      within = le-max_right reach (known_in after);
    }

-- it has its turn
pub near-turn : (o : Opening) (acts : List Act) (air : ApartAir) (all : List Plan) (placed : List Order) (reach : ℕ) (target : EditionNo) → air.marked ≡ true → IsSome (plan_of air.plans target)
    → IsNear o acts air all placed reach
    → IsNear o (Turns target ∷ acts) (having_apart air (Turn target)) all placed (max reach (known_in (having_apart air (Turn target))))
near-turn o acts air all placed reach target marked some n =
    let s = air.centre in
    let done = (turns o.net o acts (with_plans air all) target n.at marked).stands in
    record {
      at = record { net = done.net; plans = done.plans; centre = done.centre; knows = done.knows; some = done.some };
      agree = n.agree;
      planned = n.planned;
      next = act-planned air.plans (turn_at s air.mark target air.opening.net.lead air.opening.net.patience) s.wanted s.kept s.orders some n.planned n.next;
      orders = n.orders;
      count = where-same (λ list. order_count o list) (late_of o acts) (made_in o (now_of o (steps_by o acts)) acts (Turns target)) (known step.Centre acts) (λ (mark : Mark). step.Turns mark target) (λ mark. refl)
          ∙ n.count;
      reached = reached-more o step.Centre acts (Turns target) reach (known_in air) n.reached done.knows;
      within = le-max_right reach (known_in air);
    }

-- what goes by the plan of an order's edition is the same by all plans
needed-same : (everyone : List TermNo) (own all : List Plan) (one : Option Order) → Agree own all → IfSome one (HasPlan own) → needed_by everyone own one ≡ needed_by everyone all one
needed-same everyone own all None agree has = refl
needed-same everyone own all (Some (order.Load command edition)) agree has =
    ap (λ (p : Option Plan). set_of (filter (has_burst p) everyone)) (sym (agree edition has))
needed-same everyone own all (Some (order.Arm command edition due)) agree has = refl

placed-same : (s : Centre) (everyone : List TermNo) (own all : List Plan) (one : Option Order) → Agree own all → IfSome one (HasPlan own) → once_placed s everyone own one ≡ once_placed s everyone all one
placed-same s everyone own all None agree has = refl
placed-same s everyone own all (Some one) agree has = ap (λ needs. having_placed s one needs) (needed-same everyone own all (Some one) agree has)

begin-same : (everyone : List TermNo) (own all : List Plan) (placed : List Order) → Agree own all → All (HasPlan own) placed → beginning everyone own placed ≡ beginning everyone all placed
begin-same everyone own all [] agree planned = refl
begin-same everyone own all (one ∷ earlier) agree planned =
    ap (λ needs. begins_with (one ∷ earlier) needs) (needed-same everyone own all (Some one) agree (All-head (HasPlan own) one earlier planned))

-- it places the order that it wants
pub near-placed : (o : Opening) (acts : List Act) (air : ApartAir) (all : List Plan) (placed : List Order) (reach : ℕ) (one : Order) → air.marked ≡ true → air.centre.wanted ≡ Some one
    → IsNear o acts air all placed reach
    → IsNear o (Places ∷ acts) (having_apart air Ordered) all (one ∷ placed) (max reach (known_in (having_apart air Ordered)))
near-placed o acts air all placed reach one marked wants n =
    let s = air.centre in
    let everyone = terminals air.opening in
    let ideal = with_plans air all in
    let done = (orders o.net o acts ideal n.at marked).stands in
    let after = having_apart air Ordered in
    let is : after.centre ≡ having_placed s one (needed_by everyone air.plans (Some one)) = ap (λ (w : Option Order). once_placed s everyone air.plans w) wants in
    let has : HasPlan air.plans one = subst (λ (w : Option Order). IfSome w (HasPlan air.plans)) wants n.next in
    record {
      at = record { net = done.net; plans = done.plans; centre = placed-same s everyone air.plans all s.wanted n.agree n.next ∙ done.centre; knows = done.knows; some = done.some };
      agree = n.agree;
      planned = subst (λ (c : Centre). All (HasPlan air.plans) c.orders) (sym is) (All-cons (HasPlan air.plans) one s.orders has n.planned);
      next = subst (λ (c : Centre). IfSome c.wanted (HasPlan air.plans)) (sym is) tt;
      orders = ap (λ (c : Centre). c.orders) is ∙ ap (λ (list : List Order). one ∷ list) n.orders;
      count = where-some (λ list. order_count o list) (late_of o acts) (made_in o (now_of o (steps_by o acts)) acts Places) (known step.Centre acts) (λ (mark : Mark). step.Places)
          (known-some o acts ideal n.at marked) ∙ ap (λ (k : ℕ). k + 1) n.count ∙ omega arith;
      reached = reached-more o step.Centre acts Places reach (known_in air) n.reached done.knows;
      within = le-max_right reach (known_in air);
    }

-- a plan that it did not know
last-past : (found : Option Plan) (edition : EditionNo) (plan : Plan) (test : Bool) → (plan.edition.0 == edition.0) ≡ test → found ≡ None → plan.edition.0 < edition.0
    → first_or found edition plan ≡ None
last-past found edition plan true is none past = absurd (omega (arith, eqb-true _ _ is, past))
last-past found edition plan false is none past = ap (λ (p : Option Plan). first_or p edition plan) none ∙ ap (λ (b : Bool). if b then Some plan else None) is

newest-past : (all : List Plan) (edition : EditionNo) → StartsEmpty all → (newest_of all).0 < edition.0 → plan_of all edition ≡ None
newest-past [] edition starts past = refl
newest-past (plan ∷ []) edition starts past = last-past None edition plan (plan.edition.0 == edition.0) refl refl past
newest-past (plan ∷ before ∷ rest) edition starts past =
    last-past (plan_of (before ∷ rest) edition) edition plan (plan.edition.0 == edition.0) refl (newest-past (before ∷ rest) edition starts.1 (omega (arith, starts.0, past))) past

first-itself : (found : Option Plan) (plan : Plan) (test : Bool) → (plan.edition.0 == plan.edition.0) ≡ test → found ≡ None → first_or found plan.edition plan ≡ Some plan
first-itself found plan true is none = ap (λ (p : Option Plan). first_or p plan.edition plan) none ∙ ap (λ (b : Bool). if b then Some plan else None) is
first-itself found plan false is none = absurd (grind (arith, nat_tests, is))

-- the newest is the plan of its edition
pub newest-own : (plan : Plan) (earlier : List Plan) → StartsEmpty (plan ∷ earlier) → plan_of (plan ∷ earlier) plan.edition ≡ Some plan
newest-own plan [] starts = first-itself None plan (plan.edition.0 == plan.edition.0) refl refl
newest-own plan (before ∷ rest) starts =
    first-itself (plan_of (before ∷ rest) plan.edition) plan (plan.edition.0 == plan.edition.0) refl (newest-past (before ∷ rest) plan.edition starts.1 starts.0)

same-edition : (a b : EditionNo) → a.0 ≡ b.0 → a ≡ b
same-edition a b is = ap (λ (n : ℕ). record { 0 = n }) is

agree-first : (all : List Plan) (edition : EditionNo) (plan : Plan) (found : Option Plan) (test : Bool) → (plan.edition.0 == edition.0) ≡ test → (IsSome found → plan_of all edition ≡ found)
    → plan_of all plan.edition ≡ Some plan → IsSome (first_or found edition plan) → plan_of all edition ≡ first_or found edition plan
agree-first all edition plan (Some own) test is agree newest some = agree refl
agree-first all edition plan None true is agree newest some =
    ap (λ (e : EditionNo). plan_of all e) (sym (same-edition plan.edition edition (eqb-true _ _ is))) ∙ newest ∙ sym (ap (λ (b : Bool). if b then Some plan else None) is)
agree-first all edition plan None false is agree newest some = absurd (cc (subst (λ (b : Bool). IsSome (if b then Some plan else None)) is some))

-- it learns of the newest
pub near-learns : (o : Opening) (acts : List Act) (air : ApartAir) (all : List Plan) (placed : List Order) (reach : ℕ) (plan : Plan) → plan_of all plan.edition ≡ Some plan
    → IsNear o acts air all placed reach → IsNear o acts (having_apart air (Install plan)) all placed (max reach (known_in (having_apart air (Install plan))))
near-learns o acts air all placed reach plan newest n = record {
  at = n.at;
  agree = λ edition some. agree-first all edition plan (plan_of air.plans edition) (plan.edition.0 == edition.0) refl (n.agree edition) newest some;
  planned = All-weaker (HasPlan air.plans) (HasPlan (plan ∷ air.plans)) (λ (one : Order) has. still plan air.plans (edition_ordered one) has) air.centre.orders n.planned;
  next = if-some-still plan air.plans air.centre.wanted n.next;
  orders = n.orders;
  count = n.count;
  reached = reached-still (reached o step.Centre acts) reach (known_in air) n.reached;
  within = le-max_right reach (known_in air);
}

-- a plan joins its journal
pub near-installed : (o : Opening) (acts : List Act) (air : ApartAir) (all : List Plan) (placed : List Order) (reach : ℕ) (plan : Plan) → IsNear o acts air all placed reach
    → IsNear o (Installs plan ∷ acts) air (plan ∷ all) placed reach
near-installed o acts air all placed reach plan n =
    let done = (installs o.net o acts (with_plans air all) plan n.at).stands in
    record {
      at = done;
      agree = λ edition some. plan-stays plan all edition (has-all air.plans all edition n.agree some) ∙ n.agree edition some;
      planned = n.planned;
      next = n.next;
      orders = n.orders;
      count = n.count;
      reached = max-le n.reached (omega (arith, done.knows, n.within));
      within = n.within;
    }

-- the orders from which it restarts: with the one that it wanted, or without it
abbrev pub once_kept : List Order → Option Order → List Order
once_kept placed None = placed
once_kept placed (Some one) = one ∷ placed

abbrev pub is_kept : Option Order → Bool
is_kept None = false
is_kept (Some one) = true

-- where one is kept, it was wanted
abbrev pub WasWanted : ApartAir → Option Order → Type 0
WasWanted air None = Unit {0}
WasWanted air (Some one) = air.centre.wanted ≡ Some one

kept-are : (o : Opening) (acts : List Act) (air : ApartAir) (all : List Plan) (placed : List Order) (reach : ℕ) (kept : Option Order) → WasWanted air kept → IsNear o acts air all placed reach
    → orders_kept air.centre (is_kept kept) ≡ once_kept placed kept
kept-are o acts air all placed reach None was n = n.orders
kept-are o acts air all placed reach (Some one) was n = ap (λ (w : Option Order). with_wanted w air.centre.orders) was ∙ ap (λ (list : List Order). one ∷ list) n.orders

kept-planned : (o : Opening) (acts : List Act) (air : ApartAir) (all : List Plan) (placed : List Order) (reach : ℕ) (kept : Option Order) → IsNear o acts air all placed reach
    → All (HasPlan air.plans) (orders_kept air.centre (is_kept kept))
kept-planned o acts air all placed reach None n = n.planned
kept-planned o acts air all placed reach (Some one) n = joined-planned air.plans air.centre.wanted air.centre.orders n.planned n.next

kept-count : (o : Opening) (acts : List Act) (placed : List Order) (kept : Option Order) → order_count o (steps_by o acts) ≡ length placed
    → order_count o (steps_by o (Restarts (is_kept kept) ∷ acts)) ≡ length (once_kept placed kept)
kept-count o acts placed None count = count
kept-count o acts placed (Some one) count = ap (λ (k : ℕ). k + 1) count ∙ omega arith

-- it restarts within its process
pub near-restarts : (o : Opening) (acts : List Act) (air : ApartAir) (all : List Plan) (placed : List Order) (reach : ℕ) (kept : Option Order) → WasWanted air kept → IsNear o acts air all placed reach
    → IsNear o (Restarts (is_kept kept) ∷ acts) (going_apart (having_apart air (RestartCentre (is_kept kept))) None) all (once_kept placed kept)
    (max reach (known_in (going_apart (having_apart air (RestartCentre (is_kept kept))) None)))
near-restarts o acts air all placed reach kept was n =
    let put = orders_kept air.centre (is_kept kept) in
    let done = (restarts o.net o acts (with_plans air all) (is_kept kept) n.at).stands in
    let planned = kept-planned o acts air all placed reach kept n in
    record {
      at = record { net = done.net; plans = done.plans; centre = begin-same (terminals air.opening) air.plans all put n.agree planned ∙ done.centre; knows = done.knows; some = done.some };
      agree = n.agree;
      planned = planned;
      next = tt;
      orders = kept-are o acts air all placed reach kept was n;
      count = kept-count o acts placed kept n.count;
      reached = reached-more o step.Centre acts (Restarts (is_kept kept)) reach 0 n.reached done.knows;
      within = le-max_right reach 0;
    }

-- an opening in this network
abbrev in_net : Net → Opening
in_net net = record { net = net; plans = []; orders = [] }

-- a new process opens over the journal
pub near-opens : (o : Opening) (acts : List Act) (air : ApartAir) (all : List Plan) (placed : List Order) (reach : ℕ) (kept : Option Order) → WasWanted air kept → IsNear o acts air all placed reach
    → IsNear o (Restarts (is_kept kept) ∷ acts) (apart_at_start (record { net = o.net; plans = all; orders = once_kept placed kept })) all (once_kept placed kept)
    (max reach (known_in (apart_at_start (record { net = o.net; plans = all; orders = once_kept placed kept }))))
near-opens o acts air all placed reach kept was n =
    let put = orders_kept air.centre (is_kept kept) in
    let done = (restarts o.net o acts (with_plans air all) (is_kept kept) n.at).stands in
    let same = kept-are o acts air all placed reach kept was n in
    record {
      at = record {
        net = refl;
        plans = done.plans;
        centre = ap (λ (net : Net). beginning (terminals (in_net net)) all (once_kept placed kept)) (sym n.at.net)
            ∙ ap (λ (list : List Order). beginning (terminals air.opening) all list) (sym same) ∙ done.centre;
        knows = done.knows;
        some = λ marked. absurd (cc marked);
      };
      agree = λ edition some. refl;
      planned = subst (λ (list : List Order). All (HasPlan all) list) same
          (All-weaker (HasPlan air.plans) (HasPlan all) (λ (one : Order) has. has-all air.plans all (edition_ordered one) n.agree has) put (kept-planned o acts air all placed reach kept n));
      next = tt;
      orders = refl;
      count = kept-count o acts placed kept n.count;
      reached = reached-more o step.Centre acts (Restarts (is_kept kept)) reach 0 n.reached done.knows;
      within = le-max_right reach 0;
    }

-- as far as a later superframe
pub near-lower : (o : Opening) (acts : List Act) (air : ApartAir) (all : List Plan) (placed : List Order) (reach bound : ℕ) → reach ≤ bound → IsNear o acts air all placed reach
    → IsNear o acts air all placed bound
near-lower o acts air all placed reach bound most n = record {
  at = n.at;
  agree = n.agree;
  planned = n.planned;
  next = n.next;
  orders = n.orders;
  count = n.count;
  reached = omega (arith, n.reached, most);
  within = omega (arith, n.within, most);
}

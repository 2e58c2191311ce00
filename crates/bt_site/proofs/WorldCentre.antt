-- The centre of a world is what the events say.
use Rattle.std.proofs.Common.{◌≡◌, ℕ, ◌<◌, ◌≤◌, ◌==◌, ◌&&◌, ◌||◌, nat_lt, not, Bool, true, false, List, [], ◌∷◌, length, slice_get, All, Option, Some, None, IfSome, refl, sym, ◌∙◌, ap, arith}
use Rattle.std.specs.Prelude.{IsSome}
use Rattle.std.specs.List.{list_any}
use Rattle.std.proofs.Math.Bool.{and_assoc, and-false}
use Rattle.std.proofs.lemmas.List.Elements.{All-head}
use Rattle.bt_frame.specs.declared.numbers.EditionNo.{EditionNo}
use Rattle.bt_frame.specs.declared.numbers.Mark.{Mark}
use Rattle.bt_frame.specs.declared.numbers.TermNo.{TermNo}
use Rattle.bt_frame.specs.declared.numbers.TermSet.{TermSet}
use Rattle.bt_net.specs.Network.{IsSound}
use Rattle.bt_demand.specs.declared.plan.Plan.{Plan}
use Rattle.bt_air.specs.declared.order.Order.{Order}
use Rattle.bt_air.specs.declared.order.Order.TheVariants.{Load, Arm}
use Rattle.bt_air.specs.declared.order.Status.{Status}
use Rattle.bt_air.specs.declared.sent.Place.{Place}
use Rattle.bt_air.specs.declared.sent.Place.TheVariants.{Satellite, Centre, Terminal}
use Rattle.bt_air.specs.declared.sent.Aired.{Aired}
use Rattle.bt_air.specs.declared.sent.Aired.TheVariants as sends
use Rattle.bt_air.specs.Editions.{names}
use Rattle.bt_machines.specs.Centre.{State, act_at, known_to, some_missing, is_missing as is_missing_to}
use Rattle.bt_machines.specs.declared.turn.Turn.{Turn as Sight}
use Rattle.bt_machines.specs.Known.{known, later_of}
use Rattle.bt_machines.specs.Last.{last_order, is_load, is_load_numbered}
use Rattle.bt_machines.specs.Terminals.{has, no_terminal, with_terminal, without_terminal}
use Rattle.bt_machines.specs.Turn.{act_of, one_more, waited_with, wanted_by}
use Rattle.bt_site.specs.Centre.{IsCentreSaid, centre}
use Rattle.bt_machines.specs.CentreSteps.{once_heard, once_placed, beginning, needed_by, with_wanted}
use Rattle.bt_site.specs.Event.{Opening, Event, Tick, Turn, Second, Ordered, Deliver, Frame, ResetTerminal, RestartCentre, Install, Happening, Turns, Hears}
use Rattle.bt_site.specs.Fits.{HasPlan, AreStored, IsWorld}
use Rattle.bt_site.specs.World.{mark, plans, wanted, orders, kept, noting, known_now, confirming_by, is_confirmed, asks_by, is_asking, waited, waited_more, terminals, is_missing, is_missing_of, act, sent, log}
use Rattle.bt_machines.specs.Plans.{plan_of, has_burst}
use Rattle.bt_frame.proofs.OneNumber.{numbered}
use Rattle.bt_site.proofs.Anys.{first_ones, any-below, below-true, joined-if, left-if, joined-set, left-set, has-needed}
use Rattle.bt_site.proofs.Banks.{plan-stays, world-planned}
use Rattle.bt_site.proofs.Ranges.{Fits, found-fits, world-fits, stored-before}

-- the last order is a Load
abbrev pub EndsWithLoad : List Order → Type 0
EndsWithLoad (Load command edition ∷ earlier) = Unit {0}
EndsWithLoad _ = ⊥

-- the set has the first terminals that transmit in the edition of the last order, a Load
abbrev pub Needs : List Order → List Plan → ℕ → TermSet → Type 0
Needs (Load command edition ∷ earlier) all n set = (terminal : TermNo) → terminal.0 < 64 → has set terminal ≡ (nat_lt terminal.0 n && has_burst (plan_of all edition) terminal)
Needs _ all n set = Unit {0}

-- the centre is what is said of it
pub record Agrees (placed : List Order) (status : Option Status) (next : Option Order) (turns : ℕ) (confirms asks : TermNo → Bool) (n : ℕ) (all : List Plan) (s : State) : Type 0 where
  pub orders : s.orders ≡ placed
  pub kept : s.kept ≡ status
  pub wanted : s.wanted ≡ next
  pub waited : EndsWithLoad placed → s.waited ≡ turns
  pub confirmed : (terminal : TermNo) → terminal.0 < 64 → has s.confirmed terminal ≡ confirms terminal
  pub asking : (terminal : TermNo) → terminal.0 < 64 → has s.asking terminal ≡ asks terminal
  pub needs : Needs placed all n s.needs

-- one plan more
more-needs : (plan : Plan) (all : List Plan) (placed : List Order) (n : ℕ) (set : TermSet) → All (HasPlan all) placed → Needs placed all n set → Needs placed (plan ∷ all) n set
more-needs plan all [] n set planned needs = tt
more-needs plan all (Arm command edition due ∷ earlier) n set planned needs = tt
more-needs plan all (Load command edition ∷ earlier) n set planned needs =
    let same = plan-stays plan all edition (All-head (HasPlan all) (Load command edition) earlier planned) in
    λ terminal within. needs terminal within ∙ ap (λ (p : Option Plan). nat_lt terminal.0 n && has_burst p terminal) (sym same)

-- who has still to confirm
missing-by : (placed : List Order) (all : List Plan) (n : ℕ) (confirms : TermNo → Bool) (terminal : TermNo) (needs confirmed : TermSet) → terminal.0 < 64
    → has confirmed terminal ≡ confirms terminal → Needs placed all n needs
    → (is_load (last_order placed) && (has needs terminal && not (has confirmed terminal))) ≡ (nat_lt terminal.0 n && is_missing_of placed all (confirms terminal) terminal)
missing-by [] all n confirms terminal needs confirmed within same right = sym (and-false (nat_lt terminal.0 n))
missing-by (Arm command edition due ∷ earlier) all n confirms terminal needs confirmed within same right = sym (and-false (nat_lt terminal.0 n))
missing-by (Load command edition ∷ earlier) all n confirms terminal needs confirmed within same right =
    rw (same, right terminal within) (and_assoc (nat_lt terminal.0 n) (has_burst (plan_of all edition) terminal) (not (confirms terminal)))

missing-same : (placed : List Order) (status : Option Status) (next : Option Order) (turns : ℕ) (confirms asks : TermNo → Bool) (n : ℕ) (all : List Plan) (s : State)
    → Agrees placed status next turns confirms asks n all s → (terminal : TermNo) → terminal.0 < 64
    → is_missing_to s terminal ≡ (nat_lt terminal.0 n && is_missing_of placed all (confirms terminal) terminal)
missing-same placed status next turns confirms asks n all s agrees terminal within =
    ap (λ (list : List Order). is_load (last_order list) && (has s.needs terminal && not (has s.confirmed terminal))) agrees.orders
    ∙ missing-by placed all n confirms terminal s.needs s.confirmed within (agrees.confirmed terminal within) agrees.needs

-- what the centre does, by what it goes by
abbrev sees : (mark : Mark) (target : EditionNo) (lead patience turns : ℕ) (missing : Bool) (found : Option EditionNo) → Sight
sees mark target lead patience turns missing found = record { mark = mark; target = target; lead = lead; patience = patience; waited = turns; some_missing = missing; in_force = found }

acts-by : (mark : Mark) (target : EditionNo) (lead patience before turns : ℕ) (missing : Bool) (found : Option EditionNo) (next : Option Order) (status : Option Status) (placed : List Order)
    → (EndsWithLoad placed → before ≡ turns)
    → act_of (sees mark target lead patience (waited_with before next status (last_order placed)) missing found) next status (last_order placed)
    ≡ act_of (sees mark target lead patience (waited_more next status turns) missing found) next status (last_order placed)
acts-by mark target lead patience before turns missing found (Some order) status placed same = refl
acts-by mark target lead patience before turns missing found None None placed same = refl
acts-by mark target lead patience before turns missing found None (Some status) [] same = refl
acts-by mark target lead patience before turns missing found None (Some status) (Arm command edition due ∷ earlier) same = refl
acts-by mark target lead patience before turns missing found None (Some status) (Load command edition ∷ earlier) same =
    ap (λ (k : ℕ). act_of (sees mark target lead patience (one_more k) missing found) None (Some status) (Some (Load command edition))) (same tt)

-- the turns that are waited
waits-by : (placed : List Order) (next : Option Order) (status : Option Status) (before turns : ℕ) → (EndsWithLoad placed → before ≡ turns) → EndsWithLoad placed
    → waited_with before next status (last_order placed) ≡ waited_more next status turns
waits-by [] next status before turns same ends = absurd ends
waits-by (Arm command edition due ∷ earlier) next status before turns same ends = absurd ends
waits-by (Load command edition ∷ earlier) (Some order) status before turns same ends = same tt
waits-by (Load command edition ∷ earlier) None None before turns same ends = same tt
waits-by (Load command edition ∷ earlier) None (Some status) before turns same ends = ap one_more (same tt)

-- by what is known of sets
module _ (none : (terminal : TermNo) → has no_terminal terminal ≡ false)
    (joined : (terminals : TermSet) (joins terminal : TermNo) → joins.0 < 64 → has (with_terminal terminals joins) terminal ≡ (terminal.0 == joins.0 || has terminals terminal))
    (left : (terminals : TermSet) (leaves terminal : TermNo) → leaves.0 < 64 → terminal.0 < 64
    → has (without_terminal terminals leaves) terminal ≡ (not (terminal.0 == leaves.0) && has terminals terminal))
  where
    needed-right : (order : Order) (earlier : List Order) (all : List Plan) (n : ℕ) → n ≤ 64 → Needs (order ∷ earlier) all n (needed_by (first_ones n) all (Some order))
    needed-right (Load command edition) earlier all n few = λ terminal within. has-needed none joined left (has_burst (plan_of all edition)) n terminal few
    needed-right (Arm command edition due) earlier all n few = tt

    begins-right : (placed : List Order) (all : List Plan) (n : ℕ) → n ≤ 64 → Needs placed all n (needed_by (first_ones n) all (last_order placed))
    begins-right [] all n few = tt
    begins-right (order ∷ earlier) all n few = needed-right order earlier all n few

    begun : (placed : List Order) (all : List Plan) (n : ℕ) → n ≤ 64 → Agrees placed None None 0 (λ terminal. false) (λ terminal. false) n all (beginning (first_ones n) all placed)
    begun placed all n few = record {
      orders = refl;
      kept = refl;
      wanted = refl;
      waited = λ ends. refl;
      confirmed = λ terminal within. none terminal;
      asking = λ terminal within. none terminal;
      needs = begins-right placed all n few;
    }

    -- an order is placed
    placed-agrees : (placed : List Order) (status : Option Status) (next : Option Order) (turns : ℕ) (confirms asks : TermNo → Bool) (n : ℕ) (all : List Plan) (s : State) → n ≤ 64 → IsSome next
        → Agrees placed status next turns confirms asks n all s → Agrees (with_wanted next placed) status None 0 (λ terminal. false) asks n all (once_placed s (first_ones n) all s.wanted)
    placed-agrees placed status None turns confirms asks n all s few some agrees = cc
    placed-agrees placed status (Some order) turns confirms asks n all s few some agrees = rw agrees.wanted (record {
      orders = ap (λ (list : List Order). order ∷ list) agrees.orders;
      kept = agrees.kept;
      wanted = refl;
      waited = λ ends. refl;
      confirmed = λ terminal within. none terminal;
      asking = agrees.asking;
      needs = needed-right order placed all n few;
    })

    -- a message is heard
    heard-agrees : (placed : List Order) (status : Option Status) (next : Option Order) (turns : ℕ) (confirms asks : TermNo → Bool) (n : ℕ) (all : List Plan) (s : State) (now : ℕ) (one : Option Aired)
        → IfSome one Fits → Agrees placed status next turns confirms asks n all s
        → Agrees placed (noting status one) next turns (λ terminal. confirming_by (confirms terminal) placed terminal one)
        (λ terminal. asks_by (asks terminal) (known status placed now) terminal one) n all (once_heard s now one)
    heard-agrees placed status next turns confirms asks n all s now None fits agrees = agrees
    heard-agrees placed status next turns confirms asks n all s now (Some (sends.Status told)) fits agrees = record {
      orders = agrees.orders;
      kept = ap (λ (before : Option Status). Some (later_of before told)) agrees.kept;
      wanted = agrees.wanted;
      waited = agrees.waited;
      confirmed = agrees.confirmed;
      asking = agrees.asking;
      needs = agrees.needs;
    }
    heard-agrees placed status next turns confirms asks n all s now (Some (sends.Confirm from load edition)) fits agrees =
        let few : from.0 < 64 = omega (arith, fits.0.1) in record {
          orders = agrees.orders;
          kept = agrees.kept;
          wanted = agrees.wanted;
          waited = agrees.waited;
          confirmed = λ terminal within.
              joined-if none joined left s.confirmed from terminal (is_load_numbered (last_order s.orders) load) (confirms terminal) few (agrees.confirmed terminal within)
              ∙ ap (λ (list : List Order). from.0 == terminal.0 && is_load_numbered (last_order list) load || confirms terminal) agrees.orders;
          asking = λ terminal within.
              left-if none joined left s.asking from terminal (names (known_to s now) edition) (asks terminal) few within (agrees.asking terminal within)
              ∙ ap (λ (list : List Order). not (from.0 == terminal.0 && names (known s.kept list now) edition) && asks terminal) agrees.orders
              ∙ ap (λ (before : Option Status). not (from.0 == terminal.0 && names (known before placed now) edition) && asks terminal) agrees.kept;
          needs = agrees.needs;
        }
    heard-agrees placed status next turns confirms asks n all s now (Some (sends.Lost from)) fits agrees =
        let few : from.0 < 64 = omega (arith, fits.1) in record {
          orders = agrees.orders;
          kept = agrees.kept;
          wanted = agrees.wanted;
          waited = agrees.waited;
          confirmed = λ terminal within. left-set none joined left s.confirmed from terminal (confirms terminal) few within (agrees.confirmed terminal within);
          asking = λ terminal within. joined-set none joined left s.asking from terminal (asks terminal) few (agrees.asking terminal within);
          needs = agrees.needs;
        }
    heard-agrees placed status next turns confirms asks n all s now (Some (sends.Load command edition)) fits agrees = agrees
    heard-agrees placed status next turns confirms asks n all s now (Some (sends.Arm command edition due)) fits agrees = agrees
    heard-agrees placed status next turns confirms asks n all s now (Some (sends.PlanFor to load edition)) fits agrees = agrees
    heard-agrees placed status next turns confirms asks n all s now (Some (sends.Reference superframe in_force announces)) fits agrees = agrees

    -- all of a world
    abbrev pub Says : Opening → List Happening → Type 0
    Says o past = Agrees (orders o past) (kept past) (wanted past) (waited past) (is_confirmed o past) (is_asking o past) (length o.net.terminals) (plans o past) (centre o past)

    -- what the centre does in a turn
    acts-same : (o : Opening) (past : List Happening) (target : EditionNo) → length o.net.terminals ≤ 64 → Says o past
        → act_at (centre o past) (record { 0 = mark o past }) target o.net.lead o.net.patience ≡ act o past target
    acts-same o past target few says =
        let s = centre o past in
        let n = length o.net.terminals in
        let now : Mark = record { 0 = mark o past } in
        let missing : some_missing s ≡ list_any (is_missing o past) (terminals o) =
        any-below (λ (number : ℕ). is_missing_to s (record { 0 = number })) (is_missing o past) n few
        (λ k within. missing-same (orders o past) (kept past) (wanted past) (waited past) (is_confirmed o past) (is_asking o past) n (plans o past) s says (numbered k) within) in
        ap (λ (b : Bool). act_of (sees now target o.net.lead o.net.patience (waited_with s.waited s.wanted s.kept (last_order s.orders)) b (known s.kept s.orders (mark o past))) s.wanted s.kept (last_order s.orders)) missing
        ∙ ap (λ (list : List Order). act_of (sees now target o.net.lead o.net.patience (waited_with s.waited s.wanted s.kept (last_order list)) (list_any (is_missing o past) (terminals o)) (known s.kept list (mark o past))) s.wanted s.kept (last_order list)) says.orders
        ∙ ap (λ (status : Option Status). act_of (sees now target o.net.lead o.net.patience (waited_with s.waited s.wanted status (last_order (orders o past))) (list_any (is_missing o past) (terminals o)) (known status (orders o past) (mark o past))) s.wanted status (last_order (orders o past))) says.kept
        ∙ ap (λ (next : Option Order). act_of (sees now target o.net.lead o.net.patience (waited_with s.waited next (kept past) (last_order (orders o past))) (list_any (is_missing o past) (terminals o)) (known_now o past)) next (kept past) (last_order (orders o past))) says.wanted
        ∙ acts-by now target o.net.lead o.net.patience s.waited (waited past) (list_any (is_missing o past) (terminals o)) (known_now o past) (wanted past) (kept past) (orders o past) says.waited

    turn-says : (o : Opening) (past : List Happening) (target : EditionNo) → length o.net.terminals ≤ 64 → Says o past → Says o (Turns target (act o past target) ∷ past)
    turn-says o past target few says =
        let s = centre o past in record {
          orders = says.orders;
          kept = says.kept;
          wanted = ap wanted_by (acts-same o past target few says);
          waited = λ ends.
              ap (λ (list : List Order). waited_with s.waited s.wanted s.kept (last_order list)) says.orders
              ∙ ap (λ (status : Option Status). waited_with s.waited s.wanted status (last_order (orders o past))) says.kept
              ∙ ap (λ (next : Option Order). waited_with s.waited next (kept past) (last_order (orders o past))) says.wanted
              ∙ waits-by (orders o past) (wanted past) (kept past) s.waited (waited past) says.waited ends;
          confirmed = says.confirmed;
          asking = says.asking;
          needs = says.needs;
        }

    -- a delivery
    delivery-says : (o : Opening) (past : List Happening) (one : Option Aired) (place : Place) → IfSome one Fits → Says o past → Says o (Hears one place ∷ past)
    delivery-says o past one Satellite fits says = says
    delivery-says o past one (Terminal to) fits says = says
    delivery-says o past one Centre fits says =
        heard-agrees (orders o past) (kept past) (wanted past) (waited past) (is_confirmed o past) (is_asking o past) (length o.net.terminals) (plans o past) (centre o past) (mark o past) one fits says

    -- every world
    pub world-says : (o : Opening) (events : List Event) → IsSound o.net → IsWorld o events → AreStored o (log o events) → Says o (log o events)
    world-says o [] sound opening stored = begun o.orders o.plans (length o.net.terminals) sound.terminals.count.1
    world-says o (Tick ∷ earlier) sound world stored = world-says o earlier sound world.1 (stored-before o (log o earlier) Tick stored)
    world-says o (Turn target ∷ earlier) sound world stored =
        turn-says o (log o earlier) target sound.terminals.count.1 (world-says o earlier sound world.1 (stored-before o (log o earlier) (Turn target) stored))
    world-says o (Second in_force ∷ earlier) sound world stored = world-says o earlier sound world.1 (stored-before o (log o earlier) (Second in_force) stored)
    world-says o (Ordered ∷ earlier) sound world stored =
        let past = log o earlier in
        placed-agrees (orders o past) (kept past) (wanted past) (waited past) (is_confirmed o past) (is_asking o past) (length o.net.terminals) (plans o past) (centre o past)
        sound.terminals.count.1 world.0 (world-says o earlier sound world.1 (stored-before o past Ordered stored))
    world-says o (Deliver number place ∷ earlier) sound world stored =
        let past = log o earlier in
        let before = stored-before o past (Deliver number place) stored in
        delivery-says o past (slice_get (sent o past) number) place (found-fits (sent o past) number (world-fits o earlier sound world.1 before).each) (world-says o earlier sound world.1 before)
    world-says o (Frame ∷ earlier) sound world stored = world-says o earlier sound world.1 (stored-before o (log o earlier) Frame stored)
    world-says o (ResetTerminal terminal ∷ earlier) sound world stored = world-says o earlier sound world.1 (stored-before o (log o earlier) (ResetTerminal terminal) stored)
    world-says o (RestartCentre true ∷ earlier) sound world stored =
        let past = log o earlier in
        let says = world-says o earlier sound world.1 (stored-before o past (RestartCentre true) stored) in
        rw (says.wanted, says.orders) (begun (with_wanted (wanted past) (orders o past)) (plans o past) (length o.net.terminals) sound.terminals.count.1)
    world-says o (RestartCentre false ∷ earlier) sound world stored =
        let past = log o earlier in
        let says = world-says o earlier sound world.1 (stored-before o past (RestartCentre false) stored) in
        rw says.orders (begun (orders o past) (plans o past) (length o.net.terminals) sound.terminals.count.1)
    world-says o (Install plan ∷ earlier) sound world stored =
        let past = log o earlier in
        let says = world-says o earlier sound world.1 (stored-before o past (Install plan) stored) in
        record {
          orders = says.orders;
          kept = says.kept;
          wanted = says.wanted;
          waited = says.waited;
          confirmed = says.confirmed;
          asking = says.asking;
          needs = more-needs plan (plans o past) (orders o past) (length o.net.terminals) (centre o past).needs (world-planned o earlier world.1).placed says.needs;
        }

    -- what a network's terminals are, and what the centre does
    pub centre-said : (o : Opening) (events : List Event) → IsSound o.net → IsWorld o events → AreStored o (log o events) → IsCentreSaid o (log o events) (centre o (log o events))
    centre-said o events sound world stored =
        let past = log o events in
        let says = world-says o events sound world stored in
        let n = length o.net.terminals in
        let few : n ≤ 64 = sound.terminals.count.1 in
        record {
          orders = says.orders;
          kept = says.kept;
          wanted = says.wanted;
          confirmed = λ terminal within. says.confirmed terminal (omega (arith, few));
          asking = λ terminal within. says.asking terminal (omega (arith, few));
          missing = λ terminal within.
              missing-same (orders o past) (kept past) (wanted past) (waited past) (is_confirmed o past) (is_asking o past) n (plans o past) (centre o past) says terminal (omega (arith, few))
              ∙ ap (λ (b : Bool). b && is_missing o past terminal) (below-true terminal.0 n within);
          acts = λ target. acts-same o past target few says;
        }

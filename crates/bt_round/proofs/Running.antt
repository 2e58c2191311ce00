-- The air after an event: still a world, and each delivery that waits can come.
use Rattle.std.proofs.Common.{◌≡◌, ℕ, suc, ◌+◌, ◌<◌, ◌||◌, Bool, List, [], ◌∷◌, ◌++◌, length, reverse, All, Option, Some, None, IfSome, IsSome, refl, sym, ap, ◌∙◌, subst, arith, append_assoc, drop}
use Rattle.std.proofs.lemmas.List.{drop_at, length-append, reverse-append}
use Rattle.std.proofs.lemmas.List.Folds.{list_any-append}
use Rattle.std.specs.List.{list_any}
use Rattle.std.proofs.lemmas.List.Elements.{All-append, All-cons, All-head, All-map, All-nil, All-tail, All-weaker}
use Rattle.bt_frame.specs.declared.numbers.TermNo.{TermNo}
use Rattle.bt_net.specs.Network.{Net}
use Rattle.bt_air.specs.declared.sent.Place.{Place}
use Rattle.bt_air.specs.declared.sent.Place.TheVariants.{Satellite, Centre, Terminal}
use Rattle.bt_demand.specs.declared.plan.Plan.{Plan}
use Rattle.bt_air.specs.declared.order.Status.{Status}
use Rattle.bt_air.specs.declared.sent.Aired.{Aired}
use Rattle.bt_air.specs.declared.sent.Aired.TheVariants as sends
use Rattle.bt_air.specs.Sent.{sent_as}
use Rattle.bt_frame.specs.declared.numbers.EditionNo.{EditionNo}
use Rattle.bt_site.specs.Event.{Opening, Event, Happening}
use Rattle.bt_site.specs.Fits.{IsPlace, IsWorld, Meets}
use Rattle.bt_machines.specs.Plans.{plan_of}
use Rattle.bt_world.specs.Life.{Life, having_had, past_of}
use Rattle.bt_site.specs.World.{comes_to, is_told, log, plans, sent, tells, terminals}
use Rattle.bt_round.specs.Simulated.{SimulatedAir, happened, having, sends_text, sent_by, sent_count, sent_in, sent_lines}
use Rattle.bt_round.specs.Waiting.{deliveries, deliveries_of, receivers}
use Rattle.bt_round.specs.Worker.{CanHear, IsHeard, IsPlanned, IsRunning, NamesOwn, numbered}
use Rattle.bt_round.proofs.Sending.{event-names, terminals-own}

pub last-first : (events : List Event) (event : Event) → reverse (events ++ event ∷ []) ≡ event ∷ reverse events
last-first events event = reverse-append events (event ∷ [])

-- what the events came to, with one more
pub past-having : (life : Life) (event : Event) → past_of (having_had life event) ≡ comes_to life.opening (past_of life) event ∷ past_of life
past-having life event = ap (λ (list : List Event). log life.opening list) (last-first life.events event)

-- the messages, with those of one event more
pub sent-having : (air : SimulatedAir) (event : Event) → sent_in (having air event) ≡ sent_in air ++ sent_by air event
sent-having air event = ap (λ (past : List Happening). sent air.life.opening past) (past-having air.life event)

-- these are those from the number on that the next message had before
pub sent-since : (air : SimulatedAir) (event : Event) → drop (sent_count air) (sent_in (having air event)) ≡ sent_by air event
sent-since air event = ap (λ (l : List Aired). drop (sent_count air) l) (sent-having air event) ∙ drop_at (sent_in air) (sent_by air event) (sent_count air) refl

-- how many messages there are after an event
pub count-having : (air : SimulatedAir) (event : Event) → sent_count (having air event) ≡ sent_count air + length (sent_by air event)
count-having air event = ap length (sent-having air event) ∙ length-append (sent_in air) (sent_by air event)

receivers-own : (o : Opening) (one : Aired) → NamesOwn o.net one → All (IsPlace o) (receivers (terminals o) (sent_as one))
receivers-own o (sends.Load command edition) names = All-cons (IsPlace o) Satellite [] tt (All-nil (IsPlace o))
receivers-own o (sends.Arm command edition due) names = All-cons (IsPlace o) Satellite [] tt (All-nil (IsPlace o))
receivers-own o (sends.Status status) names = All-cons (IsPlace o) Centre [] tt (All-nil (IsPlace o))
receivers-own o (sends.PlanFor to load edition) names = All-cons (IsPlace o) (Terminal to) [] names (All-nil (IsPlace o))
receivers-own o (sends.Confirm from load edition) names = All-cons (IsPlace o) Centre [] tt (All-nil (IsPlace o))
receivers-own o (sends.Reference superframe in_force next) names = All-map (IsPlace o) (λ (terminal : TermNo). Terminal terminal) (terminals o) (terminals-own o)
receivers-own o (sends.Lost from) names = All-cons (IsPlace o) Centre [] tt (All-nil (IsPlace o))

-- the delivery is of a message before this number, at a place of the network
record IsBefore (o : Opening) (end : ℕ) (delivery : ℕ × Place) : Type 0 where
  pub number : delivery.0 < end
  pub place : IsPlace o delivery.1

deliveries-own : (o : Opening) (first : ℕ) (xs : List Aired) → All (NamesOwn o.net) xs → All (IsBefore o (first + length xs)) (deliveries (terminals o) first xs)
deliveries-own o first [] names = All-nil (IsBefore o (first + 0))
deliveries-own o first (one ∷ more) names =
    let end : first + 1 + length more ≡ first + suc (length more) = omega arith in
    let small : first < first + suc (length more) = omega arith in
    All-append (IsBefore o (first + suc (length more))) (deliveries_of first (receivers (terminals o) (sent_as one))) (deliveries (terminals o) (first + 1) more)
    (All-map (IsBefore o (first + suc (length more))) (λ (place : Place). (first, place)) (receivers (terminals o) (sent_as one))
    (All-weaker (IsPlace o) (λ (place : Place). IsBefore o (first + suc (length more)) (first, place)) (λ place own. record { number = small; place = own })
    (receivers (terminals o) (sent_as one)) (receivers-own o one (All-head (NamesOwn o.net) one more names))))
    (subst (λ (n : ℕ). All (IsBefore o n) (deliveries (terminals o) (first + 1) more)) end
    (deliveries-own o (first + 1) more (All-tail (NamesOwn o.net) one more names)))

-- the world goes on
pub world-having : (life : Life) (event : Event) → IsWorld life.opening (reverse life.events) → Meets life.opening (past_of life) event
    → IsWorld life.opening (reverse (life.events ++ event ∷ []))
world-having life event world meets =
    let now : IsWorld life.opening (event ∷ reverse life.events) = (meets, world) in
    subst (λ (list : List Event). IsWorld life.opening list) (sym (last-first life.events event)) now

-- what could come before can come after
can-still : (life : Life) (event : Event) (waiting : List (ℕ × Place)) → All (CanHear life) waiting → All (CanHear (having_had life event)) waiting
can-still life event waiting all =
    All-weaker (CanHear life) (CanHear (having_had life event))
    (λ delivery can.
    let size = count-having (record { life = life; waiting = []; back = None; standby = None }) event in
    record { sent = omega (arith, size, can.sent); place = can.place })
    waiting all

-- what holds of an edition to which the centre goes back holds of one that it names, where this follows
if-weaker : {A : Type 0} (P Q : A → Type 0) → ((a : A) → P a → Q a) → (one : Option A) → IfSome one P → IfSome one Q
if-weaker P Q weaker None holds = tt
if-weaker P Q weaker (Some a) holds = weaker a holds

-- whatever happens, an edition that has a plan keeps it
abbrev pub PlansStay : Type 0
PlansStay = (o : Opening) (past : List Happening) (happening : Happening) (edition : EditionNo) → IsSome (plan_of (plans o past) edition)
    → plan_of (plans o (happening ∷ past)) edition ≡ plan_of (plans o past) edition

planned-still : PlansStay → (life : Life) (event : Event) (edition : EditionNo) → IsPlanned life edition → IsPlanned (having_had life event) edition
planned-still stays life event edition planned =
    subst (λ (past : List Happening). IsSome (plan_of (plans life.opening past) edition)) (sym (past-having life event))
    (subst (λ (plan : Option Plan). IsSome plan) (sym (stays life.opening (past_of life) (comes_to life.opening (past_of life) event) edition planned)) planned)

-- a status that was sent stays sent
heard-still : (air : SimulatedAir) (event : Event) (status : Status) → IsHeard air.life status → IsHeard (having_had air.life event) status
heard-still air event status heard =
    ap (λ (all : List Aired). is_told all status.mark.0 status.fore) (sent-having air event)
    ∙ list_any-append (tells status.mark.0 status.fore) (sent_in air) (sent_by air event)
    ∙ ap (λ (b : Bool). b || list_any (tells status.mark.0 status.fore) (sent_by air event)) heard

-- an event happened, and what it sent waits
pub running-having : PlansStay → (air : SimulatedAir) (event : Event) → IsRunning air → Meets air.life.opening (happened air) event → IsRunning (having air event)
running-having stays air event running meets = record {
  world = world-having air.life event running.world meets;
  waiting = All-append (CanHear (having_had air.life event)) air.waiting (deliveries (terminals air.life.opening) (sent_count air) (sent_by air event))
      (can-still air.life event air.waiting running.waiting)
      (All-weaker (IsBefore air.life.opening (sent_count air + length (sent_by air event))) (CanHear (having_had air.life event))
      (λ delivery before.
      let size = count-having air event in
      record { sent = omega (arith, size, before.number); place = before.place })
      (deliveries (terminals air.life.opening) (sent_count air) (sent_by air event))
      (deliveries-own air.life.opening (sent_count air) (sent_by air event) (event-names air.life.opening (happened air) event meets)));
  back = if-weaker (IsPlanned air.life) (IsPlanned (having_had air.life event)) (planned-still stays air.life event) air.back running.back;
  standby = if-weaker (IsHeard air.life) (IsHeard (having_had air.life event)) (heard-still air event) air.standby running.standby;
}

-- one step of a world: what it keeps before and after, and who waits
pub record Steps (air : SimulatedAir) (life now : Life) (waiting after : List (ℕ × Place)) (going_back : Option EditionNo) (standby : Option Status) (event : Event) : Type 0 where
  pub began : record { life = life; waiting = waiting; back = going_back; standby = standby } ≡ air
  pub stepped : now ≡ having_had life event
  pub joined : after ≡ waiting ++ deliveries (terminals life.opening) (length (sent life.opening (past_of life))) (drop (length (sent life.opening (past_of life))) (sent now.opening (past_of now)))

-- the parts after a step are those of the air that has had the event
pub steps-to : (air : SimulatedAir) (life now : Life) (waiting after : List (ℕ × Place)) (going_back : Option EditionNo) (standby : Option Status) (event : Event) → Steps air life now waiting after going_back standby event
    → record { life = now; waiting = after; back = going_back; standby = standby } ≡ having air event
steps-to air life now waiting after going_back standby event step =
    let old : SimulatedAir = record { life = life; waiting = waiting; back = going_back; standby = standby } in
    let since : drop (sent_count old) (sent now.opening (past_of now)) ≡ sent_by old event =
    ap (λ (l : Life). drop (sent_count old) (sent l.opening (past_of l))) step.stepped ∙ sent-since old event in
    let joined : after ≡ (having old event).waiting =
    step.joined ∙ ap (λ (l : List Aired). waiting ++ deliveries (terminals life.opening) (sent_count old) l) since in
    let lives : record { life = now; waiting = after; back = going_back; standby = standby } ≡ record { life = having_had life event; waiting = after; back = going_back; standby = standby } =
    ap (λ (l : Life). record { life = l; waiting = after; back = going_back; standby = standby }) step.stepped in
    lives ∙ ap (λ (w : List (ℕ × Place)). record { life = having_had life event; waiting = w; back = going_back; standby = standby }) joined
    ∙ ap (λ (a : SimulatedAir). having a event) step.began

-- by the numbers that are counted
pub counted-steps : (air : SimulatedAir) (life now : Life) (waiting after : List (ℕ × Place)) (going_back : Option EditionNo) (standby : Option Status) (event : Event) (net : Net) (count first : ℕ)
    → record { life = life; waiting = waiting; back = going_back; standby = standby } ≡ air → now ≡ having_had life event → air.life.opening.net ≡ net → count ≡ length net.terminals
    → first ≡ length (sent life.opening (past_of life)) → after ≡ waiting ++ deliveries (numbered count) first (drop first (sent now.opening (past_of now)))
    → Steps air life now waiting after going_back standby event
counted-steps air life now waiting after going_back standby event net count first before step same counted numbered_from added =
    let own : life.opening.net ≡ net = ap (λ (a : SimulatedAir). a.life.opening.net) before ∙ same in
    let all : numbered count ≡ terminals life.opening = ap numbered (counted ∙ ap (λ (n : Net). length n.terminals) (sym own)) in
    record {
      began = before;
      stepped = step;
      joined = added
          ∙ ap (λ (l : List TermNo). waiting ++ deliveries l first (drop first (sent now.opening (past_of now)))) all
          ∙ ap (λ (n : ℕ). waiting ++ deliveries (terminals life.opening) n (drop n (sent now.opening (past_of now)))) numbered_from;
    }

pub running-now : PlansStay → (air : SimulatedAir) (life now : Life) (waiting after : List (ℕ × Place)) (going_back : Option EditionNo) (standby : Option Status) (event : Event)
    → Steps air life now waiting after going_back standby event → IsRunning (record { life = life; waiting = waiting; back = going_back; standby = standby }) → Meets air.life.opening (happened air) event
    → IsRunning (record { life = now; waiting = after; back = going_back; standby = standby })
running-now stays air life now waiting after going_back standby event step running meets =
    subst IsRunning (sym (steps-to air life now waiting after going_back standby event step)) (running-having stays air event (subst IsRunning step.began running) meets)

-- the lines of the messages that an event sent are those from the number on that the next message had before
sent-told : (net : Net) (air now : SimulatedAir) (event : Event) (first : ℕ) → now ≡ having air event → first ≡ sent_count air
    → sent_lines net first (drop first (sent_in now)) ≡ sends_text net air event
sent-told net air now event first had counted =
    ap (λ (n : ℕ). sent_lines net n (drop n (sent_in now))) counted
    ∙ ap (λ (a : SimulatedAir). sent_lines net (sent_count air) (drop (sent_count air) (sent_in a))) had
    ∙ ap (λ (l : List Aired). sent_lines net (sent_count air) l) (sent-since air event)

-- the text of an event
pub sent-text : (net : Net) (air now : SimulatedAir) (event : Event) (first : ℕ) (text after : List ℕ) → now ≡ having air event → first ≡ sent_count air
    → after ≡ text ++ sent_lines net first (drop first (sent_in now)) → after ≡ text ++ sends_text net air event
sent-text net air now event first text after had counted added = added ∙ ap (λ (l : List ℕ). text ++ l) (sent-told net air now event first had counted)

-- the text of an event, whose messages stand behind its own line
pub told : (net : Net) (air now : SimulatedAir) (event : Event) (first : ℕ) (text middle after heading : List ℕ) → now ≡ having air event → first ≡ sent_count air
    → middle ≡ text ++ heading → after ≡ middle ++ sent_lines net first (drop first (sent_in now)) → after ≡ text ++ (heading ++ sends_text net air event)
told net air now event first text middle after heading had counted headed added =
    sent-text net air now event first middle after had counted added ∙ ap (λ (l : List ℕ). l ++ sends_text net air event) headed
    ∙ append_assoc text heading (sends_text net air event)

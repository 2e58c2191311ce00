-- What the centre is and says with an act is what the site is and says with it.
use Rattle.std.proofs.Common.{◌≡◌, ℕ, zero, suc, ◌+◌, ◌<◌, ◌≤◌, max, if◌then◌else◌, Bool, true, false, List, [], ◌∷◌, ◌++◌, map, Option, refl, sym, ap, ◌∙◌, subst, arith}
use Rattle.std.specs.Prelude.{nat_le, nat_lt}
use Rattle.std.proofs.Math.Nat.{le-max_left}
use Rattle.std.proofs.lemmas.Bool.Decides.{nat_tests}
use Rattle.bt_frame.specs.declared.numbers.EditionNo.{EditionNo}
use Rattle.bt_frame.specs.declared.numbers.Mark.{Mark}
use Rattle.bt_net.specs.Network.{Net}
use Rattle.bt_demand.specs.declared.plan.Plan.{Plan}
use Rattle.bt_air.specs.declared.message.Message.{Message}
use Rattle.bt_air.specs.declared.sent.Aired.{Aired}
use Rattle.bt_air.specs.Sent.{sent_as}
use Rattle.bt_machines.specs.Centre.{State as Centre, after_turn}
use Rattle.bt_machines.specs.CentreSteps.{beginning, once_placed, with_wanted}
use Rattle.bt_machines.specs.Says.{sent_by_order}
use Rattle.bt_site.specs.Sites.{centre_with, turn_says as says_in_turn}
use Rattle.bt_timeline.specs.Air.{sent_line}
use Rattle.bt_site.specs.Event.{Install, Opening, Ordered, RestartCentre, Turn}
use Rattle.bt_site.specs.World.{terminals}
use Rattle.bt_sites.specs.Late.{now_of}
use Rattle.bt_sites.specs.Sites.{bytes_of, centre_after, plans_after, said_with}
use Rattle.bt_sites.specs.Stamps.{Act, Begun, Hears, Installs, Line, Places, Radio, Restarts, Turns, actor_of, is_same_site, known, late_of, lines_by, made_in, said_if, steps_by, where_known}
use Rattle.bt_sites.specs.Step.{Step}
use Rattle.bt_sites.specs.Step as step
use Rattle.bt_script.specs.Heard.{read_of}
use Rattle.bt_apart.specs.Apart.{ApartAir, apart_at_start, heard_apart, later_mark, noting_apart, said_lines, says_apart}
use Rattle.bt_station.specs.Acts.{heard_as, text_of}
use Rattle.bt_station.proofs.Acts.{if-false, if-true, mark_of, max-first, max-last, read-same}
use Rattle.bt_apart_laws.specs.Acts.{BeginsSome, IsAct, IsCentreAt, known_in, opening_again, printed_with, takes_up}
use Rattle.bt_apart_laws.specs.Processes.{radios}
use Rattle.bt_apart_laws.proofs.Others.{centre-still, known-other, plans-still, where-same, where-some}

-- an opening in this network
abbrev in_net : Net → Opening
in_net net = record { net = net; plans = []; orders = [] }

-- the later of two superframes
pub later-either : (k n : ℕ) (test : Bool) → nat_lt k n ≡ test → (if test then mark_of n else mark_of k) ≡ mark_of (max k n)
later-either k n true is =
    let before : k < n = grind (arith, nat_tests, is) in
    ap mark_of (sym (max-last k n (omega (arith, before))))
later-either k n false is =
    let behind : n ≤ k = grind (arith, nat_tests, is) in
    ap mark_of (sym (max-first k n behind))

-- in the same network, with the same centre, plans and superframe
same-all : {X : Type 0} (f : Net → Centre → List Plan → ℕ → X) (a b : Net) (s t : Centre) (p q : List Plan) (m n : ℕ) → a ≡ b → s ≡ t → p ≡ q → m ≡ n → f a s p m ≡ f b t q n
same-all f a b s t p q m n nets centres plans marks =
    ap (λ (x : Net). f x s p m) nets ∙ ap (λ (x : Centre). f b x p m) centres ∙ ap (λ (x : List Plan). f b t x m) plans ∙ ap (λ (x : ℕ). f b t q x) marks

-- the superframe that it knows, where it knows one
pub known-marked : (o : Opening) (before : List Act) (air : ApartAir) → IsCentreAt o before air → air.marked ≡ true → known step.Centre before ≡ air.mark.0
known-marked o before air at marked = at.knows ∙ if-true air.marked air.mark.0 0 marked

-- the same with what may be known by acts in the place of its own
known-all : {X : Type 0} (f : Net → Centre → List Plan → ℕ → X) (o : Opening) (before : List Act) (air : ApartAir) → IsCentreAt o before air → air.marked ≡ true
    → f air.opening.net air.centre air.plans air.mark.0 ≡ f o.net (centre_after o (steps_by o before)) (plans_after o (steps_by o before)) (known step.Centre before)
known-all f o before air at marked =
    same-all f air.opening.net o.net air.centre (centre_after o (steps_by o before)) air.plans (plans_after o (steps_by o before)) air.mark.0 (known step.Centre before)
    at.net at.centre at.plans (sym (known-marked o before air at marked))

pub known-some : (o : Opening) (before : List Act) (air : ApartAir) → IsCentreAt o before air → air.marked ≡ true → 0 < known step.Centre before
known-some o before air at marked = omega (arith, at.some marked, known-marked o before air at marked)

-- behind each message that is printed stands the line that is said
pub printed : (net : Net) (all : List Plan) (mark : Mark) (first : ℕ) (said : List Aired) → said_lines net all mark first said ≡ printed_with net first said (radios mark.0 all said)
printed net all mark first [] = refl
printed net all mark first (one ∷ more) =
    ap (λ (text : List ℕ). (sent_line net first (sent_as one) ++ text_of (Radio mark.0 (bytes_of all one))) ++ text) (printed net all mark (first + 1) more)

-- what it says with such a step
where-said : (o : Opening) (steps : List Step) (k : ℕ) (make : Mark → Step) → 0 < k
    → map (λ (bytes : List ℕ). Radio k bytes) (said_if o steps (where_known k make)) ≡ map (λ (bytes : List ℕ). Radio k bytes) (said_with o steps (make (mark_of k)))
where-said o steps zero make some = absurd (omega (arith, some))
where-said o steps (suc k) make some = refl

-- its turn
abbrev turning : EditionNo → Mark → Step
turning target mark = step.Turns mark target

pub turn-lines : (o : Opening) (before : List Act) (air : ApartAir) (target : EditionNo) → IsCentreAt o before air → air.marked ≡ true
    → radios air.mark.0 air.plans (says_apart air (Turn target)) ≡ lines_by o before (Turns target)
turn-lines o before air target at marked =
    known-all (λ (n : Net) (s : Centre) (all : List Plan) (m : ℕ). radios m all (says_in_turn (terminals (in_net n)) s all (mark_of m) target n.lead n.patience)) o before air at marked
    ∙ sym (where-said o (steps_by o before) (known step.Centre before) (turning target) (known-some o before air at marked))

pub turns : (net : Net) (o : Opening) (before : List Act) (air : ApartAir) (target : EditionNo) → IsCentreAt o before air → air.marked ≡ true → IsAct net o before air (Turn target) (Turns target)
turns net o before air target at marked =
    let k = known step.Centre before in
    let some = known-some o before air at marked in
    let late = late_of o before in
    let made = made_in o (now_of o (steps_by o before)) before (Turns target) in
    record {
      stands = record {
        net = at.net;
        plans = at.plans ∙ sym (where-same (λ (list : List Step). plans_after o list) late made k (turning target) (λ mark. refl));
        centre = known-all (λ (n : Net) (s : Centre) (all : List Plan) (m : ℕ). after_turn s (mark_of m) target n.lead n.patience) o before air at marked
            ∙ sym (where-some (λ (list : List Step). centre_after o list) late made k (turning target) some);
        knows = at.knows;
        some = at.some;
      };
      says = printed net air.plans air.mark air.said (says_apart air (Turn target))
          ∙ ap (λ (said : List Line). printed_with net air.said (says_apart air (Turn target)) said)
          (turn-lines o before air target at marked);
    }

-- an order that joins its orders
abbrev placing : Mark → Step
placing mark = step.Places

pub order-lines : (o : Opening) (before : List Act) (air : ApartAir) → IsCentreAt o before air → air.marked ≡ true
    → radios air.mark.0 air.plans (says_apart air Ordered) ≡ lines_by o before Places
order-lines o before air at marked =
    known-all (λ (n : Net) (s : Centre) (all : List Plan) (m : ℕ). radios m all (sent_by_order all (terminals (in_net n)) s.wanted)) o before air at marked
    ∙ sym (where-said o (steps_by o before) (known step.Centre before) placing (known-some o before air at marked))

pub orders : (net : Net) (o : Opening) (before : List Act) (air : ApartAir) → IsCentreAt o before air → air.marked ≡ true → IsAct net o before air Ordered Places
orders net o before air at marked =
    let k = known step.Centre before in
    let some = known-some o before air at marked in
    let late = late_of o before in
    let made = made_in o (now_of o (steps_by o before)) before Places in
    record {
      stands = record {
        net = at.net;
        plans = at.plans ∙ sym (where-same (λ (list : List Step). plans_after o list) late made k placing (λ mark. refl));
        centre = known-all (λ (n : Net) (s : Centre) (all : List Plan) (m : ℕ). once_placed s (terminals (in_net n)) all s.wanted) o before air at marked
            ∙ sym (where-some (λ (list : List Step). centre_after o list) late made k placing some);
        knows = at.knows;
        some = at.some;
      };
      says = printed net air.plans air.mark air.said (says_apart air Ordered)
          ∙ ap (λ (said : List Line). printed_with net air.said (says_apart air Ordered) said)
          (order-lines o before air at marked);
    }

-- a plan that joins its plans
pub installs : (net : Net) (o : Opening) (before : List Act) (air : ApartAir) (plan : Plan) → IsCentreAt o before air → IsAct net o before air (Install plan) (Installs plan)
installs net o before air plan at = record {
  stands = record { net = at.net; plans = ap (λ (all : List Plan). plan ∷ all) at.plans; centre = at.centre; knows = at.knows; some = at.some };
  says = refl;
}

-- it restarts
restart-centre : (o : Opening) (before : List Act) (air : ApartAir) → IsCentreAt o before air → (f : Net → Centre → List Plan → Centre)
    → f air.opening.net air.centre air.plans ≡ f o.net (centre_after o (steps_by o before)) (plans_after o (steps_by o before))
restart-centre o before air at f =
    same-all (λ (n : Net) (s : Centre) (all : List Plan) (m : ℕ). f n s all) air.opening.net o.net air.centre (centre_after o (steps_by o before)) air.plans (plans_after o (steps_by o before)) 0 0
    at.net at.centre at.plans refl

pub restarts : (net : Net) (o : Opening) (before : List Act) (air : ApartAir) (kept : Bool) → IsCentreAt o before air → IsAct net o before air (RestartCentre kept) (Restarts kept)
restarts net o before air true at = record {
  stands = record {
    net = at.net;
    plans = at.plans;
    centre = restart-centre o before air at (λ (n : Net) (s : Centre) (all : List Plan). beginning (terminals (in_net n)) all (with_wanted s.wanted s.orders));
    knows = refl;
    some = λ marked. absurd (cc marked);
  };
  says = refl;
}
restarts net o before air false at = record {
  stands = record {
    net = at.net;
    plans = at.plans;
    centre = restart-centre o before air at (λ (n : Net) (s : Centre) (all : List Plan). beginning (terminals (in_net n)) all s.orders);
    knows = refl;
    some = λ marked. absurd (cc marked);
  };
  says = refl;
}

-- it starts, and starts again
pub starts : (o : Opening) → IsCentreAt o [] (apart_at_start o)
starts o = record { net = refl; plans = refl; centre = refl; knows = refl; some = λ marked. absurd (cc marked) }

pub starts-again : (o : Opening) (before : List Act) (kept : Bool) → IsCentreAt o (Restarts kept ∷ before) (apart_at_start (opening_again o before kept))
starts-again o before true = record { net = refl; plans = refl; centre = refl; knows = refl; some = λ marked. absurd (cc marked) }
starts-again o before false = record { net = refl; plans = refl; centre = refl; knows = refl; some = λ marked. absurd (cc marked) }

-- it hears that a superframe begins
knows-behind : (test : Bool) (m stamp : ℕ) → nat_le m stamp ≡ true → (if test then m else 0) ≤ stamp
knows-behind true m stamp is = grind (arith, nat_tests, is)
knows-behind false m stamp is = omega arith

-- it hears a message
abbrev hearing : List ℕ → Mark → Step
hearing bytes mark = step.CentreHears mark bytes

hear-lines : (o : Opening) (steps : List Step) (k stamp : ℕ) (bytes : List ℕ) → map (λ (one : List ℕ). Radio stamp one) (said_if o steps (where_known k (hearing bytes))) ≡ []
hear-lines o steps zero stamp bytes = refl
hear-lines o steps (suc k) stamp bytes = refl

-- it hears a line
pub hears : (o : Opening) (before : List Act) (air : ApartAir) (line : Line) → IsCentreAt o before air → takes_up air line ≡ true → BeginsSome line
    → IsCentreAt o (Hears step.Centre line ∷ before) (heard_apart air (heard_as line))
hears o before air (Begun stamp) at takes some =
    subst (λ (a : ApartAir). IsCentreAt o (Hears step.Centre (Begun stamp) ∷ before) a)
    (sym (if-true (nat_le air.mark.0 stamp) (record air { mark = mark_of stamp; marked = true }) air takes))
    (record {
      net = at.net;
      plans = at.plans;
      centre = at.centre;
      knows = ap (λ (k : ℕ). max k stamp) at.knows ∙ max-last (known_in air) stamp (knows-behind air.marked air.mark.0 stamp takes);
      some = λ marked. some;
    })
hears o before air (Radio stamp bytes) at takes some =
    let act = Hears step.Centre (Radio stamp bytes) in
    let k = known step.Centre before in
    let n = max k stamp in
    let late = late_of o before in
    let made = made_in o (now_of o (steps_by o before)) before act in
    let later = later_mark air.mark (mark_of stamp) in
    let is : later ≡ mark_of n = later-either air.mark.0 stamp (nat_lt air.mark.0 stamp) refl ∙ ap (λ (m : ℕ). mark_of (max m stamp)) (sym (known-marked o before air at takes)) in
    let past : 0 < n = omega (arith, known-some o before air at takes, le-max_left k stamp) in
    subst (λ (a : ApartAir). IsCentreAt o (act ∷ before) a)
    (sym (if-true air.marked (noting_apart air later (read_of bytes)) air takes))
    (record {
      net = at.net;
      plans = at.plans ∙ sym (where-same (λ (list : List Step). plans_after o list) late made n (hearing bytes) (λ mark. refl));
      centre = ap (λ (s : Centre). centre_with s later (read_of bytes)) at.centre
          ∙ ap (λ (m : Mark). centre_with (centre_after o (steps_by o before)) m (read_of bytes)) is
          ∙ ap (λ (m : Option Message). centre_with (centre_after o (steps_by o before)) (mark_of n) m) (read-same bytes)
          ∙ sym (where-some (λ (list : List Step). centre_after o list) late made n (hearing bytes) past);
      knows = sym (if-true air.marked later.0 0 takes ∙ ap (λ (m : Mark). m.0) is);
      some = λ marked. subst (λ (m : Mark). 0 < m.0) (sym is) past;
    })

-- it says nothing to it
pub says-nothing : (o : Opening) (before : List Act) (line : Line) → lines_by o before (Hears step.Centre line) ≡ []
says-nothing o before (Begun stamp) = refl
says-nothing o before (Radio stamp bytes) = hear-lines o (steps_by o before) (max (known step.Centre before) stamp) (known step.Centre (Hears step.Centre (Radio stamp bytes) ∷ before)) bytes

-- a line that it does not take up
pub passes-over : (air : ApartAir) (line : Line) → takes_up air line ≡ false → heard_apart air (heard_as line) ≡ air
passes-over air (Begun stamp) takes = if-false (nat_le air.mark.0 stamp) (record air { mark = mark_of stamp; marked = true }) air takes
passes-over air (Radio stamp bytes) takes = if-false air.marked (noting_apart air (later_mark air.mark (mark_of stamp)) (read_of bytes)) air takes

-- another site's act is none of its own
pub others : (o : Opening) (before : List Act) (air : ApartAir) (act : Act) → is_same_site (actor_of act) step.Centre ≡ false → IsCentreAt o before air → IsCentreAt o (act ∷ before) air
others o before air act other at = record {
  net = at.net;
  plans = at.plans ∙ sym (plans-still o before act other);
  centre = at.centre ∙ sym (centre-still o before act other);
  knows = known-other step.Centre before act other ∙ at.knows;
  some = at.some;
}

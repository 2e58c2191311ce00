-- The centre may do what it does, and is never behind a superframe that it knew.
use Rattle.std.proofs.Common.{◌≡◌, ℕ, ◌<◌, ◌≤◌, max, if◌then◌else◌, Bool, true, false, List, ◌∷◌, refl, sym, ap, ◌∙◌, subst, arith}
use Rattle.std.specs.Prelude.{IsSome, nat_le, nat_lt}
use Rattle.std.proofs.Math.Nat.{le-max_left, max-le}
use Rattle.std.proofs.lemmas.Bool.Decides.{nat_tests}
use Rattle.bt_frame.specs.declared.numbers.EditionNo.{EditionNo}
use Rattle.bt_frame.specs.declared.numbers.Mark.{Mark}
use Rattle.bt_net.specs.Network.{Net}
use Rattle.bt_demand.specs.declared.plan.Plan.{Plan}
use Rattle.bt_demand.specs.Flyable.{IsFlyable}
use Rattle.bt_machines.specs.Centre.{State as Centre}
use Rattle.bt_machines.specs.Plans.{newest_of, plan_of}
use Rattle.bt_site.specs.Event.{Opening, Event, Tick, Turn, Second, Ordered, Deliver, Frame, ResetTerminal, RestartCentre, Install}
use Rattle.bt_sites.specs.Stamps.{Act, Begins, Begun, HasLine, Hears, Installs, Line, MayAct, MayHear, Places, Radio, Restarts, Seconds, StandbyStarts, Starts, Turns, known, lines, reached, stamp_of}
use Rattle.bt_sites.specs.Step as step
use Rattle.bt_script.specs.Heard.{read_of}
use Rattle.bt_apart.specs.Apart.{ApartAir, having_apart, heard_apart, later_mark, noting_apart}
use Rattle.bt_station.proofs.Acts.{if-true, mark_of}
use Rattle.bt_station.specs.Acts.{heard_as}
use Rattle.bt_apart_laws.specs.Acts.{IsCentreAt, IsNotBehind, is_hearing, takes_up}
use Rattle.bt_apart_laws.proofs.Acts.{known-marked, known-some, later-either}

-- it may have its turn, place an order, install a plan and restart
pub may-turn : (o : Opening) (before : List Act) (air : ApartAir) (target : EditionNo) → IsCentreAt o before air → IsSome (plan_of air.plans target) → MayAct o before (Turns target)
may-turn o before air target at planned = subst (λ (all : List Plan). IsSome (plan_of all target)) at.plans planned

pub may-order : (o : Opening) (before : List Act) (air : ApartAir) → IsCentreAt o before air → IsSome air.centre.wanted → MayAct o before Places
may-order o before air at wanted = subst (λ (s : Centre). IsSome s.wanted) at.centre wanted

pub may-install : (o : Opening) (before : List Act) (air : ApartAir) (plan : Plan) → IsCentreAt o before air → (newest_of air.plans).0 < plan.edition.0
    → IsFlyable air.opening.net plan → MayAct o before (Installs plan)
may-install o before air plan at newer flies =
    (subst (λ (all : List Plan). (newest_of all).0 < plan.edition.0) at.plans newer, subst (λ (net : Net). IsFlyable net plan) at.net flies)

pub may-restart : (o : Opening) (before : List Act) (air : ApartAir) (kept : Bool) → IsCentreAt o before air → (kept ≡ true → IsSome air.centre.wanted) → MayAct o before (Restarts kept)
may-restart o before air true at wanted = subst (λ (s : Centre). IsSome s.wanted) at.centre (wanted refl)
may-restart o before air false at wanted = tt

-- a superframe that is not behind its own
not-behind : (m n : ℕ) → nat_le m n ≡ true → m ≤ n
not-behind m n is = grind (arith, nat_tests, is)

-- it may hear what it takes up
may-take_up : (o : Opening) (before : List Act) (air : ApartAir) (line : Line) → IsCentreAt o before air → IsNotBehind o before air → takes_up air line ≡ true
    → MayHear o before step.Centre (stamp_of line)
may-take_up o before air (Begun stamp) at behind takes = λ none some. omega (arith, behind, not-behind air.mark.0 stamp takes)
may-take_up o before air (Radio stamp bytes) at behind takes = λ none some. absurd (omega (arith, none, known-some o before air at takes))

pub may-hear : (o : Opening) (before : List Act) (air : ApartAir) (line : Line) → IsCentreAt o before air → IsNotBehind o before air → takes_up air line ≡ true → HasLine (lines o before) line
    → MayAct o before (Hears step.Centre line)
may-hear o before air line at behind takes said = (said, may-take_up o before air line at behind takes)

-- what it knows is not past what it takes for the present superframe
known-in : (test : Bool) (m k : ℕ) → k ≡ (if test then m else 0) → k ≤ m
known-in true m k is = omega (arith, is)
known-in false m k is = omega (arith, is)

known-behind : (o : Opening) (before : List Act) (air : ApartAir) → IsCentreAt o before air → known step.Centre before ≤ air.mark.0
known-behind o before air at = known-in air.marked air.mark.0 (known step.Centre before) at.knows

-- it goes on with a superframe that begins, where that is not behind one that it knew
pub begun-onward : (o : Opening) (before : List Act) (air : ApartAir) (stamp : ℕ) → IsCentreAt o before air → reached o step.Centre before ≤ stamp → takes_up air (Begun stamp) ≡ true
    → IsNotBehind o (Hears step.Centre (Begun stamp) ∷ before) (heard_apart air (heard_as (Begun stamp)))
begun-onward o before air stamp at behind takes =
    let on = not-behind air.mark.0 stamp takes in
    subst (λ (a : ApartAir). IsNotBehind o (Hears step.Centre (Begun stamp) ∷ before) a)
    (sym (if-true (nat_le air.mark.0 stamp) (record air { mark = mark_of stamp; marked = true }) air takes))
    (max-le behind (max-le (omega (arith, known-behind o before air at, on)) (omega arith)))

-- it goes on with each line
pub hears-onward : (o : Opening) (before : List Act) (air : ApartAir) (line : Line) → IsCentreAt o before air → IsNotBehind o before air → takes_up air line ≡ true
    → IsNotBehind o (Hears step.Centre line ∷ before) (heard_apart air (heard_as line))
hears-onward o before air (Begun stamp) at behind takes =
    let on = not-behind air.mark.0 stamp takes in
    begun-onward o before air stamp at (omega (arith, behind, on)) takes
hears-onward o before air (Radio stamp bytes) at behind takes =
    let k = known step.Centre before in
    let later = later_mark air.mark (mark_of stamp) in
    let here = known-marked o before air at takes in
    let is : later ≡ mark_of (max k stamp) = later-either air.mark.0 stamp (nat_lt air.mark.0 stamp) refl ∙ ap (λ (m : ℕ). mark_of (max m stamp)) (sym here) in
    let past : reached o step.Centre before ≤ max k stamp = omega (arith, behind, here, le-max_left k stamp) in
    subst (λ (a : ApartAir). IsNotBehind o (Hears step.Centre (Radio stamp bytes) ∷ before) a)
    (sym (if-true air.marked (noting_apart air later (read_of bytes)) air takes))
    (subst (λ (m : Mark). reached o step.Centre (Hears step.Centre (Radio stamp bytes) ∷ before) ≤ m.0) (sym is) (max-le past (omega arith)))

-- it knows no later superframe by another act
done-knows : (before : List Act) (act : Act) → is_hearing act ≡ false → known step.Centre (act ∷ before) ≤ known step.Centre before
done-knows before (Hears step.Satellite line) own = omega arith
done-knows before (Hears step.Centre line) own = absurd cc
done-knows before (Hears (step.Terminal number) line) own = omega arith
done-knows before (Hears step.Standby line) own = omega arith
done-knows before Begins own = omega arith
done-knows before (Starts number) own = omega arith
done-knows before (Turns target) own = omega arith
done-knows before Places own = omega arith
done-knows before (Installs plan) own = omega arith
done-knows before (Restarts kept) own = omega arith
done-knows before StandbyStarts own = omega arith
done-knows before Seconds own = omega arith

mark-stays : (air : ApartAir) (event : Event) → (having_apart air event).mark ≡ air.mark
mark-stays air Tick = refl
mark-stays air (Turn target) = refl
mark-stays air (Second in_force) = refl
mark-stays air Ordered = refl
mark-stays air (Deliver number place) = refl
mark-stays air Frame = refl
mark-stays air (ResetTerminal terminal) = refl
mark-stays air (RestartCentre kept) = refl
mark-stays air (Install plan) = refl

-- so it is not behind once something was done, by itself or by another site
pub others-onward : (o : Opening) (before : List Act) (air : ApartAir) (act : Act) → IsCentreAt o before air → IsNotBehind o before air → is_hearing act ≡ false → IsNotBehind o (act ∷ before) air
others-onward o before air act at behind own =
    let k = done-knows before act own in
    max-le behind (omega (arith, k, known-behind o before air at))

pub does-onward : (o : Opening) (before : List Act) (air : ApartAir) (event : Event) (act : Act) → IsCentreAt o before air → IsNotBehind o before air → is_hearing act ≡ false
    → IsNotBehind o (act ∷ before) (having_apart air event)
does-onward o before air event act at behind own =
    subst (λ (m : Mark). reached o step.Centre (act ∷ before) ≤ m.0) (sym (mark-stays air event)) (others-onward o before air act at behind own)

-- Late sites, in the order of their superframes, are a run of sites.
use Rattle.std.proofs.Common.{◌≡◌, inl, inr, ℕ, ◌+◌, ◌<◌, ◌≤◌, true, false, List, [], ◌∷◌, ◌++◌, refl, sym, ◌∙◌, ap, subst, arith}
use Rattle.std.specs.Prelude.{IsSome}
use Rattle.bt_frame.specs.declared.limits.TheConstants.{LAST_MARK}
use Rattle.bt_frame.specs.declared.numbers.Mark.{Mark}
use Rattle.bt_sites.specs.Step.{Site, Satellite, Centre, Terminal, Standby, Step, Begins, SatelliteHears, Starts, TerminalHears, CentreHears, Turns, Places, Installs, Restarts, StandbyStarts, StandbyHears, Seconds}
use Rattle.bt_demand.specs.declared.plan.Plan.{Plan}
use Rattle.bt_machines.specs.Satellite.{State as Onboard}
use Rattle.bt_machines.specs.Centre.{State}
use Rattle.bt_machines.specs.Plans.{newest_of, plan_of}
use Rattle.bt_site.specs.Event.{Opening}
use Rattle.bt_sites.specs.Fits.{AreSites, IsNow, MayStep, WasSaid, order_count}
use Rattle.bt_sites.specs.Late.{AreLate, HasBegun, HasOrder, IsForward, IsFrom, IsMoment, Late, MayBeLate, WasSaidBy, now_of, site_of, steps_of}
use Rattle.bt_sites.specs.Sites.{read_of, said, said_with, satellite_after}
use Rattle.bt_sites.proofs.Inserts.{AllAfter, AllOther, IsBefore, SaidBy, before-put, by-earlier, by-new, by-put, by-said, cut-at, ground-centre, ground-standby, ground-terminal, others-later, said-new, said-put, same-behind, same-last, sites-put, was-either, was-left, was-right}
use Rattle.bt_sites.proofs.Moments.{Moment, moment-last, moment-now, moment-put}
use Rattle.bt_sites.proofs.Marks.{mark-ticked, with-keeps}
use Rattle.bt_sites.proofs.Same.{SameFor, same-next, same-other, same-said, same-self, same-sym, same-trans}
use Rattle.bt_sites.proofs.Turned.{same-mark}

-- the steps in an order in which each is made in the present superframe
pub record Order (o : Opening) (late : List Late) (steps : List Step) : Type 0 where
  pub sites : AreSites o steps
  pub same : (site : Site) → SameFor o site steps (steps_of late)
  pub own : (site : Site) (mark : ℕ) → IsForward site mark late → IsBefore o site mark steps
  pub until : (mark : ℕ) (bytes : List ℕ) → WasSaidBy o mark late bytes → SaidBy o mark steps bytes
  pub said : (bytes : List ℕ) → WasSaid (said o (steps_of late)) bytes → WasSaid (said o steps) bytes
  pub count : order_count o steps ≡ order_count o (steps_of late)

-- and each moment of the run is one of these
pub record Timed (o : Opening) (late : List Late) (steps : List Step) : Type 0 where
  pub order : Order o late steps
  pub moments : (site : Site) (mark : ℕ) (done : List Late) → IsMoment o late site mark done → Moment o steps site mark done

pub record IsOrdered (o : Opening) (late : List Late) : Type 0 where
  pub steps : List Step
  pub timed : Timed o late steps

-- how many orders were placed
count-next : (o : Opening) (a b : List Step) (step : Step) → order_count o a ≡ order_count o b → order_count o (step ∷ a) ≡ order_count o (step ∷ b)
count-next o a b Begins same = same
count-next o a b (SatelliteHears bytes) same = same
count-next o a b (Starts number) same = same
count-next o a b (TerminalHears number mark bytes) same = same
count-next o a b (CentreHears mark bytes) same = same
count-next o a b (Turns mark target) same = same
count-next o a b Places same = ap (λ (n : ℕ). n + 1) same
count-next o a b (Installs plan) same = same
count-next o a b (Restarts true) same = ap (λ (n : ℕ). n + 1) same
count-next o a b (Restarts false) same = same
count-next o a b (StandbyHears mark bytes) same = same
count-next o a b (Seconds mark) same = same
count-next o a b StandbyStarts same = same

-- the orders that a step places
abbrev orders_with : Step → ℕ
orders_with Places = 1
orders_with (Restarts true) = 1
orders_with step = 0

count-more : (o : Opening) (before : List Step) (step : Step) → order_count o (step ∷ before) ≡ orders_with step + order_count o before
count-more o before Begins = omega arith
count-more o before (SatelliteHears bytes) = omega arith
count-more o before (Starts number) = omega arith
count-more o before (TerminalHears number mark bytes) = omega arith
count-more o before (CentreHears mark bytes) = omega arith
count-more o before (Turns mark target) = omega arith
count-more o before Places = omega arith
count-more o before (Installs plan) = omega arith
count-more o before (Restarts true) = omega arith
count-more o before (Restarts false) = omega arith
count-more o before (StandbyHears mark bytes) = omega arith
count-more o before (Seconds mark) = omega arith
count-more o before StandbyStarts = omega arith

swap-sum : (a b n : ℕ) → a + (b + n) ≡ b + (a + n)
swap-sum a b n = omega arith

count-swap : (o : Opening) (before : List Step) (a b : Step) → order_count o (a ∷ (b ∷ before)) ≡ order_count o (b ∷ (a ∷ before))
count-swap o before a b = count-more o (b ∷ before) a ∙ ap (λ (n : ℕ). orders_with a + n) (count-more o before b)
    ∙ swap-sum (orders_with a) (orders_with b) (order_count o before)
    ∙ ap (λ (n : ℕ). orders_with b + n) (sym (count-more o before a)) ∙ sym (count-more o (a ∷ before) b)

count-put : (o : Opening) (later earlier : List Step) (step : Step) → order_count o (later ++ (step ∷ earlier)) ≡ order_count o (step ∷ (later ++ earlier))
count-put o [] earlier step = refl
count-put o (x ∷ later) earlier step = count-next o (later ++ (step ∷ earlier)) (step ∷ (later ++ earlier)) x (count-put o later earlier step) ∙ count-swap o (later ++ earlier) x step

-- what is said with a step more
said-next : (o : Opening) (late : List Late) (one : Late) (later earlier : List Step) → Order o late (later ++ earlier) → AllOther (site_of one.step) later
    → said_with o (steps_of late) one.step ≡ said_with o earlier one.step
said-next o late one later earlier order others =
    same-said o (steps_of late) earlier one.step
    (same-trans o (site_of one.step) (steps_of late) (later ++ earlier) earlier (same-sym o (site_of one.step) (later ++ earlier) (steps_of late) (order.same (site_of one.step)))
    (same-behind o later earlier (site_of one.step) others))

-- a step of a terminal or the centre is put where its superframe ends
put-order : (o : Opening) (late : List Late) (one : Late) (later earlier : List Step) → Order o late (later ++ earlier) → (site_of one.step ≡ Satellite → ⊥) → now_of o earlier ≡ one.mark
    → AllAfter o one.mark later earlier → IsForward (site_of one.step) one.mark late → MayStep o earlier one.step → Order o (one ∷ late) (later ++ (one.step ∷ earlier))
put-order o late one later earlier order ground at after forward may =
    let step = one.step in
    let others : AllOther (site_of step) later = others-later o (site_of step) one.mark later earlier (order.own (site_of step) one.mark forward) after in
    let says : said_with o (steps_of late) step ≡ said_with o earlier step = said-next o late one later earlier order others in
    let here : now_of o (step ∷ earlier) ≡ one.mark = ap (λ (s : Onboard). s.mark.0) (same-other o Satellite earlier step ground) ∙ at in
    record {
      sites = sites-put o later earlier step ground others may order.sites;
      same = λ site. same-trans o site (later ++ (step ∷ earlier)) (step ∷ (later ++ earlier)) (step ∷ steps_of late) (same-last o later earlier step site others)
          (same-next o site (later ++ earlier) (steps_of late) step (order.same site));
      own = λ site mark before. before-put o site mark later earlier step ground (λ e. subst (λ (n : ℕ). n ≤ mark) (sym here) (before.0 e)) (order.own site mark before.1);
      until = λ mark bytes was. elim was [
        | inl before ↦ by-put o mark later earlier step bytes ground others (order.until mark bytes before)
        | inr now ↦ by-new o mark later earlier step bytes (subst (λ (n : ℕ). n ≤ mark) (sym here) now.0) (subst (λ (list : List (List ℕ)). WasSaid list bytes) says now.1)
      ];
      said = λ bytes was. elim (was-either (said o (steps_of late)) (said_with o (steps_of late) step) bytes was) [
        | inl before ↦ said-put o later earlier step others bytes (order.said bytes before)
        | inr now ↦ said-new o later earlier step bytes (subst (λ (list : List (List ℕ)). WasSaid list bytes) says now)
      ];
      count = count-put o later earlier step ∙ count-next o (later ++ earlier) (steps_of late) step order.count;
    }

-- a step of the satellite is the last
last-order : (o : Opening) (late : List Late) (one : Late) (steps : List Step) → Order o late steps → now_of o (one.step ∷ steps) ≡ one.mark → MayStep o steps one.step → Order o (one ∷ late) (one.step ∷ steps)
last-order o late one steps order here may =
    let step = one.step in
    let says : said_with o (steps_of late) step ≡ said_with o steps step = said-next o late one [] steps order tt in
    record {
      sites = (may, order.sites);
      same = λ site. same-next o site steps (steps_of late) step (order.same site);
      own = λ site mark before. (λ e. subst (λ (n : ℕ). n ≤ mark) (sym here) (before.0 e), order.own site mark before.1);
      until = λ mark bytes was. elim was [
        | inl before ↦ inl (order.until mark bytes before)
        | inr now ↦ inr (subst (λ (n : ℕ). n ≤ mark) (sym here) now.0, subst (λ (list : List (List ℕ)). WasSaid list bytes) says now.1)
      ];
      said = λ bytes was. elim (was-either (said o (steps_of late)) (said_with o (steps_of late) step) bytes was) [
        | inl before ↦ was-left (said o steps) (said_with o steps step) bytes (order.said bytes before)
        | inr now ↦ was-right (said o steps) (said_with o steps step) bytes (subst (λ (list : List (List ℕ)). WasSaid list bytes) says now)
      ];
      count = count-next o steps (steps_of late) step order.count;
    }

-- the moments once a step is made
of-now : (o : Opening) (late : List Late) (steps : List Step) → Order o late steps → (site : Site) (mark : ℕ) (done : List Late) → done ≡ late → HasBegun o done mark → IsForward site mark done
    → Moment o steps site mark done
of-now o late steps order site mark done is has forward =
    subst (λ (list : List Late). Moment o steps site mark list) (sym is)
    (moment-now o late steps site mark (ap (λ (s : Onboard). s.mark.0) (sym (order.same Satellite))) (order.same site)
    (order.own site mark (subst (λ (list : List Late). IsForward site mark list) is forward)) (subst (λ (list : List Late). HasBegun o list mark) is has))

abbrev first_of : Late → List Late → Late
first_of other [] = other
first_of other (one ∷ before) = one

abbrev rest_of : List Late → List Late
rest_of [] = []
rest_of (one ∷ before) = before

first-late : (x y : Late) (a b : List Late) → x ∷ a ≡ y ∷ b → x ≡ y
first-late x y a b e = ap (λ (list : List Late). first_of x list) e

rest-late : (x y : Late) (a b : List Late) → x ∷ a ≡ y ∷ b → a ≡ b
rest-late x y a b e = ap (λ (list : List Late). rest_of list) e

moments-by : (o : Opening) (late : List Late) (one : Late) (new : List Step) → Order o (one ∷ late) new
    → ((site : Site) (mark : ℕ) (done : List Late) → (site_of one.step ≡ site → mark ≤ one.mark) → IsMoment o late site mark done → Moment o new site mark done)
    → (site : Site) (mark : ℕ) (done later : List Late) → later ++ done ≡ one ∷ late → HasBegun o done mark → IsForward site mark done → IsFrom site mark later → Moment o new site mark done
moments-by o late one new order old site mark done [] is has forward from = of-now o (one ∷ late) new order site mark done is has forward
moments-by o late one new order old site mark done (x ∷ later) is has forward from =
    let same : x ≡ one = first-late x one (later ++ done) late is in
    old site mark done (subst (λ (y : Late). site_of y.step ≡ site → mark ≤ y.mark) same from.0)
    (record { later = later; is = rest-late x one (later ++ done) late is; has = has; forward = forward; from = from.1 })

-- a step of another site than the satellite, by what is known of the sites up to its superframe
put-late : (o : Opening) (late : List Late) (one : Late) (steps : List Step) → Timed o late steps → (site_of one.step ≡ Satellite → ⊥) → HasBegun o late one.mark → IsForward (site_of one.step) one.mark late
    → ((earlier : List Step) → now_of o earlier ≡ one.mark → SameFor o (site_of one.step) (steps_of late) earlier
    → ((bytes : List ℕ) → WasSaidBy o one.mark late bytes → WasSaid (said o earlier) bytes) → MayStep o earlier one.step)
    → IsOrdered o (one ∷ late)
put-late o late one steps timed ground has forward may =
    let order = timed.order in
    let same_now : now_of o (steps_of late) ≡ now_of o steps = ap (λ (s : Onboard). s.mark.0) (sym (order.same Satellite)) in
    let cut = cut-at o one.mark steps has.opened (subst (λ (n : ℕ). one.mark ≤ n) same_now has.begun) in
    let whole = subst (λ (list : List Step). Order o late list) (sym cut.is) order in
    let others = others-later o (site_of one.step) one.mark cut.later cut.earlier (whole.own (site_of one.step) one.mark forward) cut.after in
    let same = same-trans o (site_of one.step) (steps_of late) (cut.later ++ cut.earlier) cut.earlier
    (same-sym o (site_of one.step) (cut.later ++ cut.earlier) (steps_of late) (whole.same (site_of one.step))) (same-behind o cut.later cut.earlier (site_of one.step) others) in
    let new = put-order o late one cut.later cut.earlier whole ground cut.at cut.after forward
    (may cut.earlier cut.at same (λ bytes was. by-earlier o one.mark cut.later cut.earlier bytes cut.after (whole.until one.mark bytes was))) in
    record {
      steps = cut.later ++ (one.step ∷ cut.earlier);
      timed = record {
        order = new;
        moments = λ site mark done m. moments-by o late one (cut.later ++ (one.step ∷ cut.earlier)) new
            (λ place at_mark part from n. moment-put o cut.later cut.earlier place at_mark part one.mark one.step ground cut.after from
            (subst (λ (list : List Step). Moment o list place at_mark part) (sym cut.is) (timed.moments place at_mark part n)))
            site mark done m.later m.is m.has m.forward m.from;
      };
    }

-- a step of the satellite
last-late : (o : Opening) (late : List Late) (one : Late) (steps : List Step) → Timed o late steps → now_of o (one.step ∷ steps) ≡ one.mark → MayStep o steps one.step → IsOrdered o (one ∷ late)
last-late o late one steps timed here may =
    let new = last-order o late one steps timed.order here may in
    record {
      steps = one.step ∷ steps;
      timed = record {
        order = new;
        moments = λ site mark done m. moments-by o late one (one.step ∷ steps) new
            (λ place at_mark part from n. moment-last o steps place at_mark part one.step (timed.moments place at_mark part n))
            site mark done m.later m.is m.has m.forward m.from;
      };
    }

-- the superframe of a site is the present one
now-is : (o : Opening) (earlier : List Step) (mark : ℕ) (present : Mark) → now_of o earlier ≡ mark → present.0 ≡ mark → IsNow o earlier present
now-is o earlier mark present at is = same-mark present (now_of o earlier) (is ∙ sym at)

-- one step more
next-order : (o : Opening) (late : List Late) (mark : ℕ) (step : Step) (steps : List Step) → Timed o late steps → IsForward (site_of step) mark late → MayBeLate o late mark step
    → IsOrdered o (record { mark = mark; step = step } ∷ late)
next-order o late mark Begins steps timed forward may =
    let same : now_of o (steps_of late) ≡ now_of o steps = ap (λ (s : Onboard). s.mark.0) (sym (timed.order.same Satellite)) in
    last-late o late (record { mark = mark; step = Begins }) steps timed
    (mark-ticked (satellite_after o steps) ∙ ap (λ (n : ℕ). n + 1) (sym same) ∙ sym may.0)
    (subst (λ (n : ℕ). n < LAST_MARK) same may.1)
next-order o late mark (SatelliteHears bytes) steps timed forward may =
    let same : now_of o (steps_of late) ≡ now_of o steps = ap (λ (s : Onboard). s.mark.0) (sym (timed.order.same Satellite)) in
    last-late o late (record { mark = mark; step = SatelliteHears bytes }) steps timed
    (ap (λ (m : Mark). m.0) (with-keeps (satellite_after o steps) (read_of bytes)) ∙ sym same ∙ sym may.0)
    (by-said o mark steps bytes (timed.order.until mark bytes may.1))
next-order o late mark (Starts number) steps timed forward may =
    put-late o late (record { mark = mark; step = Starts number }) steps timed (ground-terminal number) may.0 forward (λ earlier at same was. may.1)
next-order o late mark (TerminalHears number present bytes) steps timed forward may =
    put-late o late (record { mark = mark; step = TerminalHears number present bytes }) steps timed (ground-terminal number) may.0 forward
    (λ earlier at same was. (may.1, now-is o earlier mark present at may.2, was bytes may.3))
next-order o late mark (CentreHears present bytes) steps timed forward may =
    put-late o late (record { mark = mark; step = CentreHears present bytes }) steps timed ground-centre may.0 forward
    (λ earlier at same was. (now-is o earlier mark present at may.1, was bytes may.2))
next-order o late mark (Turns present target) steps timed forward may =
    put-late o late (record { mark = mark; step = Turns present target }) steps timed ground-centre may.0 forward
    (λ earlier at same was. (now-is o earlier mark present at may.1, subst (λ (all : List Plan). IsSome (plan_of all target)) same.1 may.2))
next-order o late mark Places steps timed forward may =
    put-late o late (record { mark = mark; step = Places }) steps timed ground-centre may.0 forward
    (λ earlier at same was. subst (λ (s : State). IsSome s.wanted) same.0 may.1)
next-order o late mark (Installs plan) steps timed forward may =
    put-late o late (record { mark = mark; step = Installs plan }) steps timed ground-centre may.0 forward
    (λ earlier at same was. (subst (λ (all : List Plan). (newest_of all).0 < plan.edition.0) same.1 may.1, may.2))
next-order o late mark (Restarts true) steps timed forward may =
    put-late o late (record { mark = mark; step = Restarts true }) steps timed ground-centre may.0 forward
    (λ earlier at same was. subst (λ (s : State). IsSome s.wanted) same.0 may.1)
next-order o late mark (Restarts false) steps timed forward may =
    put-late o late (record { mark = mark; step = Restarts false }) steps timed ground-centre may.0 forward (λ earlier at same was. tt)
next-order o late mark (StandbyHears present bytes) steps timed forward may =
    put-late o late (record { mark = mark; step = StandbyHears present bytes }) steps timed ground-standby may.0 forward
    (λ earlier at same was. (now-is o earlier mark present at may.1, was bytes may.2))
next-order o late mark (Seconds present) steps timed forward may =
    put-late o late (record { mark = mark; step = Seconds present }) steps timed ground-standby may.0 forward (λ earlier at same was. now-is o earlier mark present at may.1)
next-order o late mark StandbyStarts steps timed forward may =
    put-late o late (record { mark = mark; step = StandbyStarts }) steps timed ground-standby may.0 forward (λ earlier at same was. tt)

abbrev HasOne : List Late → Type 0
HasOne [] = ⊥
HasOne (one ∷ before) = Unit {0}

some-late : (x : Late) (rest : List Late) → x ∷ rest ≡ [] → ⊥
some-late x rest e = subst (λ (list : List Late). HasOne list) e tt

none-moment : (o : Opening) → Order o [] [] → (site : Site) (mark : ℕ) (done later : List Late) → later ++ done ≡ [] → HasBegun o done mark → IsForward site mark done → Moment o [] site mark done
none-moment o order site mark done [] is has forward = of-now o [] [] order site mark done is has forward
none-moment o order site mark done (x ∷ later) is has forward = absurd (some-late x (later ++ done) is)

all-ordered : (o : Opening) (late : List Late) → AreLate o late → IsOrdered o late
all-ordered o [] opening =
    let none : Order o [] [] = record { sites = opening; same = λ site. same-self o site []; own = λ site mark before. tt; until = λ mark bytes was. was; said = λ bytes was. was; count = refl } in
    record {
      steps = [];
      timed = record { order = none; moments = λ site mark done m. none-moment o none site mark done m.later m.is m.has m.forward };
    }
all-ordered o (one ∷ late) are =
    let earlier = all-ordered o late are.2 in
    next-order o late one.mark one.step earlier.steps earlier.timed are.0 are.1

pub late-timed : (o : Opening) (late : List Late) → AreLate o late → IsOrdered o late
late-timed o late are = all-ordered o late are

pub late-ordered : (o : Opening) (late : List Late) → AreLate o late → HasOrder o late
late-ordered o late are =
    let has = all-ordered o late are in
    let order = has.timed.order in
    record {
      steps = has.steps;
      sites = order.sites;
      satellite = order.same Satellite;
      terminals = λ number. order.same (Terminal number);
      plans = ((order.same Centre).1);
      centre = ((order.same Centre).0);
      standby = order.same Standby;
      said = order.said;
      count = order.count;
    }

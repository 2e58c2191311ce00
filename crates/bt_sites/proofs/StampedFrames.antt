-- A superframe of sites that hear lines with stamps is safe.
use Rattle.std.proofs.Common.{◌≡◌, ◌⊎◌, inl, inr, ℕ, ◌<◌, ◌≤◌, List, [], ◌∷◌, ◌++◌, Option, Some, None, IfSome, refl, sym, ◌∙◌, ap, subst, arith}
use Rattle.std.proofs.Math.Nat.{le-max_left}
use Rattle.bt_frame.specs.declared.numbers.TermNo.{TermNo}
use Rattle.bt_sites.specs.Step.{Site, Satellite, Centre, Terminal, Standby, Step}
use Rattle.bt_demand.specs.declared.burst.Burst.{Burst}
use Rattle.bt_site.specs.Event.{Opening}
use Rattle.bt_site.specs.World.{greatest_due}
use Rattle.bt_sites.specs.Late.{AreOnAir, IsForward, IsFrom, IsMoment, Late, now_of, site_of}
use Rattle.bt_sites.specs.OnAir.{AreSentIn, IsOnBoard, SendsIn}
use Rattle.bt_sites.specs.Stamps.{Act, AreStamped, Begins, Hears, Installs, Places, Restarts, Seconds, StandbyStarts, Starts, Turns, actor_of, joined, known, late_of, made_in, reached, step_by, steps_by}
use Rattle.bt_sites.proofs.Inserts.{ground-centre, ground-standby, ground-terminal}
use Rattle.bt_sites.proofs.Knows.{made-ground, step-actor}
use Rattle.bt_sites.proofs.Stamped.{now-more}
use Rattle.bt_sites.proofs.StampedLate.{all-stamped}

-- the steps that were made later
abbrev pub later_of : Opening → List Act → List Act → List Late
later_of o [] done = []
later_of o (act ∷ later) done =
    joined (made_in o (now_of o (steps_by o (later ++ done))) (later ++ done) act) (step_by (later ++ done) act) (later_of o later done)

joined-behind : (mark : ℕ) (made : Option Step) (a b : List Late) → joined mark made a ++ b ≡ joined mark made (a ++ b)
joined-behind mark None a b = refl
joined-behind mark (Some one) a b = refl

late-behind : (o : Opening) (later done : List Act) → later_of o later done ++ late_of o done ≡ late_of o (later ++ done)
late-behind o [] done = refl
late-behind o (act ∷ later) done =
    let mark = made_in o (now_of o (steps_by o (later ++ done))) (later ++ done) act in
    let made = step_by (later ++ done) act in
    joined-behind mark made (later_of o later done) (late_of o done) ∙ ap (λ (list : List Late). joined mark made list) (late-behind o later done)

stamped-behind : (o : Opening) (later done : List Act) → AreStamped o (later ++ done) → AreStamped o done
stamped-behind o [] done are = are
stamped-behind o (act ∷ later) done are = stamped-behind o later done are.1

-- no site goes back
reached-onward : (o : Opening) (site : Site) (later done : List Act) → reached o site done ≤ reached o site (later ++ done)
reached-onward o site [] done = omega arith
reached-onward o site (act ∷ later) done =
    omega (arith, reached-onward o site later done, le-max_left (reached o site (later ++ done)) (known site (act ∷ (later ++ done))))

now-onward : (o : Opening) (later done : List Act) → now_of o (steps_by o done) ≤ now_of o (steps_by o (later ++ done))
now-onward o [] done = omega arith
now-onward o (act ∷ later) done = omega (arith, now-onward o later done, now-more o (later ++ done) act)

from-joined : (site : Site) (bound mark : ℕ) (made : Option Step) (late : List Late) → IfSome made (λ (one : Step). site_of one ≡ site → bound ≤ mark) → IsFrom site bound late
    → IsFrom site bound (joined mark made late)
from-joined site bound mark None late own from = from
from-joined site bound mark (Some made) late own from = (own, from)

if-own : (site who : Site) (bound mark : ℕ) (made : Option Step) → IfSome made (λ (one : Step). site_of one ≡ who) → (who ≡ site → bound ≤ mark) → IfSome made (λ (one : Step). site_of one ≡ site → bound ≤ mark)
if-own site who bound mark None of_who own = tt
if-own site who bound mark (Some made) of_who own = λ e. own (sym of_who ∙ e)

-- later steps of a site are in no earlier superframe, where each act of its own is
from-later : (o : Opening) (site : Site) (bound : ℕ) (later done : List Act)
    → ((more : List Act) (act : Act) → actor_of act ≡ site → bound ≤ made_in o (now_of o (steps_by o (more ++ done))) (more ++ done) act) → IsFrom site bound (later_of o later done)
from-later o site bound [] done own = tt
from-later o site bound (act ∷ later) done own =
    from-joined site bound (made_in o (now_of o (steps_by o (later ++ done))) (later ++ done) act) (step_by (later ++ done) act) (later_of o later done)
    (if-own site (actor_of act) bound (made_in o (now_of o (steps_by o (later ++ done))) (later ++ done) act) (step_by (later ++ done) act) (step-actor (later ++ done) act) (own later act))
    (from-later o site bound later done own)

ground-own : (o : Opening) (number : TermNo) (more done : List Act) (act : Act) → actor_of act ≡ Terminal number
    → reached o (Terminal number) done ≤ made_in o (now_of o (steps_by o (more ++ done))) (more ++ done) act
ground-own o number more done act who =
    let same = made-ground o (now_of o (steps_by o (more ++ done))) (more ++ done) act (λ s. ground-terminal number (sym who ∙ s)) in
    let is : reached o (actor_of act) (act ∷ (more ++ done)) ≡ reached o (Terminal number) (act ∷ (more ++ done)) = ap (λ (site : Site). reached o site (act ∷ (more ++ done))) who in
    omega (arith, same, is, reached-onward o (Terminal number) (act ∷ more) done)

board-own : (o : Opening) (more done : List Act) (act : Act) → actor_of act ≡ Satellite → now_of o (steps_by o done) ≤ made_in o (now_of o (steps_by o (more ++ done))) (more ++ done) act
board-own o more done (Hears Satellite line) who = now-onward o more done
board-own o more done (Hears Centre line) who = absurd (ground-centre who)
board-own o more done (Hears Standby line) who = absurd (ground-standby who)
board-own o more done (Hears (Terminal number) line) who = absurd (ground-terminal number who)
board-own o more done Begins who = omega (arith, now-onward o more done)
board-own o more done (Starts number) who = absurd (ground-terminal number who)
board-own o more done (Turns target) who = absurd (ground-centre who)
board-own o more done Places who = absurd (ground-centre who)
board-own o more done (Installs plan) who = absurd (ground-centre who)
board-own o more done (Restarts kept) who = absurd (ground-centre who)
board-own o more done StandbyStarts who = absurd (ground-standby who)
board-own o more done Seconds who = absurd (ground-standby who)

-- a moment of a terminal
knows-some : (k r m : ℕ) → (k ≡ 0) ⊎ (k ≡ r) → k ≡ m → 0 < m → r ≡ m
knows-some k r m (inl none) e some = absurd (omega (arith, none, e, some))
knows-some k r m (inr same) e some = sym same ∙ e

ground-moment : (o : Opening) (acts : List Act) (mark : ℕ) (number : TermNo) (bursts : List Burst) → AreStamped o acts → (t : SendsIn o acts mark number bursts)
    → IsMoment o (late_of o acts) (Terminal number) mark (late_of o t.done)
ground-moment o acts mark number bursts are t =
    let site = Terminal number in
    let s = all-stamped o t.done (stamped-behind o t.later t.done (subst (λ (list : List Act). AreStamped o list) (sym t.is) are)) in
    let k = s.grounds site (ground-terminal number) in
    let here : reached o site t.done ≡ mark = knows-some (known site t.done) (reached o site t.done) mark k.knows t.knows t.some in
    record {
      later = later_of o t.later t.done;
      is = late-behind o t.later t.done ∙ ap (λ (list : List Act). late_of o list) t.is;
      has = record { opened = subst (λ (n : ℕ). greatest_due o.orders ≤ n) here k.opened; begun = subst (λ (n : ℕ). n ≤ now_of o (steps_by o t.done)) here k.begun };
      forward = subst (λ (n : ℕ). IsForward site n (late_of o t.done)) here k.forward;
      from = subst (λ (n : ℕ). IsFrom site n (later_of o t.later t.done)) here
          (from-later o site (reached o site t.done) t.later t.done (λ more act who. ground-own o number more t.done act who));
    }

-- a moment of the satellite
pub board-moment : (o : Opening) (acts : List Act) (mark : ℕ) (done : List Act) → AreStamped o acts → IsOnBoard o acts mark done → IsMoment o (late_of o acts) Satellite mark (late_of o done)
board-moment o acts mark done are b =
    let s = all-stamped o done (stamped-behind o b.later done (subst (λ (list : List Act). AreStamped o list) (sym b.is) are)) in
    let now = now_of o (steps_by o done) in
    record {
      later = later_of o b.later done;
      is = late-behind o b.later done ∙ ap (λ (list : List Act). late_of o list) b.is;
      has = record { opened = omega (arith, s.opened, b.now); begun = omega (arith, b.now) };
      forward = subst (λ (n : ℕ). IsForward Satellite n (late_of o done)) b.now s.on_board;
      from = subst (λ (n : ℕ). IsFrom Satellite n (later_of o b.later done)) b.now (from-later o Satellite now b.later done (λ more act who. board-own o more done act who));
    }

pub sent-at : (o : Opening) (acts : List Act) (mark : ℕ) (sends : TermNo → List Burst) → AreStamped o acts → AreSentIn o acts mark sends → AreOnAir o (late_of o acts) mark sends
sent-at o acts mark sends are sent number = elim (sent number) [
  | inl none ↦ inl none
  | inr t ↦ inr (record { done = late_of o t.done; moment = ground-moment o acts mark number (sends number) are t; is = t.sends })
]

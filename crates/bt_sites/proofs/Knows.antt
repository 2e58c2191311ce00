-- What a site knows, and how far it came.
use Rattle.std.proofs.Common.{◌≡◌, ◌⊎◌, inl, inr, ℕ, zero, suc, ◌<◌, ◌≤◌, ◌==◌, max, if◌then◌else◌, Bool, true, false, List, [], ◌∷◌, Option, Some, None, IfSome, refl, sym, ◌∙◌, ap, subst, arith}
use Rattle.std.proofs.Math.Nat.{le-max_left, le-max_right, max-le}
use Rattle.std.proofs.lemmas.Bool.{eqb-true}
use Rattle.std.proofs.lemmas.Bool.Decides.{nat_tests}
use Rattle.bt_frame.specs.declared.numbers.Mark.{Mark}
use Rattle.bt_frame.specs.declared.numbers.TermNo.{TermNo}
use Rattle.bt_sites.specs.Step.{Site, Satellite, Centre, Terminal, Standby, Step}
use Rattle.bt_site.specs.Event.{Opening}
use Rattle.bt_site.specs.World.{greatest_due}
use Rattle.bt_sites.specs.Late.{IsForward, Late, WasSaidBy, now_of, site_of, steps_of}
use Rattle.bt_sites.specs.Stamps.{Act, Begins, Begun, Hears, Installs, Line, MayHear, Places, Radio, Restarts, Seconds, StandbyStarts, Starts, Turns, actor_of, is_same_site, joined, known, known_by, late_of, made_in, reached, said_if, stamp_of, step_by, steps_by, where_known}
use Rattle.bt_sites.specs.Fits.{WasSaid}
use Rattle.bt_sites.specs.Step as step
use Rattle.bt_sites.proofs.Onward.{now-grows}
use Rattle.bt_sites.proofs.Same.{same-number}

-- two sites are one, or not
same-by : (a b : TermNo) (test : Bool) → (a.0 == b.0) ≡ test → test ≡ true → Terminal a ≡ Terminal b
same-by a b true e is = ap (λ (n : TermNo). Terminal n) (same-number a b (eqb-true _ _ e))
same-by a b false e is = absurd (cc)

pub same-site_by : (a b : Site) → is_same_site a b ≡ true → a ≡ b
same-site_by Satellite Satellite is = refl
same-site_by Satellite Centre is = cc
same-site_by Satellite (Terminal b) is = cc
same-site_by Centre Satellite is = cc
same-site_by Centre Centre is = refl
same-site_by Centre (Terminal b) is = cc
same-site_by (Terminal a) Satellite is = cc
same-site_by (Terminal a) Centre is = cc
same-site_by (Terminal a) (Terminal b) is = same-by a b (a.0 == b.0) refl is
same-site_by Satellite Standby is = cc
same-site_by Centre Standby is = cc
same-site_by (Terminal a) Standby is = cc
same-site_by Standby Satellite is = cc
same-site_by Standby Centre is = cc
same-site_by Standby (Terminal b) is = cc
same-site_by Standby Standby is = refl

pub is-itself : (n : ℕ) → (n == n) ≡ true
is-itself n = grind (arith, nat_tests)

pub site-itself : (site : Site) → is_same_site site site ≡ true
site-itself Satellite = refl
site-itself Centre = refl
site-itself Standby = refl
site-itself (Terminal number) = is-itself number.0

-- what a site knows after an act of its own, and after one of another
if-true : (test : Bool) (a b : ℕ) → test ≡ true → (if test then a else b) ≡ a
if-true true a b e = refl
if-true false a b e = cc

if-false : (test : Bool) (a b : ℕ) → test ≡ false → (if test then a else b) ≡ b
if-false true a b e = cc
if-false false a b e = refl

pub known-own : (before : List Act) (act : Act) → known (actor_of act) (act ∷ before) ≡ known_by (known (actor_of act) before) act
known-own before act = if-true (is_same_site (actor_of act) (actor_of act)) (known_by (known (actor_of act) before) act) (known (actor_of act) before) (site-itself (actor_of act))

pub known-other : (site : Site) (before : List Act) (act : Act) → is_same_site (actor_of act) site ≡ false → known site (act ∷ before) ≡ known site before
known-other site before act other = if-false (is_same_site (actor_of act) site) (known_by (known site before) act) (known site before) other

-- a step in a superframe that the site knows
pub in-known : (P : Step → Type 0) (n : ℕ) (make : Mark → Step) → ((m : ℕ) → n ≡ suc m → P (make (record { 0 = suc m }))) → IfSome (where_known n make) P
in-known P zero make each = tt
in-known P (suc n) make each = each n refl

-- the step of an act is of the same site
pub step-actor : (before : List Act) (act : Act) → IfSome (step_by before act) (λ (made : Step). site_of made ≡ actor_of act)
step-actor before (Hears Satellite (Begun stamp)) = tt
step-actor before (Hears Centre (Begun stamp)) = tt
step-actor before (Hears (Terminal number) (Begun stamp)) = tt
step-actor before (Hears Standby (Begun stamp)) = tt
step-actor before (Hears Satellite (Radio stamp bytes)) = refl
step-actor before (Hears Centre (Radio stamp bytes)) =
    in-known (λ (made : Step). site_of made ≡ Centre) (max (known Centre before) stamp) (λ (mark : Mark). step.CentreHears mark bytes) (λ m e. refl)
step-actor before (Hears (Terminal number) (Radio stamp bytes)) =
    in-known (λ (made : Step). site_of made ≡ Terminal number) (max (known (Terminal number) before) stamp) (λ (mark : Mark). step.TerminalHears number mark bytes) (λ m e. refl)
step-actor before (Hears Standby (Radio stamp bytes)) =
    in-known (λ (made : Step). site_of made ≡ Standby) (max (known Standby before) stamp) (λ (mark : Mark). step.StandbyHears mark bytes) (λ m e. refl)
step-actor before Begins = refl
step-actor before (Starts number) = refl
step-actor before (Turns target) = in-known (λ (made : Step). site_of made ≡ Centre) (known Centre before) (λ (mark : Mark). step.Turns mark target) (λ m e. refl)
step-actor before Places = in-known (λ (made : Step). site_of made ≡ Centre) (known Centre before) (λ (mark : Mark). step.Places) (λ m e. refl)
step-actor before (Installs plan) = refl
step-actor before (Restarts kept) = refl
step-actor before StandbyStarts = refl
step-actor before Seconds = in-known (λ (made : Step). site_of made ≡ Standby) (known Standby before) (λ (mark : Mark). step.Seconds mark) (λ m e. refl)

-- with a step more
pub now-joined : (o : Opening) (mark : ℕ) (made : Option Step) (late : List Late) → now_of o (steps_of late) ≤ now_of o (steps_of (joined mark made late))
now-joined o mark None late = omega arith
now-joined o mark (Some made) late = now-grows o (steps_of late) made

pub forward-joined : (site : Site) (bound mark : ℕ) (made : Option Step) (late : List Late) → IfSome made (λ (one : Step). site_of one ≡ site → mark ≤ bound)
    → IsForward site bound late → IsForward site bound (joined mark made late)
forward-joined site bound mark None late own forward = forward
forward-joined site bound mark (Some made) late own forward = (own, forward)

pub said-joined : (o : Opening) (by mark : ℕ) (made : Option Step) (late : List Late) (bytes : List ℕ) → WasSaidBy o by late bytes → WasSaidBy o by (joined mark made late) bytes
said-joined o by mark None late bytes was = was
said-joined o by mark (Some made) late bytes was = inl was

pub said-now : (o : Opening) (by mark : ℕ) (made : Option Step) (late : List Late) (bytes : List ℕ) → mark ≤ by → WasSaid (said_if o (steps_of late) made) bytes
    → WasSaidBy o by (joined mark made late) bytes
said-now o by mark None late bytes le was = absurd was
said-now o by mark (Some made) late bytes le was = inr (le, was)

pub forward-later : (site : Site) (bound more : ℕ) (late : List Late) → bound ≤ more → IsForward site bound late → IsForward site more late
forward-later site bound more [] le forward = tt
forward-later site bound more (one ∷ before) le forward = (λ e. omega (arith, le, forward.0 e), forward-later site bound more before le forward.1)

pub said-later : (o : Opening) (by more : ℕ) (late : List Late) (bytes : List ℕ) → by ≤ more → WasSaidBy o by late bytes → WasSaidBy o more late bytes
said-later o by more [] bytes le was = was
said-later o by more (one ∷ before) bytes le (inl was) = inl (said-later o by more before bytes le was)
said-later o by more (one ∷ before) bytes le (inr now) = inr (omega (arith, le, now.0), now.1)

-- the greater of two numbers
pub max-most : (a b k : ℕ) → a ≤ k → b ≤ k → max a b ≤ k
max-most a b k le ge = max-le le ge

pub max-first : (a b : ℕ) → b ≡ 0 → max a b ≡ a
max-first a b none = let up = max-most a b a (omega arith) (omega (arith, none)) in omega (arith, up, le-max_left a b)

pub max-last : (a b : ℕ) → a ≤ b → max a b ≡ b
max-last a b le = let up = max-most a b b le (omega arith) in omega (arith, up, le-max_right a b)

-- a terminal or the centre after some acts
pub record Knows (o : Opening) (site : Site) (acts : List Act) : Type 0 where
  pub opened : greatest_due o.orders ≤ reached o site acts
  pub begun : reached o site acts ≤ now_of o (steps_by o acts)
  pub knows : (known site acts ≡ 0) ⊎ (known site acts ≡ reached o site acts)
  pub forward : IsForward site (reached o site acts) (late_of o acts)

-- what it knows with one act more
pub record KnowsNext (o : Opening) (site : Site) (before : List Act) (act : Act) : Type 0 where
  pub begun : known site (act ∷ before) ≤ now_of o (steps_by o before)
  pub onward : (known site (act ∷ before) ≡ 0) ⊎ (reached o site before ≤ known site (act ∷ before))

-- it knows as much as before, or nothing
stays : (r k n m : ℕ) → k ≡ m → r ≤ n → (m ≡ 0) ⊎ (m ≡ r) → (k ≤ n) × ((k ≡ 0) ⊎ (r ≤ k))
stays r k n m same begun (inl none) = (omega (arith, same, none), inl (same ∙ none))
stays r k n m same begun (inr is) = (omega (arith, same, begun, is), inr (omega (arith, same, is)))

next-same : (o : Opening) (site : Site) (before : List Act) (act : Act) → Knows o site before → known site (act ∷ before) ≡ known site before → KnowsNext o site before act
next-same o site before act k same =
    let both = stays (reached o site before) (known site (act ∷ before)) (now_of o (steps_by o before)) (known site before) same k.begun k.knows in
    record { begun = both.0; onward = both.1 }

next-none : (o : Opening) (site : Site) (before : List Act) (act : Act) → known site (act ∷ before) ≡ 0 → KnowsNext o site before act
next-none o site before act none = record { begun = omega (arith, none); onward = inl none }

-- it hears a line
goes-on : (r k s : ℕ) → (k ≡ 0) ⊎ (k ≡ r) → (k ≡ 0 → 0 < s → r ≤ s) → (max k s ≡ 0) ⊎ (r ≤ max k s)
goes-on r k zero (inl none) on = inl (max-first k zero refl ∙ none)
goes-on r k (suc s) (inl none) on = inr (omega (arith, on none (omega arith), le-max_right k (suc s)))
goes-on r k s (inr is) on = inr (omega (arith, is, le-max_left k s))

next-hears : (o : Opening) (site : Site) (before : List Act) (line : Line) → Knows o site before → known site (Hears site line ∷ before) ≡ max (known site before) (stamp_of line)
    → stamp_of line ≤ now_of o (steps_by o before) → (known site before ≡ 0 → 0 < stamp_of line → reached o site before ≤ stamp_of line) → KnowsNext o site before (Hears site line)
next-hears o site before line k is said on =
    let kept = stays (reached o site before) (known site before) (now_of o (steps_by o before)) (known site before) refl k.begun k.knows in
    record {
      begun = subst (λ (n : ℕ). n ≤ now_of o (steps_by o before)) (sym is) (max-most (known site before) (stamp_of line) (now_of o (steps_by o before)) kept.0 said);
      onward = subst (λ (n : ℕ). (n ≡ 0) ⊎ (reached o site before ≤ n)) (sym is) (goes-on (reached o site before) (known site before) (stamp_of line) k.knows on);
    }

-- the same of all that it came to
pub came : (o : Opening) (site : Site) (before : List Act) (act : Act) → Knows o site before → KnowsNext o site before act
    → (greatest_due o.orders ≤ reached o site (act ∷ before)) × (reached o site (act ∷ before) ≤ now_of o (steps_by o before))
came o site before act k next = (
  omega (arith, k.opened, le-max_left (reached o site before) (known site (act ∷ before))),
  max-most (reached o site before) (known site (act ∷ before)) (now_of o (steps_by o before)) k.begun next.begun,
)

came-knows : (r k : ℕ) → (k ≡ 0) ⊎ (r ≤ k) → (k ≡ 0) ⊎ (k ≡ max r k)
came-knows r k (inl none) = inl none
came-knows r k (inr on) = inr (sym (max-last r k on))

-- a site on the ground goes by the superframe that it reached
pub made-ground : (o : Opening) (now : ℕ) (before : List Act) (act : Act) → (actor_of act ≡ Satellite → ⊥) → made_in o now before act ≡ reached o (actor_of act) (act ∷ before)
made-ground o now before (Hears Satellite line) ground = absurd (ground refl)
made-ground o now before (Hears Centre line) ground = refl
made-ground o now before (Hears Standby line) ground = refl
made-ground o now before (Hears (Terminal number) line) ground = refl
made-ground o now before Begins ground = absurd (ground refl)
made-ground o now before (Starts number) ground = refl
made-ground o now before (Turns target) ground = refl
made-ground o now before Places ground = refl
made-ground o now before (Installs plan) ground = refl
made-ground o now before (Restarts kept) ground = refl
made-ground o now before StandbyStarts ground = refl
made-ground o now before Seconds ground = refl

if-some : (P Q : Step → Type 0) (made : Option Step) → ((one : Step) → P one → Q one) → IfSome made P → IfSome made Q
if-some P Q None more is = tt
if-some P Q (Some one) more is = more one is

pub knows-more : (o : Opening) (site : Site) (before : List Act) (act : Act) → (site ≡ Satellite → ⊥) → Knows o site before → KnowsNext o site before act → Knows o site (act ∷ before)
knows-more o site before act ground k next =
    let late = late_of o before in
    let now = now_of o (steps_by o before) in
    let mark = made_in o now before act in
    let made = step_by before act in
    let r = reached o site (act ∷ before) in
    let both = came o site before act k next in
    record {
      opened = both.0;
      begun = omega (arith, both.1, now-joined o mark made late);
      knows = came-knows (reached o site before) (known site (act ∷ before)) next.onward;
      forward = forward-joined site r mark made late
          (if-some (λ (one : Step). site_of one ≡ actor_of act) (λ (one : Step). site_of one ≡ site → mark ≤ r) made
          (λ one is e.
          let who : actor_of act ≡ site = sym is ∙ e in
          let same : mark ≡ r = made-ground o now before act (λ s. ground (sym who ∙ s)) ∙ ap (λ (place : Site). reached o place (act ∷ before)) who in
          omega (arith, same))
          (step-actor before act))
          (forward-later site (reached o site before) r late (le-max_left (reached o site before) (known site (act ∷ before))) k.forward);
    }

-- one act more of any site
pub next-own : (o : Opening) (before : List Act) (act : Act) → (actor_of act ≡ Satellite → ⊥) → Knows o (actor_of act) before
    → ((site : Site) (line : Line) → act ≡ Hears site line → (stamp_of line ≤ now_of o (steps_by o before)) × MayHear o before site (stamp_of line)) → KnowsNext o (actor_of act) before act
next-own o before (Hears Satellite line) ground k hears = absurd (ground refl)
next-own o before (Hears Centre line) ground k hears =
    let h = hears Centre line refl in next-hears o Centre before line k refl h.0 h.1
next-own o before (Hears Standby line) ground k hears =
    let h = hears Standby line refl in next-hears o Standby before line k refl h.0 h.1
next-own o before (Hears (Terminal number) line) ground k hears =
    let h = hears (Terminal number) line refl in next-hears o (Terminal number) before line k (known-own before (Hears (Terminal number) line)) h.0 h.1.2
next-own o before Begins ground k hears = absurd (ground refl)
next-own o before (Starts number) ground k hears = next-none o (Terminal number) before (Starts number) (known-own before (Starts number))
next-own o before (Turns target) ground k hears = next-same o Centre before (Turns target) k refl
next-own o before Places ground k hears = next-same o Centre before Places k refl
next-own o before (Installs plan) ground k hears = next-same o Centre before (Installs plan) k refl
next-own o before (Restarts kept) ground k hears = next-none o Centre before (Restarts kept) refl
next-own o before StandbyStarts ground k hears = next-none o Standby before StandbyStarts refl
next-own o before Seconds ground k hears = next-same o Standby before Seconds k refl

next-if : (o : Opening) (site : Site) (before : List Act) (act : Act) (test : Bool) → is_same_site (actor_of act) site ≡ test → (actor_of act ≡ site → KnowsNext o site before act) → Knows o site before
    → KnowsNext o site before act
next-if o site before act true e own k = own (same-site_by (actor_of act) site e)
next-if o site before act false e own k = next-same o site before act k (known-other site before act e)

pub next-any : (o : Opening) (site : Site) (before : List Act) (act : Act) → (site ≡ Satellite → ⊥) → Knows o site before
    → ((place : Site) (line : Line) → act ≡ Hears place line → (stamp_of line ≤ now_of o (steps_by o before)) × MayHear o before place (stamp_of line)) → KnowsNext o site before act
next-any o site before act ground k hears =
    next-if o site before act (is_same_site (actor_of act) site) refl
    (λ who. subst (λ (place : Site). KnowsNext o place before act) who
    (next-own o before act (λ s. ground (sym who ∙ s)) (subst (λ (place : Site). Knows o place before) (sym who) k) hears)) k

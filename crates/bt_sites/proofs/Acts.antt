-- Each run of sites is made by sites that hear lines with stamps, each of which hears first that the superframe began.
use Rattle.std.proofs.Common.{◌≡◌, ◌⊎◌, inl, inr, ℕ, zero, suc, ◌+◌, ◌<◌, ◌≤◌, ◌==◌, ◌||◌, max, Bool, true, false, List, [], ◌∷◌, ◌++◌, map, Option, Some, None, refl, sym, ◌∙◌, ap, subst, arith}
use Rattle.std.specs.Prelude.{IsSome}
use Rattle.std.proofs.Math.Nat.{le-max_left}
use Rattle.bt_frame.specs.declared.limits.TheConstants.{LAST_MARK}
use Rattle.bt_frame.specs.declared.numbers.Mark.{Mark}
use Rattle.bt_frame.specs.declared.numbers.TermNo.{TermNo}
use Rattle.bt_net.specs.Terminals.{IsTerminal}
use Rattle.bt_machines.specs.Plans.{newest_of, plan_of}
use Rattle.bt_site.specs.Event.{Opening}
use Rattle.bt_sites.specs.Acts.{AreLed, HasActs, IsLed, has_begun, starts_in}
use Rattle.bt_sites.specs.Fits.{AreSites, IsNow, MayStep, WasSaid}
use Rattle.bt_sites.specs.Late.{Late, now_of, steps_of}
use Rattle.bt_sites.specs.Sites.{centre_after, plans_after, read_of, said, said_with, satellite_after}
use Rattle.bt_sites.specs.Stamps.{Act, AreStamped, Begun, HasLine, Hears, Line, MayAct, Radio, begun_by, has_started, joined, known, late_of, lines, lines_by, made_in, reached, said_if, stamp_by, step_by, steps_by, where_known}
use Rattle.bt_sites.specs.Stamps as act
use Rattle.bt_sites.specs.Step.{Site, Satellite, Centre, Terminal, Standby, Step, Begins, SatelliteHears, Starts, TerminalHears, CentreHears, Turns, Places, Installs, Restarts, StandbyStarts, StandbyHears, Seconds}
use Rattle.bt_sites.proofs.Inserts.{ground-centre, ground-standby, ground-terminal, was-either}
use Rattle.bt_sites.proofs.Knows.{known-own, max-last, max-most}
use Rattle.bt_sites.proofs.Marks.{mark-ticked, with-keeps}
use Rattle.bt_sites.proofs.Onward.{now-grows}
use Rattle.bt_sites.proofs.Stamped.{IsTold}
use Rattle.bt_sites.proofs.StampedLate.{all-stamped}
use Rattle.bt_sites.proofs.Turned.{same-mark}

-- a line of either list
pub line-left : (a b : List Line) (line : Line) → HasLine a line → HasLine (a ++ b) line
line-left [] b line has = absurd has
line-left (x ∷ xs) b line (inl same) = inl same
line-left (x ∷ xs) b line (inr has) = inr (line-left xs b line has)

pub line-right : (a b : List Line) (line : Line) → HasLine b line → HasLine (a ++ b) line
line-right [] b line has = has
line-right (x ∷ xs) b line has = inr (line-right xs b line has)

-- the line of bytes that were said
record HasRadio (all : List Line) (bytes : List ℕ) : Type 0 where
  stamp : ℕ
  has : HasLine all (Radio stamp bytes)

radio-of : (stamp : ℕ) (said : List (List ℕ)) (bytes : List ℕ) → WasSaid said bytes → HasLine (map (λ (b : List ℕ). Radio stamp b) said) (Radio stamp bytes)
radio-of stamp [] bytes was = absurd was
radio-of stamp (x ∷ xs) bytes (inl same) = inl (ap (λ (b : List ℕ). Radio stamp b) same)
radio-of stamp (x ∷ xs) bytes (inr was) = inr (radio-of stamp xs bytes was)

said-either : (o : Opening) (mark : ℕ) (made : Option Step) (late : List Late) (bytes : List ℕ) → WasSaid (said o (steps_of (joined mark made late))) bytes
    → WasSaid (said o (steps_of late)) bytes ⊎ WasSaid (said_if o (steps_of late) made) bytes
said-either o mark None late bytes was = inl was
said-either o mark (Some one) late bytes was = was-either (said o (steps_of late)) (said_with o (steps_of late) one) bytes was

radio-said : (o : Opening) (acts : List Act) (bytes : List ℕ) → WasSaid (said o (steps_by o acts)) bytes → HasRadio (lines o acts) bytes
radio-said o [] bytes was = absurd was
radio-said o (one ∷ before) bytes was =
    let now = now_of o (steps_by o before) in
    let radios = map (λ (b : List ℕ). Radio (stamp_by now before one) b) (said_if o (steps_by o before) (step_by before one)) in
    elim (said-either o (made_in o now before one) (step_by before one) (late_of o before) bytes was) [
      | inl earlier ↦ (let r = radio-said o before bytes earlier in record { stamp = r.stamp; has = line-right (lines_by o before one) (lines o before) (Radio r.stamp bytes) r.has })
      | inr with_it ↦ record {
        stamp = stamp_by now before one;
        has = line-left (lines_by o before one) (lines o before) (Radio (stamp_by now before one) bytes)
            (line-right (begun_by now one) radios (Radio (stamp_by now before one) bytes) (radio-of (stamp_by now before one) (said_if o (steps_by o before) (step_by before one)) bytes with_it));
      }
    ]

-- acts that make these steps
record Makes (o : Opening) (steps : List Step) : Type 0 where
  acts : List Act
  stamped : AreStamped o acts
  are : steps_by o acts ≡ steps
  started : (number : TermNo) → starts_in number steps ≡ true → has_started number acts ≡ true
  begun : has_begun steps ≡ true → HasLine (lines o acts) (Begun (now_of o steps))

-- a superframe that began has a number
begun-some : (o : Opening) (steps : List Step) → has_begun steps ≡ true → 0 < now_of o steps
begun-some o [] e = cc
begun-some o (Begins ∷ before) e = omega (arith, mark-ticked (satellite_after o before))
begun-some o (SatelliteHears bytes ∷ before) e = omega (arith, begun-some o before e, now-grows o before (SatelliteHears bytes))
begun-some o (Starts number ∷ before) e = begun-some o before e
begun-some o (TerminalHears number mark bytes ∷ before) e = begun-some o before e
begun-some o (CentreHears mark bytes ∷ before) e = begun-some o before e
begun-some o (Turns mark target ∷ before) e = begun-some o before e
begun-some o (Places ∷ before) e = begun-some o before e
begun-some o (Installs plan ∷ before) e = begun-some o before e
begun-some o (Restarts kept ∷ before) e = begun-some o before e
begun-some o (StandbyStarts ∷ before) e = begun-some o before e
begun-some o (StandbyHears mark bytes ∷ before) e = begun-some o before e
begun-some o (Seconds mark ∷ before) e = begun-some o before e

-- with one act more
made-more : (o : Opening) (acts : List Act) (one : Act) (made : Step) (before : List Step) → steps_by o acts ≡ before → step_by acts one ≡ Some made → steps_by o (one ∷ acts) ≡ made ∷ before
made-more o acts one made before are is =
    ap (λ (m : Option Step). steps_of (joined (made_in o (now_of o (steps_by o acts)) acts one) m (late_of o acts))) is ∙ ap (λ (list : List Step). made ∷ list) are

-- an act that begins no superframe and starts no terminal
makes-more : (o : Opening) (before : List Step) (acts : List Act) (one : Act) (made : Step) → steps_by o acts ≡ before → AreStamped o (one ∷ acts) → step_by acts one ≡ Some made
    → ((number : TermNo) → starts_in number (made ∷ before) ≡ true → has_started number (one ∷ acts) ≡ true)
    → (has_begun (made ∷ before) ≡ true → HasLine (lines o acts) (Begun (now_of o (made ∷ before)))) → Makes o (made ∷ before)
makes-more o before acts one made are stamped is started begun = record {
  acts = one ∷ acts;
  stamped = stamped;
  are = made-more o acts one made before are is;
  started = started;
  begun = λ e. line-right (lines_by o acts one) (lines o acts) (Begun (now_of o (made ∷ before))) (begun e);
}

-- a site that hears first that the superframe began knows it
record Ready (o : Opening) (site : Site) (before : List Step) (acts : List Act) : Type 0 where
  stamped : AreStamped o (Hears site (Begun (now_of o before)) ∷ acts)
  knows : known site (Hears site (Begun (now_of o before)) ∷ acts) ≡ now_of o before

under : (k r n : ℕ) → (k ≡ 0) ⊎ (k ≡ r) → r ≤ n → k ≤ n
under k r n (inl none) le = omega (arith, none)
under k r n (inr same) le = omega (arith, same, le)

ready-knows : (o : Opening) (site : Site) (before : List Step) (m : Makes o before) → (site ≡ Satellite → ⊥) → known site (Hears site (Begun (now_of o before)) ∷ m.acts) ≡ now_of o before
ready-knows o site before m ground =
    let k = (all-stamped o m.acts m.stamped).grounds site ground in
    let le = subst (λ (list : List Step). reached o site m.acts ≤ now_of o list) m.are k.begun in
    known-own m.acts (Hears site (Begun (now_of o before))) ∙ max-last (known site m.acts) (now_of o before) (under (known site m.acts) (reached o site m.acts) (now_of o before) k.knows le)

reached-now : (o : Opening) (site : Site) (before : List Step) (m : Makes o before) → (site ≡ Satellite → ⊥) → reached o site m.acts ≤ now_of o before
reached-now o site before m ground = subst (λ (list : List Step). reached o site m.acts ≤ now_of o list) m.are ((all-stamped o m.acts m.stamped).grounds site ground).begun

ready-centre : (o : Opening) (before : List Step) (m : Makes o before) → has_begun before ≡ true → Ready o Centre before m.acts
ready-centre o before m e = record { stamped = ((m.begun e, (λ none some. reached-now o Centre before m ground-centre)), m.stamped); knows = ready-knows o Centre before m ground-centre }

ready-standby : (o : Opening) (before : List Step) (m : Makes o before) → has_begun before ≡ true → Ready o Standby before m.acts
ready-standby o before m e = record { stamped = ((m.begun e, (λ none some. reached-now o Standby before m ground-standby)), m.stamped); knows = ready-knows o Standby before m ground-standby }

ready-terminal : (o : Opening) (before : List Step) (m : Makes o before) (number : TermNo) → IsTerminal o.net number → starts_in number before ≡ true → has_begun before ≡ true
    → Ready o (Terminal number) before m.acts
ready-terminal o before m number net started e = record {
  stamped = ((m.begun e, (net, m.started number started, (λ none some. reached-now o (Terminal number) before m (ground-terminal number)))), m.stamped);
  knows = ready-knows o (Terminal number) before m (ground-terminal number);
}

-- it makes a step in that superframe
where-is : (n : ℕ) (make : Mark → Step) (mark : Mark) → 0 < n → mark.0 ≡ n → where_known n make ≡ Some (make mark)
where-is zero make mark some same = absurd (omega (arith, some))
where-is (suc n) make mark some same = ap (λ (k : Mark). Some (make k)) (sym (same-mark mark (suc n) same))

-- or hears a line of no later one
hears-in : (k stamp n : ℕ) (make : Mark → Step) (mark : Mark) → k ≡ n → stamp ≤ n → 0 < n → mark.0 ≡ n → where_known (max k stamp) make ≡ Some (make mark)
hears-in k stamp n make mark same le some is =
    let up = max-most k stamp n (omega (arith, same)) le in
    let down = le-max_left k stamp in
    let whole : max k stamp ≡ n = omega (arith, up, down, same) in
    where-is (max k stamp) make mark (omega (arith, whole, some)) (is ∙ sym whole)

no-catch : (k n : ℕ) → k ≡ n → 0 < n → k ≡ 0 → ⊥
no-catch k n same some none = omega (arith, same, some, none)

some-known : (k n : ℕ) → k ≡ n → 0 < n → 0 < k
some-known k n same some = omega (arith, same, some)

no-begun : false ≡ true → ⊥
no-begun e = cc

-- who has started with this step has started with this act
pub or-more : (test a b : Bool) → (a ≡ true → b ≡ true) → (test || a) ≡ true → (test || b) ≡ true
or-more true a b more e = refl
or-more false a b more e = more e

starts-more : {o : Opening} (number other : TermNo) (before : List Step) (m : Makes o before) → starts_in other (Starts number ∷ before) ≡ true → has_started other (act.Starts number ∷ m.acts) ≡ true
starts-more number other before m e = or-more (number.0 == other.0) (starts_in other before) (has_started other m.acts) (m.started other) e

-- the line of what was said
told-by : (o : Opening) (before : List Step) (m : Makes o before) (bytes : List ℕ) → WasSaid (said o before) bytes → HasRadio (lines o m.acts) bytes
told-by o before m bytes was = radio-said o m.acts bytes (subst (λ (list : List Step). WasSaid (said o list) bytes) (sym m.are) was)

within : (o : Opening) (before : List Step) (m : Makes o before) (bytes : List ℕ) (r : HasRadio (lines o m.acts) bytes) → r.stamp ≤ now_of o before
within o before m bytes r =
    let told : IsTold o m.acts (Radio r.stamp bytes) = (all-stamped o m.acts m.stamped).told (Radio r.stamp bytes) r.has in
    subst (λ (list : List Step). r.stamp ≤ now_of o list) m.are told.0

-- the present superframe, as a number
present : (o : Opening) (before : List Step) (mark : Mark) → IsNow o before mark → mark.0 ≡ now_of o before
present o before mark now = ap (λ (k : Mark). k.0) now

-- one step more
step-made : (o : Opening) (before : List Step) (step : Step) (m : Makes o before) → MayStep o before step → IsLed before step → Makes o (step ∷ before)
step-made o before Begins m may led = record {
  acts = act.Begins ∷ m.acts;
  stamped = (subst (λ (list : List Step). now_of o list < LAST_MARK) (sym m.are) may, m.stamped);
  are = made-more o m.acts act.Begins Begins before m.are refl;
  started = m.started;
  begun = λ e. inl (ap (λ (n : ℕ). Begun n) (mark-ticked (satellite_after o before) ∙ ap (λ (list : List Step). now_of o list + 1) (sym m.are)));
}
step-made o before (SatelliteHears bytes) m may led =
    let r = told-by o before m bytes may in
    makes-more o before m.acts (Hears Satellite (Radio r.stamp bytes)) (SatelliteHears bytes) m.are ((r.has, tt), m.stamped) refl m.started
    (λ e. subst (λ (n : ℕ). HasLine (lines o m.acts) (Begun n)) (ap (λ (k : Mark). k.0) (sym (with-keeps (satellite_after o before) (read_of bytes)))) (m.begun e))
step-made o before (Starts number) m may led = makes-more o before m.acts (act.Starts number) (Starts number) m.are (may, m.stamped) refl
    (λ other e. starts-more number other before m e) m.begun
step-made o before (TerminalHears number mark bytes) m may led =
    let ready = ready-terminal o before m number may.0 led.0 led.1 in
    let r = told-by o before m bytes may.2 in
    let some = begun-some o before led.1 in
    let first = Hears (Terminal number) (Begun (now_of o before)) ∷ m.acts in
    makes-more o before first (Hears (Terminal number) (Radio r.stamp bytes)) (TerminalHears number mark bytes) m.are
    ((r.has, (may.0, m.started number led.0, (λ none above. absurd (no-catch (known (Terminal number) first) (now_of o before) ready.knows some none)))), ready.stamped)
    (hears-in (known (Terminal number) first) r.stamp (now_of o before) (λ (k : Mark). TerminalHears number k bytes) mark ready.knows (within o before m bytes r) some (present o before mark may.1))
    m.started m.begun
step-made o before (CentreHears mark bytes) m may led =
    let ready = ready-centre o before m led in
    let r = told-by o before m bytes may.1 in
    let some = begun-some o before led in
    let first = Hears Centre (Begun (now_of o before)) ∷ m.acts in
    makes-more o before first (Hears Centre (Radio r.stamp bytes)) (CentreHears mark bytes) m.are
    ((r.has, (λ none above. absurd (no-catch (known Centre first) (now_of o before) ready.knows some none))), ready.stamped)
    (hears-in (known Centre first) r.stamp (now_of o before) (λ (k : Mark). CentreHears k bytes) mark ready.knows (within o before m bytes r) some (present o before mark may.0))
    m.started m.begun
step-made o before (StandbyHears mark bytes) m may led =
    let ready = ready-standby o before m led in
    let r = told-by o before m bytes may.1 in
    let some = begun-some o before led in
    let first = Hears Standby (Begun (now_of o before)) ∷ m.acts in
    makes-more o before first (Hears Standby (Radio r.stamp bytes)) (StandbyHears mark bytes) m.are
    ((r.has, (λ none above. absurd (no-catch (known Standby first) (now_of o before) ready.knows some none))), ready.stamped)
    (hears-in (known Standby first) r.stamp (now_of o before) (λ (k : Mark). StandbyHears k bytes) mark ready.knows (within o before m bytes r) some (present o before mark may.0))
    m.started m.begun
step-made o before (Turns mark target) m may led =
    let ready = ready-centre o before m led in
    let first = Hears Centre (Begun (now_of o before)) ∷ m.acts in
    makes-more o before first (act.Turns target) (Turns mark target) m.are
    (subst (λ (list : List Step). IsSome (plan_of (plans_after o list) target)) (sym m.are) may.1, ready.stamped)
    (where-is (known Centre first) (λ (k : Mark). Turns k target) mark (some-known (known Centre first) (now_of o before) ready.knows (begun-some o before led)) (present o before mark may.0 ∙ sym ready.knows))
    m.started m.begun
step-made o before Places m may led =
    let ready = ready-centre o before m led in
    let first = Hears Centre (Begun (now_of o before)) ∷ m.acts in
    makes-more o before first act.Places Places m.are
    (subst (λ (list : List Step). IsSome (centre_after o list).wanted) (sym m.are) may, ready.stamped)
    (where-is (known Centre first) (λ (k : Mark). Places) (record { 0 = known Centre first }) (some-known (known Centre first) (now_of o before) ready.knows (begun-some o before led)) refl)
    m.started m.begun
step-made o before (Seconds mark) m may led =
    let ready = ready-standby o before m led in
    let first = Hears Standby (Begun (now_of o before)) ∷ m.acts in
    makes-more o before first act.Seconds (Seconds mark) m.are (tt, ready.stamped)
    (where-is (known Standby first) (λ (k : Mark). Seconds k) mark (some-known (known Standby first) (now_of o before) ready.knows (begun-some o before led)) (present o before mark may ∙ sym ready.knows))
    m.started m.begun
step-made o before (Installs plan) m may led = makes-more o before m.acts (act.Installs plan) (Installs plan) m.are
    ((subst (λ (list : List Step). (newest_of (plans_after o list)).0 < plan.edition.0) (sym m.are) may.0, may.1), m.stamped) refl m.started m.begun
step-made o before (Restarts true) m may led = makes-more o before m.acts (act.Restarts true) (Restarts true) m.are
    (subst (λ (list : List Step). IsSome (centre_after o list).wanted) (sym m.are) may, m.stamped) refl m.started m.begun
step-made o before (Restarts false) m may led = makes-more o before m.acts (act.Restarts false) (Restarts false) m.are (tt, m.stamped) refl m.started m.begun
step-made o before StandbyStarts m may led = makes-more o before m.acts act.StandbyStarts StandbyStarts m.are (tt, m.stamped) refl m.started m.begun

all-made : (o : Opening) (steps : List Step) → AreSites o steps → AreLed steps → Makes o steps
all-made o [] opening led = record { acts = []; stamped = opening; are = refl; started = λ number e. e; begun = λ e. absurd (no-begun e) }
all-made o (step ∷ before) sites led = step-made o before step (all-made o before sites.1 led.1) sites.0 led.0

pub acts-of : (o : Opening) (steps : List Step) → AreSites o steps → AreLed steps → HasActs o steps
acts-of o steps sites led = let m = all-made o steps sites led in record { acts = m.acts; stamped = m.stamped; are = m.are }

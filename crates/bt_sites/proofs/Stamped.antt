-- Sites that hear lines with stamps are late sites.
use Rattle.std.proofs.Common.{◌≡◌, inl, inr, ℕ, ◌+◌, ◌≤◌, max, true, false, List, [], ◌∷◌, ◌++◌, map, Option, Some, None, IfSome, refl, sym, ◌∙◌, subst, arith}
use Rattle.std.proofs.Math.Nat.{le-max_left, le-max_right}
use Rattle.bt_frame.specs.declared.numbers.Mark.{Mark}
use Rattle.bt_frame.specs.declared.numbers.TermNo.{TermNo}
use Rattle.bt_air.specs.declared.sent.Aired.TheVariants as sends
use Rattle.bt_sites.specs.Step.{Site, Satellite, Centre, Terminal, Standby, Step}
use Rattle.bt_site.specs.Event.{Opening}
use Rattle.bt_site.specs.World.{greatest_due}
use Rattle.bt_sites.specs.Fits.{WasSaid}
use Rattle.bt_sites.specs.Late.{AreLate, IsForward, WasSaidBy, now_of, site_of}
use Rattle.bt_sites.specs.Sites.{bytes_of, satellite_after}
use Rattle.bt_sites.specs.Stamps.{Act, Begins, Begun, Hears, HasLine, Installs, Line, MayAct, MayHear, Places, Radio, Restarts, Seconds, StandbyStarts, Starts, Turns, actor_of, begun_by, has_started, known, late_of, lines, lines_by, made_in, reached, said_if, stamp_by, stamp_of, step_by, steps_by}
use Rattle.bt_sites.specs.Step as step
use Rattle.bt_sites.proofs.Inserts.{ground-centre, ground-standby, ground-terminal}
use Rattle.bt_sites.proofs.Knows.{Knows, KnowsNext, came, forward-joined, forward-later, known-own, knows-more, made-ground, next-any, now-joined, said-joined, said-later, said-now}
use Rattle.bt_sites.proofs.Lines.{IsFresh, SaidLost, known-said, line-either, lost-more, stamped-each, start-started}
use Rattle.bt_sites.proofs.Marks.{mark-ticked}

-- a superframe that a line names has begun, and the bytes behind it were said by then
abbrev pub IsTold : Opening → List Act → Line → Type 0
IsTold o acts (Begun stamp) = stamp ≤ now_of o (steps_by o acts)
IsTold o acts (Radio stamp bytes) = (stamp ≤ now_of o (steps_by o acts)) × WasSaidBy o (max stamp (greatest_due o.orders)) (late_of o acts) bytes

-- what holds after some acts
pub record Stamped (o : Opening) (acts : List Act) : Type 0 where
  pub opened : greatest_due o.orders ≤ now_of o (steps_by o acts)
  pub on_board : IsForward Satellite (now_of o (steps_by o acts)) (late_of o acts)
  pub grounds : (site : Site) → (site ≡ Satellite → ⊥) → Knows o site acts
  pub fresh : (number : TermNo) → has_started number acts ≡ false → IsFresh o number acts
  pub lost : (number : TermNo) → has_started number acts ≡ true → SaidLost o number acts
  pub told : (line : Line) → HasLine (lines o acts) line → IsTold o acts line
  pub late : AreLate o (late_of o acts)

pub now-more : (o : Opening) (before : List Act) (act : Act) → now_of o (steps_by o before) ≤ now_of o (steps_by o (act ∷ before))
now-more o before act = now-joined o (made_in o (now_of o (steps_by o before)) before act) (step_by before act) (late_of o before)

told-stamp : (o : Opening) (acts : List Act) (line : Line) → IsTold o acts line → stamp_of line ≤ now_of o (steps_by o acts)
told-stamp o acts (Begun stamp) told = told
told-stamp o acts (Radio stamp bytes) told = told.0

-- what a site hears was said
hears-said : (o : Opening) (before : List Act) (act : Act) → Stamped o before → MayAct o before act → (site : Site) (line : Line) → act ≡ Hears site line
    → (stamp_of line ≤ now_of o (steps_by o before)) × MayHear o before site (stamp_of line)
hears-said o before act s may site line e =
    let there : MayAct o before (Hears site line) = subst (λ (one : Act). MayAct o before one) e may in
    (told-stamp o before line (s.told line there.0), there.1)

pub next : (o : Opening) (site : Site) (before : List Act) (act : Act) → (site ≡ Satellite → ⊥) → Stamped o before → MayAct o before act → KnowsNext o site before act
next o site before act ground s may = next-any o site before act ground (s.grounds site ground) (hears-said o before act s may)

-- no step is made past the satellite's superframe
within-ground : (o : Opening) (before : List Act) (act : Act) → (actor_of act ≡ Satellite → ⊥) → Stamped o before → MayAct o before act
    → made_in o (now_of o (steps_by o before)) before act ≤ now_of o (steps_by o (act ∷ before))
within-ground o before act ground s may =
    let both = came o (actor_of act) before act (s.grounds (actor_of act) ground) (next o (actor_of act) before act ground s may) in
    omega (arith, both.1, now-more o before act, made-ground o (now_of o (steps_by o before)) before act ground)

made-within : (o : Opening) (before : List Act) (act : Act) → Stamped o before → MayAct o before act → made_in o (now_of o (steps_by o before)) before act ≤ now_of o (steps_by o (act ∷ before))
made-within o before (Hears Satellite line) s may = now-more o before (Hears Satellite line)
made-within o before (Hears Centre line) s may = within-ground o before (Hears Centre line) ground-centre s may
made-within o before (Hears Standby line) s may = within-ground o before (Hears Standby line) ground-standby s may
made-within o before (Hears (Terminal number) line) s may = within-ground o before (Hears (Terminal number) line) (ground-terminal number) s may
made-within o before Begins s may = omega (arith, mark-ticked (satellite_after o (steps_by o before)))
made-within o before (Starts number) s may = within-ground o before (Starts number) (ground-terminal number) s may
made-within o before (Turns target) s may = within-ground o before (Turns target) ground-centre s may
made-within o before Places s may = within-ground o before Places ground-centre s may
made-within o before (Installs plan) s may = within-ground o before (Installs plan) ground-centre s may
made-within o before (Restarts kept) s may = within-ground o before (Restarts kept) ground-centre s may
made-within o before StandbyStarts s may = within-ground o before StandbyStarts ground-standby s may
made-within o before Seconds s may = within-ground o before Seconds ground-standby s may

any-step : (P : Step → Type 0) (made : Option Step) → ((one : Step) → P one) → IfSome made P
any-step P None each = tt
any-step P (Some one) each = each one

pub board-more : (o : Opening) (before : List Act) (act : Act) → Stamped o before → MayAct o before act → IsForward Satellite (now_of o (steps_by o (act ∷ before))) (late_of o (act ∷ before))
board-more o before act s may =
    let now = now_of o (steps_by o before) in
    let later = now_of o (steps_by o (act ∷ before)) in
    let mark = made_in o now before act in
    forward-joined Satellite later mark (step_by before act) (late_of o before)
    (any-step (λ (one : Step). site_of one ≡ Satellite → mark ≤ later) (step_by before act) (λ one e. made-within o before act s may))
    (forward-later Satellite now later (late_of o before) (now-more o before act) s.on_board)

-- a line that was said stays so
told-later : (o : Opening) (before : List Act) (act : Act) (line : Line) → IsTold o before line → IsTold o (act ∷ before) line
told-later o before act (Begun stamp) told = omega (arith, told, now-more o before act)
told-later o before act (Radio stamp bytes) told = (
  omega (arith, told.0, now-more o before act),
  said-joined o (max stamp (greatest_due o.orders)) (made_in o (now_of o (steps_by o before)) before act) (step_by before act) (late_of o before) bytes told.1,
)

-- a site on the ground that knows a superframe says it
told-ground : (o : Opening) (before : List Act) (act : Act) (stamp : ℕ) (bytes : List ℕ) → (actor_of act ≡ Satellite → ⊥) → Stamped o before → MayAct o before act → stamp ≡ known (actor_of act) (act ∷ before)
    → (stamp ≡ 0 → ⊥) → WasSaid (said_if o (steps_by o before) (step_by before act)) bytes → IsTold o (act ∷ before) (Radio stamp bytes)
told-ground o before act stamp bytes ground s may is some was =
    let site = actor_of act in
    let now = now_of o (steps_by o before) in
    let after = knows-more o site before act ground (s.grounds site ground) (next o site before act ground s may) in
    let here : stamp ≡ reached o site (act ∷ before) = elim after.knows [
      | inl none ↦ absurd (some (is ∙ none))
      | inr same ↦ is ∙ same
    ] in
    let mark : made_in o now before act ≡ reached o site (act ∷ before) = made-ground o now before act ground in (
      omega (arith, here, after.begun),
      said-now o (max stamp (greatest_due o.orders)) (made_in o now before act) (step_by before act) (late_of o before) bytes
          (omega (arith, mark, here, le-max_left stamp (greatest_due o.orders))) was,
    )

-- a terminal that starts knows none
told-start : (o : Opening) (number : TermNo) (before : List Act) (bytes : List ℕ) → SaidLost o number (Starts number ∷ before)
    → WasSaid (said_if o (steps_by o before) (step_by before (Starts number))) bytes → IsTold o (Starts number ∷ before) (Radio 0 bytes)
told-start o number before bytes lost (inl is) = (
  omega arith,
  subst (λ (b : List ℕ). WasSaidBy o (max 0 (greatest_due o.orders)) (late_of o (Starts number ∷ before)) b) (sym is)
      (said-later o (greatest_due o.orders) (max 0 (greatest_due o.orders)) (late_of o (Starts number ∷ before)) (bytes_of [] (sends.Lost number))
      (le-max_right 0 (greatest_due o.orders)) lost),
)
told-start o number before bytes lost (inr none) = absurd none

-- what is said with an act
told-said : (o : Opening) (before : List Act) (act : Act) (bytes : List ℕ) → Stamped o before → MayAct o before act → WasSaid (said_if o (steps_by o before) (step_by before act)) bytes
    → IsTold o (act ∷ before) (Radio (stamp_by (now_of o (steps_by o before)) before act) bytes)
told-said o before (Hears Satellite (Begun stamp)) bytes s may was = absurd was
told-said o before (Hears Centre (Begun stamp)) bytes s may was = absurd was
told-said o before (Hears (Terminal number) (Begun stamp)) bytes s may was = absurd was
told-said o before (Hears Standby (Begun stamp)) bytes s may was = absurd was
told-said o before (Hears Satellite (Radio stamp heard)) bytes s may was =
    let now = now_of o (steps_by o before) in (
      now-more o before (Hears Satellite (Radio stamp heard)),
      said-now o (max now (greatest_due o.orders)) now (step_by before (Hears Satellite (Radio stamp heard))) (late_of o before) bytes (le-max_left now (greatest_due o.orders)) was,
    )
told-said o before (Hears Centre (Radio stamp heard)) bytes s may was =
    told-ground o before (Hears Centre (Radio stamp heard)) (known Centre (Hears Centre (Radio stamp heard) ∷ before)) bytes ground-centre s may refl
    (known-said o (steps_by o before) (max (known Centre before) stamp) (λ (mark : Mark). step.CentreHears mark heard) bytes was) was
told-said o before (Hears (Terminal number) (Radio stamp heard)) bytes s may was =
    let act = Hears (Terminal number) (Radio stamp heard) in
    told-ground o before act (known (Terminal number) (act ∷ before)) bytes (ground-terminal number) s may refl
    (λ none. known-said o (steps_by o before) (max (known (Terminal number) before) stamp) (λ (mark : Mark). step.TerminalHears number mark heard) bytes was (sym (known-own before act) ∙ none)) was
told-said o before (Hears Standby (Radio stamp heard)) bytes s may was =
    told-ground o before (Hears Standby (Radio stamp heard)) (known Standby (Hears Standby (Radio stamp heard) ∷ before)) bytes ground-standby s may refl
    (known-said o (steps_by o before) (max (known Standby before) stamp) (λ (mark : Mark). step.StandbyHears mark heard) bytes was) was
told-said o before Begins bytes s may was =
    let now = now_of o (steps_by o before) in (
      made-within o before Begins s may,
      said-now o (max (now + 1) (greatest_due o.orders)) (now + 1) (Some step.Begins) (late_of o before) bytes (le-max_left (now + 1) (greatest_due o.orders)) was,
    )
told-said o before (Starts number) bytes s may was =
    told-start o number before bytes (lost-more o number before (Starts number) (s.fresh number) (s.lost number) (start-started number before)) was
told-said o before (Turns target) bytes s may was =
    told-ground o before (Turns target) (known Centre (Turns target ∷ before)) bytes ground-centre s may refl
    (known-said o (steps_by o before) (known Centre before) (λ (mark : Mark). step.Turns mark target) bytes was) was
told-said o before Places bytes s may was =
    told-ground o before Places (known Centre (Places ∷ before)) bytes ground-centre s may refl
    (known-said o (steps_by o before) (known Centre before) (λ (mark : Mark). step.Places) bytes was) was
told-said o before (Installs plan) bytes s may was = absurd was
told-said o before (Restarts kept) bytes s may was = absurd was
told-said o before StandbyStarts bytes s may was = absurd was
told-said o before Seconds bytes s may was =
    told-ground o before Seconds (known Standby (Seconds ∷ before)) bytes ground-standby s may refl
    (known-said o (steps_by o before) (known Standby before) (λ (mark : Mark). step.Seconds mark) bytes was) was

-- that a superframe begins
told-begun : (o : Opening) (before : List Act) (act : Act) (line : Line) → Stamped o before → MayAct o before act → HasLine (begun_by (now_of o (steps_by o before)) act) line → IsTold o (act ∷ before) line
told-begun o before Begins line s may (inl is) = subst (λ (one : Line). IsTold o (Begins ∷ before) one) (sym is) (made-within o before Begins s may)
told-begun o before Begins line s may (inr none) = absurd none
told-begun o before (Hears site heard) line s may has = absurd has
told-begun o before (Starts number) line s may has = absurd has
told-begun o before (Turns target) line s may has = absurd has
told-begun o before Places line s may has = absurd has
told-begun o before (Installs plan) line s may has = absurd has
told-begun o before (Restarts kept) line s may has = absurd has
told-begun o before StandbyStarts line s may has = absurd has
told-begun o before Seconds line s may has = absurd has

pub told-more : (o : Opening) (before : List Act) (act : Act) (line : Line) → Stamped o before → MayAct o before act → HasLine (lines_by o before act ++ lines o before) line → IsTold o (act ∷ before) line
told-more o before act line s may has =
    let now = now_of o (steps_by o before) in
    let said = said_if o (steps_by o before) (step_by before act) in
    elim (line-either (lines_by o before act) (lines o before) line has) [
      | inr old ↦ told-later o before act line (s.told line old)
      | inl new ↦ elim (line-either (begun_by now act) (map (λ (bytes : List ℕ). Radio (stamp_by now before act) bytes) said) line new) [
        | inl begun ↦ told-begun o before act line s may begun
        | inr radio ↦ stamped-each (λ (one : Line). IsTold o (act ∷ before) one) (stamp_by now before act) said (λ bytes was. told-said o before act bytes s may was) line radio
      ]
    ]

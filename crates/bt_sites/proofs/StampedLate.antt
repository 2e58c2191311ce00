-- The steps of sites that hear lines with stamps are made as late sites may.
use Rattle.std.proofs.Common.{◌≡◌, ◌⊎◌, inl, inr, ℕ, suc, ◌+◌, ◌≤◌, max, true, false, List, [], ◌∷◌, Option, Some, None, IfSome, refl, sym, ◌∙◌, arith}
use Rattle.std.proofs.Math.Nat.{le-max_left, le-max_right}
use Rattle.bt_frame.specs.declared.numbers.Mark.{Mark}
use Rattle.bt_sites.specs.Step.{Site, Satellite, Centre, Terminal, Standby, Step}
use Rattle.bt_site.specs.Event.{Opening}
use Rattle.bt_site.specs.World.{greatest_due}
use Rattle.bt_sites.specs.Late.{AreLate, HasBegun, IsForward, Late, MayBeLate, WasSaidBy, now_of, site_of}
use Rattle.bt_sites.specs.Stamps.{Act, AreStamped, Begins, Begun, Hears, Installs, MayAct, Places, Radio, Restarts, Seconds, StandbyStarts, Starts, Turns, joined, known, late_of, made_in, reached, step_by, steps_by}
use Rattle.bt_sites.specs.Step as step
use Rattle.bt_sites.proofs.Inserts.{ground-centre, ground-standby, ground-terminal}
use Rattle.bt_sites.proofs.Knows.{came, forward-later, in-known, known-own, knows-more, max-most, said-later}
use Rattle.bt_sites.proofs.Lines.{fresh-more, lost-more}
use Rattle.bt_sites.proofs.Stamped.{Stamped, board-more, next, now-more, told-more}

-- a step may be made late
abbrev pub IsLateStep : Opening → List Late → ℕ → Step → Type 0
IsLateStep o late mark made = IsForward (site_of made) mark late × MayBeLate o late mark made

late-joined : (o : Opening) (mark : ℕ) (made : Option Step) (late : List Late) → IfSome made (IsLateStep o late mark) → AreLate o late → AreLate o (joined mark made late)
late-joined o mark None late may are = are
late-joined o mark (Some made) late may are = (may.0, may.1, are)

-- where a site on the ground is with an act
record Here (o : Opening) (site : Site) (before : List Act) (act : Act) : Type 0 where
  begun : HasBegun o (late_of o before) (reached o site (act ∷ before))
  forward : IsForward site (reached o site (act ∷ before)) (late_of o before)
  knows : (known site (act ∷ before) ≡ 0) ⊎ (known site (act ∷ before) ≡ reached o site (act ∷ before))

here : (o : Opening) (site : Site) (before : List Act) (act : Act) → (site ≡ Satellite → ⊥) → Stamped o before → MayAct o before act → Here o site before act
here o site before act ground s may =
    let k = s.grounds site ground in
    let n = next o site before act ground s may in
    let both = came o site before act k n in
    record {
      begun = record { opened = both.0; begun = both.1 };
      forward = forward-later site (reached o site before) (reached o site (act ∷ before)) (late_of o before)
          (le-max_left (reached o site before) (known site (act ∷ before))) k.forward;
      knows = (knows-more o site before act ground k n).knows;
    }

is-reached : (k r m : ℕ) → (k ≡ 0) ⊎ (k ≡ r) → k ≡ suc m → suc m ≡ r
is-reached k r m (inl none) e = absurd (omega (arith, none, e))
is-reached k r m (inr same) e = sym e ∙ same

-- what is heard was said by the superframe that it takes its hearer to
heard-by : (o : Opening) (k stamp m r : ℕ) (late : List Late) (bytes : List ℕ) → max k stamp ≡ suc m → suc m ≡ r → greatest_due o.orders ≤ r → WasSaidBy o (max stamp (greatest_due o.orders)) late bytes
    → WasSaidBy o r late bytes
heard-by o k stamp m r late bytes e same opened was =
    said-later o (max stamp (greatest_due o.orders)) r late bytes
    (max-most stamp (greatest_due o.orders) r (omega (arith, e, same, le-max_right k stamp)) opened) was

step-late : (o : Opening) (before : List Act) (act : Act) → Stamped o before → MayAct o before act
    → IfSome (step_by before act) (IsLateStep o (late_of o before) (made_in o (now_of o (steps_by o before)) before act))
step-late o before (Hears Satellite (Begun stamp)) s may = tt
step-late o before (Hears Centre (Begun stamp)) s may = tt
step-late o before (Hears (Terminal number) (Begun stamp)) s may = tt
step-late o before (Hears Standby (Begun stamp)) s may = tt
step-late o before (Hears Satellite (Radio stamp bytes)) s may =
    let now = now_of o (steps_by o before) in
    let told = s.told (Radio stamp bytes) may.0 in
    (s.on_board, (refl, said-later o (max stamp (greatest_due o.orders)) now (late_of o before) bytes (max-most stamp (greatest_due o.orders) now told.0 s.opened) told.1))
step-late o before (Hears Centre (Radio stamp bytes)) s may =
    let act = Hears Centre (Radio stamp bytes) in
    let h = here o Centre before act ground-centre s may in
    let r = reached o Centre (act ∷ before) in
    in-known (IsLateStep o (late_of o before) r) (max (known Centre before) stamp) (λ (mark : Mark). step.CentreHears mark bytes)
    (λ m e.
    let same = is-reached (max (known Centre before) stamp) r m h.knows e in
    (h.forward, (h.begun, same, heard-by o (known Centre before) stamp m r (late_of o before) bytes e same h.begun.opened (s.told (Radio stamp bytes) may.0).1)))
step-late o before (Hears (Terminal number) (Radio stamp bytes)) s may =
    let act = Hears (Terminal number) (Radio stamp bytes) in
    let h = here o (Terminal number) before act (ground-terminal number) s may in
    let r = reached o (Terminal number) (act ∷ before) in
    in-known (IsLateStep o (late_of o before) r) (max (known (Terminal number) before) stamp) (λ (mark : Mark). step.TerminalHears number mark bytes)
    (λ m e.
    let same = is-reached (known (Terminal number) (act ∷ before)) r m h.knows (known-own before act ∙ e) in
    (h.forward, (h.begun, may.1.0, same, heard-by o (known (Terminal number) before) stamp m r (late_of o before) bytes e same h.begun.opened (s.told (Radio stamp bytes) may.0).1)))
step-late o before (Hears Standby (Radio stamp bytes)) s may =
    let act = Hears Standby (Radio stamp bytes) in
    let h = here o Standby before act ground-standby s may in
    let r = reached o Standby (act ∷ before) in
    in-known (IsLateStep o (late_of o before) r) (max (known Standby before) stamp) (λ (mark : Mark). step.StandbyHears mark bytes)
    (λ m e.
    let same = is-reached (max (known Standby before) stamp) r m h.knows e in
    (h.forward, (h.begun, same, heard-by o (known Standby before) stamp m r (late_of o before) bytes e same h.begun.opened (s.told (Radio stamp bytes) may.0).1)))
step-late o before Begins s may =
    let now = now_of o (steps_by o before) in (forward-later Satellite now (now + 1) (late_of o before) (omega arith) s.on_board, (refl, may))
step-late o before (Starts number) s may = let h = here o (Terminal number) before (Starts number) (ground-terminal number) s may in (h.forward, (h.begun, may))
step-late o before (Turns target) s may =
    let h = here o Centre before (Turns target) ground-centre s may in
    let r = reached o Centre (Turns target ∷ before) in
    in-known (IsLateStep o (late_of o before) r) (known Centre before) (λ (mark : Mark). step.Turns mark target)
    (λ m e. (h.forward, (h.begun, is-reached (known Centre before) r m h.knows e, may)))
step-late o before Places s may =
    let h = here o Centre before Places ground-centre s may in
    in-known (IsLateStep o (late_of o before) (reached o Centre (Places ∷ before))) (known Centre before) (λ (mark : Mark). step.Places) (λ m e. (h.forward, (h.begun, may)))
step-late o before (Installs plan) s may = let h = here o Centre before (Installs plan) ground-centre s may in (h.forward, (h.begun, may.0, may.1))
step-late o before (Restarts true) s may = let h = here o Centre before (Restarts true) ground-centre s may in (h.forward, (h.begun, may))
step-late o before (Restarts false) s may = let h = here o Centre before (Restarts false) ground-centre s may in (h.forward, (h.begun, tt))
step-late o before StandbyStarts s may = let h = here o Standby before StandbyStarts ground-standby s may in (h.forward, (h.begun, tt))
step-late o before Seconds s may =
    let h = here o Standby before Seconds ground-standby s may in
    let r = reached o Standby (Seconds ∷ before) in
    in-known (IsLateStep o (late_of o before) r) (known Standby before) (λ (mark : Mark). step.Seconds mark) (λ m e. (h.forward, (h.begun, is-reached (known Standby before) r m h.knows e)))

stamped-next : (o : Opening) (before : List Act) (act : Act) → Stamped o before → MayAct o before act → Stamped o (act ∷ before)
stamped-next o before act s may = record {
  opened = omega (arith, s.opened, now-more o before act);
  on_board = board-more o before act s may;
  grounds = λ site ground. knows-more o site before act ground (s.grounds site ground) (next o site before act ground s may);
  fresh = λ number e. fresh-more o number before act may (s.fresh number) e;
  lost = λ number e. lost-more o number before act (s.fresh number) (s.lost number) e;
  told = λ line has. told-more o before act line s may has;
  late = late-joined o (made_in o (now_of o (steps_by o before)) before act) (step_by before act) (late_of o before) (step-late o before act s may) s.late;
}

no-start : false ≡ true → ⊥
no-start e = cc

pub all-stamped : (o : Opening) (acts : List Act) → AreStamped o acts → Stamped o acts
all-stamped o [] opening = record {
  opened = omega arith;
  on_board = tt;
  grounds = λ site ground. record { opened = omega arith; begun = omega arith; knows = inl refl; forward = tt };
  fresh = λ number e. record { knows = refl; reached = refl };
  lost = λ number e. absurd (no-start e);
  told = λ line has. absurd has;
  late = opening;
}
all-stamped o (act ∷ before) are = stamped-next o before act (all-stamped o before are.1) are.0

pub stamped-late : (o : Opening) (acts : List Act) → AreStamped o acts → AreLate o (late_of o acts)
stamped-late o acts are = (all-stamped o acts are).late

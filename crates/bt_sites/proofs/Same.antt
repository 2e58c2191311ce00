-- A site goes by its own steps alone.
use Rattle.std.proofs.Common.{◌≡◌, ℕ, ◌<◌, ◌==◌, if◌then◌else◌, Bool, true, false, List, [], ◌∷◌, map, Option, None, refl, sym, ◌∙◌, ap, subst}
use Rattle.std.specs.Prelude.{IsSome}
use Rattle.std.proofs.lemmas.Bool.{eqb-true}
use Rattle.bt_frame.specs.declared.limits.TheConstants.{LAST_MARK}
use Rattle.bt_frame.specs.declared.numbers.TermNo.{TermNo}
use Rattle.bt_demand.specs.declared.plan.Plan.{Plan}
use Rattle.bt_air.specs.declared.sent.Aired.{Aired}
use Rattle.bt_air.specs.declared.sent.Aired.TheVariants as sends
use Rattle.bt_sites.specs.Step.{Site, Satellite, Centre, Terminal, Standby, Step, Begins, SatelliteHears, Starts, TerminalHears, CentreHears, Turns, Places, Installs, Restarts, StandbyStarts, StandbyHears, Seconds}
use Rattle.bt_machines.specs.Satellite.{State as Onboard, status_of, ticked}
use Rattle.bt_machines.specs.Terminal.{State as Ground, new_of}
use Rattle.bt_air.specs.declared.order.Status.{Status}
use Rattle.bt_machines.specs.Centre.{State, after_turn}
use Rattle.bt_machines.specs.Standby.{named}
use Rattle.bt_machines.specs.CentreSteps.{beginning, once_placed, with_wanted}
use Rattle.bt_machines.specs.Plans.{newest_of, plan_of}
use Rattle.bt_machines.specs.Says.{sent_by_order}
use Rattle.bt_site.specs.Event.{Opening}
use Rattle.bt_site.specs.World.{terminals}
use Rattle.bt_sites.specs.Fits.{MayStep, WasSaid}
use Rattle.bt_sites.specs.Late.{site_of}
use Rattle.bt_sites.specs.Sites.{bytes_of, centre_after, centre_with, plans_after, read_of, said, said_with, satellite_after, satellite_says, satellite_with, standby_after, standby_with, terminal_after, terminal_says, terminal_with, turn_says}

-- a site is the same after these steps and those
abbrev pub SameFor : Opening → Site → List Step → List Step → Type 0
SameFor o Satellite a b = satellite_after o a ≡ satellite_after o b
SameFor o (Terminal number) a b = terminal_after number a ≡ terminal_after number b
SameFor o Centre a b = (centre_after o a ≡ centre_after o b) × (plans_after o a ≡ plans_after o b)
SameFor o Standby a b = standby_after a ≡ standby_after b

pub same-sym : (o : Opening) (site : Site) (a b : List Step) → SameFor o site a b → SameFor o site b a
same-sym o Satellite a b same = sym same
same-sym o (Terminal number) a b same = sym same
same-sym o Centre a b same = (sym same.0, sym same.1)
same-sym o Standby a b same = sym same

pub same-trans : (o : Opening) (site : Site) (a b c : List Step) → SameFor o site a b → SameFor o site b c → SameFor o site a c
same-trans o Satellite a b c p q = p ∙ q
same-trans o (Terminal number) a b c p q = p ∙ q
same-trans o Centre a b c p q = (p.0 ∙ q.0, p.1 ∙ q.1)
same-trans o Standby a b c p q = p ∙ q

pub same-self : (o : Opening) (site : Site) (a : List Step) → SameFor o site a a
same-self o Satellite a = refl
same-self o (Terminal number) a = refl
same-self o Centre a = (refl, refl)
same-self o Standby a = refl

-- one step more of any site
satellite-next : (o : Opening) (a b : List Step) (step : Step) → satellite_after o a ≡ satellite_after o b → satellite_after o (step ∷ a) ≡ satellite_after o (step ∷ b)
satellite-next o a b Begins same = ap ticked same
satellite-next o a b (SatelliteHears bytes) same = ap (λ (s : Onboard). satellite_with s (read_of bytes)) same
satellite-next o a b (Starts number) same = same
satellite-next o a b (TerminalHears number mark bytes) same = same
satellite-next o a b (CentreHears mark bytes) same = same
satellite-next o a b (Turns mark target) same = same
satellite-next o a b Places same = same
satellite-next o a b (Installs plan) same = same
satellite-next o a b (Restarts kept) same = same
satellite-next o a b (StandbyHears mark bytes) same = same
satellite-next o a b (Seconds mark) same = same
satellite-next o a b StandbyStarts same = same

terminal-next : (number : TermNo) (a b : List Step) (step : Step) → terminal_after number a ≡ terminal_after number b → terminal_after number (step ∷ a) ≡ terminal_after number (step ∷ b)
terminal-next number a b Begins same = same
terminal-next number a b (SatelliteHears bytes) same = same
terminal-next number a b (Starts other) same = ap (λ (s : Ground). if other.0 == number.0 then new_of number else s) same
terminal-next number a b (TerminalHears other mark bytes) same = ap (λ (s : Ground). if other.0 == number.0 then terminal_with s mark (read_of bytes) else s) same
terminal-next number a b (CentreHears mark bytes) same = same
terminal-next number a b (Turns mark target) same = same
terminal-next number a b Places same = same
terminal-next number a b (Installs plan) same = same
terminal-next number a b (Restarts kept) same = same
terminal-next number a b (StandbyHears mark bytes) same = same
terminal-next number a b (Seconds mark) same = same
terminal-next number a b StandbyStarts same = same

plans-next : (o : Opening) (a b : List Step) (step : Step) → plans_after o a ≡ plans_after o b → plans_after o (step ∷ a) ≡ plans_after o (step ∷ b)
plans-next o a b Begins same = same
plans-next o a b (SatelliteHears bytes) same = same
plans-next o a b (Starts number) same = same
plans-next o a b (TerminalHears number mark bytes) same = same
plans-next o a b (CentreHears mark bytes) same = same
plans-next o a b (Turns mark target) same = same
plans-next o a b Places same = same
plans-next o a b (Installs plan) same = ap (λ (all : List Plan). plan ∷ all) same
plans-next o a b (Restarts kept) same = same
plans-next o a b (StandbyHears mark bytes) same = same
plans-next o a b (Seconds mark) same = same
plans-next o a b StandbyStarts same = same

centre-next : (o : Opening) (a b : List Step) (step : Step) → centre_after o a ≡ centre_after o b → plans_after o a ≡ plans_after o b → centre_after o (step ∷ a) ≡ centre_after o (step ∷ b)
centre-next o a b Begins same plans = same
centre-next o a b (SatelliteHears bytes) same plans = same
centre-next o a b (Starts number) same plans = same
centre-next o a b (TerminalHears number mark bytes) same plans = same
centre-next o a b (CentreHears mark bytes) same plans = ap (λ (s : State). centre_with s mark (read_of bytes)) same
centre-next o a b (Turns mark target) same plans = ap (λ (s : State). after_turn s mark target o.net.lead o.net.patience) same
centre-next o a b Places same plans =
    ap (λ (s : State). once_placed s (terminals o) (plans_after o a) s.wanted) same
    ∙ ap (λ (all : List Plan). once_placed (centre_after o b) (terminals o) all (centre_after o b).wanted) plans
centre-next o a b (Installs plan) same plans = same
centre-next o a b (Restarts true) same plans =
    ap (λ (s : State). beginning (terminals o) (plans_after o a) (with_wanted s.wanted s.orders)) same
    ∙ ap (λ (all : List Plan). beginning (terminals o) all (with_wanted (centre_after o b).wanted (centre_after o b).orders)) plans
centre-next o a b (Restarts false) same plans =
    ap (λ (s : State). beginning (terminals o) (plans_after o a) s.orders) same
    ∙ ap (λ (all : List Plan). beginning (terminals o) all (centre_after o b).orders) plans
centre-next o a b (StandbyHears mark bytes) same plans = same
centre-next o a b (Seconds mark) same plans = same
centre-next o a b StandbyStarts same plans = same

standby-next : (a b : List Step) (step : Step) → standby_after a ≡ standby_after b → standby_after (step ∷ a) ≡ standby_after (step ∷ b)
standby-next a b Begins same = same
standby-next a b (SatelliteHears bytes) same = same
standby-next a b (Starts number) same = same
standby-next a b (TerminalHears number mark bytes) same = same
standby-next a b (CentreHears mark bytes) same = same
standby-next a b (Turns mark target) same = same
standby-next a b Places same = same
standby-next a b (Installs plan) same = same
standby-next a b (Restarts kept) same = same
standby-next a b (Seconds mark) same = same
standby-next a b (StandbyHears mark bytes) same = ap (λ (kept : Option Status). standby_with kept mark (read_of bytes)) same
standby-next a b StandbyStarts same = refl

pub same-next : (o : Opening) (site : Site) (a b : List Step) (step : Step) → SameFor o site a b → SameFor o site (step ∷ a) (step ∷ b)
same-next o Satellite a b step same = satellite-next o a b step same
same-next o (Terminal number) a b step same = terminal-next number a b step same
same-next o Centre a b step same = (centre-next o a b step same.0 same.1, plans-next o a b step same.1)
same-next o Standby a b step same = standby-next a b step same

-- a step of another site leaves a site as it was
pub same-number : (a b : TermNo) → a.0 ≡ b.0 → a ≡ b
same-number a b e = ap (λ (n : ℕ). let number : TermNo = record { 0 = n } in number) e

other-number : (a b : TermNo) → (Terminal a ≡ Terminal b → ⊥) → (test : Bool) → (a.0 == b.0) ≡ test → test ≡ false
other-number a b differ true e = absurd (differ (ap (λ (n : TermNo). Terminal n) (same-number a b (eqb-true _ _ e))))
other-number a b differ false e = refl

if-not : (s t : Ground) (test : Bool) → test ≡ false → (if test then s else t) ≡ t
if-not s t true e = cc
if-not s t false e = refl

satellite-other : (o : Opening) (a : List Step) (step : Step) → (site_of step ≡ Satellite → ⊥) → satellite_after o (step ∷ a) ≡ satellite_after o a
satellite-other o a Begins differ = absurd (differ refl)
satellite-other o a (SatelliteHears bytes) differ = absurd (differ refl)
satellite-other o a (Starts number) differ = refl
satellite-other o a (TerminalHears number mark bytes) differ = refl
satellite-other o a (CentreHears mark bytes) differ = refl
satellite-other o a (Turns mark target) differ = refl
satellite-other o a Places differ = refl
satellite-other o a (Installs plan) differ = refl
satellite-other o a (Restarts kept) differ = refl
satellite-other o a (StandbyHears mark bytes) differ = refl
satellite-other o a (Seconds mark) differ = refl
satellite-other o a StandbyStarts differ = refl

terminal-other : (number : TermNo) (a : List Step) (step : Step) → (site_of step ≡ Terminal number → ⊥) → terminal_after number (step ∷ a) ≡ terminal_after number a
terminal-other number a Begins differ = refl
terminal-other number a (SatelliteHears bytes) differ = refl
terminal-other number a (Starts other) differ = if-not (new_of number) (terminal_after number a) (other.0 == number.0) (other-number other number differ _ refl)
terminal-other number a (TerminalHears other mark bytes) differ =
    if-not (terminal_with (terminal_after number a) mark (read_of bytes)) (terminal_after number a) (other.0 == number.0) (other-number other number differ _ refl)
terminal-other number a (CentreHears mark bytes) differ = refl
terminal-other number a (Turns mark target) differ = refl
terminal-other number a Places differ = refl
terminal-other number a (Installs plan) differ = refl
terminal-other number a (Restarts kept) differ = refl
terminal-other number a (StandbyHears mark bytes) differ = refl
terminal-other number a (Seconds mark) differ = refl
terminal-other number a StandbyStarts differ = refl

centre-other : (o : Opening) (a : List Step) (step : Step) → (site_of step ≡ Centre → ⊥) → SameFor o Centre (step ∷ a) a
centre-other o a Begins differ = (refl, refl)
centre-other o a (SatelliteHears bytes) differ = (refl, refl)
centre-other o a (Starts number) differ = (refl, refl)
centre-other o a (TerminalHears number mark bytes) differ = (refl, refl)
centre-other o a (CentreHears mark bytes) differ = absurd (differ refl)
centre-other o a (Turns mark target) differ = absurd (differ refl)
centre-other o a Places differ = absurd (differ refl)
centre-other o a (Installs plan) differ = absurd (differ refl)
centre-other o a (Restarts kept) differ = absurd (differ refl)
centre-other o a (StandbyHears mark bytes) differ = (refl, refl)
centre-other o a (Seconds mark) differ = (refl, refl)
centre-other o a StandbyStarts differ = (refl, refl)

standby-other : (a : List Step) (step : Step) → (site_of step ≡ Standby → ⊥) → standby_after (step ∷ a) ≡ standby_after a
standby-other a Begins differ = refl
standby-other a (SatelliteHears bytes) differ = refl
standby-other a (Starts number) differ = refl
standby-other a (TerminalHears number mark bytes) differ = refl
standby-other a (CentreHears mark bytes) differ = refl
standby-other a (Turns mark target) differ = refl
standby-other a Places differ = refl
standby-other a (Installs plan) differ = refl
standby-other a (Restarts kept) differ = refl
standby-other a (StandbyHears mark bytes) differ = absurd (differ refl)
standby-other a (Seconds mark) differ = absurd (differ refl)
standby-other a StandbyStarts differ = absurd (differ refl)

pub same-other : (o : Opening) (site : Site) (a : List Step) (step : Step) → (site_of step ≡ site → ⊥) → SameFor o site (step ∷ a) a
same-other o Satellite a step differ = satellite-other o a step differ
same-other o (Terminal number) a step differ = terminal-other number a step differ
same-other o Centre a step differ = centre-other o a step differ
same-other o Standby a step differ = standby-other a step differ

-- a site that is the same says the same
pub same-said : (o : Opening) (a b : List Step) (step : Step) → SameFor o (site_of step) a b → said_with o a step ≡ said_with o b step
same-said o a b Begins same = ap (λ (s : Onboard). bytes_of [] (sends.Status (status_of (ticked s))) ∷ []) same
same-said o a b (SatelliteHears bytes) same = ap (λ (s : Onboard). map (λ (one : Aired). bytes_of [] one) (satellite_says s (read_of bytes))) same
same-said o a b (Starts number) same = refl
same-said o a b (TerminalHears number mark bytes) same = ap (λ (s : Ground). map (λ (one : Aired). bytes_of [] one) (terminal_says number s mark (read_of bytes))) same
same-said o a b (CentreHears mark bytes) same = refl
same-said o a b (Turns mark target) same =
    ap (λ (s : State). map (λ (one : Aired). bytes_of (plans_after o a) one) (turn_says o s (plans_after o a) mark target)) same.0
    ∙ ap (λ (all : List Plan). map (λ (one : Aired). bytes_of all one) (turn_says o (centre_after o b) all mark target)) same.1
same-said o a b Places same =
    ap (λ (s : State). map (λ (one : Aired). bytes_of (plans_after o a) one) (sent_by_order (plans_after o a) (terminals o) s.wanted)) same.0
    ∙ ap (λ (all : List Plan). map (λ (one : Aired). bytes_of all one) (sent_by_order all (terminals o) (centre_after o b).wanted)) same.1
same-said o a b (Installs plan) same = refl
same-said o a b (Restarts kept) same = refl
same-said o a b (StandbyHears mark bytes) same = refl
same-said o a b (Seconds mark) same = ap (λ (kept : Option Status). bytes_of [] (sends.Reference mark (named kept mark) None) ∷ []) same
same-said o a b StandbyStarts same = refl

-- and may make the same step, where all that was said is said and the satellite is the same
pub may-still : (o : Opening) (a b : List Step) (step : Step) → SameFor o (site_of step) a b → SameFor o Satellite a b → ((bytes : List ℕ) → WasSaid (said o a) bytes → WasSaid (said o b) bytes)
    → MayStep o a step → MayStep o b step
may-still o a b Begins same now more may = subst (λ (s : Onboard). s.mark.0 < LAST_MARK) same may
may-still o a b (SatelliteHears bytes) same now more may = more bytes may
may-still o a b (Starts number) same now more may = may
may-still o a b (TerminalHears number mark bytes) same now more may = (may.0, may.1 ∙ ap (λ (s : Onboard). s.mark) now, more bytes may.2)
may-still o a b (CentreHears mark bytes) same now more may = (may.0 ∙ ap (λ (s : Onboard). s.mark) now, more bytes may.1)
may-still o a b (Turns mark target) same now more may = (may.0 ∙ ap (λ (s : Onboard). s.mark) now, subst (λ (all : List Plan). IsSome (plan_of all target)) same.1 may.1)
may-still o a b Places same now more may = subst (λ (s : State). IsSome s.wanted) same.0 may
may-still o a b (Installs plan) same now more may = (subst (λ (all : List Plan). (newest_of all).0 < plan.edition.0) same.1 may.0, may.1)
may-still o a b (Restarts true) same now more may = subst (λ (s : State). IsSome s.wanted) same.0 may
may-still o a b (Restarts false) same now more may = tt
may-still o a b (StandbyHears mark bytes) same now more may = (may.0 ∙ ap (λ (s : Onboard). s.mark) now, more bytes may.1)
may-still o a b (Seconds mark) same now more may = may ∙ ap (λ (s : Onboard). s.mark) now
may-still o a b StandbyStarts same now more may = tt

-- What later steps leave as it was.
use Rattle.std.proofs.Common.{◌≡◌, ◌≤◌, Bool, true, false, List, [], ◌∷◌, ◌++◌, Option, Some, None, refl, ◌∙◌, ap, arith}
use Rattle.std.specs.Prelude.{IsSome}
use Rattle.bt_frame.specs.declared.mode.Mode.{Mode}
use Rattle.bt_frame.specs.declared.numbers.Command.{Command}
use Rattle.bt_frame.specs.declared.numbers.EditionNo.{EditionNo}
use Rattle.bt_frame.specs.declared.numbers.Mark.{Mark}
use Rattle.bt_air.specs.declared.message.Message.{Message}
use Rattle.bt_air.specs.declared.message.Message.TheVariants as message
use Rattle.bt_machines.specs.Satellite.{State, is_armed, is_not_loaded, is_stale, is_too_late, step_of}
use Rattle.bt_machines.specs.Plans.{plan_of}
use Rattle.bt_site.specs.Event.{Opening}
use Rattle.bt_site.proofs.Banks.{plan-stays}
use Rattle.bt_sites.specs.Fits.{AreSites, AreSmall}
use Rattle.bt_sites.specs.Late.{now_of}
use Rattle.bt_sites.specs.Sites.{plans_after, read_of, satellite_after, satellite_with}
use Rattle.bt_sites.specs.Step.{Step, Begins, SatelliteHears, Starts, TerminalHears, CentreHears, Turns, Places, Installs, Restarts, StandbyStarts, StandbyHears, Seconds}
use Rattle.bt_sites.proofs.Marks.{arm_row, load_row, mark-ticked, with-keeps}
use Rattle.bt_sites.proofs.Small.{small-before}

-- what is in front
load-front : (s : State) (command : Command) (edition : EditionNo) (modes : List Mode) (stale armed : Bool) → (load_row s command edition modes stale armed).1.fore ≡ s.fore
load-front s command edition modes true armed = refl
load-front s command edition modes false true = refl
load-front s command edition modes false false = refl

arm-front : (s : State) (command : Command) (edition : EditionNo) (due : Mark) (stale armed missing late : Bool) → (arm_row s command edition due stale armed missing late).1.fore ≡ s.fore
arm-front s command edition due true armed missing late = refl
arm-front s command edition due false true missing late = refl
arm-front s command edition due false false true late = refl
arm-front s command edition due false false false true = refl
arm-front s command edition due false false false false = refl

take-front : (s : State) (message : Message) → (step_of s message).1.fore ≡ s.fore
take-front s (message.Load command edition modes) = load-front s command edition modes (is_stale s command) (is_armed s.armed)
take-front s (message.Arm command edition due) = arm-front s command edition due (is_stale s command) (is_armed s.armed) (is_not_loaded s edition) (is_too_late s due)
take-front s (message.Status status) = refl
take-front s (message.PlanFor to load edition bursts) = refl
take-front s (message.Confirm from load edition) = refl
take-front s (message.Reference superframe in_force next) = refl
take-front s (message.Lost from) = refl

with-front : (s : State) (message : Option Message) → (satellite_with s message).fore ≡ s.fore
with-front s None = refl
with-front s (Some message) = take-front s message

-- the satellite does not go back
pub now-grows : (o : Opening) (before : List Step) (step : Step) → now_of o before ≤ now_of o (step ∷ before)
now-grows o before Begins = omega (arith, mark-ticked (satellite_after o before))
now-grows o before (SatelliteHears bytes) = omega (arith, ap (λ (m : Mark). m.0) (with-keeps (satellite_after o before) (read_of bytes)))
now-grows o before (Starts number) = omega arith
now-grows o before (TerminalHears number mark bytes) = omega arith
now-grows o before (CentreHears mark bytes) = omega arith
now-grows o before (Turns mark target) = omega arith
now-grows o before Places = omega arith
now-grows o before (Installs plan) = omega arith
now-grows o before (Restarts kept) = omega arith
now-grows o before (StandbyHears mark bytes) = omega arith
now-grows o before (Seconds mark) = omega arith
now-grows o before StandbyStarts = omega arith

now-onward : (o : Opening) (later earlier : List Step) → now_of o earlier ≤ now_of o (later ++ earlier)
now-onward o [] earlier = omega arith
now-onward o (x ∷ later) earlier = omega (arith, now-onward o later earlier, now-grows o (later ++ earlier) x)

-- within a superframe what is in front stays
front-step : (o : Opening) (before : List Step) (step : Step) → now_of o (step ∷ before) ≡ now_of o before → (satellite_after o (step ∷ before)).fore ≡ (satellite_after o before).fore
front-step o before Begins same = absurd (omega (arith, same, mark-ticked (satellite_after o before)))
front-step o before (SatelliteHears bytes) same = with-front (satellite_after o before) (read_of bytes)
front-step o before (Starts number) same = refl
front-step o before (TerminalHears number mark bytes) same = refl
front-step o before (CentreHears mark bytes) same = refl
front-step o before (Turns mark target) same = refl
front-step o before Places same = refl
front-step o before (Installs plan) same = refl
front-step o before (Restarts kept) same = refl
front-step o before (StandbyHears mark bytes) same = refl
front-step o before (Seconds mark) same = refl
front-step o before StandbyStarts same = refl

pub front-onward : (o : Opening) (later earlier : List Step) → now_of o (later ++ earlier) ≡ now_of o earlier → (satellite_after o (later ++ earlier)).fore ≡ (satellite_after o earlier).fore
front-onward o [] earlier same = refl
front-onward o (x ∷ later) earlier same =
    let up = now-onward o later earlier in
    let one = now-grows o (later ++ earlier) x in
    front-step o (later ++ earlier) x (omega (arith, same, up, one)) ∙ front-onward o later earlier (omega (arith, same, up, one))

-- the plan of an edition stays
plan-step : (o : Opening) (before : List Step) (step : Step) (edition : EditionNo) → IsSome (plan_of (plans_after o before) edition) → plan_of (plans_after o (step ∷ before)) edition ≡ plan_of (plans_after o before) edition
plan-step o before Begins edition some = refl
plan-step o before (SatelliteHears bytes) edition some = refl
plan-step o before (Starts number) edition some = refl
plan-step o before (TerminalHears number mark bytes) edition some = refl
plan-step o before (CentreHears mark bytes) edition some = refl
plan-step o before (Turns mark target) edition some = refl
plan-step o before Places edition some = refl
plan-step o before (Installs plan) edition some = plan-stays plan (plans_after o before) edition some
plan-step o before (Restarts kept) edition some = refl
plan-step o before (StandbyHears mark bytes) edition some = refl
plan-step o before (Seconds mark) edition some = refl
plan-step o before StandbyStarts edition some = refl

pub plan-onward : (o : Opening) (later earlier : List Step) (edition : EditionNo) → IsSome (plan_of (plans_after o earlier) edition)
    → plan_of (plans_after o (later ++ earlier)) edition ≡ plan_of (plans_after o earlier) edition
plan-onward o [] earlier edition some = refl
plan-onward o (x ∷ later) earlier edition some =
    let e = plan-onward o later earlier edition some in
    plan-step o (later ++ earlier) x edition (rw e some) ∙ e

-- the first steps of a run are one
pub sites-behind : (o : Opening) (later earlier : List Step) → AreSites o (later ++ earlier) → AreSites o earlier
sites-behind o [] earlier sites = sites
sites-behind o (x ∷ later) earlier sites = sites-behind o later earlier sites.1

pub small-behind : (o : Opening) (later earlier : List Step) → AreSmall o (later ++ earlier) → AreSmall o earlier
small-behind o [] earlier small = small
small-behind o (x ∷ later) earlier small = small-behind o later earlier (small-before o (later ++ earlier) x small)

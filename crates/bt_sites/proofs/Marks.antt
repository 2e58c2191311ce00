-- In which superframe the satellite is after a step.
use Rattle.std.proofs.Common.{◌≡◌, ◌+◌, ◌≤◌, if◌then◌else◌, Bool, true, false, List, ◌∷◌, Option, Some, None, refl, ap, arith}
use Rattle.bt_frame.specs.declared.mode.Mode.{Mode}
use Rattle.bt_frame.specs.declared.numbers.Command.{Command}
use Rattle.bt_frame.specs.declared.numbers.EditionNo.{EditionNo}
use Rattle.bt_frame.specs.declared.numbers.Mark.{Mark}
use Rattle.bt_air.specs.declared.message.Message.{Message}
use Rattle.bt_air.specs.declared.message.Message.TheVariants as message
use Rattle.bt_air.specs.declared.sent.Taken.{Taken}
use Rattle.bt_air.specs.declared.sent.Taken.TheVariants.{Accepted, Stale, Busy, NotLoaded, TooLate}
use Rattle.bt_machines.specs.Satellite.{State, begun, changed, is_armed, is_due, is_not_loaded, is_stale, is_too_late, loaded, step_of, ticked, with_armed}
use Rattle.bt_site.specs.Event.{Opening}
use Rattle.bt_sites.specs.Late.{now_of}
use Rattle.bt_sites.specs.Sites.{read_of, satellite_after, satellite_with}
use Rattle.bt_sites.specs.Step.{Step, Begins, SatelliteHears, Starts, TerminalHears, CentreHears, Turns, Places, Installs, Restarts, StandbyStarts, StandbyHears, Seconds}

mark-either : (s : State) (due : Bool) → (if due then changed (begun s) else begun s).mark.0 ≡ s.mark.0 + 1
mark-either s true = refl
mark-either s false = refl

pub mark-ticked : (s : State) → (ticked s).mark.0 ≡ s.mark.0 + 1
mark-ticked s = mark-either s (is_due s.armed (s.mark.0 + 1))

-- the rows, by their tests
abbrev pub load_row : State → Command → EditionNo → List Mode → Bool → Bool → Taken × State
load_row s command edition modes stale armed = if stale then (Stale, s) else (if armed then (Busy, s) else (Accepted, loaded s command edition modes))

abbrev pub arm_row : State → Command → EditionNo → Mark → Bool → Bool → Bool → Bool → Taken × State
arm_row s command edition due stale armed missing late = if stale then (Stale, s) else (if armed then (Busy, s) else (if missing then (NotLoaded, s) else (if late then (TooLate, s) else (Accepted, with_armed s command edition due))))

load-keeps : (s : State) (command : Command) (edition : EditionNo) (modes : List Mode) (stale armed : Bool) → (load_row s command edition modes stale armed).1.mark ≡ s.mark
load-keeps s command edition modes true armed = refl
load-keeps s command edition modes false true = refl
load-keeps s command edition modes false false = refl

arm-keeps : (s : State) (command : Command) (edition : EditionNo) (due : Mark) (stale armed missing late : Bool) → (arm_row s command edition due stale armed missing late).1.mark ≡ s.mark
arm-keeps s command edition due true armed missing late = refl
arm-keeps s command edition due false true missing late = refl
arm-keeps s command edition due false false true late = refl
arm-keeps s command edition due false false false true = refl
arm-keeps s command edition due false false false false = refl

take-keeps : (s : State) (message : Message) → (step_of s message).1.mark ≡ s.mark
take-keeps s (message.Load command edition modes) = load-keeps s command edition modes (is_stale s command) (is_armed s.armed)
take-keeps s (message.Arm command edition due) = arm-keeps s command edition due (is_stale s command) (is_armed s.armed) (is_not_loaded s edition) (is_too_late s due)
take-keeps s (message.Status status) = refl
take-keeps s (message.PlanFor to load edition bursts) = refl
take-keeps s (message.Confirm from load edition) = refl
take-keeps s (message.Reference superframe in_force next) = refl
take-keeps s (message.Lost from) = refl

pub with-keeps : (s : State) (message : Option Message) → (satellite_with s message).mark ≡ s.mark
with-keeps s None = refl
with-keeps s (Some message) = take-keeps s message

-- a step takes the satellite no further than to the next superframe
pub now-next : (o : Opening) (before : List Step) (step : Step) → now_of o (step ∷ before) ≤ now_of o before + 1
now-next o before Begins = omega (arith, mark-ticked (satellite_after o before))
now-next o before (SatelliteHears bytes) = omega (arith, ap (λ (m : Mark). m.0) (with-keeps (satellite_after o before) (read_of bytes)))
now-next o before (Starts number) = omega arith
now-next o before (TerminalHears number mark bytes) = omega arith
now-next o before (CentreHears mark bytes) = omega arith
now-next o before (Turns mark target) = omega arith
now-next o before Places = omega arith
now-next o before (Installs plan) = omega arith
now-next o before (Restarts kept) = omega arith
now-next o before (StandbyHears mark bytes) = omega arith
now-next o before (Seconds mark) = omega arith
now-next o before StandbyStarts = omega arith

-- What the rows of the table do, and what the next superframe does.
use Rattle.std.proofs.Common.{◌≡◌, ◌+◌, ◌<◌, ◌==◌, Bool, true, false, List, [], ◌∷◌, Option, Some, None, refl, arith}
use Rattle.std.proofs.lemmas.Bool.Decides.{nat_tests}
use Rattle.bt_frame.proofs.OneNumber.{same_edition}
use Rattle.bt_frame.specs.declared.mode.Mode.{Mode}
use Rattle.bt_frame.specs.declared.numbers.Command.{Command}
use Rattle.bt_frame.specs.declared.numbers.EditionNo.{EditionNo}
use Rattle.bt_frame.specs.declared.numbers.Mark.{Mark}
use Rattle.bt_air.specs.declared.message.Message.{Message}
use Rattle.bt_air.specs.declared.message.Message.TheVariants as message
use Rattle.bt_air.specs.declared.order.Armed.{Armed}
use Rattle.bt_air.specs.declared.order.Order.TheVariants.{Load, Arm}
use Rattle.bt_machines.specs.Satellite.{State, step_of, loaded, with_armed, is_stale, is_armed, is_not_loaded, is_too_late, ticked, changed, begun}
use Rattle.bt_machines.specs.SatelliteRun.{Hears, accepted_with}

-- what a message does: nothing, or a Load with what is known then, or an Arm
pub data Does (s : State) (message : Message) : Type 0 where
  Nothing : accepted_with s (Hears message) ≡ [] → (step_of s message).1 ≡ s → Does s message
  Loads : (command : Command) (edition : EditionNo) (modes : List Mode)
      → accepted_with s (Hears message) ≡ Load command edition ∷ [] → (step_of s message).1 ≡ loaded s command edition modes
      → s.last.0 < command.0 → s.armed ≡ None → Does s message
  Arms : (command : Command) (edition : EditionNo) (due : Mark)
      → accepted_with s (Hears message) ≡ Arm command edition due ∷ [] → (step_of s message).1 ≡ with_armed s command edition due
      → s.last.0 < command.0 → s.armed ≡ None → s.back.edition ≡ edition → s.mark.0 < due.0 → Does s message

-- nothing is armed where the test says so
unarmed : (armed : Option Armed) → is_armed armed ≡ false → armed ≡ None
unarmed None e = refl
unarmed (Some armed) e = cc

load_does : (s : State) (command : Command) (edition : EditionNo) (modes : List Mode) (stale armed : Bool)
    → is_stale s command ≡ stale → is_armed s.armed ≡ armed → Does s (message.Load command edition modes)
load_does s command edition modes true armed p q = Nothing (rw p refl) (rw p refl)
load_does s command edition modes false true p q = Nothing (rw (p, q) refl) (rw (p, q) refl)
load_does s command edition modes false false p q =
    Loads command edition modes (rw (p, q) refl) (rw (p, q) refl) (grind (arith, nat_tests)) (unarmed s.armed q)

arm_does : (s : State) (command : Command) (edition : EditionNo) (due : Mark) (stale armed missing late : Bool)
    → is_stale s command ≡ stale → is_armed s.armed ≡ armed → is_not_loaded s edition ≡ missing → is_too_late s due ≡ late
    → Does s (message.Arm command edition due)
arm_does s command edition due true armed missing late p q r t = Nothing (rw p refl) (rw p refl)
arm_does s command edition due false true missing late p q r t = Nothing (rw (p, q) refl) (rw (p, q) refl)
arm_does s command edition due false false true late p q r t = Nothing (rw (p, q, r) refl) (rw (p, q, r) refl)
arm_does s command edition due false false false true p q r t = Nothing (rw (p, q, r, t) refl) (rw (p, q, r, t) refl)
arm_does s command edition due false false false false p q r t =
    Arms command edition due (rw (p, q, r, t) refl) (rw (p, q, r, t) refl)
    (grind (arith, nat_tests)) (unarmed s.armed q) (same_edition s.back.edition edition (grind (arith, nat_tests))) (grind (arith, nat_tests))

-- what each message does
pub does : (s : State) (message : Message) → Does s message
does s (message.Load command edition modes) = load_does s command edition modes _ _ refl refl
does s (message.Arm command edition due) = arm_does s command edition due _ _ _ _ refl refl refl refl
does s (message.Status status) = Nothing refl refl
does s (message.PlanFor to load edition bursts) = Nothing refl refl
does s (message.Confirm from load edition) = Nothing refl refl
does s (message.Reference superframe in_force next) = Nothing refl refl
does s (message.Lost from) = Nothing refl refl

-- with nothing armed the next superframe just begins
pub ticked-idle : (s : State) → s.armed ≡ None → ticked s ≡ begun s
ticked-idle s p = rw p refl

-- before its superframe a change waits
pub ticked-early : (s : State) (armed : Armed) → s.armed ≡ Some armed → s.mark.0 + 1 < armed.due.0 → ticked s ≡ begun s
ticked-early s armed p later = let e : armed.due.0 == (s.mark.0 + 1) ≡ false = grind (arith, nat_tests) in rw (p, e) refl

-- with its superframe a change is made
pub ticked-due : (s : State) (armed : Armed) → s.armed ≡ Some armed → armed.due.0 ≡ s.mark.0 + 1 → ticked s ≡ changed (begun s)
ticked-due s armed p due = let e : armed.due.0 == (s.mark.0 + 1) ≡ true = grind (arith, nat_tests) in rw (p, e) refl

-- What a delivery to the satellite joins to the accepted orders.
use Rattle.std.proofs.Common.{◌≡◌, ◌==◌, nat_le, not, ℕ, Bool, true, false, List, [], ◌∷◌, Option, Some, None, refl, arith}
use Rattle.std.proofs.lemmas.Bool.Decides.{nat_tests}
use Rattle.bt_frame.specs.declared.numbers.Command.{Command}
use Rattle.bt_frame.specs.declared.numbers.EditionNo.{EditionNo}
use Rattle.bt_frame.specs.declared.numbers.Mark.{Mark}
use Rattle.bt_demand.specs.declared.plan.Plan.{Plan}
use Rattle.bt_air.specs.declared.order.Order.{Order}
use Rattle.bt_air.specs.declared.order.Order.TheVariants.{Load, Arm}
use Rattle.bt_air.specs.declared.sent.Aired.{Aired}
use Rattle.bt_air.specs.declared.sent.Aired.TheVariants as sends
use Rattle.bt_machines.specs.Satellite.{is_armed}
use Rattle.bt_air.specs.Orders.{last_command, last_arm, to_come}
use Rattle.bt_machines.specs.Orders.{back_with}
use Rattle.bt_site.specs.World.{joining_with}
use Rattle.bt_site.specs.Laws.{IsAmong}
use Rattle.bt_site.proofs.Tells.{IsSound, MayJoin}

-- nothing joins, or one order that may
pub data Joined (orders accepted : List Order) (mark : ℕ) (all : List Plan) (sent : Option Aired) : Type 0 where
  Nothing : joining_with accepted mark all sent ≡ [] → Joined orders accepted mark all sent
  One : (order : Order) → joining_with accepted mark all sent ≡ order ∷ [] → is_armed (to_come (last_arm accepted) mark) ≡ false → MayJoin orders accepted mark order
      → Joined orders accepted mark all sent

load-joined : (orders accepted : List Order) (mark : ℕ) (all : List Plan) (command : Command) (edition : EditionNo) (stale armed : Bool)
    → nat_le command.0 (last_command accepted).0 ≡ stale → is_armed (to_come (last_arm accepted) mark) ≡ armed
    → IsAmong (Load command edition) orders
    → Joined orders accepted mark all (Some (sends.Load command edition))
load-joined orders accepted mark all command edition true armed p q among = Nothing (rw p refl)
load-joined orders accepted mark all command edition false true p q among = Nothing (rw (p, q) refl)
load-joined orders accepted mark all command edition false false p q among = One (Load command edition) (rw (p, q) refl) q (grind (arith, nat_tests), among)

arm-joined : (orders accepted : List Order) (mark : ℕ) (all : List Plan) (command : Command) (edition : EditionNo) (due : Mark) (stale armed missing late : Bool)
    → nat_le command.0 (last_command accepted).0 ≡ stale → is_armed (to_come (last_arm accepted) mark) ≡ armed
    → not ((back_with (to_come (last_arm accepted) mark) accepted).0 == edition.0) ≡ missing → nat_le due.0 mark ≡ late
    → IsAmong (Arm command edition due) orders
    → Joined orders accepted mark all (Some (sends.Arm command edition due))
arm-joined orders accepted mark all command edition due true armed missing late p q r t among = Nothing (rw p refl)
arm-joined orders accepted mark all command edition due false true missing late p q r t among = Nothing (rw (p, q) refl)
arm-joined orders accepted mark all command edition due false false true late p q r t among = Nothing (rw (p, q, r) refl)
arm-joined orders accepted mark all command edition due false false false true p q r t among = Nothing (rw (p, q, r, t) refl)
arm-joined orders accepted mark all command edition due false false false false p q r t among =
    One (Arm command edition due) (rw (p, q, r, t) refl) q (grind (arith, nat_tests), grind (arith, nat_tests), among)

-- what is delivered was sent, where anything is
abbrev pub IsSoundIfAny : List Order → List Order → ℕ → Option Aired → Type 0
IsSoundIfAny orders accepted mark None = Unit {0}
IsSoundIfAny orders accepted mark (Some sent) = IsSound orders accepted mark sent

pub joined : (orders accepted : List Order) (mark : ℕ) (all : List Plan) (sent : Option Aired) → IsSoundIfAny orders accepted mark sent → Joined orders accepted mark all sent
joined orders accepted mark all None sound = Nothing refl
joined orders accepted mark all (Some (sends.Load command edition)) among = load-joined orders accepted mark all command edition _ _ refl refl among
joined orders accepted mark all (Some (sends.Arm command edition due)) among = arm-joined orders accepted mark all command edition due _ _ _ _ refl refl refl refl among
joined orders accepted mark all (Some (sends.Status status)) sound = Nothing refl
joined orders accepted mark all (Some (sends.PlanFor to load edition)) sound = Nothing refl
joined orders accepted mark all (Some (sends.Confirm from load edition)) sound = Nothing refl
joined orders accepted mark all (Some (sends.Reference superframe in_force next)) sound = Nothing refl
joined orders accepted mark all (Some (sends.Lost from)) sound = Nothing refl

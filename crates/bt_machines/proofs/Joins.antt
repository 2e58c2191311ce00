-- What a message joins to the accepted orders, and what that leaves.
use Rattle.std.proofs.Common.{◌≡◌, ℕ, ◌<◌, ◌≤◌, ◌==◌, nat_le, not, Bool, true, false, List, [], ◌∷◌, ◌++◌, All, refl, arith}
use Rattle.std.proofs.lemmas.Bool.Decides.{nat_tests}
use Rattle.std.proofs.lemmas.List.Elements.{All-cons, All-nil}
use Rattle.bt_frame.specs.declared.mode.Mode.{Mode}
use Rattle.bt_frame.specs.declared.numbers.Command.{Command}
use Rattle.bt_frame.specs.declared.numbers.EditionNo.{EditionNo}
use Rattle.bt_frame.specs.declared.numbers.Mark.{Mark}
use Rattle.bt_air.specs.declared.message.Message.{Message}
use Rattle.bt_air.specs.declared.message.Message.TheVariants as message
use Rattle.bt_air.specs.declared.order.Order.{Order}
use Rattle.bt_air.specs.declared.order.Order.TheVariants.{Load, Arm}
use Rattle.bt_air.specs.Orders.{last_command, last_arm, to_come, fore_at}
use Rattle.bt_machines.specs.Satellite.{is_armed}
use Rattle.bt_machines.specs.Orders.{back_with, joining, IsAhead}

-- nothing joins, or a Load, or an Arm for a superframe to come
data Joined (orders : List Order) (mark : ℕ) (message : Message) : Type 0 where
  Nothing : joining orders mark message ≡ [] → Joined orders mark message
  OneLoad : (command : Command) (edition : EditionNo) → joining orders mark message ≡ Load command edition ∷ [] → Joined orders mark message
  OneArm : (command : Command) (edition : EditionNo) (due : Mark) → joining orders mark message ≡ Arm command edition due ∷ [] → mark < due.0 → Joined orders mark message

-- a Load, by the tests of its rows
load_joined : (orders : List Order) (mark : ℕ) (command : Command) (edition : EditionNo) (modes : List Mode) (stale armed : Bool)
    → nat_le command.0 (last_command orders).0 ≡ stale → is_armed (to_come (last_arm orders) mark) ≡ armed
    → Joined orders mark (message.Load command edition modes)
load_joined orders mark command edition modes true armed p q = Nothing (rw p refl)
load_joined orders mark command edition modes false true p q = Nothing (rw (p, q) refl)
load_joined orders mark command edition modes false false p q = OneLoad command edition (rw (p, q) refl)

-- an Arm, by the tests of its rows
arm_joined : (orders : List Order) (mark : ℕ) (command : Command) (edition : EditionNo) (due : Mark) (stale armed missing late : Bool)
    → nat_le command.0 (last_command orders).0 ≡ stale → is_armed (to_come (last_arm orders) mark) ≡ armed
    → not ((back_with (to_come (last_arm orders) mark) orders).0 == edition.0) ≡ missing → nat_le due.0 mark ≡ late
    → Joined orders mark (message.Arm command edition due)
arm_joined orders mark command edition due true armed missing late p q r t = Nothing (rw p refl)
arm_joined orders mark command edition due false true missing late p q r t = Nothing (rw (p, q) refl)
arm_joined orders mark command edition due false false true late p q r t = Nothing (rw (p, q, r) refl)
arm_joined orders mark command edition due false false false true p q r t = Nothing (rw (p, q, r, t) refl)
arm_joined orders mark command edition due false false false false p q r t = OneArm command edition due (rw (p, q, r, t) refl) (grind (arith, nat_tests))

-- what a message joins
joined : (orders : List Order) (mark : ℕ) (message : Message) → Joined orders mark message
joined orders mark (message.Load command edition modes) = load_joined orders mark command edition modes _ _ refl refl
joined orders mark (message.Arm command edition due) = arm_joined orders mark command edition due _ _ _ _ refl refl refl refl
joined orders mark (message.Status status) = Nothing refl
joined orders mark (message.PlanFor to load edition bursts) = Nothing refl
joined orders mark (message.Confirm from load edition) = Nothing refl
joined orders mark (message.Reference superframe in_force next) = Nothing refl
joined orders mark (message.Lost from) = Nothing refl

-- an Arm that joins is for a superframe to come
pub joins_ahead : (orders : List Order) (mark : ℕ) (message : Message) → All (IsAhead mark) (joining orders mark message)
joins_ahead orders mark message = elim (joined orders mark message) [
  | Nothing none ↦ rw none (All-nil (IsAhead mark))
  | OneLoad command edition one ↦ rw one (All-cons (IsAhead mark) (Load command edition) [] tt (All-nil (IsAhead mark)))
  | OneArm command edition due one ahead ↦ rw one (All-cons (IsAhead mark) (Arm command edition due) [] ahead (All-nil (IsAhead mark)))
]

-- with an Arm for a superframe to come, the superframes so far have in front what they had
arm_keeps_front : (orders : List Order) (command : Command) (edition : EditionNo) (due : Mark) (mark past : ℕ) → mark < due.0 → past ≤ mark
    → fore_at (Arm command edition due ∷ orders) past ≡ fore_at orders past
arm_keeps_front orders command edition due mark past ahead h = let e : nat_le due.0 past ≡ false = grind (arith, nat_tests) in rw e refl

-- no message changes which edition was in front
pub joins_keep_fronts : (orders : List Order) (mark past : ℕ) (message : Message) → past ≤ mark
    → fore_at (joining orders mark message ++ orders) past ≡ fore_at orders past
joins_keep_fronts orders mark past message h = elim (joined orders mark message) [
  | Nothing none ↦ rw none refl
  | OneLoad command edition one ↦ rw one refl
  | OneArm command edition due one ahead ↦ rw one (arm_keeps_front orders command edition due mark past ahead h)
]

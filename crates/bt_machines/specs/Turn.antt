-- What the centre does in its turn.
use Rattle.std.specs.Prelude.{ℕ, ◌+◌, ◌==◌, ◌&&◌, ◌||◌, nat_le, nat_lt, not, min, if◌then◌else◌, Bool, Option, Some, None}
use Rattle.bt_frame.specs.declared.limits.TheConstants.{LAST_MARK, MOST_PATIENCE}
use Rattle.bt_frame.specs.declared.numbers.Command.{Command}
use Rattle.bt_frame.specs.declared.numbers.EditionNo.{EditionNo}
use Rattle.bt_air.specs.declared.order.Order.{Order}
use Rattle.bt_air.specs.declared.order.Order.TheVariants.{Load, Arm}
use Rattle.bt_air.specs.declared.order.Status.{Status}
use Rattle.bt_air.specs.declared.sent.Act.{Act}
use Rattle.bt_air.specs.declared.sent.Act.TheVariants.{Quiet, RepeatLoad, RepeatArm, Want}
use Rattle.bt_machines.specs.declared.turn.Turn.{Turn}

-- one turn more was waited, and the most patience stands for all further ones
abbrev pub one_more : ℕ → ℕ
one_more waited = min MOST_PATIENCE (waited + 1)

-- a status is of a superframe before the one of the change
abbrev pub is_before : Status → ℕ → Bool
is_before status due = nat_lt status.mark.0 due

-- nobody has still to confirm, or enough turns were waited
abbrev pub is_ready : Turn → Bool
is_ready turn = not turn.some_missing || nat_le turn.patience turn.waited

-- the satellite has the last Load, the terminals are ready, and the change would come by the last superframe
abbrev pub may_arm : Turn → Status → Command → Bool
may_arm turn status command = status.last.0 == command.0 && (is_ready turn && nat_le (turn.mark.0 + turn.lead) LAST_MARK)

-- a new change begins, with the command after this one, where an edition is known and the target is another
abbrev pub attempt : Option EditionNo → EditionNo → ℕ → Act
attempt None target last = Quiet
attempt (Some fore) target last = if target.0 == fore.0 then Quiet else Want (Load (record { 0 = last + 1 }) target)

-- the Arm that follows a Load
abbrev pub arm_after : Turn → Command → EditionNo → Order
arm_after turn command edition = Arm (record { 0 = command.0 + 1 }) edition (record { 0 = turn.mark.0 + turn.lead })

-- The table: what the centre does, by the order that is wanted, the status that is kept and the last order placed.
abbrev pub act_of : Turn → (wanted : Option Order) → (kept : Option Status) → (last : Option Order) → Act
act_of turn (Some order) kept last = Want order
act_of turn None None last = Quiet
act_of turn None (Some status) (Some (Arm command edition due)) =
    if is_before status due.0 && nat_lt turn.mark.0 due.0 then RepeatArm
    else (if is_before status due.0 then Quiet
    else attempt turn.in_force turn.target command.0)
act_of turn None (Some status) (Some (Load command edition)) =
    if may_arm turn status command then Want (arm_after turn command edition)
    else RepeatLoad (not (status.last.0 == command.0))
act_of turn None (Some status) None = attempt turn.in_force turn.target 0

-- the turns that were waited, with this one: it counts where no order is wanted, a status is kept and the last order is a Load
abbrev pub waited_with : ℕ → (wanted : Option Order) → (kept : Option Status) → (last : Option Order) → ℕ
waited_with waited None (Some status) (Some (Load command edition)) = one_more waited
waited_with waited wanted kept last = waited

-- the order that an act wants, if it wants one
abbrev pub wanted_by : Act → Option Order
wanted_by (Want order) = Some order
wanted_by act = None

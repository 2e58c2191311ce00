-- Plans that can be flown, whatever demand they are for, and what of them each terminal holds.
use Rattle.std.specs.Prelude.{◌≡◌, ◌≤◌, All}
use Rattle.bt_frame.specs.declared.limits.TheConstants.{MOST_SLOTS, LAST_SLOT}
use Rattle.bt_frame.specs.declared.numbers.TermNo.{TermNo}
use Rattle.bt_frame.specs.Range.{IsWithin}
use Rattle.bt_net.specs.Network.{Net}
use Rattle.bt_net.specs.Terminals.{IsTerminal}
use Rattle.bt_matrix.specs.Good.{HasDurations, IsFilled}
use Rattle.bt_demand.specs.declared.burst.Burst.{Burst}
use Rattle.bt_demand.specs.declared.plan.Plan.{Plan}
use Rattle.bt_demand.specs.Plan.{HasSwitchings, IsHeld}
use Rattle.bt_demand.specs.Apart.{AreApart, AreBetweenTerminals}

-- The plan's modes are permutations that last and fill its length, which a frame can have; its bursts are between
-- terminals of the network, do not meet, and each is held by a mode.
pub record IsFlyable (net : Net) (plan : Plan) : Type 0 where
  pub permutations : HasSwitchings net plan.schedule
  pub durations : HasDurations plan.schedule
  pub filled : IsFilled plan.schedule
  pub short : plan.schedule.length ≤ MOST_SLOTS
  pub between : AreBetweenTerminals net plan.bursts
  pub apart : AreApart net plan.bursts
  pub held : All (IsHeld net plan.schedule.modes) plan.bursts

-- the terminal sends the burst, to a terminal of the network and within the slots that a frame can have
pub record IsSentBy (net : Net) (terminal : TermNo) (burst : Burst) : Type 0 where
  pub sender : burst.from ≡ terminal
  pub receiver : IsTerminal net burst.to
  pub start : IsWithin 0 LAST_SLOT burst.start
  pub slots : IsWithin 1 MOST_SLOTS burst.length

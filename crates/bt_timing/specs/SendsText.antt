-- How the transmit times of a plan are spelled: a line for each burst, in the order of the plan, and `end`.
use Rattle.std.specs.Prelude.{ℕ, ◌<◌, codes, decimal, length, map, List, [], ◌∷◌, ◌++◌}
use Rattle.std.specs.Fmt.{signed_decimal}
use Rattle.bt_text.specs.Text.{spaced, ended}
use Rattle.bt_net.specs.Network.{Net}
use Rattle.bt_net.specs.Terminals.{name_at, IsTerminal}
use Rattle.bt_demand.specs.declared.burst.Burst.{Burst}
use Rattle.bt_timing.specs.declared.timing.SendTime.{SendTime}
use Rattle.bt_timing.specs.Times.{Times, send_of, IsSendable}

-- the burst can be sent: it is between terminals of the network, the one that sends has a delay, and it lies in a frame
pub record IsTimed (net : Net) (times : Times) (burst : Burst) : Type 0 where
  pub sends : IsTerminal net burst.from
  pub receives : IsTerminal net burst.to
  pub delay : burst.from.0 < length times.delays
  pub lies : IsSendable burst

-- `send AT TICKS FROM TO`, with `-` before the first tick where that is negative
abbrev pub time_line : Net → Burst → SendTime → List ℕ
time_line net burst time = spaced (codes "send" ∷ signed_decimal time.at ∷ decimal time.ticks ∷ name_at net burst.from ∷ name_at net burst.to ∷ [])

-- the line of a burst
abbrev pub send_line : Net → Times → Burst → List ℕ
send_line net times burst = time_line net burst (send_of times burst)

-- the lines of all bursts, and `end`
abbrev pub sends_lines : Net → Times → List Burst → List (List ℕ)
sends_lines net times bursts = map (send_line net times) bursts ++ codes "end" ∷ []

-- the text of the transmit times
abbrev pub sends_spelling : Net → Times → List Burst → List ℕ
sends_spelling net times bursts = ended (sends_lines net times bursts)

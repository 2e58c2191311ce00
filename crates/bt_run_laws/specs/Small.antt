-- Which numbers four bytes hold or lie in their ranges, which entries are steps, and what holds of the parts of a script.
use Rattle.std.specs.Prelude.{ℕ, ◌<◌, ◌≤◌, ◌^◌, List, length, All}
use Rattle.bt_frame.specs.declared.limits.TheConstants.{MOST_DESKS, MOST_LINES, MOST_UNITS}
use Rattle.bt_frame.specs.Range.{IsWithin}
use Rattle.bt_net.specs.Network.{Net}
use Rattle.bt_net.specs.Terminals.{IsTerminal}
use Rattle.bt_demand.specs.declared.burst.Burst.{Burst}
use Rattle.bt_demand.specs.declared.plan.Plan.{Plan}
use Rattle.bt_journal.specs.declared.call.Call.{Call}
use Rattle.bt_journal.specs.declared.call.Call.TheVariants as call
use Rattle.bt_journal.specs.declared.entry.Entry.{Entry}
use Rattle.bt_journal.specs.declared.reply.Reply.{Reply}
use Rattle.bt_journal.specs.declared.reply.Reply.TheVariants.{Done, NotThere, RowFull, ColumnFull, BookFull, NotNewer, NoSuchEdition, OutOfTurn, NotInstalled, Installed}
use Rattle.bt_journal.specs.JournalLines.{units_in}
use Rattle.bt_history.specs.Causes.{Follows}
use Rattle.bt_history.specs.Machine.{State, Step}
use Rattle.bt_script.specs.declared.script.DeskLine.{DeskLine}
use Rattle.bt_script.specs.declared.script.DeskLine.TheVariants as desk_line
use Rattle.bt_script.specs.declared.script.AirLine.{AirLine}
use Rattle.bt_script.specs.declared.script.AirLine.TheVariants as air_line
use Rattle.bt_script.specs.declared.script.Item.{Item}
use Rattle.bt_script.specs.declared.script.Item.TheVariants as item
use Rattle.bt_script.specs.declared.script.Round.{Round}
use Rattle.bt_script.specs.Length.{script_length}
use Rattle.bt_centre.specs.Run.{AreFew}

-- four bytes hold the number
abbrev pub IsSmall : ℕ → Type 0
IsSmall number = number < 2 ^ 32

-- four bytes hold each number of the reply to a change, beams and verdicts left out
abbrev pub IsSmallReply : Reply → Type 0
IsSmallReply (Done edition most) = IsSmall edition.0 × IsSmall most
IsSmallReply (NotThere held) = IsSmall held
IsSmallReply (RowFull beam sum) = IsSmall sum
IsSmallReply (ColumnFull beam sum) = IsSmall sum
IsSmallReply (BookFull bytes) = IsSmall bytes
IsSmallReply (NotNewer newest) = IsSmall newest.0
IsSmallReply (NoSuchEdition last) = IsSmall last.0
IsSmallReply (OutOfTurn last) = IsSmall last.0
IsSmallReply (NotInstalled newest) = IsSmall newest.0
IsSmallReply (Installed edition) = IsSmall edition.0
IsSmallReply _ = Unit {0}

-- where the call asks for an edit, it has no more units than a line of a script may say
abbrev pub IsSmallCall : Call → Type 0
IsSmallCall (call.Edit edit) = units_in edit ≤ MOST_UNITS
IsSmallCall _ = Unit {0}

-- the entry is a step of a machine whose changes follow one another, and are few
pub record IsAnswered (net : Net) (entry : Entry) : Type 0 where
  pub old : State
  pub new : State
  pub follow : Follows net old.changes
  pub few : AreFew net old.changes
  pub step : Step net old entry.call entry.reply new

-- the burst is between terminals of the network, and four bytes hold its slots
pub record IsSmallBurst (net : Net) (burst : Burst) : Type 0 where
  pub start : IsSmall burst.start
  pub slots : IsSmall burst.length
  pub from : IsTerminal net burst.from
  pub to : IsTerminal net burst.to

-- four bytes hold what is printed of the plan
pub record IsSmallPlan (net : Net) (plan : Plan) : Type 0 where
  pub edition : IsSmall plan.edition.0
  pub slots : IsSmall plan.schedule.length
  pub modes : IsSmall (length plan.schedule.modes)
  pub bursts : IsSmall (length plan.bursts)
  pub each : All (IsSmallBurst net) plan.bursts

-- the numbers of a line of a desk are in their ranges
abbrev pub IsSmallDeskLine : DeskLine → Type 0
IsSmallDeskLine (desk_line.Edit edit) = units_in edit ≤ MOST_UNITS
IsSmallDeskLine (desk_line.Show terminal) = Unit {0}

-- so are those of a line of the air
abbrev pub IsSmallAirLine : AirLine → Type 0
IsSmallAirLine (air_line.Back edition) = IsSmall edition.0
IsSmallAirLine (air_line.Deliver number place) = IsSmall number
IsSmallAirLine (air_line.StandbyHears number) = IsSmall number
IsSmallAirLine _ = Unit {0}

-- and those of a round
pub record IsSmallRound (round : Round) : Type 0 where
  pub numbered : All (λ (desk : ℕ × List DeskLine). IsWithin 1 MOST_DESKS desk.0) round.desks
  pub desks : All (λ (desk : ℕ × List DeskLine). All IsSmallDeskLine desk.1) round.desks
  pub air : All IsSmallAirLine round.air

-- and those of a part of a script; a restart has none, and a script has no line of the bus
abbrev pub IsSmallItem : Item → Type 0
IsSmallItem (item.Round round) = IsSmallRound round
IsSmallItem item.Restart = Unit {0}
IsSmallItem (item.Heard line) = Unit {0}

-- the parts of a script that was read: their numbers are in their ranges, and they have no more lines than a script may
pub record AreParts (items : List Item) : Type 0 where
  pub small : All IsSmallItem items
  pub few : script_length items ≤ MOST_LINES

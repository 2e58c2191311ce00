-- How many lines a script has, remarks left out.
use Rattle.std.specs.Prelude.{ℕ, ◌+◌, length, List, sum_by}
use Rattle.bt_script.specs.declared.script.DeskLine.{DeskLine}
use Rattle.bt_script.specs.declared.script.Round.{Round}
use Rattle.bt_script.specs.declared.script.Item.{Item}
use Rattle.bt_script.specs.declared.script.Item.TheVariants as item

-- the lines of desks
abbrev pub desks_length : List (ℕ × List DeskLine) → ℕ
desks_length desks = sum_by (λ (desk : ℕ × List DeskLine). length desk.1) desks

-- the lines of a round, and the one that begins it
abbrev pub round_length : Round → ℕ
round_length round = 1 + desks_length round.desks + round.plans + length round.air

-- the lines of a round; a restart is one, and so is what is heard
abbrev pub item_length : Item → ℕ
item_length (item.Round round) = round_length round
item_length item.Restart = 1
item_length (item.Heard line) = 1

-- the lines of all rounds, and the restarts
abbrev pub script_length : List Item → ℕ
script_length items = sum_by item_length items

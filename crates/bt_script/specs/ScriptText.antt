-- The text of a script: rounds, in each round the lines of its desks, of its planner and of the air, and the restarts
-- of the centre between them.
use Rattle.std.specs.Prelude.{ℕ, zero, suc, ◌+◌, ◌==◌, if◌then◌else◌, nat_le, Bool, true, false, List, [], ◌∷◌, ◌++◌, count_by, flat_map, Ok, Err}
use Rattle.bt_frame.specs.declared.limits.TheConstants.{MOST_DESKS, MOST_LINES}
use Rattle.bt_text.specs.Text.{lines}
use Rattle.bt_text.specs.Reading.{◌>>=◌}
use Rattle.bt_net.specs.Network.{Net}
use Rattle.bt_script.specs.declared.fault.ScriptCode.TheVariants.{S1, S5}
use Rattle.bt_script.specs.declared.line.ScriptLine.{ScriptLine}
use Rattle.bt_script.specs.declared.line.ScriptLine.TheVariants as line
use Rattle.bt_script.specs.declared.script.DeskLine.{DeskLine}
use Rattle.bt_script.specs.declared.script.AirLine.{AirLine}
use Rattle.bt_script.specs.declared.script.Round.{Round}
use Rattle.bt_script.specs.declared.script.Item.{Item}
use Rattle.bt_script.specs.declared.script.Item.TheVariants as item
use Rattle.bt_script.specs.declared.script.Script.{Script}
use Rattle.bt_script.specs.Reading.{Reading}
use Rattle.bt_script.specs.Stages.{line_in}

-- a round is open behind the line: one begins there, or one goes on
abbrev pub is_open_behind : Bool → ScriptLine → Bool
is_open_behind is_open line.Round = true
is_open_behind is_open line.Restart = false
is_open_behind is_open _ = is_open

-- a line that has a newline behind it, or the fault where that line would be one too many
abbrev pub limited_line : Net → ℕ → Bool → List ℕ → Reading ScriptLine
limited_line net at is_open text = if nat_le at MOST_LINES then line_in net at is_open text else Err (S5, at)

-- a line behind those that were read: whether a round is open behind it, and all the lines
abbrev pub added : Bool → List ScriptLine → Reading ScriptLine → Reading (Bool × List ScriptLine)
added is_open front reading = reading >>= λ one. Ok (is_open_behind is_open one, front ++ one ∷ [])

-- the last line, which has no newline behind it
abbrev pub last_in : ℕ → List ℕ → Reading (List ScriptLine)
last_in at [] = Ok []
last_in at (_ ∷ _) = if nat_le at MOST_LINES then Err (S1, at) else Err (S5, at)

-- what the lines say, the first of them line `at`
abbrev pub lines_in : Net → ℕ → Bool → List (List ℕ) → Reading (List ScriptLine)
lines_in net at is_open (text ∷ next ∷ rest) = limited_line net at is_open text >>= λ one. lines_in net (at + 1) (is_open_behind is_open one) (next ∷ rest) >>= λ more. Ok (one ∷ more)
lines_in net at is_open (last ∷ []) = last_in at last
lines_in net at is_open [] = Ok []

-- the line ends the round before it
abbrev pub ends_round : ScriptLine → Bool
ends_round line.Round = true
ends_round line.Restart = true
ends_round _ = false

-- the lines of a round: those in front of the next round or restart
abbrev pub round_lines : List ScriptLine → List ScriptLine
round_lines [] = []
round_lines (first ∷ rest) = if ends_round first then [] else first ∷ round_lines rest

-- the line, where it is one of the desk
abbrev pub own_lines : ℕ → ScriptLine → List DeskLine
own_lines desk (line.Desk number own) = if number == desk then own ∷ [] else []
own_lines desk _ = []

-- the line lets the planner plan
abbrev pub is_plan : ScriptLine → Bool
is_plan line.Plan = true
is_plan _ = false

-- the line, where it is one of the air
abbrev pub air_lines : ScriptLine → List AirLine
air_lines (line.Air own) = own ∷ []
air_lines _ = []

-- the desk with its lines, where it has any
abbrev pub entry_of : ℕ → List DeskLine → List (ℕ × List DeskLine)
entry_of desk [] = []
entry_of desk (first ∷ rest) = (desk, first ∷ rest) ∷ []

-- so many desks that ascend, the first of them `desk`, each with its lines where it has any
abbrev pub desks_of : ℕ → ℕ → List ScriptLine → List (ℕ × List DeskLine)
desks_of desk zero own = []
desks_of desk (suc more) own = entry_of desk (flat_map (own_lines desk) own) ++ desks_of (desk + 1) more own

-- the round of these lines
abbrev pub round_of : List ScriptLine → Round
round_of own = record { desks = desks_of 1 MOST_DESKS own; plans = count_by is_plan own; air = flat_map air_lines own }

-- the part of a script that a line begins, where it begins one, with the lines that follow
abbrev pub items_at : ScriptLine → List ScriptLine → List Item
items_at line.Round rest = item.Round (round_of (round_lines rest)) ∷ []
items_at line.Restart rest = item.Restart ∷ []
items_at _ rest = []

-- the rounds and restarts that the lines say
abbrev pub items_of : List ScriptLine → List Item
items_of [] = []
items_of (first ∷ rest) = items_at first rest ++ items_of rest

-- the script that a text spells
abbrev pub script_of : Net → List ℕ → Reading Script
script_of net text = lines_in net 1 false (lines text) >>= λ said. Ok (record { items = items_of said })

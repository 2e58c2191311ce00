-- The parts that the lines of a session ask.
use Rattle.std.specs.Prelude.{Bool, true, false, not, List, [], ◌∷◌, ◌++◌, filter, length, map, ℕ, ◌+◌, Option}
use Rattle.bt_net.specs.Network.{Net}
use Rattle.bt_journal.specs.declared.call.Change.{Change}
use Rattle.bt_script.specs.declared.sites.Sites.{Sites}
use Rattle.bt_script.specs.declared.line.ScriptLine.{ScriptLine}
use Rattle.bt_script.specs.declared.line.ScriptLine.TheVariants as line
use Rattle.bt_script.specs.declared.script.DeskLine.TheVariants as desk_line
use Rattle.bt_script.specs.declared.script.Item.{Item}
use Rattle.bt_script.specs.declared.script.Round.{Round}
use Rattle.bt_script.specs.ScriptText.{round_lines, round_of}
use Rattle.bt_talk.specs.declared.block.Step.{Step}
use Rattle.bt_talk.specs.declared.block.Step.TheVariants as step
use Rattle.bt_talk.specs.Blocks.{Open, row_of}

-- what came, and the changes that were made when it did
abbrev pub Came : Type 0
Came = List Change × Option (List ℕ)

-- the part that is played, where one is
abbrev pub part_in : Step → List Item
part_in (step.Plays one) = one ∷ []
part_in _ = []

-- the parts that lines ask, the first of them line `at`, from these open blocks on, where none asks for all of a block or nothing
abbrev pub parts_of : Net → Sites → ℕ → Open → List Came → List Item
parts_of net sites at blocks [] = []
parts_of net sites at blocks (first ∷ heard) =
    part_in (row_of net sites at blocks first.0 first.1).1 ++ parts_of net sites (at + 1) (row_of net sites at blocks first.0 first.1).0 heard

-- the blocks that are open behind such lines
abbrev pub open_behind : Net → Sites → ℕ → Open → List Came → Open
open_behind net sites at blocks [] = blocks
open_behind net sites at blocks (first ∷ heard) = open_behind net sites (at + 1) (row_of net sites at blocks first.0 first.1).0 heard

-- what a line comes to that is heard behind these, the first of a session
abbrev pub row_behind : Net → Sites → List Came → Came → Open × Step
row_behind net sites heard one = row_of net sites (1 + length heard) (open_behind net sites 1 [] heard) one.0 one.1

-- whether answers say when they are given, behind a line that comes to this
abbrev pub timed_behind : Bool → Step → Bool
timed_behind timed (step.Clock on) = on
timed_behind timed _ = timed

-- whether they do behind such lines
abbrev pub timed_after : Net → Sites → ℕ → Open → Bool → List Came → Bool
timed_after net sites at blocks timed [] = timed
timed_after net sites at blocks timed (first ∷ heard) =
    timed_after net sites (at + 1) (row_of net sites at blocks first.0 first.1).0 (timed_behind timed (row_of net sites at blocks first.0 first.1).1) heard

-- the line is an edit of a desk
abbrev pub is_edit : ScriptLine → Bool
is_edit (line.Desk desk (desk_line.Edit edit)) = true
is_edit _ = false

-- the edits among lines
abbrev pub edits_in : List ScriptLine → List ScriptLine
edits_in said = filter is_edit said

-- the others
abbrev pub others_in : List ScriptLine → List ScriptLine
others_in said = filter (λ (one : ScriptLine). not (is_edit one)) said

-- a line as a round by itself
abbrev pub round_alone : ScriptLine → Round
round_alone one = round_of (round_lines (one ∷ []))

-- the round of these lines, where there are some
abbrev pub round_if : List ScriptLine → List Round
round_if [] = []
round_if (first ∷ said) = round_of (round_lines (first ∷ said)) ∷ []

-- the rounds in which the lines of a block are played one by one: each edit is one by itself, in the order in which they stand, and the
-- other lines are one behind them
abbrev pub rounds_in_turn : List ScriptLine → List Round
rounds_in_turn said = map round_alone (edits_in said) ++ round_if (others_in said)

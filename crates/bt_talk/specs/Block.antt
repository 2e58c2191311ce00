-- What a line of a session comes to in the block of its tag: a table with a row for each kind of line, where that is closed and where it
-- is open.
use Rattle.std.specs.Prelude.{ℕ, ◌≤◌, ◌&&◌, if◌then◌else◌, nat_lt, Bool, true, false, List, [], ◌∷◌, ◌++◌, length, codes, Option, Some, None, Ok, Err, All}
use Rattle.bt_frame.specs.declared.limits.TheConstants.{MOST_LINES}
use Rattle.bt_frame.specs.declared.numbers.TermNo.{TermNo}
use Rattle.bt_text.specs.Text.{is_word, words}
use Rattle.bt_net.specs.Name.{are_names}
use Rattle.bt_net.specs.Network.{Net}
use Rattle.bt_net.specs.Terminals.{IsBetweenTerminals, terminal_of}
use Rattle.bt_script.specs.declared.fault.ScriptCode.TheVariants.{S1, S2, S4, S5}
use Rattle.bt_script.specs.declared.sites.Sites.{Sites}
use Rattle.bt_script.specs.declared.sites.Sites.TheVariants.{Together, Apart}
use Rattle.bt_script.specs.declared.line.ScriptLine.{ScriptLine}
use Rattle.bt_script.specs.declared.line.ScriptLine.TheVariants as line
use Rattle.bt_script.specs.declared.script.AirLine.{AirLine}
use Rattle.bt_script.specs.declared.script.AirLine.TheVariants as air
use Rattle.bt_script.specs.declared.script.Item.TheVariants as item
use Rattle.bt_script.specs.Named.{IsItemFor}
use Rattle.bt_script.specs.Said.{IsSaidFor}
use Rattle.bt_script.specs.Reading.{Reading}
use Rattle.bt_script.specs.ScriptText.{round_lines, round_of}
use Rattle.bt_script.specs.Stages.{line_in}
use Rattle.bt_talk.specs.declared.block.Query.{Query}
use Rattle.bt_talk.specs.declared.block.Query.TheVariants as query
use Rattle.bt_talk.specs.declared.block.Step.{Step}
use Rattle.bt_talk.specs.declared.block.Step.TheVariants as step
use Rattle.bt_talk.specs.Wishes.{Wished}

-- the lines that wait in the block of a tag; None where that is closed
abbrev pub Own : Type 0
Own = Option (List ScriptLine)

-- the round of these lines is played
abbrev pub plays : List ScriptLine → Step
plays said = step.Plays (item.Round (round_of (round_lines said)))

-- a line where the block is closed: what a desk, the planner or the air does is a round by itself
abbrev pub lone_row : ScriptLine → Own × Step
lone_row line.Remark = (None, step.Nothing)
lone_row line.Round = (Some [], step.Nothing)
lone_row line.Restart = (None, step.Plays item.Restart)
lone_row (line.Desk desk own) = (None, plays (line.Desk desk own ∷ []))
lone_row line.Plan = (None, plays (line.Plan ∷ []))
lone_row (line.Air own) = (None, plays (line.Air own ∷ []))

-- the line joins the block, where that has room
abbrev pub joined : List ScriptLine → ScriptLine → Own × Step
joined said one = if nat_lt (length said) MOST_LINES then (Some (said ++ one ∷ []), step.Nothing) else (Some said, step.Fault S5)

-- a line where the block is open: what a desk, the planner or the air does waits there
abbrev pub block_row : List ScriptLine → ScriptLine → Own × Step
block_row said line.Remark = (Some said, step.Nothing)
block_row said line.Round = (Some said, step.Fault S4)
block_row said line.Restart = (Some said, step.Fault S4)
block_row said (line.Desk desk own) = joined said (line.Desk desk own)
block_row said line.Plan = joined said line.Plan
block_row said (line.Air own) = joined said (line.Air own)

-- what a line says, in the block where that is open
abbrev pub said_row : Own → ScriptLine → Own × Step
said_row None one = lone_row one
said_row (Some said) one = block_row said one

-- the line of the air is the centre's own; the others are of a simulated air
abbrev pub is_of_centre : AirLine → Bool
is_of_centre air.Tick = false
is_of_centre air.Turn = true
is_of_centre (air.Back edition) = true
is_of_centre air.Ahead = true
is_of_centre air.Flow = false
is_of_centre (air.Lose losing) = false
is_of_centre (air.Deliver number place) = false
is_of_centre air.Frame = false
is_of_centre (air.Reset terminal) = false
is_of_centre (air.StandbyHears number) = false
is_of_centre air.StandbyBurst = false

-- a session has this line of a script: where its sites are apart, it has none of a simulated air
abbrev pub has_line : Sites → ScriptLine → Bool
has_line Together one = true
has_line Apart line.Remark = true
has_line Apart line.Round = true
has_line Apart line.Restart = true
has_line Apart (line.Desk desk own) = true
has_line Apart line.Plan = true
has_line Apart (line.Air own) = is_of_centre own

-- what was read, or its fault
abbrev pub read_row : Sites → Own → Reading ScriptLine → Own × Step
read_row sites block (Ok one) = if has_line sites one then said_row block one else (block, step.Fault S1)
read_row sites block (Err fault) = (block, step.Fault fault.0)

-- `go`: the block is played
abbrev pub go_row : Own → Own × Step
go_row None = (None, step.Fault S4)
go_row (Some said) = (None, plays said)

-- `forget`: the block is given up
abbrev pub forget_row : Own → Own × Step
forget_row None = (None, step.Fault S4)
forget_row (Some said) = (None, step.Nothing)

-- `all`: the block is played, where each of its edits would be done
abbrev pub all_row : Own → Own × Step
all_row None = (None, step.Fault S4)
all_row (Some said) = (None, step.All said)

-- `try`: it is told what the block would come to
abbrev pub try_row : Own → Own × Step
try_row None = (None, step.Fault S4)
try_row (Some said) = (None, step.Tells (query.Try said))

-- a line that asks and changes nothing is told in an open block too, which stays as it is
abbrev pub tell_row : Own → Query → Own × Step
tell_row block one = (block, step.Tells one)

-- what `waiting` asks: where the sites are apart, nobody knows what is on its way
abbrev pub waiting_asked : Sites → Option Query
waiting_asked Together = Some query.Waiting
waiting_asked Apart = None

-- what a line of one word asks
abbrev pub word_asked : Sites → List ℕ → Option Query
word_asked sites text =
    if is_word (codes "state") text then Some query.State
    else (if is_word (codes "capacity") text then Some query.Capacity
    else (if is_word (codes "demand") text then Some query.Demand
    else (if is_word (codes "installed") text then Some query.Installed
    else (if is_word (codes "plans") text then Some query.Plans
    else (if is_word (codes "air") text then Some query.Air
    else (if is_word (codes "waiting") text then waiting_asked sites
    else (if is_word (codes "help") text then Some (query.Help sites)
    else None)))))))

-- the names behind `room`
abbrev pub room_names : List (List ℕ) → Option (List ℕ × List ℕ)
room_names (head ∷ from ∷ to ∷ []) = if is_word (codes "room") head && are_names from to then Some (from, to) else None
room_names _ = None

-- `room`, with the terminals of its names
abbrev pub room_row : Own → Option TermNo → Option TermNo → Own × Step
room_row block (Some from) (Some to) = tell_row block (query.Room from to)
room_row block _ _ = (block, step.Fault S2)

-- a line that is none of one word of sessions: `room`, or a line of a script
abbrev pub named_row : Net → Sites → Own → List ℕ → Option (List ℕ × List ℕ) → Own × Step
named_row net sites block text (Some names) = room_row block (terminal_of net names.0) (terminal_of net names.1)
named_row net sites block text None = read_row sites block (line_in net 1 true text)

-- a line that plays or gives up no block: what is asked, or a line of a script
abbrev pub asked_row : Net → Sites → Own → List ℕ → Option Query → Own × Step
asked_row net sites block text (Some one) = tell_row block one
asked_row net sites block text None = named_row net sites block text (room_names (words text))

-- a line: a word of sessions, what is asked, or a line of a script
abbrev pub line_row : Net → Sites → Own → List ℕ → Own × Step
line_row net sites block text =
    if is_word (codes "go") text then go_row block
    else (if is_word (codes "forget") text then forget_row block
    else (if is_word (codes "all") text then all_row block
    else (if is_word (codes "try") text then try_row block
    else asked_row net sites block text (word_asked sites text))))

-- what a desk wishes: the line that it says, no line, or its fault
abbrev pub wished_row : Own → Wished → Own × Step
wished_row block (Ok (Some one)) = said_row block one
wished_row block (Ok None) = (block, step.Nothing)
wished_row block (Err code) = (block, step.Fault code)

-- a line that wishes something, or another
abbrev pub wish_row : Net → Sites → Own → List ℕ → Option Wished → Own × Step
wish_row net sites block text (Some wished) = wished_row block wished
wish_row net sites block text None = line_row net sites block text

-- the lines of the block name terminals of the network alone
abbrev pub IsOwnFor : Net → Own → Type 0
IsOwnFor net None = Unit {0}
IsOwnFor net (Some said) = All (IsSaidFor net) said

-- so does what is asked
abbrev pub IsQueryFor : Net → Query → Type 0
IsQueryFor net (query.Room from to) = IsBetweenTerminals net from to
IsQueryFor net (query.Try said) = All (IsSaidFor net) said
IsQueryFor net _ = Unit {0}

-- so does the part that is played, the block, which has few lines, or what is told, where there is one
abbrev pub IsStepFor : Net → Step → Type 0
IsStepFor net step.Nothing = Unit {0}
IsStepFor net (step.Fault code) = Unit {0}
IsStepFor net (step.Plays one) = IsItemFor net one
IsStepFor net (step.Tells one) = IsQueryFor net one
IsStepFor net (step.All said) = All (IsSaidFor net) said × (length said ≤ MOST_LINES)
IsStepFor net (step.Clock on) = Unit {0}

-- What a line of a session comes to, where each tag has a block of its own.
use Rattle.std.specs.Prelude.{ℕ, ◌&&◌, if◌then◌else◌, nat_lt, Bool, true, false, List, [], ◌∷◌, ◌++◌, length, codes, Option, Some, None, All}
use Rattle.std.specs.Option.{is_some}
use Rattle.bt_frame.specs.declared.limits.TheConstants.{MOST_SESSION_LINE_BYTES, MOST_STATION_LINE_BYTES}
use Rattle.bt_text.specs.Text.{is_word, words}
use Rattle.bt_net.specs.Network.{Net}
use Rattle.bt_journal.specs.declared.call.Change.{Change}
use Rattle.bt_script.specs.declared.fault.ScriptCode.TheVariants.{S1, S4, S5}
use Rattle.bt_script.specs.declared.heard.BusLine.{BusLine}
use Rattle.bt_script.specs.declared.script.Item.TheVariants as item
use Rattle.bt_script.specs.declared.sites.Sites.{Sites}
use Rattle.bt_script.specs.declared.sites.Sites.TheVariants.{Together, Apart}
use Rattle.bt_script.specs.Heard.{bus_line_of}
use Rattle.bt_script.specs.Said.{IsSaidFor}
use Rattle.bt_talk.specs.declared.block.Query.TheVariants as query
use Rattle.bt_talk.specs.declared.block.Step.{Step}
use Rattle.bt_talk.specs.declared.block.Step.TheVariants as step
use Rattle.bt_talk.specs.declared.blocks.TheConstants.{MOST_OPEN_BLOCKS}
use Rattle.bt_talk.specs.Block.{Own, wish_row}
use Rattle.bt_talk.specs.Opened.{OpenBlock, block_lines}
use Rattle.bt_talk.specs.Tags.{forgotten, tag_in, untagged}
use Rattle.bt_talk.specs.Wishes.{Wished, wished_in}
pub use Rattle.bt_talk.specs.Opened.{Open}

-- the block of this tag
abbrev pub own_of : List ℕ → Open → Own
own_of tag [] = None
own_of tag (first ∷ blocks) = if is_word tag first.tag then Some first.said else own_of tag blocks

-- the block with these lines, or none where it is closed
abbrev pub with_said : OpenBlock → Own → Open
with_said one None = []
with_said one (Some said) = record { tag = one.tag; since = one.since; said = said } ∷ []

-- the blocks where that of this tag is so behind line `at`: in its place, and behind the others where that line opened it
abbrev pub with_own : ℕ → List ℕ → Open → Own → Open
with_own at tag [] None = []
with_own at tag [] (Some said) = record { tag = tag; since = at; said = said } ∷ []
with_own at tag (first ∷ blocks) own = if is_word tag first.tag then with_said first own ++ blocks else first ∷ with_own at tag blocks own

-- there is room for a block that is open behind a line and was not before it
abbrev pub has_room : Open → Own → Own → Bool
has_room blocks None (Some said) = nat_lt (length blocks) MOST_OPEN_BLOCKS
has_room blocks _ _ = true

-- what a line comes to that comes to this in the block of its tag: at fault where it opens one block too many
abbrev pub kept_row : ℕ → List ℕ → Open → Own × Step → Open × Step
kept_row at tag blocks row = if has_room blocks (own_of tag blocks) row.0 then (with_own at tag blocks row.0, row.1) else (blocks, step.Fault S5)

-- `forget @WORD`: the block of that tag is given up
abbrev pub other_row : Open → List ℕ → Open × Step
other_row blocks other = if is_some (own_of other blocks) then (with_own 0 other blocks None, step.Nothing) else (blocks, step.Fault S4)

-- a line in the block of its tag, where it wishes this
abbrev pub in_own_row : Net → Sites → ℕ → Open → List ℕ → List ℕ → Option Wished → Open × Step
in_own_row net sites at blocks tag text wished = kept_row at tag blocks (wish_row net sites (own_of tag blocks) text wished)

-- a line that lists no blocks: it gives up the block of a tag that it names, or is one in the block of its own
abbrev pub own_row : Net → Sites → ℕ → Open → List Change → List ℕ → List ℕ → Option (List ℕ) → Open × Step
own_row net sites at blocks changes tag text (Some other) = other_row blocks other
own_row net sites at blocks changes tag text None = in_own_row net sites at blocks tag text (wished_in net changes (words text))

-- `clock on` and `clock off`: whether each answer says when it is given
abbrev pub clock_asked : List (List ℕ) → Option Bool
clock_asked (head ∷ word ∷ []) =
    if is_word (codes "clock") head && is_word (codes "on") word then Some true
    else (if is_word (codes "clock") head && is_word (codes "off") word then Some false
    else None)
clock_asked _ = None

-- a line that lists no blocks: it is of the clock, or another
abbrev pub clock_row : Net → Sites → ℕ → Open → List Change → List ℕ → List ℕ → Option Bool → Open × Step
clock_row net sites at blocks changes tag text (Some on) = (blocks, step.Clock on)
clock_row net sites at blocks changes tag text None = own_row net sites at blocks changes tag text (forgotten (words text))

-- a line behind its tag, where these changes were made
abbrev pub tagged_row : Net → Sites → ℕ → Open → List Change → List ℕ → List ℕ → Open × Step
tagged_row net sites at blocks changes tag text =
    if is_word (codes "blocks") text then (blocks, step.Tells (query.Blocks (block_lines blocks)))
    else clock_row net sites at blocks changes tag text (clock_asked (words text))

-- the line of the bus that a session hears, if it is one: where the sites are apart
abbrev pub heard_by : Sites → List ℕ → Option BusLine
heard_by Together text = None
heard_by Apart text = bus_line_of text

-- a line of the bus is heard at once, and the blocks stay as they are; another line is one of the session
abbrev pub heard_row : Net → Sites → ℕ → Open → List Change → List ℕ → Option BusLine → Open × Step
heard_row net sites at blocks changes text (Some one) = (blocks, step.Plays (item.Heard one))
heard_row net sites at blocks changes text None = tagged_row net sites at blocks changes (tag_in text) (untagged text)

-- what came as line `at`, where these changes were made: a line, or what is none
abbrev pub row_of : Net → Sites → ℕ → Open → List Change → Option (List ℕ) → Open × Step
row_of net sites at blocks changes (Some text) = heard_row net sites at blocks changes text (heard_by sites text)
row_of net sites at blocks changes None = (blocks, step.Fault S1)

-- the most bytes of a line: where the sites are apart, a line of the bus finds room
abbrev pub line_bytes : Sites → ℕ
line_bytes Together = MOST_SESSION_LINE_BYTES
line_bytes Apart = MOST_STATION_LINE_BYTES

-- the lines of a block name terminals of the network alone
abbrev pub IsBlockFor : Net → OpenBlock → Type 0
IsBlockFor net one = All (IsSaidFor net) one.said

-- so do those of all of them
abbrev pub IsOpenFor : Net → Open → Type 0
IsOpenFor net blocks = All (IsBlockFor net) blocks

-- A demand as links, and as the journal with the fewest edits that comes to it.
use Rattle.std.specs.Prelude.{ℕ, ◌++◌, List, map}
use Rattle.bt_net.specs.Network.{Net}
use Rattle.bt_demand.specs.declared.demand.Link.{Link}
use Rattle.bt_journal.specs.declared.call.Edit.TheVariants.{Add}
use Rattle.bt_journal.specs.declared.call.Change.{Change}
use Rattle.bt_journal.specs.declared.call.Change.TheVariants as change
use Rattle.bt_journal.specs.JournalLines.{journal_lines}
use Rattle.bt_journal.specs.Mark.{mark_of}

-- the add of all that a link has
abbrev pub add_of : Link → Change
add_of link = change.Edit (Add link.from link.to link.units)

-- an add for each link, in order
abbrev pub adds_of : List Link → List Change
adds_of links = map add_of links

-- the mark, and then the line of each of these adds, numbered anew
abbrev pub compact_lines : Net → List Link → List ℕ
compact_lines net links = mark_of net ++ journal_lines net (adds_of links)

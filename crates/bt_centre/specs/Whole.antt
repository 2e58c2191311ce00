-- For bodies alone: what a session has in hand, with the times that are over and the entries that its book handed over.
use Rattle.std.specs.Prelude.{◌≡◌, Bool, false, List, [], ◌++◌, map}
use Rattle.std.specs.List.{list_any}
use Rattle.bt_journal.specs.declared.entry.Entry.{Entry}
use Rattle.bt_journal.specs.Journal.{is_fault}
use Rattle.bt_history.specs.Book.{Books}
use Rattle.bt_centre.specs.declared.history.History.{History}
use Rattle.bt_centre.specs.Handed.{with_front}
use Rattle.bt_centre.specs.Progress.{Hand, Left}

-- a book with these entries in front of its own
abbrev pub prefixed : List Entry → Books → Books
prefixed front book = record { net = book.net; state = book.state; history = front ++ book.history; told = book.told; faults = book.faults; crashes = book.crashes }

-- what is in hand, behind these times, and with these entries in front of those of the book
abbrev pub whole : List History → List Entry → Hand → Hand
whole times front hand = record { over = times; before = hand.before; book = prefixed front hand.book; air = hand.air; rounds = hand.rounds }

-- what is left, behind these times, and with these entries in front
abbrev pub whole_left : List History → List Entry → Left → Left
whole_left times front left = record { told = left.told; faults = left.faults; crashes = left.crashes; histories = times ++ map (with_front front) left.histories; events = left.events }

-- whether one of these entries tells of a fault of the store
abbrev pub has_fault : List Entry → Bool
has_fault entries = list_any (λ entry. is_fault entry.reply) entries

-- no time that is over is left in hand, no entry that was handed over tells of a fault, and none of the book's own does while it is not
-- stopped
pub record IsLive (front : List Entry) (hand : Hand) : Type 0 where
  pub over : hand.over ≡ []
  pub sound : has_fault front ≡ false
  pub sure : hand.book.state.stopped ≡ false → has_fault hand.book.history ≡ false

-- The state that a journal tells, as lines: how far its changes have come, the newest plan, how full the journal is, and what is
-- asked of each beam.
use Rattle.std.specs.Prelude.{◌≡◌, ℕ, ◌++◌, if◌then◌else◌, nat_lt, Bool, List, [], ◌∷◌, codes, decimal, length, flat_map}
use Rattle.bt_net.specs.Network.{Net}
use Rattle.bt_demand.specs.declared.plan.Plan.{Plan}
use Rattle.bt_journal.specs.declared.call.Change.{Change}
use Rattle.bt_history.specs.Changes.{edition, matrix_after, newest, orders, plans}
use Rattle.bt_history.specs.Machine.{State, bytes_of}
use Rattle.bt_history.specs.Recovery.{Recovered, tail_of}
use Rattle.bt_words.specs.declared.form.Form.TheVariants as form
use Rattle.bt_words.specs.Filled.{form_line}
use Rattle.bt_words.specs.Lines.{line_of}
use Rattle.bt_look.specs.Room.{load_lines}

-- `edition E`
abbrev pub edition_line : ℕ → List ℕ
edition_line number = line_of (codes "edition" ∷ decimal number ∷ [])

-- `plan P length L modes M bursts B`: the edition of a plan, its length in slots, and how many modes and bursts it has
abbrev pub plan_line : Plan → List ℕ
plan_line plan =
    line_of (codes "plan" ∷ decimal plan.edition.0 ∷ codes "length" ∷ decimal plan.schedule.length ∷ codes "modes" ∷ decimal (length plan.schedule.modes) ∷ codes "bursts" ∷ decimal (length plan.bursts) ∷ [])

-- `orders K`
abbrev pub orders_line : ℕ → List ℕ
orders_line count = line_of (codes "orders" ∷ decimal count ∷ [])

-- `journal BYTES of LIMIT`
abbrev pub journal_line : ℕ → ℕ → List ℕ
journal_line bytes limit = line_of (codes "journal" ∷ decimal bytes ∷ codes "of" ∷ decimal limit ∷ [])

-- `torn BYTES`, where there are some
abbrev pub torn_line : ℕ → List ℕ
torn_line bytes = if nat_lt 0 bytes then line_of (codes "torn" ∷ decimal bytes ∷ []) else []

-- how far the changes have come: how many edits, the newest plan, which is the empty one where none is installed, and how many
-- orders
abbrev pub made_lines : List Change → List ℕ
made_lines changes = edition_line (edition changes) ++ plan_line (newest changes) ++ orders_line (length (orders changes))

-- how full the journal is where the lines of changes have so many bytes, the mark left out, and what stands behind the last
-- newline has so many
abbrev pub size_lines : Net → ℕ → ℕ → List ℕ
size_lines net bytes torn = journal_line bytes net.journal ++ torn_line torn

-- the lines of a state, with a journal of these sizes
abbrev pub lines_with : Net → List Change → ℕ → ℕ → List ℕ
lines_with net changes bytes torn = made_lines changes ++ size_lines net bytes torn ++ load_lines net (matrix_after net changes) ++ line_of (codes "end" ∷ [])

-- `stopped`, where a fault of the store has stopped the book
abbrev pub stopped_line : Bool → List ℕ
stopped_line stopped = if stopped then form_line form.Stopped [] else []

-- the state of a book: whether it stopped, and the lines of a journal that has those of its changes, and no byte behind the last newline
abbrev pub book_lines : Net → State → List ℕ
book_lines net state = stopped_line state.stopped ++ lines_with net state.changes (bytes_of net state.changes) 0

-- the line of each plan that the changes have, the empty one of edition 0 among them, in the order of the editions
abbrev pub plans_lines : List Change → List ℕ
plans_lines changes = flat_map plan_line (plans changes)

-- the state after these changes, which the bytes of a journal tell: the two lines of each beam stand last, and then `end`
abbrev pub state_lines : Net → List ℕ → List Change → List ℕ
state_lines net bytes changes = lines_with net changes (bytes_of net changes) (length (tail_of bytes))

-- the text is the state after the changes that the bytes tell
pub record TellsState (net : Net) (bytes text : List ℕ) : Type 0 where
  pub changes : List Change
  pub told : Recovered net bytes changes
  pub spelled : text ≡ state_lines net bytes changes

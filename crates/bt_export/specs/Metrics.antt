-- The state of a journal as gauges, in the text format in which Prometheus reads them.
use Rattle.std.specs.Prelude.{◌≡◌, ℕ, ◌-◌, List, [], ◌∷◌, ◌++◌, flat_map, length, codes, decimal}
use Rattle.bt_net.specs.Network.{Net}
use Rattle.bt_matrix.specs.Traffic.{row_sum, column_sum}
use Rattle.bt_journal.specs.declared.call.Change.{Change}
use Rattle.bt_history.specs.Changes.{edition, matrix_after, newest}
use Rattle.bt_history.specs.Machine.{bytes_of}
use Rattle.bt_history.specs.Recovery.{Recovered}
use Rattle.bt_words.specs.Lines.{line_of}
use Rattle.bt_look.specs.Room.{beam_named, beams_of, free_down, free_up}

-- `# HELP NAME ..` and `# TYPE NAME gauge`: what the numbers below say
abbrev pub head_lines : List ℕ → List ℕ → List ℕ
head_lines name help = line_of (codes "# HELP" ∷ name ∷ help ∷ []) ++ line_of (codes "# TYPE" ∷ name ∷ codes "gauge" ∷ [])

-- a gauge of one number
abbrev pub gauge_lines : List ℕ → List ℕ → ℕ → List ℕ
gauge_lines name help number = head_lines name help ++ line_of (name ∷ decimal number ∷ [])

-- what the changes come to: the last edition, and the newest plan, which is the empty one where none is installed
abbrev pub made_gauges : List Change → List ℕ
made_gauges changes =
    gauge_lines (codes "nozgurt_edition") (codes "Edits of the demand that were made.") (edition changes)
    ++ gauge_lines (codes "nozgurt_plan_edition") (codes "Edition of the newest plan.") (newest changes).edition.0
    ++ gauge_lines (codes "nozgurt_plan_slots") (codes "Slots of a frame that the newest plan takes.") (newest changes).schedule.length
    ++ gauge_lines (codes "nozgurt_plan_modes") (codes "Switching modes of the newest plan.") (length (newest changes).schedule.modes)
    ++ gauge_lines (codes "nozgurt_plan_bursts") (codes "Bursts of the newest plan.") (length (newest changes).bursts)

-- how full the journal is, and how much room is left in it
abbrev pub journal_gauges : Net → List Change → List ℕ
journal_gauges net changes =
    gauge_lines (codes "nozgurt_journal_bytes") (codes "Bytes of the lines of changes.") (bytes_of net changes)
    ++ gauge_lines (codes "nozgurt_journal_room_bytes") (codes "Bytes that the network leaves for further lines.") (net.journal - bytes_of net changes)

-- `NAME{beam="BEAM",way="WAY"} NUMBER`: the number of one side of a beam; a beam's name is letters, digits and underscores
abbrev pub sample_line : List ℕ → List ℕ → List ℕ → ℕ → List ℕ
sample_line name beam way number = name ++ codes "{beam=\"" ++ beam ++ codes "\",way=\"" ++ way ++ codes "\"} " ++ decimal number ++ 10 ∷ []

-- both sides of a beam
abbrev pub sample_lines : List ℕ → List ℕ → ℕ → ℕ → List ℕ
sample_lines name beam up down = sample_line name beam (codes "up") up ++ sample_line name beam (codes "down") down

-- the slots of the frame that are asked of a beam
abbrev pub asked_lines : Net → List (List ℕ) → ℕ → List ℕ
asked_lines net rows beam = sample_lines (codes "nozgurt_slots_asked") (beam_named net beam) (row_sum rows beam) (column_sum rows beam)

-- and those that are free there
abbrev pub free_lines : Net → List (List ℕ) → ℕ → List ℕ
free_lines net rows beam = sample_lines (codes "nozgurt_slots_free") (beam_named net beam) (free_up net rows beam) (free_down net rows beam)

-- the gauges of all beams
abbrev pub beam_gauges : Net → List (List ℕ) → List ℕ
beam_gauges net rows =
    (head_lines (codes "nozgurt_slots_asked") (codes "Slots of a frame that are asked of a beam.") ++ flat_map (asked_lines net rows) (beams_of net))
    ++ (head_lines (codes "nozgurt_slots_free") (codes "Slots of a frame that are free at a beam.") ++ flat_map (free_lines net rows) (beams_of net))

-- all gauges of the state after these changes
abbrev pub metrics_lines : Net → List Change → List ℕ
metrics_lines net changes = (made_gauges changes ++ journal_gauges net changes) ++ beam_gauges net (matrix_after net changes)

-- the text is the gauges of the state after the changes that the bytes tell
pub record TellsMetrics (net : Net) (bytes text : List ℕ) : Type 0 where
  pub changes : List Change
  pub told : Recovered net bytes changes
  pub spelled : text ≡ metrics_lines net changes

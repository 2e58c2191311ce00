-- What contracts see of a network, and what always holds of it.
use Rattle.std.specs.Prelude.{◌≢◌, ℕ, ◌<◌, List, length, map, Bool, All, AllPairs, IsTrue}
use Rattle.bt_frame.specs.declared.numbers.BeamNo.{BeamNo}
use Rattle.bt_frame.specs.declared.limits.TheConstants.{MOST_BEAMS, MOST_TERMINALS, MOST_SLOTS, MOST_FRAMES, LEAST_LEAD, MOST_LEAD, MOST_PATIENCE, LEAST_JOURNAL_BYTES, MOST_BOOK_BYTES}
use Rattle.bt_frame.specs.Range.{IsWithin}
use Rattle.bt_net.specs.Name.{is_name, is_terminal_name}

-- A network: the names of its beams, and the name and the beam of each terminal, both in the order of the file.
pub record Net : Type 0 where
  pub beams : List (List ℕ)
  pub terminals : List (List ℕ × BeamNo)
  pub slots : ℕ
  pub frames : ℕ
  pub lead : ℕ
  pub patience : ℕ
  pub journal : ℕ

-- the names of terminals
abbrev pub names_of : List (List ℕ × BeamNo) → List (List ℕ)
names_of terminals = map (λ terminal. terminal.0) terminals

-- each name is a good one, and no two are the same
pub record AreNames (is_good : List ℕ → Bool) (names : List (List ℕ)) : Type 0 where
  pub good : All (λ name. IsTrue (is_good name)) names
  pub differ : AllPairs (λ a b. a ≢ b) names

-- the names of a network's beams
pub record AreBeams (beams : List (List ℕ)) : Type 0 where
  pub count : IsWithin 1 MOST_BEAMS (length beams)
  pub names : AreNames is_name beams

-- the terminals of a network with these beams
pub record AreTerminals (beams : List (List ℕ)) (terminals : List (List ℕ × BeamNo)) : Type 0 where
  pub count : IsWithin 1 MOST_TERMINALS (length terminals)
  pub names : AreNames is_terminal_name (names_of terminals)
  pub in_beam : All (λ terminal. terminal.1.0 < length beams) terminals

-- what holds of every network
pub record IsSound (net : Net) : Type 0 where
  pub beams : AreBeams net.beams
  pub terminals : AreTerminals net.beams net.terminals
  pub slots : IsWithin 1 MOST_SLOTS net.slots
  pub frames : IsWithin 1 MOST_FRAMES net.frames
  pub lead : IsWithin LEAST_LEAD MOST_LEAD net.lead
  pub patience : IsWithin 1 MOST_PATIENCE net.patience
  pub journal : IsWithin LEAST_JOURNAL_BYTES MOST_BOOK_BYTES net.journal

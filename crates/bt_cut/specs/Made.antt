-- The demand that draws make on a network: attempts one after the other, each of three draws, of which those are taken that fit.
use Rattle.std.specs.Prelude.{◌≡◌, ◌≢◌, ◌⊎◌, ℕ, zero, suc, ◌+◌, ◌*◌, ◌%◌, ◌≤◌, List, [], ◌∷◌, length}
use Rattle.bt_frame.specs.declared.numbers.BeamNo.{BeamNo}
use Rattle.bt_net.specs.Network.{Net}
use Rattle.bt_net.specs.Terminals.{IsInBeam}
use Rattle.bt_matrix.specs.Traffic.{row_sum, column_sum}
use Rattle.bt_demand.specs.declared.demand.Link.{Link}
use Rattle.bt_demand.specs.Demand.{Gains, IsDemand}
use Rattle.bt_demand.specs.Traffic.{matrix_of}
use Rattle.bt_cut.specs.Generator.{drawn, next}

-- the attempt of the three draws behind this number: a link between two of so many terminals, and the units that it is to
-- gain, 1 to 64
abbrev pub attempt_at : ℕ → ℕ → Link
attempt_at terminals state = record {
  from = record { 0 = drawn (next state) % terminals };
  to = record { 0 = drawn (next (next state)) % terminals };
  units = 1 + drawn (next (next (next state))) % 64;
}

-- so many attempts between so many terminals, the first behind this number
abbrev pub attempts : ℕ → ℕ → ℕ → List Link
attempts terminals zero state = []
attempts terminals (suc count) state = attempt_at terminals state ∷ attempts terminals count (next (next (next state)))

-- the attempt fits: its ends differ, and with its units neither its row nor its column asks for more slots than the frame has
pub record Fits (net : Net) (links : List Link) (attempt : Link) : Type 0 where
  pub differ : attempt.from.0 ≢ attempt.to.0
  pub row : (up : BeamNo) → IsInBeam net attempt.from up → row_sum (matrix_of net links) up.0 + attempt.units ≤ net.slots
  pub column : (down : BeamNo) → IsInBeam net attempt.to down → column_sum (matrix_of net links) down.0 + attempt.units ≤ net.slots

-- the links after an attempt: where it fits, its link has gained its units, and else all is as it was
abbrev pub Tries : Net → List Link → Link → List Link → Type 0
Tries net old attempt new =
    (Fits net old attempt × Gains old new attempt.from attempt.to attempt.units)
    ⊎ ((¬ (Fits net old attempt)) × (new ≡ old))

-- the links after these attempts, one after the other
abbrev pub TriesAll : Net → List Link → List Link → List Link → Type 0
TriesAll net old [] new = new ≡ old
TriesAll net old (attempt ∷ rest) new = (between : List Link) × Tries net old attempt between × TriesAll net between rest new

-- the demand that the generator makes on the network from this number on: 64 attempts for each beam
pub record IsMade (net : Net) (number : ℕ) (links : List Link) : Type 0 where
  pub demand : IsDemand links
  pub made : TriesAll net [] (attempts (length net.terminals) (64 * length net.beams) number) links

-- What the outside tells at the start and at the end of a call, by how it tells it and how it counts its faults.
use Rattle.std.specs.Prelude.{ℕ, List, Option}
use Rattle.bt_report.specs.Input.{Input}
use Rattle.bt_report.specs.Output.{Output}
use Rattle.bt_report.specs.Stored.{Stored}

-- what files tell
abbrev pub input_of : {Files : Type 0} → (Files → List ℕ → Option (List ℕ)) → (Files → ℕ) → Files → Files → Input
input_of tell count given left = record { told = tell given; faults_before = count given; faults_after = count left }

-- what a sink tells
abbrev pub output_of : {Sink : Type 0} → (Sink → Option (List ℕ)) → (Sink → ℕ) → Sink → Sink → Output
output_of tell count given left = record { before = tell given; after = tell left; faults_before = count given; faults_after = count left }

-- what a store tells
abbrev pub stored_of : {Store : Type 0} → (Store → Option (List ℕ)) → (Store → ℕ) → Store → Store → Stored
stored_of tell count given left = record { before = tell given; after = tell left; faults_before = count given; faults_after = count left }

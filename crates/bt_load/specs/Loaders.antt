-- Loads, put together in the order of the work, so that each refusal stands where its step stands.
use Rattle.std.specs.Prelude.{ℕ, ◌⊎◌, List, Option, Some, None}
use Rattle.bt_report.specs.Outcome.{Outcome}
use Rattle.bt_load.specs.Files.{IsLoaded, IsSpelled, IsTold, Kind, StopsAtLoad}

-- A load, by what the files tell: the outcomes with which it stops, where one of the files may have failed; the value that it
-- gives; whether the files that it reads are told; and whether nothing is at fault in them.
pub record Loader (Value : Type 0) : Type 1 where
  pub stops : (List ℕ → Option (List ℕ)) → Type 0 → Outcome → Type 0
  pub gives : (List ℕ → Option (List ℕ)) → Value → Type 0
  pub needs : (List ℕ → Option (List ℕ)) → Type 0
  pub sound : (List ℕ → Option (List ℕ)) → Type 0

-- no file is loaded
abbrev pub nothing : Loader (Unit {0})
nothing = record {
  stops = λ told failed outcome. ⊥;
  gives = λ told value. Unit {0};
  needs = λ told. Unit {0};
  sound = λ told. Unit {0};
}

-- a file of that kind and name is loaded
abbrev pub file : {Value Fault : Type 0} → Kind Value Fault → List ℕ → Loader Value
file kind name = record {
  stops = λ told failed outcome. StopsAtLoad kind told failed name outcome;
  gives = λ told value. IsLoaded kind told name value;
  needs = λ told. IsTold told name;
  sound = λ told. IsSpelled kind told name;
}

-- one load, and then another, which may go by what the first one gives
abbrev pub and_then : {A B : Type 0} → Loader A → (A → Loader B) → Loader (A × B)
and_then {A} {B} first next = record {
  stops = λ told failed outcome. first.stops told failed outcome ⊎ ((value : A) × first.gives told value × (next value).stops told failed outcome);
  gives = λ told both. first.gives told both.0 × (next both.0).gives told both.1;
  needs = λ told. first.needs told × ((value : A) → (next value).needs told);
  sound = λ told. first.sound told × ((value : A) → first.gives told value → (next value).sound told);
}

-- a load whose value is good, or is named as bad
abbrev pub tested : {Value : Type 0} → (Value → Type 0) → (Value → Outcome → Type 0) → Loader Value → Loader Value
tested {Value} good bad load = record {
  stops = λ told failed outcome. load.stops told failed outcome ⊎ ((value : Value) × load.gives told value × bad value outcome);
  gives = λ told value. load.gives told value × good value;
  needs = λ told. load.needs told;
  sound = λ told. load.sound told × ((value : Value) → load.gives told value → good value);
}

-- what a load gives that is made only where this holds
abbrev pub GivesWhere : {Value : Type 0} → Type 0 → (Value → Type 0) → Option Value → Type 0
GivesWhere holds gives None = ¬ holds
GivesWhere holds gives (Some value) = holds × gives value

-- a load that is made only where this holds
abbrev pub only_where : {Value : Type 0} → Type 0 → Loader Value → Loader (Option Value)
only_where holds load = record {
  stops = λ told failed outcome. holds × load.stops told failed outcome;
  gives = λ told value. GivesWhere holds (load.gives told) value;
  needs = λ told. holds → load.needs told;
  sound = λ told. holds → load.sound told;
}

-- the load stops, or the work goes on with the value that it gives
abbrev pub Loads : {Value : Type 0} → Loader Value → (Value → Outcome → Type 0) → (List ℕ → Option (List ℕ)) → Type 0 → Outcome → Type 0
Loads {Value} load after told failed outcome = load.stops told failed outcome ⊎ ((value : Value) × load.gives told value × after value outcome)

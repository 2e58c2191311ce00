-- `trans K MATRIX`: the matrix is loaded, and a schedule that is good for it with so many transponders is printed, where these
-- suit its size.
use Rattle.std.specs.Prelude.{◌≡◌, ◌⊎◌, ℕ, ◌<◌, ◌≤◌, List, [], ◌∷◌, length, codes}
use Rattle.bt_trans.specs.declared.part.TheConstants.{MOST_PART_BEAMS}
use Rattle.bt_trans.specs.declared.part.PartSchedule.{PartSchedule}
use Rattle.bt_trans.specs.Part.{HasFewPartModes, IsGoodPart, IsNamed}
use Rattle.bt_trans.specs.PartText.{part_spelling}
use Rattle.bt_report.specs.declared.status.TheConstants.{DONE, FAULTY_TEXT}
use Rattle.bt_load.specs.Kinds.{matrix_file}
use Rattle.bt_report.specs.Outcome.{Outcome, Says, text_alone}
use Rattle.bt_load.specs.Loaders.{Loader, file, tested}

-- the matrix has as many beams as there are transponders at least, and no more than a schedule is made for
abbrev pub Suits : ℕ → List (List ℕ) → Type 0
Suits transponders rows = (transponders ≤ length rows) × (length rows ≤ MOST_PART_BEAMS)

-- it has too many beams, or too few, and that is said
abbrev pub NamesSize : ℕ → List (List ℕ) → Outcome → Type 0
NamesSize transponders rows outcome = ((MOST_PART_BEAMS < length rows) ⊎ (length rows < transponders)) × Says (codes "fault" ∷ codes "X3" ∷ []) FAULTY_TEXT outcome

-- The text of a schedule that is good for the matrix, with few modes and its heaviest line as the bound where that is as long, and
-- nothing else.
pub record PrintsPart (transponders : ℕ) (rows : List (List ℕ)) (outcome : Outcome) : Type 0 where
  pub schedule : PartSchedule
  pub good : IsGoodPart rows transponders schedule
  pub named : IsNamed rows schedule.length schedule.bound
  pub few_modes : HasFewPartModes rows transponders schedule
  pub printed : outcome ≡ text_alone (part_spelling rows schedule) DONE

-- a matrix is loaded that so many transponders suit
abbrev pub suited_file : ℕ → List ℕ → Loader (List (List ℕ))
suited_file transponders matrix = tested (Suits transponders) (NamesSize transponders) (file matrix_file matrix)

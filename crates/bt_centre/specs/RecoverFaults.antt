-- The line and the status of a recovery that failed, and how they are printed.
use Rattle.std.specs.Prelude.{◌≡◌, ◌≢◌, ◌⊎◌, ℕ, ◌++◌, codes, List, [], ◌∷◌}
use Rattle.bt_history.specs.declared.fault.RecoverFault.{RecoverFault}
use Rattle.bt_history.specs.declared.fault.RecoverFault.TheVariants.{J1, J2, StoreFault, TooLong, OutOfMemory}
use Rattle.bt_words.specs.Lines.{line_of}
use Rattle.bt_report.specs.Faults.{line_fault_words}
use Rattle.bt_report.specs.declared.status.TheConstants.{FAULTY_JOURNAL, OUT_OF_MEMORY, STORE_FAILED, TOO_LONG}
use Rattle.bt_report.specs.Output.{Output, Prints}

-- the words of its line; want of memory has none
abbrev pub recover_words : RecoverFault → List (List ℕ)
recover_words (J1 line) = line_fault_words (codes "J1") line
recover_words (J2 line) = line_fault_words (codes "J2") line
recover_words StoreFault = codes "fault" ∷ codes "store" ∷ []
recover_words TooLong = codes "fault" ∷ codes "too" ∷ codes "long" ∷ codes "store" ∷ []
recover_words OutOfMemory = []

-- its line
abbrev pub recover_line : RecoverFault → List ℕ
recover_line fault = line_of (recover_words fault)

-- its status
abbrev pub recover_status : RecoverFault → ℕ
recover_status (J1 line) = FAULTY_JOURNAL
recover_status (J2 line) = FAULTY_JOURNAL
recover_status StoreFault = STORE_FAILED
recover_status TooLong = TOO_LONG
recover_status OutOfMemory = OUT_OF_MEMORY

-- the line of the fault was written behind this text, and the status is its own; or the sink failed, a first part of both was written,
-- and that is said
abbrev pub PrintsFault : Output → List ℕ → RecoverFault → ℕ → Type 0
PrintsFault output text fault status = Prints output (text ++ recover_line fault) (recover_status fault) status

-- memory ran out, or the line of the fault, which has one, was written behind this text
abbrev pub PrintsNamed : Output → List ℕ → RecoverFault → ℕ → Type 0
PrintsNamed output text fault status = (status ≡ OUT_OF_MEMORY) ⊎ ((fault ≢ OutOfMemory) × PrintsFault output text fault status)

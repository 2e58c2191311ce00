-- `carry NET JOURNAL NEWNET`: the network is loaded, then the bytes of the journal, then the other network; and the journal with the
-- fewest edits of the demand that the bytes tell is printed for that one, where it has a place for each link and fits its frame.
use Rattle.std.specs.Prelude.{◌≡◌, ◌⊎◌, ℕ, List, codes}
use Rattle.bt_net.specs.Network.{Net, IsSound}
use Rattle.bt_export.specs.declared.carry.Carried.{Carried}
use Rattle.bt_export.specs.declared.carry.Carried.TheVariants as carried
use Rattle.bt_export.specs.Carry.{TellsCarried}
use Rattle.bt_look.specs.Compact.{compact_lines}
use Rattle.bt_report.specs.declared.status.TheConstants.{DONE, FAULTY_TEXT}
use Rattle.bt_report.specs.Faults.{line_fault_words}
use Rattle.bt_report.specs.Outcome.{Outcome, Says, text_alone}
use Rattle.bt_load.specs.Kinds.{network_file}
use Rattle.bt_load.specs.Loaders.{Loader, and_then, file}
use Rattle.bt_cli.specs.Fitting.{Fits, NamesOverload}
use Rattle.bt_cli.specs.Looks.{Looks, journal_files}

-- the network and the bytes of the journal are loaded, and then the other network
abbrev pub carry_files : List ℕ → List ℕ → List ℕ → Loader ((Net × List ℕ) × Net)
carry_files net journal new = and_then (journal_files net journal) (λ both. file network_file new)

-- what is printed of what the demand comes to on the other network: its journal, where it fits the frame, and else its heaviest
-- line; or its first link that has no place there
abbrev pub PrintsCarried : Net → Carried → Outcome → Type 0
PrintsCarried new (carried.Demand links) outcome = (Fits new links × (outcome ≡ text_alone (compact_lines new links) DONE)) ⊎ NamesOverload new links outcome
PrintsCarried new (carried.Gone number) outcome = Says (line_fault_words (codes "T2") number) FAULTY_TEXT outcome

-- the demand that the bytes tell comes to this, and it is printed
abbrev pub TellsCarry : Net → List ℕ → Net → Outcome → Type 0
TellsCarry net bytes new outcome = (carried : Carried) × TellsCarried net bytes new carried × PrintsCarried new carried outcome

-- the journal of the demand on the other network, which is sound, or why there is none
pub record PrintsCarry (net : Net) (bytes : List ℕ) (new : Net) (outcome : Outcome) : Type 0 where
  pub sound : IsSound new
  pub looks : Looks (TellsCarry net bytes new) net bytes outcome

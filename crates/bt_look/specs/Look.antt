-- What is told of a journal's bytes: the demand of an edition, or the journal with the fewest edits that comes to the last; or why
-- they tell no changes.
use Rattle.std.specs.Prelude.{◌≡◌, ◌<◌, ℕ, List, length, Option, Some, None, IsSomeAnd}
use Rattle.bt_frame.specs.declared.limits.TheConstants.{MOST_JOURNAL_BYTES}
use Rattle.bt_frame.specs.declared.numbers.EditionNo.{EditionNo}
use Rattle.bt_net.specs.Network.{Net}
use Rattle.bt_demand.specs.declared.demand.Link.{Link}
use Rattle.bt_journal.specs.declared.call.Change.{Change}
use Rattle.bt_history.specs.declared.fault.RecoverFault.{RecoverFault}
use Rattle.bt_history.specs.declared.fault.RecoverFault.TheVariants.{J1, J2, StoreFault, TooLong, OutOfMemory}
use Rattle.bt_history.specs.Changes.{edition, IsDemandAfter, IsDemandAt}
use Rattle.bt_history.specs.Recovery.{IsFirstNoLine, IsFirstStray, Recovered}
use Rattle.bt_timeline.specs.Replayed.{link_lines}
use Rattle.bt_look.specs.Compact.{compact_lines}

-- why bytes tell no changes; want of memory is no matter of theirs
abbrev pub IsLookFault : Net → List ℕ → RecoverFault → Type 0
IsLookFault net bytes (J1 number) = IsFirstNoLine net bytes number
IsLookFault net bytes (J2 number) = IsFirstStray net bytes number
IsLookFault net bytes StoreFault = ⊥
IsLookFault net bytes TooLong = MOST_JOURNAL_BYTES < length bytes
IsLookFault net bytes OutOfMemory = Unit {0}

-- the links are the demand of the edition that is asked for, of the last where none is
abbrev pub IsDemandOf : List Change → Option EditionNo → List Link → Type 0
IsDemandOf changes None links = IsDemandAfter changes links
IsDemandOf changes (Some number) links = IsDemandAt changes number.0 links

-- the text is the links of that demand, a line each
pub record IsLinksText (net : Net) (changes : List Change) (asked : Option EditionNo) (text : List ℕ) : Type 0 where
  pub links : List Link
  pub demand : IsDemandOf changes asked links
  pub spelled : text ≡ link_lines net links

-- the same, or no text exactly where there is no such edition
abbrev pub IsDemandText : Net → List Change → Option EditionNo → Option (List ℕ) → Type 0
IsDemandText net changes asked (Some text) = IsLinksText net changes asked text
IsDemandText net changes asked None = IsSomeAnd asked (λ number. edition changes < number.0)

-- the same of the changes that the bytes tell
pub record TellsDemand (net : Net) (bytes : List ℕ) (asked : Option EditionNo) (text : Option (List ℕ)) : Type 0 where
  pub changes : List Change
  pub told : Recovered net bytes changes
  pub tells : IsDemandText net changes asked text

-- the journal with the fewest edits of the demand that the bytes tell
pub record TellsCompact (net : Net) (bytes text : List ℕ) : Type 0 where
  pub changes : List Change
  pub told : Recovered net bytes changes
  pub links : List Link
  pub demand : IsDemandAfter changes links
  pub spelled : text ≡ compact_lines net links

-- What a journal tells: the changes of its lines, or the first line that is of no change and no mark, or whose change or mark does
-- not follow; and what a recovery appends to it.
use Rattle.std.specs.Prelude.{◌≡◌, ◌≢◌, ◌⊎◌, ℕ, ◌+◌, ◌-◌, ◌≤◌, ◌&&◌, not, nat_le, if◌then◌else◌, Bool, true, List, [], ◌∷◌, ◌++◌, length, take, slice_index_or, Option, IfSome, option_map}
use Rattle.std.specs.List.{list_any}
use Rattle.bt_frame.specs.declared.limits.TheConstants.{MOST_JOURNAL_BYTES}
use Rattle.bt_outside.specs.Told.{IsLonger, Rose}
use Rattle.bt_text.specs.Text.{is_word, lines, lacks}
use Rattle.bt_net.specs.Network.{Net}
use Rattle.bt_journal.specs.declared.call.Change.{Change}
use Rattle.bt_journal.specs.declared.call.Change.TheVariants as change
use Rattle.bt_journal.specs.JournalLines.{IsChangeInRange, change_line, edits_in}
use Rattle.bt_journal.specs.Kept.{Keeps, changes_in, lines_said, marks_in}
use Rattle.bt_journal.specs.Mark.{IsMarkOf, mark_line, mark_of, text_of_mark}
use Rattle.bt_history.specs.declared.fault.RecoverFault.{RecoverFault}
use Rattle.bt_history.specs.declared.fault.RecoverFault.TheVariants.{J1, J2, StoreFault, TooLong, OutOfMemory}
use Rattle.bt_history.specs.Causes.{Follows, IsGood}
use Rattle.bt_history.specs.Changes.{edition}

-- what stands behind the last newline
abbrev pub tail_of : List ℕ → List ℕ
tail_of bytes = slice_index_or (lines bytes) (length (lines bytes) - 1) []

-- the bytes up to the last newline
abbrev pub whole : List ℕ → List ℕ
whole bytes = take (length bytes - length (tail_of bytes)) bytes

-- a line can spell each of these changes, where so many edits were made before them
abbrev pub AreInRange : Net → ℕ → List Change → Type 0
AreInRange net edits [] = Unit {0}
AreInRange net edits (first ∷ changes) = IsChangeInRange net (edits + edits_in first) first × AreInRange net (edits + edits_in first) changes

-- up to the last newline the bytes are the lines of these changes, which follow one another, and maybe the mark among them
pub record Recovered (net : Net) (bytes : List ℕ) (changes : List Change) : Type 0 where
  pub lines : Keeps net (whole bytes) changes
  pub ranges : AreInRange net 0 changes
  pub follow : Follows net changes

-- the line, its newline included, is of no change, whichever edition it makes
abbrev pub IsNoChange : Net → List ℕ → Type 0
IsNoChange net line = (number : ℕ) → (one : Change) → IsChangeInRange net number one → line ≢ change_line net number one

-- the line, its newline included, is no mark, whichever numbers it says
abbrev pub IsNoMark : List ℕ → Type 0
IsNoMark line = (beams terminals : ℕ) → IsMarkOf beams terminals → line ≢ mark_line beams terminals

-- the line, its newline included, is of no change, and no mark
abbrev pub IsNoLine : Net → List ℕ → Type 0
IsNoLine net line = IsNoChange net line × IsNoMark line

-- the number is the edition that the change makes after those before it, where it is an edit
abbrev pub IsNumbered : List Change → ℕ → Change → Type 0
IsNumbered before number (change.Edit _) = number ≡ edition before + 1
IsNumbered before number _ = Unit {0}

-- the change follows those before it: an edit makes the edition of that number, and no change has a cause of a refusal
abbrev pub IsNext : Net → List Change → ℕ → Change → Type 0
IsNext net before number one = IsNumbered before number one × IsGood net before one

-- the line, its newline included, is of a change that does not follow those before it
pub record IsStrayChange (net : Net) (before : List Change) (line : List ℕ) : Type 0 where
  pub number : ℕ
  pub one : Change
  pub range : IsChangeInRange net number one
  pub spelled : line ≡ change_line net number one
  pub strays : ¬ (IsNext net before number one)

-- the line, its newline included, is a mark that does not say the network's numbers
pub record IsOtherMark (net : Net) (line : List ℕ) : Type 0 where
  pub beams : ℕ
  pub terminals : ℕ
  pub range : IsMarkOf beams terminals
  pub spelled : line ≡ mark_line beams terminals
  pub other : ¬ ((beams ≡ length net.beams) × (terminals ≡ length net.terminals))

-- the line, its newline included, is the mark of the network once more, behind so many
abbrev pub IsMarkAgain : Net → ℕ → List ℕ → Type 0
IsMarkAgain net marks line = (1 ≤ marks) × (line ≡ mark_of net)

-- behind these changes and so many marks the line does not follow: its change does not, or its mark is of other numbers or one
-- too many
abbrev pub IsStrayBehind : Net → List Change → ℕ → List ℕ → Type 0
IsStrayBehind net changes marks line = IsStrayChange net changes line ⊎ IsOtherMark net line ⊎ IsMarkAgain net marks line

-- the same behind lines that say this
abbrev pub IsStray : Net → List (Option Change) → List ℕ → Type 0
IsStray net before line = IsStrayBehind net (changes_in before) (marks_in before) line

-- Behind the lines of changes that follow one another, with one mark among them at most, stands a line of which this holds.
-- Lines are counted from 1, and the mark is one of them.
pub record IsFirst (net : Net) (bytes : List ℕ) (number : ℕ) (IsWrong : List (Option Change) → List ℕ → Type 0) : Type 0 where
  pub before : List (Option Change)
  pub ranges : AreInRange net 0 (changes_in before)
  pub follow : Follows net (changes_in before)
  pub one_mark : marks_in before ≤ 1
  pub line : List ℕ
  pub rest : List ℕ
  pub there : bytes ≡ lines_said net 0 before ++ (line ++ 10 ∷ rest)
  pub ends : lacks 10 line ≡ true
  pub counted : number ≡ length before + 1
  pub wrong : IsWrong before (line ++ 10 ∷ [])

-- the first line that is not of a change that follows, nor the mark in its place, is of no change and no mark
abbrev pub IsFirstNoLine : Net → List ℕ → ℕ → Type 0
IsFirstNoLine net bytes number = IsFirst net bytes number (λ _ line. IsNoLine net line)

-- the first line that is not of a change that follows, nor the mark in its place, is of a change or a mark that does not follow
abbrev pub IsFirstStray : Net → List ℕ → ℕ → Type 0
IsFirstStray net bytes number = IsFirst net bytes number (IsStray net)

-- some line of the bytes is the mark of the network
abbrev pub has_mark : Net → List ℕ → Bool
has_mark net bytes = list_any (is_word (text_of_mark net)) (lines bytes)

-- the mark of the network where it does not stand yet, and where the bytes, so many, are with it no more than are read; else
-- nothing
abbrev pub mark_where : Net → Bool → ℕ → List ℕ
mark_where net stands size = if not stands && nat_le (size + length (mark_of net)) MOST_JOURNAL_BYTES then mark_of net else []

-- what a recovery appends to the bytes up to the last newline
abbrev pub mark_owed : Net → List ℕ → List ℕ
mark_owed net bytes = mark_where net (has_mark net (whole bytes)) (length (whole bytes))

-- the bytes as a recovery leaves them: those up to the last newline, and behind them the mark where it is owed
abbrev pub marked : Net → List ℕ → List ℕ
marked net bytes = whole bytes ++ mark_owed net bytes

-- the same with a first part of the mark, of so many bytes
abbrev pub marked_in_part : Net → ℕ → List ℕ → List ℕ
marked_in_part net kept bytes = whole bytes ++ take kept (mark_owed net bytes)

-- the bytes, where they are told, tell changes: each line is right
abbrev pub TellsSome : Net → Option (List ℕ) → Type 0
TellsSome net told = IfSome told (λ bytes. (changes : List Change) × Recovered net bytes changes)

-- as before, or with what stands behind the last newline cut
abbrev pub MaybeCut : Option (List ℕ) → Option (List ℕ) → Type 0
MaybeCut old new = (new ≡ old) ⊎ (new ≡ option_map whole old)

-- as before, or, where each line is right, with what stands behind the last newline cut
abbrev pub MaybeTrimmed : Net → Option (List ℕ) → Option (List ℕ) → Type 0
MaybeTrimmed net old new = (new ≡ old) ⊎ ((new ≡ option_map whole old) × TellsSome net old)

-- as before, or, where each line is right, with what stands behind the last newline cut, and then maybe a first part of the mark appended
abbrev pub MaybeMarked : Net → Option (List ℕ) → Option (List ℕ) → Type 0
MaybeMarked net old new = (new ≡ old) ⊎ (((kept : ℕ) × (new ≡ option_map (marked_in_part net kept) old)) × TellsSome net old)

-- What a recovery leaves where memory ran out over it or behind it: as before, or, where each line is right, with what stands behind
-- the last newline cut, or with the mark behind that where it is owed. A first part of the mark stands there only where the store
-- failed between these counts.
abbrev pub MaybeRecovered : Net → Option (List ℕ) → Option (List ℕ) → ℕ → ℕ → Type 0
MaybeRecovered net old new before now = MaybeTrimmed net old new ⊎ ((new ≡ option_map (marked net) old) × TellsSome net old) ⊎ (MaybeMarked net old new × Rose before now)

-- no more bytes are told than are read from a store
abbrev pub IsReadable : Option (List ℕ) → Type 0
IsReadable told = IfSome told (λ bytes. length bytes ≤ MOST_JOURNAL_BYTES)

-- what a recovery that failed says of the bytes told before it, and what is told after it, with the counts of faults
abbrev pub IsRecoverFault : Net → Option (List ℕ) → Option (List ℕ) → ℕ → ℕ → RecoverFault → Type 0
IsRecoverFault net old new before now (J1 number) = (new ≡ old) × IsReadable old × IfSome old (λ bytes. IsFirstNoLine net bytes number)
IsRecoverFault net old new before now (J2 number) = (new ≡ old) × IsReadable old × IfSome old (λ bytes. IsFirstStray net bytes number)
IsRecoverFault net old new before now StoreFault = MaybeMarked net old new × Rose before now
IsRecoverFault net old new before now TooLong = (new ≡ old) × IsLonger old MOST_JOURNAL_BYTES
IsRecoverFault net old new before now OutOfMemory = MaybeTrimmed net old new

-- the fault says nothing of the lines: the store failed or holds too much, or memory ran out
abbrev pub IsOutside : RecoverFault → Type 0
IsOutside (J1 _) = ⊥
IsOutside (J2 _) = ⊥
IsOutside StoreFault = Unit {0}
IsOutside TooLong = Unit {0}
IsOutside OutOfMemory = Unit {0}

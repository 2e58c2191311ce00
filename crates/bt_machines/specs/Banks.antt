-- The two banks of a terminal: which editions they hold and for which Loads, which are in use, and where bursts are stored.
use Rattle.std.specs.Prelude.{ℕ, ◌+◌, ◌==◌, ◌&&◌, ◌||◌, nat_le, nat_lt, not, if◌then◌else◌, Bool, true, false, List, [], Option, Some, None}
use Rattle.bt_frame.specs.declared.numbers.Command.{Command}
use Rattle.bt_frame.specs.declared.numbers.EditionNo.{EditionNo}
use Rattle.bt_frame.specs.declared.numbers.Mark.{Mark}
use Rattle.bt_demand.specs.declared.burst.Burst.{Burst}
use Rattle.bt_air.specs.declared.order.Armed.{Armed}
use Rattle.bt_air.specs.Editions.{names}
use Rattle.bt_machines.specs.declared.burst_bank.Bank.{Bank}
use Rattle.bt_machines.specs.declared.burst_bank.Holding.{Holding}
use Rattle.bt_machines.specs.declared.banks.Banks.{Banks}
use Rattle.bt_machines.specs.declared.reference.Reference.{Reference}

-- both banks are empty
abbrev pub no_banks : Banks
no_banks = record { first = None; second = None }

-- a bank is empty
abbrev pub is_empty : Option Bank → Bool
is_empty None = true
is_empty (Some _) = false

-- a bank is of this edition
abbrev pub is_of : Option Bank → EditionNo → Bool
is_of None edition = false
is_of (Some bank) edition = bank.holding.edition.0 == edition.0

-- one of the banks is empty
abbrev pub have_room : Banks → Bool
have_room banks = is_empty banks.first || is_empty banks.second

-- one of the banks is of this edition
abbrev pub hold : Banks → EditionNo → Bool
hold banks edition = is_of banks.first edition || is_of banks.second edition

-- the order of what is held: by the Load, and under one Load by the edition
abbrev pub is_less : Holding → Holding → Bool
is_less a b = nat_lt a.load.0 b.load.0 || (a.load.0 == b.load.0 && nat_lt a.edition.0 b.edition.0)

-- what is held, for this Load
abbrev pub for_load : Holding → Command → Holding
for_load one load = record { load = load; edition = one.edition }

-- what is held, with the greater of its Load and this one
abbrev pub raised : Holding → Command → Holding
raised one load = if nat_lt one.load.0 load.0 then for_load one load else one

-- the reference burst is of this superframe or of the one before
abbrev pub is_recent : Mark → ℕ → Bool
is_recent superframe now = superframe.0 == now || superframe.0 + 1 == now

-- a change to this edition is announced that is not past
abbrev pub announces : Option Armed → ℕ → EditionNo → Bool
announces None now edition = false
announces (Some armed) now edition = armed.edition.0 == edition.0 && nat_le now armed.due.0

-- An edition is in use where the last reference burst names it, of this superframe or of the one before, or announces
-- it for this superframe or a later one.
abbrev pub is_in_use : Option Reference → ℕ → EditionNo → Bool
is_in_use None now edition = false
is_in_use (Some heard) now edition = (is_recent heard.superframe now && names heard.in_force edition) || announces heard.next now edition

-- of two that are held, the second gives way: it is not in use, and the first is, or the second is less
abbrev pub second_gives : Option Reference → ℕ → Holding → Holding → Bool
second_gives heard now a b = not (is_in_use heard now b.edition) && (is_in_use heard now a.edition || is_less b a)

-- What is stored goes into the second bank: the first is not empty, and the second is empty or gives way.
abbrev pub goes_second : Option Reference → ℕ → Option Bank → Option Bank → Bool
goes_second heard now None second = false
goes_second heard now (Some first) None = true
goes_second heard now (Some first) (Some second) = second_gives heard now first.holding second.holding

-- the bank in whose place it goes: an empty one, else the least that is not in use, where there is one
abbrev pub next_bank : Option Reference → ℕ → Banks → Option Bank
next_bank heard now banks = if goes_second heard now banks.first banks.second then banks.second else banks.first

-- the banks with these bursts in that place
abbrev pub with_stored : Option Reference → ℕ → Banks → Bank → Banks
with_stored heard now banks bank =
    if goes_second heard now banks.first banks.second then record banks { second = Some bank } else record banks { first = Some bank }

-- a bank, with the greater of its Load and this one
abbrev pub bank_raised : Option Bank → Command → Option Bank
bank_raised None load = None
bank_raised (Some bank) load = Some (record { holding = raised bank.holding load; bursts = bank.bursts })

-- the banks, with the bank of this edition raised to this Load
abbrev pub with_raised : Banks → EditionNo → Command → Banks
with_raised banks edition load =
    if is_of banks.first edition then record banks { first = bank_raised banks.first load } else record banks { second = bank_raised banks.second load }

-- the bank of an edition, if there is one
abbrev pub bank_of : Banks → EditionNo → Option Bank
bank_of banks edition = if is_of banks.first edition then banks.first else (if is_of banks.second edition then banks.second else None)

-- the bursts of a bank
abbrev pub bursts_of_bank : Option Bank → List Burst
bursts_of_bank None = []
bursts_of_bank (Some bank) = bank.bursts

-- the Load for which the bursts of a bank came
abbrev pub load_of_bank : Option Bank → Option Command
load_of_bank None = None
load_of_bank (Some bank) = Some bank.holding.load

-- a bank is of an edition that is in use
abbrev pub is_used : Option Reference → ℕ → Option Bank → Bool
is_used heard now None = false
is_used heard now (Some bank) = is_in_use heard now bank.holding.edition

-- both banks are in use
abbrev pub are_used : Option Reference → ℕ → Banks → Bool
are_used heard now banks = is_used heard now banks.first && is_used heard now banks.second

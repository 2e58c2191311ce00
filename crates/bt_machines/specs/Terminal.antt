-- The terminal: its state, its table, and what it transmits.
use Rattle.std.specs.Prelude.{ℕ, ◌==◌, not, if◌then◌else◌, Bool, false, List, [], Option, Some, None}
use Rattle.bt_frame.specs.declared.numbers.Command.{Command}
use Rattle.bt_frame.specs.declared.numbers.EditionNo.{EditionNo}
use Rattle.bt_frame.specs.declared.numbers.Mark.{Mark}
use Rattle.bt_frame.specs.declared.numbers.TermNo.{TermNo}
use Rattle.bt_demand.specs.declared.burst.Burst.{Burst}
use Rattle.bt_air.specs.declared.message.Message.{Message}
use Rattle.bt_air.specs.declared.message.Message.TheVariants as message
use Rattle.bt_air.specs.declared.order.Armed.{Armed}
use Rattle.bt_air.specs.declared.sent.Heard.{Heard}
use Rattle.bt_air.specs.declared.sent.Heard.TheVariants.{Took, WrongMark, Held, Stored, Older, InUse, NotForMe}
use Rattle.bt_machines.specs.declared.burst_bank.Bank.{Bank}
use Rattle.bt_machines.specs.declared.burst_bank.Holding.{Holding}
use Rattle.bt_machines.specs.declared.banks.Banks.{Banks}
use Rattle.bt_machines.specs.declared.reference.Reference.{Reference}
use Rattle.bt_machines.specs.Banks.{no_banks, is_less, have_room, hold, are_used, next_bank, with_raised, with_stored, bank_of, bursts_of_bank, load_of_bank}

-- the number of the terminal, its two banks of bursts, and the reference burst that it took last
pub record State : Type 0 where
  pub number : TermNo
  pub banks : Banks
  pub heard : Option Reference

-- the terminal before its first message, and after a restart
abbrev pub new_of : TermNo → State
new_of number = record { number = number; banks = no_banks; heard = None }

-- the edition named in a superframe: what the reference burst of this very superframe names
abbrev pub in_force : Option Reference → Mark → Option EditionNo
in_force None mark = None
in_force (Some reference) mark = if reference.superframe.0 == mark.0 then reference.in_force else None

-- the reference burst is of another superframe
abbrev pub is_wrong : Mark → Mark → Bool
is_wrong superframe mark = not (superframe.0 == mark.0)

-- the bursts are for another terminal
abbrev pub is_for_another : State → TermNo → Bool
is_for_another s to = not (to.0 == s.number.0)

-- what came is less than what the bank holds
abbrev pub is_before : Holding → Option Bank → Bool
is_before holding None = false
is_before holding (Some bank) = is_less holding bank.holding

-- with this reference burst taken
abbrev pub having_heard : State → Mark → Option EditionNo → Option Armed → State
having_heard s superframe edition next = record s { heard = Some (record { superframe = superframe; in_force = edition; next = next }) }

-- with these bursts stored, in this superframe
abbrev pub storing : State → ℕ → Holding → List Burst → State
storing s now holding bursts = record s { banks = with_stored s.heard now s.banks (record { holding = holding; bursts = bursts }) }

-- with the bank of this edition raised to this Load
abbrev pub raising : State → EditionNo → Command → State
raising s edition load = record s { banks = with_raised s.banks edition load }

-- The table: the answer to a message in a superframe, and the state after it.
abbrev pub step_of : State → Mark → Message → Heard × State
step_of s mark (message.Reference superframe edition next) =
    if is_wrong superframe mark then (WrongMark, s)
    else (Took, having_heard s superframe edition next)
step_of s mark (message.PlanFor to load edition bursts) =
    if is_for_another s to then (NotForMe, s)
    else (if hold s.banks edition then (Held, raising s edition load)
    else (if have_room s.banks then (Stored, storing s mark.0 (record { load = load; edition = edition }) bursts)
    else (if are_used s.heard mark.0 s.banks then (InUse, s)
    else (if is_before (record { load = load; edition = edition }) (next_bank s.heard mark.0 s.banks) then (Older, s)
    else (Stored, storing s mark.0 (record { load = load; edition = edition }) bursts)))))
step_of s mark _ = (NotForMe, s)

-- the state once an answer is carried out
abbrev pub carried_out : State → Mark → Heard → Message → State
carried_out s mark Took (message.Reference superframe edition next) = having_heard s superframe edition next
carried_out s mark Held (message.PlanFor to load edition bursts) = raising s edition load
carried_out s mark Stored (message.PlanFor to load edition bursts) = storing s mark.0 (record { load = load; edition = edition }) bursts
carried_out s mark _ _ = s

-- the bursts that the banks hold of the edition that is named
abbrev pub bursts_named : Banks → Option EditionNo → List Burst
bursts_named banks None = []
bursts_named banks (Some edition) = bursts_of_bank (bank_of banks edition)

-- the bursts that the terminal transmits in a superframe: those that it holds of the edition named
abbrev pub transmitted : State → Mark → List Burst
transmitted s mark = bursts_named s.banks (in_force s.heard mark)

-- the Load for which the bursts of an edition came that the terminal holds
abbrev pub load_of : State → EditionNo → Option Command
load_of s edition = load_of_bank (bank_of s.banks edition)

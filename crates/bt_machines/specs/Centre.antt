-- The centre: its state, and what each thing that happens to it does.
use Rattle.std.specs.Prelude.{◌≡◌, ℕ, ◌+◌, ◌≤◌, ◌&&◌, not, if◌then◌else◌, Bool, List, [], ◌∷◌, length, Option, Some, None, IfSome}
use Rattle.std.specs.List.{range_with_len, list_any}
use Rattle.bt_frame.specs.declared.limits.TheConstants.{LAST_COMMAND, MOST_TERMINALS}
use Rattle.bt_frame.specs.declared.numbers.EditionNo.{EditionNo}
use Rattle.bt_frame.specs.declared.numbers.Command.{Command}
use Rattle.bt_frame.specs.declared.numbers.Mark.{Mark}
use Rattle.bt_frame.specs.declared.numbers.TermNo.{TermNo}
use Rattle.bt_frame.specs.declared.numbers.TermSet.{TermSet}
use Rattle.bt_air.specs.declared.order.Order.{Order}
use Rattle.bt_air.specs.declared.order.Status.{Status}
use Rattle.bt_air.specs.declared.sent.Act.{Act}
use Rattle.bt_air.specs.Editions.{names}
use Rattle.bt_air.specs.Orders.{command_of}
use Rattle.bt_machines.specs.Terminals.{no_terminal, has, with_terminal, without_terminal}
use Rattle.bt_machines.specs.Last.{last_order, is_load_numbered, is_load}
use Rattle.bt_machines.specs.Known.{known, later_of}
use Rattle.bt_machines.specs.declared.turn.Turn.{Turn}
use Rattle.bt_machines.specs.Turn.{act_of, waited_with, wanted_by}

-- the orders placed, with the latest first; the status kept; the terminals that have confirmed, that ask for their
-- bursts, and that transmit in the edition of the last order; the turns waited; and the order that is wanted
pub record State : Type 0 where
  pub orders : List Order
  pub kept : Option Status
  pub confirmed : TermSet
  pub asking : TermSet
  pub needs : TermSet
  pub waited : ℕ
  pub wanted : Option Order

-- a centre that begins with these orders
abbrev pub begins_with : List Order → TermSet → State
begins_with orders needs = record { orders = orders; kept = None; confirmed = no_terminal; asking = no_terminal; needs = needs; waited = 0; wanted = None }

-- the edition that the centre knows in a superframe, if it knows one
abbrev pub known_to : State → ℕ → Option EditionNo
known_to s mark = known s.kept s.orders mark

-- with a status noted
abbrev pub having_noted : State → Status → State
having_noted s status = record s { kept = Some (later_of s.kept status) }

-- with what a terminal holds noted: it has confirmed where that came for the last order, a Load, and it asks no more where
-- that is of the edition known
abbrev pub having_confirmed : State → ℕ → TermNo → Command → EditionNo → State
having_confirmed s mark terminal load edition = record s {
  confirmed = if is_load_numbered (last_order s.orders) load then with_terminal s.confirmed terminal else s.confirmed;
  asking = if names (known_to s mark) edition then without_terminal s.asking terminal else s.asking;
}

-- with the restart of a terminal noted
abbrev pub having_lost : State → TermNo → State
having_lost s terminal = record s { confirmed = without_terminal s.confirmed terminal; asking = with_terminal s.asking terminal }

-- the terminal has still to confirm: the last order is a Load in whose edition it transmits
abbrev pub is_missing : State → TermNo → Bool
is_missing s terminal = is_load (last_order s.orders) && (has s.needs terminal && not (has s.confirmed terminal))

-- some terminal has still to confirm
abbrev pub some_missing : State → Bool
some_missing s = list_any (λ number. is_missing s (record { 0 = number })) (range_with_len 0 MOST_TERMINALS)

-- the turns waited, with the present one
abbrev pub waited_now : State → ℕ
waited_now s = waited_with s.waited s.wanted s.kept (last_order s.orders)

-- what the present turn goes by
abbrev pub turn_at : State → (mark : Mark) → (target : EditionNo) → (lead patience : ℕ) → Turn
turn_at s mark target lead patience = record {
  mark = mark;
  target = target;
  lead = lead;
  patience = patience;
  waited = waited_now s;
  some_missing = some_missing s;
  in_force = known_to s mark.0;
}

-- what the centre does in its turn
abbrev pub act_at : State → (mark : Mark) → (target : EditionNo) → (lead patience : ℕ) → Act
act_at s mark target lead patience = act_of (turn_at s mark target lead patience) s.wanted s.kept (last_order s.orders)

-- the state after its turn
abbrev pub after_turn : State → (mark : Mark) → (target : EditionNo) → (lead patience : ℕ) → State
after_turn s mark target lead patience = record s { waited = waited_now s; wanted = wanted_by (act_at s mark target lead patience) }

-- with the order that is wanted placed, in whose edition these terminals transmit
abbrev pub having_placed : State → Order → TermSet → State
having_placed s order needs = record s { orders = order ∷ s.orders; confirmed = no_terminal; needs = needs; waited = 0; wanted = None }

-- orders are numbered from 1 on
abbrev pub AreNumbered : List Order → Type 0
AreNumbered [] = Unit {0}
AreNumbered (order ∷ earlier) = ((command_of order).0 ≡ length earlier + 1) × AreNumbered earlier

-- the order has the number after those of these, which a command can have
pub record IsNext (orders : List Order) (order : Order) : Type 0 where
  pub number : (command_of order).0 ≡ length orders + 1
  pub in_range : (command_of order).0 ≤ LAST_COMMAND

-- what holds of every centre: its orders are numbered, and the one that is wanted has the next number
pub record IsCentre (s : State) : Type 0 where
  pub numbered : AreNumbered s.orders
  pub few : length s.orders ≤ LAST_COMMAND
  pub next : IfSome s.wanted (IsNext s.orders)

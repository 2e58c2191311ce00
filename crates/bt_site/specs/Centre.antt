-- The centre of a world: its state.
use Rattle.std.specs.Prelude.{◌≡◌, ℕ, true, false, List, [], ◌∷◌, Option}
use Rattle.bt_frame.specs.declared.numbers.EditionNo.{EditionNo}
use Rattle.bt_frame.specs.declared.numbers.TermNo.{TermNo}
use Rattle.bt_air.specs.declared.sent.Place.{Place}
use Rattle.bt_air.specs.declared.sent.Place.TheVariants.{Centre}
use Rattle.bt_air.specs.declared.sent.Aired.{Aired}
use Rattle.bt_machines.specs.Centre.{State, act_at, after_turn, is_missing as is_missing_to}
use Rattle.bt_machines.specs.Terminals.{has}
use Rattle.bt_site.specs.Event.{Opening, Happening, Turns, Orders, Hears, Restarts}
use Rattle.bt_site.specs.World.{mark, plans, wanted, orders, kept, is_confirmed, is_asking, is_missing, terminals, act}
use Rattle.bt_machines.specs.CentreSteps.{with_wanted, once_placed, once_heard, beginning}
use Rattle.bt_net.specs.Terminals.{IsTerminal}

-- the state once a message is delivered somewhere
abbrev pub once_delivered : State → ℕ → Option Aired → Place → State
once_delivered s now sent Centre = once_heard s now sent
once_delivered s now sent _ = s

-- the state of the centre of a world
abbrev pub centre : Opening → List Happening → State
centre o [] = beginning (terminals o) o.plans o.orders
centre o (Turns target act ∷ past) = after_turn (centre o past) (record { 0 = mark o past }) target o.net.lead o.net.patience
centre o (Orders ∷ past) = once_placed (centre o past) (terminals o) (plans o past) (centre o past).wanted
centre o (Hears sent place ∷ past) = once_delivered (centre o past) (mark o past) sent place
centre o (Restarts true ∷ past) = beginning (terminals o) (plans o past) (with_wanted (centre o past).wanted (centre o past).orders)
centre o (Restarts false ∷ past) = beginning (terminals o) (plans o past) (centre o past).orders
centre o (_ ∷ past) = centre o past

-- the centre is what the events say, and does in a turn what they say
pub record IsCentreSaid (o : Opening) (past : List Happening) (s : State) : Type 0 where
  pub orders : s.orders ≡ orders o past
  pub kept : s.kept ≡ kept past
  pub wanted : s.wanted ≡ wanted past
  pub confirmed : (terminal : TermNo) → IsTerminal o.net terminal → has s.confirmed terminal ≡ is_confirmed o past terminal
  pub asking : (terminal : TermNo) → IsTerminal o.net terminal → has s.asking terminal ≡ is_asking o past terminal
  pub missing : (terminal : TermNo) → IsTerminal o.net terminal → is_missing_to s terminal ≡ is_missing o past terminal
  pub acts : (target : EditionNo) → act_at s (record { 0 = mark o past }) target o.net.lead o.net.patience ≡ act o past target

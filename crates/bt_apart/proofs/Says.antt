-- Each message that the centre says has a line and a spelling.
use Rattle.std.proofs.Common.{ℕ, ◌+◌, ◌≤◌, Bool, true, false, List, [], ◌∷◌, ◌++◌, filter, get_or, length, All, Option, Some, None, IfSome, arith}
use Rattle.std.specs.List.{range_with_len}
use Rattle.std.proofs.lemmas.List.Elements.{All-nil, All-cons, All-append, All-head, All-map, All-filter}
use Rattle.std.proofs.lemmas.List.FromFn.{length-range_with_len, get_or-range_with_len}
use Rattle.bt_frame.specs.declared.numbers.Command.{Command}
use Rattle.bt_frame.specs.declared.numbers.EditionNo.{EditionNo}
use Rattle.bt_frame.specs.declared.numbers.Mark.{Mark}
use Rattle.bt_frame.specs.declared.numbers.TermNo.{TermNo}
use Rattle.bt_net.specs.Network.{Net}
use Rattle.bt_net.specs.Terminals.{IsTerminal}
use Rattle.bt_demand.specs.declared.plan.Plan.{Plan}
use Rattle.bt_air.specs.declared.order.Order.{Order}
use Rattle.bt_air.specs.declared.order.Order.TheVariants.{Load, Arm}
use Rattle.bt_air.specs.declared.sent.Act.{Act}
use Rattle.bt_air.specs.declared.sent.Act.TheVariants.{Quiet, RepeatLoad, RepeatArm, Want}
use Rattle.bt_air.specs.declared.sent.Aired.{Aired}
use Rattle.bt_air.specs.declared.sent.Aired.TheVariants as sends
use Rattle.bt_air.specs.Range.{AreBurstsOf, AreModes, IsCommand, IsDue, IsMark, IsWord}
use Rattle.bt_machines.specs.Centre.{State as Centre, act_at, is_missing, known_to, turn_at}
use Rattle.bt_machines.specs.CentreSteps.{with_wanted}
use Rattle.bt_machines.specs.Last.{last_order, load_of, next_of}
use Rattle.bt_machines.specs.Plans.{IsStored, bursts_for, has_burst, modes_of, plan_of}
use Rattle.bt_machines.specs.Says.{last_plans, order_again, plans_for, sent_by_act, sent_by_order, sent_to_asking}
use Rattle.bt_machines.specs.Terminals.{has, terminals_of}
use Rattle.bt_site.specs.Sites.{turn_says}
use Rattle.bt_site.specs.Fits.{IsInTime}
use Rattle.bt_site.proofs.Ranges.{Acts, IsEdition, MayRepeat, Placed, Taken, act-acts, command-word, known-fits, load_of-word, next-fits, numbered-fits, wanted-fits}
use Rattle.bt_apart.specs.Inside.{IsReady, IsSayable}
use Rattle.bt_apart.proofs.Ready.{numbered-next, planned-next}

-- the terminals of a network
every-own : (net : Net) → All (IsTerminal net) (terminals_of (length net.terminals))
every-own net =
    let n = length net.terminals in
    All-map (IsTerminal net) (λ (k : ℕ). let terminal : TermNo = record { 0 = k } in terminal) (range_with_len 0 n)
    (λ k d within. omega (arith, get_or-range_with_len 0 n k d, length-range_with_len 0 n, within))

with-few : (next : Option Order) (placed : List Order) → length (with_wanted next placed) ≤ length placed + 1
with-few None placed = omega arith
with-few (Some order) placed = omega arith

-- what is said with plans that messages can carry
module _ (net : Net) (plans : List Plan) (few : length net.terminals ≤ 64)
    (modes : (edition : EditionNo) → AreModes (modes_of (plan_of plans edition)))
    (bursts : (edition : EditionNo) (terminal : TermNo) → AreBurstsOf terminal (bursts_for terminal (plan_of plans edition))) where
  one-says : (one : Aired) → IsSayable net plans one → All (IsSayable net plans) (one ∷ [])
  one-says one says = All-cons (IsSayable net plans) one [] says (All-nil (IsSayable net plans))

  load-says : (command : Command) (edition : EditionNo) → IsCommand command → IsWord edition.0 → IsSayable net plans (sends.Load command edition)
  load-says command edition number word = record { names = tt; addressed = tt; in_range = (number, word, modes edition) }

  arm-says : (command : Command) (edition : EditionNo) (due : Mark) → IsCommand command → IsWord edition.0 → IsDue due → IsSayable net plans (sends.Arm command edition due)
  arm-says command edition due number word late = record { names = tt; addressed = tt; in_range = (number, word, late) }

  plans-say : (to : List TermNo) (load : Command) (edition : EditionNo) → All (IsTerminal net) to → IsWord load.0 → IsWord edition.0 → All (IsSayable net plans) (plans_for to load edition)
  plans-say to load edition own number word =
      All-map (IsSayable net plans) (λ (terminal : TermNo). sends.PlanFor terminal load edition) to
      (λ k d within. let one = own k d within in record { names = one; addressed = one; in_range = ((omega arith, omega (arith, one, few)), number, word, bursts edition (get_or to k d)) })

  again-says : (placed : List Order) → MayRepeat placed → All Placed placed → All IsInTime placed → All (IsSayable net plans) (order_again placed)
  again-says [] may placed in_time = All-nil (IsSayable net plans)
  again-says (Load command edition ∷ earlier) may placed in_time =
      let one = All-head Placed (Load command edition) earlier placed in one-says (sends.Load command edition) (load-says command edition one.0 one.1)
  again-says (Arm command edition due ∷ earlier) may placed in_time =
      let one = All-head Placed (Arm command edition due) earlier placed in
      let late = All-head IsInTime (Arm command edition due) earlier in_time in
      one-says (sends.Arm command edition due) (arm-says command edition due one.0 one.1 (may, late))

  last-says : (placed : List Order) (to : List TermNo) → All (IsTerminal net) to → All Placed placed → All (IsSayable net plans) (last_plans placed to)
  last-says [] to own placed = All-nil (IsSayable net plans)
  last-says (Load command edition ∷ earlier) to own placed =
      let one = All-head Placed (Load command edition) earlier placed in plans-say to command edition own (command-word command one.0) one.1
  last-says (Arm command edition due ∷ earlier) to own placed = All-nil (IsSayable net plans)

  act-says : (placed : List Order) (missing : List TermNo) (act : Act) → Acts placed act → All (IsTerminal net) missing → All Placed placed → All IsInTime placed
      → All (IsSayable net plans) (sent_by_act placed missing act)
  act-says placed missing Quiet may own fit in_time = All-nil (IsSayable net plans)
  act-says placed missing (RepeatLoad true) may own fit in_time =
      All-append (IsSayable net plans) (order_again placed) (last_plans placed missing) (again-says placed may fit in_time) (last-says placed missing own fit)
  act-says placed missing (RepeatLoad false) may own fit in_time = last-says placed missing own fit
  act-says placed missing RepeatArm may own fit in_time = again-says placed may fit in_time
  act-says placed missing (Want order) may own fit in_time = All-nil (IsSayable net plans)

  asking-says : (found : Option EditionNo) (placed : List Order) (asking : List TermNo) → IfSome found IsEdition → All Placed placed → All (IsTerminal net) asking
      → All (IsSayable net plans) (sent_to_asking found placed plans asking)
  asking-says None placed asking word fit own = All-nil (IsSayable net plans)
  asking-says (Some edition) placed asking word fit own =
      let test = has_burst (plan_of plans edition) in
      plans-say (filter test asking) (load_of placed edition) edition (All-filter test (IsTerminal net) asking own) (load_of-word placed edition fit) word

  -- in its turn
  pub turn-sayable : (s : Centre) (mark : Mark) (target : EditionNo) (lead patience : ℕ) → IsMark mark → All IsStored plans → length s.orders ≤ 4294967295 → IsReady plans s
      → All (IsSayable net plans) (turn_says (terminals_of (length net.terminals)) s plans mark target lead patience)
  turn-sayable s mark target lead patience in_range stored count ready =
      let everyone = terminals_of (length net.terminals) in
      let placed = numbered-fits plans s.orders stored ready.numbered ready.planned count in
      let known = known-fits s.kept s.orders mark.0 ready.kept in
      let act = act_at s mark target lead patience in
      let misses : TermNo → Bool = λ (terminal : TermNo). is_missing s terminal in
      let asks : TermNo → Bool = λ (terminal : TermNo). has s.asking terminal in
      All-cons (IsSayable net plans) (sends.Reference mark (known_to s mark.0) (next_of (last_order s.orders) mark.0))
      (sent_by_act s.orders (filter misses everyone) act ++ sent_to_asking (known_to s mark.0) s.orders plans (filter asks everyone))
      (record { names = tt; addressed = tt; in_range = (in_range, known, next-fits s.orders mark.0 placed ready.in_time) })
      (All-append (IsSayable net plans) (sent_by_act s.orders (filter misses everyone) act) (sent_to_asking (known_to s mark.0) s.orders plans (filter asks everyone))
      (act-says s.orders (filter misses everyone) act (act-acts (turn_at s mark target lead patience) s.wanted s.kept s.orders)
      (All-filter misses (IsTerminal net) everyone (every-own net)) placed ready.in_time)
      (asking-says (known_to s mark.0) s.orders (filter asks everyone) known placed (All-filter asks (IsTerminal net) everyone (every-own net))))

  order-says : (everyone : List TermNo) (order : Option Order) → All (IsTerminal net) everyone → IfSome order Taken → All (IsSayable net plans) (sent_by_order plans everyone order)
  order-says everyone None own fits = All-nil (IsSayable net plans)
  order-says everyone (Some (Load command edition)) own fits =
      let test = has_burst (plan_of plans edition) in
      All-cons (IsSayable net plans) (sends.Load command edition) (plans_for (filter test everyone) command edition) (load-says command edition fits.0 fits.1)
      (plans-say (filter test everyone) command edition (All-filter test (IsTerminal net) everyone own) (command-word command fits.0) fits.1)
  order-says everyone (Some (Arm command edition due)) own fits = one-says (sends.Arm command edition due) (arm-says command edition due fits.0 fits.1 fits.2)

  -- with the order that it wanted
  pub order-sayable : (s : Centre) → All IsStored plans → length s.orders + 1 ≤ 4294967295 → IsReady plans s
      → All (IsSayable net plans) (sent_by_order plans (terminals_of (length net.terminals)) s.wanted)
  order-sayable s stored count ready =
      order-says (terminals_of (length net.terminals)) s.wanted (every-own net)
      (wanted-fits plans s.orders s.wanted stored (numbered-next plans s.orders s.wanted ready.next) (planned-next plans s.orders s.wanted ready.next)
      (omega (arith, count, with-few s.wanted s.orders)))

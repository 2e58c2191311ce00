-- What a terminal transmits is what its events say.
use Rattle.std.proofs.Common.{◌≡◌, ℕ, ◌==◌, if◌then◌else◌, Bool, true, false, List, [], ◌∷◌, filter, All, Option, Some, None, slice_get, refl, sym, ◌∙◌, ap, arith, subst, zero, suc}
use Rattle.std.specs.Prelude.{IsSome}
use Rattle.std.proofs.lemmas.Bool.{and_parts, eqb-true}
use Rattle.std.proofs.lemmas.Bool.Decides.{nat_tests}
use Rattle.std.proofs.lemmas.List.Elements.{All-nil, All-cons, All-append, All-head, All-tail, All-weaker, All-map, filter_passes}
use Rattle.bt_frame.proofs.OneNumber.{same_edition}
use Rattle.bt_frame.specs.declared.numbers.EditionNo.{EditionNo}
use Rattle.bt_frame.specs.declared.numbers.Mark.{Mark}
use Rattle.bt_frame.specs.declared.numbers.TermNo.{TermNo}
use Rattle.bt_demand.specs.declared.burst.Burst.{Burst}
use Rattle.bt_demand.specs.declared.plan.Plan.{Plan}
use Rattle.bt_air.specs.declared.message.Message.TheVariants as message
use Rattle.bt_air.specs.declared.order.Order.{Order}
use Rattle.bt_air.specs.declared.order.Order.TheVariants.{Load, Arm}
use Rattle.bt_air.specs.declared.sent.Act.{Act}
use Rattle.bt_air.specs.declared.sent.Act.TheVariants.{Quiet, RepeatLoad, RepeatArm, Want}
use Rattle.bt_air.specs.declared.sent.Heard.{Heard}
use Rattle.bt_air.specs.declared.sent.Heard.TheVariants.{Took, WrongMark}
use Rattle.bt_air.specs.declared.sent.Place.{Place}
use Rattle.bt_air.specs.declared.sent.Place.TheVariants.{Satellite, Centre, Terminal}
use Rattle.bt_air.specs.declared.sent.Aired.{Aired}
use Rattle.bt_air.specs.declared.sent.Aired.TheVariants as sends
use Rattle.bt_machines.specs.declared.burst_bank.Bank.{Bank}
use Rattle.bt_machines.specs.declared.banks.Banks.{Banks}
use Rattle.bt_machines.specs.declared.burst_bank.Holding.{Holding}
use Rattle.bt_machines.specs.declared.reference.Reference.{Reference}
use Rattle.bt_machines.specs.Banks.{bank_of, bank_raised, for_load, bursts_of_bank as bank_bursts}
use Rattle.bt_machines.proofs.TerminalRows.{plan_rows}
use Rattle.bt_machines.specs.Last.{load_of}
use Rattle.bt_air.specs.declared.order.Armed.{Armed}
use Rattle.bt_frame.specs.declared.numbers.Command.{Command}
use Rattle.bt_machines.specs.Terminal.{State, new_of, step_of, in_force, is_for_another, having_heard, raising, storing, bursts_named, transmitted}
use Rattle.bt_site.specs.Event.{Opening, Event, Tick, Turn, Second, Ordered, Deliver, Frame, ResetTerminal, RestartCentre, Install, Happening, Ticks, Turns, Seconds, Orders, Hears, Shows, Resets, Restarts, Installs}
use Rattle.bt_site.specs.World.{mark, plans, wanted, orders, heard, known_now, terminals, is_missing, is_missing_of, is_confirmed, sent_by_satellite, announced, sent_by_terminal, sent_by_hearing, sent_with, sent, log, act}
use Rattle.bt_machines.specs.Plans.{plan_of, bursts_for, has_burst}
use Rattle.bt_machines.specs.Says.{carried, plans_for, order_again, last_plans, sent_by_act, sent_to_asking, sent_by_order, confirms}
use Rattle.bt_site.specs.Air.{where_held, bursts_under, transmits}
use Rattle.bt_site.specs.Ground.{after_hearing, terminal}
use Rattle.bt_machines.specs.Said.{held_in, load_in, IsFilledInOrder}
use Rattle.bt_site.proofs.Banks.{plan-stays}
use Rattle.bt_site.proofs.Ground.{terminal-agrees}

-- there is a plan for a PlanFor
abbrev pub HasPlanFor : List Plan → Aired → Type 0
HasPlanFor all (sends.PlanFor to load edition) = IsSome (plan_of all edition)
HasPlanFor all _ = Unit {0}

burst-some : (plan : Option Plan) (terminal : TermNo) → has_burst plan terminal ≡ true → IsSome plan
burst-some None terminal e = cc
burst-some (Some plan) terminal e = refl

for-some : (all : List Plan) (load : Command) (edition : EditionNo) (to : List TermNo) → All (λ (t : TermNo). has_burst (plan_of all edition) t ≡ true) to → All (HasPlanFor all) (plans_for to load edition)
for-some all load edition to bursts = All-map (HasPlanFor all) (λ (t : TermNo). sends.PlanFor t load edition) to
    (λ k d h. burst-some (plan_of all edition) _ (bursts k d h))

filtered-some : (all : List Plan) (load : Command) (edition : EditionNo) (to : List TermNo) → All (HasPlanFor all) (plans_for (filter (has_burst (plan_of all edition)) to) load edition)
filtered-some all load edition to = for-some all load edition (filter (has_burst (plan_of all edition)) to) (filter_passes (has_burst (plan_of all edition)) to)

missing-some : (all : List Plan) (placed : List Order) (confirmed : TermNo → Bool) (to : List TermNo)
    → All (HasPlanFor all) (last_plans placed (filter (λ (t : TermNo). is_missing_of placed all (confirmed t) t) to))
missing-some all [] confirmed to = All-nil (HasPlanFor all)
missing-some all (Arm command edition due ∷ earlier) confirmed to = All-nil (HasPlanFor all)
missing-some all (Load command edition ∷ earlier) confirmed to =
    let test = λ (t : TermNo). is_missing_of (Load command edition ∷ earlier) all (confirmed t) t in
    for-some all command edition (filter test to) (λ k d h. (and_parts _ _ (filter_passes test to k d h)).0)

order-some : (all : List Plan) (placed : List Order) → All (HasPlanFor all) (order_again placed)
order-some all [] = All-nil (HasPlanFor all)
order-some all (Load command edition ∷ earlier) = All-cons (HasPlanFor all) (sends.Load command edition) [] tt (All-nil (HasPlanFor all))
order-some all (Arm command edition due ∷ earlier) = All-cons (HasPlanFor all) (sends.Arm command edition due) [] tt (All-nil (HasPlanFor all))

act-some : (all : List Plan) (placed : List Order) (confirmed : TermNo → Bool) (to : List TermNo) (act : Act)
    → All (HasPlanFor all) (sent_by_act placed (filter (λ (t : TermNo). is_missing_of placed all (confirmed t) t) to) act)
act-some all placed confirmed to Quiet = All-nil (HasPlanFor all)
act-some all placed confirmed to (RepeatLoad true) = All-append (HasPlanFor all) (order_again placed) _ (order-some all placed) (missing-some all placed confirmed to)
act-some all placed confirmed to (RepeatLoad false) = missing-some all placed confirmed to
act-some all placed confirmed to RepeatArm = order-some all placed
act-some all placed confirmed to (Want order) = All-nil (HasPlanFor all)

asking-some : (all : List Plan) (placed : List Order) (found : Option EditionNo) (to : List TermNo) → All (HasPlanFor all) (sent_to_asking found placed all to)
asking-some all placed None to = All-nil (HasPlanFor all)
asking-some all placed (Some edition) to = filtered-some all (load_of placed edition) edition to

placed-some : (all : List Plan) (everyone : List TermNo) (order : Option Order) → All (HasPlanFor all) (sent_by_order all everyone order)
placed-some all everyone None = All-nil (HasPlanFor all)
placed-some all everyone (Some (Load command edition)) = All-cons (HasPlanFor all) (sends.Load command edition) _ tt (filtered-some all command edition everyone)
placed-some all everyone (Some (Arm command edition due)) = All-cons (HasPlanFor all) (sends.Arm command edition due) [] tt (All-nil (HasPlanFor all))

satellite-some : (all : List Plan) (more before : List Order) (now : ℕ) → All (HasPlanFor all) (sent_by_satellite more before now)
satellite-some all [] before now = All-nil (HasPlanFor all)
satellite-some all (first ∷ rest) before now = All-cons (HasPlanFor all) _ [] tt (All-nil (HasPlanFor all))

confirms-some : (all : List Plan) (terminal : TermNo) (edition : EditionNo) (load : Option Command) → All (HasPlanFor all) (confirms terminal edition load)
confirms-some all terminal edition None = All-nil (HasPlanFor all)
confirms-some all terminal edition (Some load) = All-cons (HasPlanFor all) (sends.Confirm terminal load edition) [] tt (All-nil (HasPlanFor all))

confirm-some : (all : List Plan) (terminal : TermNo) (edition : EditionNo) (load : Option Command) (test : Bool) → All (HasPlanFor all) (if test then confirms terminal edition load else [])
confirm-some all terminal edition load true = confirms-some all terminal edition load
confirm-some all terminal edition load false = All-nil (HasPlanFor all)

terminal-some : (all : List Plan) (after : List Holding) (terminal : TermNo) (one : Option Aired) → All (HasPlanFor all) (sent_by_terminal after terminal one)
terminal-some all after terminal None = All-nil (HasPlanFor all)
terminal-some all after terminal (Some (sends.PlanFor to load edition)) = confirm-some all terminal edition (load_in after edition) _
terminal-some all after terminal (Some (sends.Status status)) = All-nil (HasPlanFor all)
terminal-some all after terminal (Some (sends.Load command edition)) = All-nil (HasPlanFor all)
terminal-some all after terminal (Some (sends.Arm command edition due)) = All-nil (HasPlanFor all)
terminal-some all after terminal (Some (sends.Confirm from load edition)) = All-nil (HasPlanFor all)
terminal-some all after terminal (Some (sends.Reference superframe found next)) = All-nil (HasPlanFor all)
terminal-some all after terminal (Some (sends.Lost from)) = All-nil (HasPlanFor all)

hearing-some : (o : Opening) (past : List Happening) (one : Option Aired) (place : Place) → All (HasPlanFor (plans o past)) (sent_by_hearing o past one place)
hearing-some o past one Satellite = satellite-some (plans o past) _ _ _
hearing-some o past one Centre = All-nil (HasPlanFor (plans o past))
hearing-some o past one (Terminal to) = terminal-some (plans o past) _ to one

with-some : (o : Opening) (past : List Happening) (happening : Happening) → All (HasPlanFor (plans o past)) (sent_with o past happening)
with-some o past Ticks = All-cons (HasPlanFor (plans o past)) _ [] tt (All-nil (HasPlanFor (plans o past)))
with-some o past (Turns target act) =
    let P = HasPlanFor (plans o past) in
    All-cons P (sends.Reference (record { 0 = mark o past }) (known_now o past) (announced o past)) _ tt
    (All-append P (sent_by_act (orders o past) (filter (is_missing o past) (terminals o)) act) _
    (act-some (plans o past) (orders o past) (is_confirmed o past) (terminals o) act) (asking-some (plans o past) (orders o past) (known_now o past) _))
with-some o past (Seconds in_force) =
    All-cons (HasPlanFor (plans o past)) (sends.Reference (record { 0 = mark o past }) in_force None) [] tt (All-nil (HasPlanFor (plans o past)))
with-some o past Orders = placed-some (plans o past) (terminals o) (wanted past)
with-some o past (Hears one place) = hearing-some o past one place
with-some o past Shows = All-nil (HasPlanFor (plans o past))
with-some o past (Resets number) = All-cons (HasPlanFor (plans o past)) (sends.Lost number) [] tt (All-nil (HasPlanFor (plans o past)))
with-some o past (Restarts kept) = All-nil (HasPlanFor (plans o past))
with-some o past (Installs plan) = All-nil (HasPlanFor (plans o past))

still-for : (plan : Plan) (all : List Plan) (one : Aired) → HasPlanFor all one → HasPlanFor (plan ∷ all) one
still-for plan all (sends.PlanFor to load edition) some = subst (λ (p : Option Plan). IsSome p) (sym (plan-stays plan all edition some)) some
still-for plan all (sends.Load command edition) some = tt
still-for plan all (sends.Arm command edition due) some = tt
still-for plan all (sends.Status status) some = tt
still-for plan all (sends.Confirm from load edition) some = tt
still-for plan all (sends.Reference superframe found next) some = tt
still-for plan all (sends.Lost from) some = tt

-- every PlanFor that was sent has a plan
plans-next : (o : Opening) (past : List Happening) (happening : Happening) → All (HasPlanFor (plans o past)) (sent o (happening ∷ past)) → All (HasPlanFor (plans o (happening ∷ past))) (sent o (happening ∷ past))
plans-next o past Ticks each = each
plans-next o past (Turns target act) each = each
plans-next o past (Seconds in_force) each = each
plans-next o past Orders each = each
plans-next o past (Hears one place) each = each
plans-next o past Shows each = each
plans-next o past (Resets number) each = each
plans-next o past (Restarts kept) each = each
plans-next o past (Installs plan) each = All-weaker (HasPlanFor (plans o past)) (HasPlanFor (plan ∷ plans o past)) (still-for plan (plans o past)) _ each

pub sent-some : (o : Opening) (past : List Happening) → All (HasPlanFor (plans o past)) (sent o past)
sent-some o [] = All-nil (HasPlanFor o.plans)
sent-some o (happening ∷ past) =
    plans-next o past happening (All-append (HasPlanFor (plans o past)) (sent o past) (sent_with o past happening) (sent-some o past) (with-some o past happening))

-- a bank holds the bursts of the plan of its edition
pub record IsBankOf (all : List Plan) (number : TermNo) (bank : Bank) : Type 0 where
  pub bursts : bank.bursts ≡ bursts_for number (plan_of all bank.holding.edition)
  pub some : IsSome (plan_of all bank.holding.edition)

abbrev pub IsBank : List Plan → TermNo → Option Bank → Type 0
IsBank all number None = Unit {0}
IsBank all number (Some bank) = IsBankOf all number bank

abbrev pub AreBanks : List Plan → TermNo → State → Type 0
AreBanks all number s = IsBank all number s.banks.first × IsBank all number s.banks.second

abbrev stored_in : Banks → Bank → Bool → Banks
stored_in banks bank second = if second then record banks { second = Some bank } else record banks { first = Some bank }

abbrev raised_in : Banks → Command → Bool → Banks
raised_in banks load first = if first then record banks { first = bank_raised banks.first load } else record banks { second = bank_raised banks.second load }

-- a message changes no bank, raises one or stores one
module _ (P : Option Bank → Type 0) (raises : (bank : Option Bank) (load : Command) → P bank → P (bank_raised bank load)) where
  stored : (banks : Banks) (bank : Bank) (second : Bool) → P banks.first → P banks.second → P (Some bank) → P (stored_in banks bank second).first × P (stored_in banks bank second).second
  stored banks bank true a b new = (a, new)
  stored banks bank false a b new = (new, b)

  higher : (banks : Banks) (load : Command) (first : Bool) → P banks.first → P banks.second → P (raised_in banks load first).first × P (raised_in banks load first).second
  higher banks load true a b = (raises banks.first load a, b)
  higher banks load false a b = (a, raises banks.second load b)

  row : (s : State) (now : ℕ) (new : Holding) (bursts : List Burst) (another have room used older : Bool) → P s.banks.first → P s.banks.second → P (Some (record { holding = new; bursts = bursts }))
      → (let after = (plan_rows s (raising s new.edition new.load) (storing s now new bursts) another have room used older).1 in P after.banks.first × P after.banks.second)
  row s now new bursts true have room used older a b c = (a, b)
  row s now new bursts false true room used older a b c = higher s.banks new.load _ a b
  row s now new bursts false false true used older a b c = stored s.banks (record { holding = new; bursts = bursts }) _ a b c
  row s now new bursts false false false true older a b c = (a, b)
  row s now new bursts false false false false true a b c = (a, b)
  row s now new bursts false false false false false a b c = stored s.banks (record { holding = new; bursts = bursts }) _ a b c

  taken : (s : State) (superframe : Mark) (found : Option EditionNo) (next : Option Armed) (wrong : Bool) → P s.banks.first → P s.banks.second
      → (let row : Heard × State = if wrong then (WrongMark, s) else (Took, having_heard s superframe found next) in P row.1.banks.first × P row.1.banks.second)
  taken s superframe found next true a b = (a, b)
  taken s superframe found next false a b = (a, b)

-- a bank that is raised holds what it held
raised-edition : (all : List Plan) (number : TermNo) (bank : Bank) (load : Command) (less : Bool) → IsBankOf all number bank
    → IsBankOf all number (record { holding = (if less then for_load bank.holding load else bank.holding); bursts = bank.bursts })
raised-edition all number bank load true is = record { bursts = is.bursts; some = is.some }
raised-edition all number bank load false is = record { bursts = is.bursts; some = is.some }

bank-raised : (all : List Plan) (number : TermNo) (bank : Option Bank) (load : Command) → IsBank all number bank → IsBank all number (bank_raised bank load)
bank-raised all number None load is = tt
bank-raised all number (Some bank) load is = raised-edition all number bank load _ is

-- a PlanFor for another terminal stores nothing, so what is stored is this terminal's
plan-banks : (all : List Plan) (number : TermNo) (now : Mark) (s : State) (to : TermNo) (load : Command) (edition : EditionNo) (test : Bool) → (to.0 == s.number.0) ≡ test → s.number ≡ number
    → IsSome (plan_of all edition) → AreBanks all number s → AreBanks all number (step_of s now (message.PlanFor to load edition (bursts_for to (plan_of all edition)))).1
plan-banks all number now s to load edition true e same some banks =
    let h : to.0 ≡ s.number.0 = grind (arith, nat_tests) in
    let here : to ≡ number = ap (λ (n : ℕ). record { 0 = n }) h ∙ same in
    row (IsBank all number) (bank-raised all number) s now.0 (record { load = load; edition = edition }) (bursts_for to (plan_of all edition)) _ _ _ _ _ banks.0 banks.1
    (record { bursts = ap (λ (t : TermNo). bursts_for t (plan_of all edition)) here; some = some })
plan-banks all number now s to load edition false e same some banks =
    let other : is_for_another s to ≡ true = rw e refl in rw other banks

message-banks : (all : List Plan) (number : TermNo) (now : ℕ) (s : State) (one : Aired) → s.number ≡ number → HasPlanFor all one → AreBanks all number s
    → AreBanks all number (step_of s (record { 0 = now }) (carried all one)).1
message-banks all number now s (sends.PlanFor to load edition) same some banks = plan-banks all number (record { 0 = now }) s to load edition _ refl same some banks
message-banks all number now s (sends.Reference superframe found next) same some banks = taken (IsBank all number) (bank-raised all number) s superframe found next _ banks.0 banks.1
message-banks all number now s (sends.Load command edition) same some banks = banks
message-banks all number now s (sends.Arm command edition due) same some banks = banks
message-banks all number now s (sends.Status status) same some banks = banks
message-banks all number now s (sends.Confirm from load edition) same some banks = banks
message-banks all number now s (sends.Lost from) same some banks = banks

if-banks : (all : List Plan) (number : TermNo) (test : Bool) (s t : State) → AreBanks all number s → AreBanks all number t → AreBanks all number (if test then s else t)
if-banks all number true s t a b = a
if-banks all number false s t a b = b

bank-still : (plan : Plan) (all : List Plan) (number : TermNo) (bank : Option Bank) → IsBank all number bank → IsBank (plan ∷ all) number bank
bank-still plan all number None is = tt
bank-still plan all number (Some bank) is =
    let e = plan-stays plan all bank.holding.edition is.some in
    record { bursts = is.bursts ∙ ap (bursts_for number) (sym e); some = subst (λ (p : Option Plan). IsSome p) (sym e) is.some }

-- a delivered message was sent
abbrev pub CameSome : List Plan → Option Aired → Type 0
CameSome all None = Unit {0}
CameSome all (Some one) = HasPlanFor all one

found-some : (all : List Plan) (list : List Aired) (number : ℕ) → All (HasPlanFor all) list → CameSome all (slice_get list number)
found-some all [] number each = tt
found-some all (first ∷ rest) zero each = All-head (HasPlanFor all) first rest each
found-some all (first ∷ rest) (suc number) each = found-some all rest number (All-tail (HasPlanFor all) first rest each)

hearing-banks : (all : List Plan) (number : TermNo) (now : ℕ) (s : State) (one : Option Aired) → s.number ≡ number → CameSome all one → AreBanks all number s
    → AreBanks all number (after_hearing s now all one)
hearing-banks all number now s None same some banks = banks
hearing-banks all number now s (Some one) same some banks = message-banks all number now s one same some banks

delivery-banks : (o : Opening) (past : List Happening) (number : TermNo) (one : Option Aired) (place : Place) → CameSome (plans o past) one
    → AreBanks (plans o past) number (terminal o past number) → AreBanks (plans o past) number (terminal o (Hears one place ∷ past) number)
delivery-banks o past number one Satellite some banks = banks
delivery-banks o past number one Centre some banks = banks
delivery-banks o past number one (Terminal to) some banks =
    if-banks (plans o past) number (to.0 == number.0) (after_hearing (terminal o past number) (mark o past) (plans o past) one) (terminal o past number)
    (hearing-banks (plans o past) number (mark o past) (terminal o past number) one (terminal-agrees o past number).same some banks) banks

pub world-banks : (o : Opening) (events : List Event) (number : TermNo) → AreBanks (plans o (log o events)) number (terminal o (log o events) number)
world-banks o [] number = (tt, tt)
world-banks o (Tick ∷ earlier) number = world-banks o earlier number
world-banks o (Turn target ∷ earlier) number = world-banks o earlier number
world-banks o (Second in_force ∷ earlier) number = world-banks o earlier number
world-banks o (Ordered ∷ earlier) number = world-banks o earlier number
world-banks o (Deliver message place ∷ earlier) number =
    let past = log o earlier in
    delivery-banks o past number (slice_get (sent o past) message) place (found-some (plans o past) (sent o past) message (sent-some o past)) (world-banks o earlier number)
world-banks o (Frame ∷ earlier) number = world-banks o earlier number
world-banks o (ResetTerminal other ∷ earlier) number =
    let past = log o earlier in if-banks (plans o past) number (other.0 == number.0) (new_of number) (terminal o past number) (tt, tt) (world-banks o earlier number)
world-banks o (RestartCentre kept ∷ earlier) number = world-banks o earlier number
world-banks o (Install plan ∷ earlier) number =
    let past = log o earlier in let banks = world-banks o earlier number in
    (bank-still plan (plans o past) number (terminal o past number).banks.first banks.0, bank-still plan (plans o past) number (terminal o past number).banks.second banks.1)

-- what is transmitted, by the banks
bank-bursts : (all : List Plan) (number : TermNo) (bank : Bank) (edition : EditionNo) → (bank.holding.edition.0 == edition.0) ≡ true → IsBankOf all number bank
    → bank.bursts ≡ bursts_for number (plan_of all edition)
bank-bursts all number bank edition e is = is.bursts ∙ ap (λ (x : EditionNo). bursts_for number (plan_of all x)) (same_edition bank.holding.edition edition (eqb-true _ _ e))

one-bank : (all : List Plan) (number : TermNo) (a : Bank) (edition : EditionNo) (first : Bool) → (a.holding.edition.0 == edition.0) ≡ first → IsBankOf all number a
    → bank_bursts (bank_of (record { first = Some a; second = None }) edition) ≡ bursts_under all number (where_held (a.holding ∷ []) (Some edition))
one-bank all number a edition true p is = rw p (bank-bursts all number a edition p is)
one-bank all number a edition false p is = rw p refl

two-banks : (all : List Plan) (number : TermNo) (a b : Bank) (edition : EditionNo) (first second : Bool) → (a.holding.edition.0 == edition.0) ≡ first → (b.holding.edition.0 == edition.0) ≡ second
    → IsBankOf all number a → IsBankOf all number b
    → bank_bursts (bank_of (record { first = Some a; second = Some b }) edition) ≡ bursts_under all number (where_held (a.holding ∷ b.holding ∷ []) (Some edition))
two-banks all number a b edition true second p q is also = rw p (bank-bursts all number a edition p is)
two-banks all number a b edition false true p q is also = rw (p, q) (bank-bursts all number b edition q also)
two-banks all number a b edition false false p q is also = rw (p, q) refl

named-bursts : (all : List Plan) (number : TermNo) (first second : Option Bank) (named : Option EditionNo) → IsFilledInOrder first second → IsBank all number first → IsBank all number second
    → bursts_named (record { first = first; second = second }) named ≡ bursts_under all number (where_held (held_in first second) named)
named-bursts all number first second None filled is also = refl
named-bursts all number None None (Some edition) filled is also = refl
named-bursts all number None (Some b) (Some edition) filled is also = absurd filled
named-bursts all number (Some a) None (Some edition) filled is also = one-bank all number a edition _ refl is
named-bursts all number (Some a) (Some b) (Some edition) filled is also = two-banks all number a b edition _ _ refl refl is also

pub transmits-said : (o : Opening) (events : List Event) (number : TermNo)
    → transmitted (terminal o (log o events) number) (record { 0 = mark o (log o events) }) ≡ transmits o (log o events) number
transmits-said o events number =
    let past = log o events in
    let s = terminal o past number in
    let agrees = terminal-agrees o past number in
    let banks = world-banks o events number in
    ap (λ (told : Option Reference). bursts_named s.banks (in_force told (record { 0 = mark o past }))) agrees.heard
    ∙ named-bursts (plans o past) number s.banks.first s.banks.second (heard o past number) agrees.filled banks.0 banks.1
    ∙ ap (λ (list : List Holding). bursts_under (plans o past) number (where_held list (heard o past number))) agrees.held

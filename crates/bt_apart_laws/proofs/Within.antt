-- Which lines are among others, and that a centre which knows of fewer plans says no other line.
use Rattle.std.proofs.Common.{◌≡◌, inl, inr, ℕ, ◌<◌, ◌⊎◌, if◌then◌else◌, Bool, true, false, List, [], ◌∷◌, ◌++◌, map, All, Option, Some, None, IfSome, refl, sym, ap, ◌∙◌, subst, arith}
use Rattle.std.specs.Prelude.{IsSome, filter}
use Rattle.std.proofs.lemmas.List.Elements.{All-head}
use Rattle.bt_frame.specs.declared.numbers.Command.{Command}
use Rattle.bt_frame.specs.declared.numbers.EditionNo.{EditionNo}
use Rattle.bt_frame.specs.declared.numbers.TermNo.{TermNo}
use Rattle.bt_demand.specs.declared.plan.Plan.{Plan}
use Rattle.bt_air.specs.declared.message.Message.{Message}
use Rattle.bt_air.specs.declared.message.Message.TheVariants as message
use Rattle.bt_air.specs.declared.order.Order.{Order}
use Rattle.bt_air.specs.declared.order.Order.TheVariants as order
use Rattle.bt_air.specs.declared.sent.Act.{Act as Does}
use Rattle.bt_air.specs.declared.sent.Act.TheVariants as does
use Rattle.bt_air.specs.declared.sent.Aired.{Aired}
use Rattle.bt_air.specs.declared.sent.Aired.TheVariants as sends
use Rattle.bt_air.specs.Spelling.{message_bytes}
use Rattle.bt_machines.specs.Centre.{act_at, is_missing, known_to}
use Rattle.bt_machines.specs.Last.{last_order, load_of, next_of}
use Rattle.bt_machines.specs.Plans.{bursts_for, has_burst, modes_of, plan_of}
use Rattle.bt_machines.specs.Says.{carried, last_plans, order_again, plans_for, sent_by_act, sent_by_order, sent_to_asking}
use Rattle.bt_machines.specs.Terminals.{has as is_in}
use Rattle.bt_site.specs.Event.{Opening, Ordered, Turn}
use Rattle.bt_site.specs.Fits.{HasPlan}
use Rattle.bt_site.specs.World.{terminals}
use Rattle.bt_sites.specs.Stamps.{Act, Begins, Begun, HasLine, Hears, Installs, Line, Places, Radio, Restarts, Seconds, StandbyStarts, Starts, Turns, begun_by, lines, lines_by, said_if, stamp_by, step_by, steps_by}
use Rattle.bt_sites.specs.Late.{now_of}
use Rattle.bt_apart.specs.Apart.{ApartAir, says_apart}
use Rattle.bt_apart_laws.specs.Processes.{radios}
use Rattle.bt_apart_laws.proofs.Near.{Agree, with_plans}

-- each of the first is among the others
abbrev pub AreWithin : List Line → List Line → Type 0
AreWithin some all = (line : Line) → HasLine some line → HasLine all line

pub line-either : (a b : List Line) (line : Line) → HasLine (a ++ b) line → HasLine a line ⊎ HasLine b line
line-either [] b line has = inr has
line-either (x ∷ xs) b line (inl same) = inl (inl same)
line-either (x ∷ xs) b line (inr has) = elim (line-either xs b line has) [
  | inl left ↦ inl (inr left)
  | inr right ↦ inr right
]

pub line-first : (a b : List Line) (line : Line) → HasLine a line → HasLine (a ++ b) line
line-first [] b line has = absurd has
line-first (x ∷ xs) b line (inl same) = inl same
line-first (x ∷ xs) b line (inr has) = inr (line-first xs b line has)

pub line-last : (a b : List Line) (line : Line) → HasLine b line → HasLine (a ++ b) line
line-last [] b line has = has
line-last (x ∷ xs) b line has = inr (line-last xs b line has)

pub within-both : (a b c d : List Line) → AreWithin a c → AreWithin b d → AreWithin (a ++ b) (c ++ d)
within-both a b c d first last line has = elim (line-either a b line has) [
  | inl left ↦ line-first c d line (first line left)
  | inr right ↦ line-last c d line (last line right)
]

pub within-same : (a b : List Line) → a ≡ b → AreWithin a b
within-same a b same line has = subst (λ (list : List Line). HasLine list line) same has

pub within-none : (b : List Line) → AreWithin [] b
within-none b line has = absurd has

-- messages for which these plans and those have the same
abbrev AreSame : List Plan → List Plan → List Aired → Type 0
AreSame own all [] = Unit {0}
AreSame own all (one ∷ more) = (carried own one ≡ carried all one) × AreSame own all more

same-both : (own all : List Plan) (a b : List Aired) → AreSame own all a → AreSame own all b → AreSame own all (a ++ b)
same-both own all [] b same rest = rest
same-both own all (one ∷ more) b same rest = (same.0, same-both own all more b same.1 rest)

radios-same : (stamp : ℕ) (own all : List Plan) (said : List Aired) → AreSame own all said → radios stamp own said ≡ radios stamp all said
radios-same stamp own all [] same = refl
radios-same stamp own all (one ∷ more) same =
    ap (λ m. Radio stamp (message_bytes m) ∷ radios stamp own more) same.0 ∙ ap (λ (list : List Line). Radio stamp (message_bytes (carried all one)) ∷ list) (radios-same stamp own all more same.1)

radios-both : (stamp : ℕ) (all : List Plan) (a b : List Aired) → radios stamp all (a ++ b) ≡ radios stamp all a ++ radios stamp all b
radios-both stamp all [] b = refl
radios-both stamp all (one ∷ more) b = ap (λ (list : List Line). Radio stamp (message_bytes (carried all one)) ∷ list) (radios-both stamp all more b)

-- a message with the modes or the bursts of this plan
abbrev carried_load : Command → EditionNo → Option Plan → Message
carried_load command edition plan = message.Load command edition (modes_of plan)

abbrev carried_plan : TermNo → Command → EditionNo → Option Plan → Message
carried_plan terminal load edition plan = message.PlanFor terminal load edition (bursts_for terminal plan)

-- where the edition has the same plan in both
plans-same : (own all : List Plan) (to : List TermNo) (load : Command) (edition : EditionNo) → plan_of all edition ≡ plan_of own edition → AreSame own all (plans_for to load edition)
plans-same own all [] load edition same = tt
plans-same own all (terminal ∷ more) load edition same =
    (ap (λ (p : Option Plan). carried_plan terminal load edition p) (sym same), plans-same own all more load edition same)

-- the order that is said once more
again-same : (own all : List Plan) (placed : List Order) → Agree own all → All (HasPlan own) placed → AreSame own all (order_again placed)
again-same own all [] agree planned = tt
again-same own all (order.Load command edition ∷ earlier) agree planned =
    (ap (λ (p : Option Plan). carried_load command edition p) (sym (agree edition (All-head (HasPlan own) (order.Load command edition) earlier planned))), tt)
again-same own all (order.Arm command edition due ∷ earlier) agree planned = (refl, tt)

last-same : (own all : List Plan) (placed : List Order) (to : List TermNo) → Agree own all → All (HasPlan own) placed → AreSame own all (last_plans placed to)
last-same own all [] to agree planned = tt
last-same own all (order.Load command edition ∷ earlier) to agree planned =
    plans-same own all to command edition (agree edition (All-head (HasPlan own) (order.Load command edition) earlier planned))
last-same own all (order.Arm command edition due ∷ earlier) to agree planned = tt

if-same : (own all : List Plan) (test : Bool) (said : List Aired) → AreSame own all said → AreSame own all (if test then said else [])
if-same own all true said same = same
if-same own all false said same = tt

act-same : (own all : List Plan) (placed : List Order) (missing : List TermNo) (act : Does) → Agree own all → All (HasPlan own) placed → AreSame own all (sent_by_act placed missing act)
act-same own all placed missing (does.RepeatLoad load) agree planned =
    same-both own all (if load then order_again placed else []) (last_plans placed missing) (if-same own all load (order_again placed) (again-same own all placed agree planned))
    (last-same own all placed missing agree planned)
act-same own all placed missing does.RepeatArm agree planned = again-same own all placed agree planned
act-same own all placed missing _ agree planned = tt

-- what those who ask are to have: nothing, where the plan is not known
no-burst : (asking : List TermNo) → filter (has_burst None) asking ≡ []
no-burst [] = refl
no-burst (terminal ∷ more) = no-burst more

asking-by : (stamp : ℕ) (own all : List Plan) (load : Command) (edition : EditionNo) (asking : List TermNo) (found : Option Plan) → plan_of own edition ≡ found
    → (IsSome found → plan_of all edition ≡ found)
    → AreWithin (radios stamp own (plans_for (filter (has_burst found) asking) load edition)) (radios stamp all (plans_for (filter (has_burst (plan_of all edition)) asking) load edition))
asking-by stamp own all load edition asking None is agree =
    subst (λ (to : List TermNo). AreWithin (radios stamp own (plans_for to load edition)) (radios stamp all (plans_for (filter (has_burst (plan_of all edition)) asking) load edition)))
    (sym (no-burst asking)) (within-none (radios stamp all (plans_for (filter (has_burst (plan_of all edition)) asking) load edition)))
asking-by stamp own all load edition asking (Some plan) is agree =
    let to = filter (has_burst (Some plan)) asking in
    within-same (radios stamp own (plans_for to load edition)) (radios stamp all (plans_for (filter (has_burst (plan_of all edition)) asking) load edition))
    (radios-same stamp own all (plans_for to load edition) (plans-same own all to load edition (agree refl ∙ sym is))
    ∙ ap (λ (p : Option Plan). radios stamp all (plans_for (filter (has_burst p) asking) load edition)) (sym (agree refl)))

asking-within : (stamp : ℕ) (own all : List Plan) (known : Option EditionNo) (placed : List Order) (asking : List TermNo) → Agree own all
    → AreWithin (radios stamp own (sent_to_asking known placed own asking)) (radios stamp all (sent_to_asking known placed all asking))
asking-within stamp own all None placed asking agree = within-none []
asking-within stamp own all (Some edition) placed asking agree = asking-by stamp own all (load_of placed edition) edition asking (plan_of own edition) refl (agree edition)

-- its turn
said-within : (stamp : ℕ) (own all : List Plan) (a b c : List Aired) → AreSame own all a → AreWithin (radios stamp own b) (radios stamp all c) → AreWithin (radios stamp own (a ++ b)) (radios stamp all (a ++ c))
said-within stamp own all a b c same within =
    subst (λ (list : List Line). AreWithin list (radios stamp all (a ++ c))) (sym (radios-both stamp own a b))
    (subst (λ (list : List Line). AreWithin (radios stamp own a ++ radios stamp own b) list) (sym (radios-both stamp all a c))
    (within-both (radios stamp own a) (radios stamp own b) (radios stamp all a) (radios stamp all c)
    (within-same (radios stamp own a) (radios stamp all a) (radios-same stamp own all a same)) within))

pub turn-within : (air : ApartAir) (all : List Plan) (target : EditionNo) → Agree air.plans all → All (HasPlan air.plans) air.centre.orders
    → AreWithin (radios air.mark.0 air.plans (says_apart air (Turn target))) (radios air.mark.0 all (says_apart (with_plans air all) (Turn target)))
turn-within air all target agree planned =
    let s = air.centre in
    let everyone = terminals air.opening in
    let missing = filter (λ (terminal : TermNo). is_missing s terminal) everyone in
    let asking = filter (λ (terminal : TermNo). is_in s.asking terminal) everyone in
    let acts = sent_by_act s.orders missing (act_at s air.mark target air.opening.net.lead air.opening.net.patience) in
    let reference = sends.Reference air.mark (known_to s air.mark.0) (next_of (last_order s.orders) air.mark.0) in
    said-within air.mark.0 air.plans all (reference ∷ acts) (sent_to_asking (known_to s air.mark.0) s.orders air.plans asking) (sent_to_asking (known_to s air.mark.0) s.orders all asking)
    (refl, act-same air.plans all s.orders missing (act_at s air.mark target air.opening.net.lead air.opening.net.patience) agree planned)
    (asking-within air.mark.0 air.plans all (known_to s air.mark.0) s.orders asking agree)

-- its order
order-same : (stamp : ℕ) (own all : List Plan) (everyone : List TermNo) (one : Option Order) → Agree own all → IfSome one (HasPlan own)
    → radios stamp own (sent_by_order own everyone one) ≡ radios stamp all (sent_by_order all everyone one)
order-same stamp own all everyone None agree has = refl
order-same stamp own all everyone (Some (order.Load command edition)) agree has =
    let same = agree edition has in
    let said = sends.Load command edition ∷ plans_for (filter (has_burst (plan_of own edition)) everyone) command edition in
    radios-same stamp own all said (ap (λ (p : Option Plan). carried_load command edition p) (sym same), plans-same own all (filter (has_burst (plan_of own edition)) everyone) command edition same)
    ∙ ap (λ (p : Option Plan). radios stamp all (sends.Load command edition ∷ plans_for (filter (has_burst p) everyone) command edition)) (sym same)
order-same stamp own all everyone (Some (order.Arm command edition due)) agree has = refl

pub order-within : (air : ApartAir) (all : List Plan) → Agree air.plans all → IfSome air.centre.wanted (HasPlan air.plans)
    → AreWithin (radios air.mark.0 air.plans (says_apart air Ordered)) (radios air.mark.0 all (says_apart (with_plans air all) Ordered))
order-within air all agree next =
    within-same (radios air.mark.0 air.plans (says_apart air Ordered)) (radios air.mark.0 all (says_apart (with_plans air all) Ordered))
    (order-same air.mark.0 air.plans all (terminals air.opening) air.centre.wanted agree next)

-- no line says that superframe 0 begins
abbrev BeginsLater : Line → Type 0
BeginsLater (Begun stamp) = 0 < stamp
BeginsLater (Radio stamp bytes) = Unit {0}

radio-later : (stamp : ℕ) (said : List (List ℕ)) (line : Line) → HasLine (map (λ (bytes : List ℕ). Radio stamp bytes) said) line → BeginsLater line
radio-later stamp [] line has = absurd has
radio-later stamp (bytes ∷ more) line (inl same) = subst BeginsLater (sym same) tt
radio-later stamp (bytes ∷ more) line (inr has) = radio-later stamp more line has

begun-later : (now : ℕ) (act : Act) (line : Line) → HasLine (begun_by now act) line → BeginsLater line
begun-later now Begins line (inl same) = subst BeginsLater (sym same) (omega arith)
begun-later now Begins line (inr has) = absurd has
begun-later now (Hears site heard) line has = absurd has
begun-later now (Starts number) line has = absurd has
begun-later now (Turns target) line has = absurd has
begun-later now Places line has = absurd has
begun-later now (Installs plan) line has = absurd has
begun-later now (Restarts kept) line has = absurd has
begun-later now StandbyStarts line has = absurd has
begun-later now Seconds line has = absurd has

lines-later : (o : Opening) (acts : List Act) (line : Line) → HasLine (lines o acts) line → BeginsLater line
lines-later o [] line has = absurd has
lines-later o (act ∷ before) line has =
    let now = now_of o (steps_by o before) in
    let said = said_if o (steps_by o before) (step_by before act) in
    elim (line-either (lines_by o before act) (lines o before) line has) [
      | inr old ↦ lines-later o before line old
      | inl new ↦ elim (line-either (begun_by now act) (map (λ (bytes : List ℕ). Radio (stamp_by now before act) bytes) said) line new) [
        | inl begun ↦ begun-later now act line begun
        | inr radio ↦ radio-later (stamp_by now before act) said line radio
      ]
    ]

pub begun-past : (o : Opening) (acts : List Act) (stamp : ℕ) → HasLine (lines o acts) (Begun stamp) → 0 < stamp
begun-past o acts stamp has = lines-later o acts (Begun stamp) has

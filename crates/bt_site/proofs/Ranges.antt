-- Every message of a world is in the ranges of its spelling.
use Rattle.std.proofs.Common.{◌≡◌, ℕ, ◌+◌, ◌<◌, ◌≤◌, ◌==◌, ◌&&◌, nat_lt, nat_le, not, if◌then◌else◌, Bool, true, false, List, [], ◌∷◌, ◌++◌, length, filter, slice_get, All, AllPairs, Option, Some, None, IfSome, refl, subst, arith, zero, suc}
use Rattle.std.specs.List.{range_with_len, list_any}
use Rattle.std.proofs.lemmas.Bool.Decides.{nat_tests}
use Rattle.std.proofs.lemmas.List.Elements.{All-nil, All-cons, All-append, All-head, All-tail, All-map, All-filter, All-weaker}
use Rattle.std.proofs.lemmas.List.FromFn.{length-range_with_len, get_or-range_with_len}
use Rattle.bt_frame.specs.declared.numbers.Command.{Command}
use Rattle.bt_frame.specs.declared.numbers.EditionNo.{EditionNo}
use Rattle.bt_frame.specs.declared.numbers.Mark.{Mark}
use Rattle.bt_frame.specs.declared.numbers.TermNo.{TermNo}
use Rattle.bt_net.specs.Network.{Net, IsSound}
use Rattle.bt_frame.specs.Range.{IsWithin}
use Rattle.bt_demand.specs.declared.burst.Burst.{Burst}
use Rattle.bt_demand.specs.declared.plan.Plan.{Plan}
use Rattle.bt_demand.specs.Apart.{bursts_from}
use Rattle.bt_demand.specs.Burst.{IsNotAfter}
use Rattle.bt_demand.specs.Flyable.{IsFlyable, IsSentBy}
use Rattle.bt_air.specs.declared.order.Armed.{Armed}
use Rattle.bt_air.specs.declared.order.Order.{Order}
use Rattle.bt_air.specs.declared.order.Order.TheVariants.{Load, Arm}
use Rattle.bt_air.specs.declared.order.Status.{Status}
use Rattle.bt_air.specs.declared.sent.Act.{Act}
use Rattle.bt_air.specs.declared.sent.Act.TheVariants.{Quiet, RepeatLoad, RepeatArm, Want}
use Rattle.bt_air.specs.declared.sent.Place.{Place}
use Rattle.bt_air.specs.declared.sent.Place.TheVariants.{Satellite, Centre, Terminal}
use Rattle.bt_air.specs.declared.sent.Aired.{Aired}
use Rattle.bt_air.specs.declared.sent.Aired.TheVariants as sends
use Rattle.bt_air.specs.Orders.{command_of, last_command, last_arm, to_come, fore_at, edition_ordered}
use Rattle.bt_air.specs.Range.{IsArmed, IsCommand, IsDue, IsMark, IsStatus, IsTerminalNumber, IsWord, IsInRange, AreModes, AreBurstsOf}
use Rattle.bt_machines.specs.Satellite.{is_armed}
use Rattle.bt_machines.specs.Orders.{edition_of, ready_after, back_with, telling}
use Rattle.bt_machines.specs.declared.turn.Turn.{Turn as Sight}
use Rattle.bt_machines.specs.Centre.{AreNumbered}
use Rattle.bt_machines.specs.Known.{is_unseen, known, told_fore, is_later, later_of}
use Rattle.bt_machines.specs.Last.{greater_of, last_order, load_of, next_of}
use Rattle.bt_machines.specs.declared.burst_bank.Holding.{Holding}
use Rattle.bt_machines.specs.declared.reference.Reference.{Reference}
use Rattle.bt_machines.specs.Banks.{for_load, is_in_use, raised, second_gives}
use Rattle.bt_machines.specs.Said.{giving, in_place, load_in, taking}
use Rattle.bt_site.proofs.Told.{told}
use Rattle.bt_machines.specs.Turn.{attempt, act_of, is_before}
use Rattle.bt_site.specs.Event.{Opening, Event, Tick, Turn, Second, Ordered, Deliver, Frame, ResetTerminal, RestartCentre, Install, Happening, Turns, Hears}
use Rattle.bt_site.specs.Fits.{HasPlan, IsInTime, AreStored, IsPlace, IsWorld}
use Rattle.bt_machines.specs.Plans.{IsStored, has_burst, plan_of, modes_of, bursts_for}
use Rattle.bt_site.specs.World.{mark, plans, accepted, wanted, orders, kept, noting, known_now, terminals, is_missing, is_asking, sent_by_satellite, sent_by_terminal, sent_with, sent, joining_with, announced, is_told, where_told, held, held_by, last_heard, sight, act, comes_to, log}
use Rattle.bt_machines.specs.Says.{carried, plans_for, order_again, last_plans, sent_by_act, sent_to_asking, sent_by_order, confirms}
use Rattle.bt_machines.specs.CentreSteps.{with_wanted}
use Rattle.bt_site.proofs.Banks.{world-planned}
use Rattle.bt_site.proofs.Carried.{planned-word, modes-carried, bursts-carried}
use Rattle.bt_site.proofs.WorldPlans.{flies-each, plans-flyable}
use Rattle.bt_site.proofs.Counted.{IsNumbered, world-counted}

-- each field of the message, but for its modes and bursts, is in its range
abbrev pub Fits : Aired → Type 0
Fits (sends.Load command edition) = IsCommand command × IsWord edition.0
Fits (sends.Arm command edition due) = IsCommand command × IsWord edition.0 × IsDue due
Fits (sends.Status status) = IsStatus status
Fits (sends.PlanFor to load edition) = IsTerminalNumber to × IsWord load.0 × IsWord edition.0
Fits (sends.Confirm from load edition) = IsTerminalNumber from × IsWord load.0 × IsWord edition.0
Fits (sends.Reference superframe in_force next) = IsMark superframe × IfSome in_force (λ edition. IsWord edition.0) × IfSome next IsArmed
Fits (sends.Lost from) = IsTerminalNumber from

-- so is each field of an order that was accepted
abbrev pub Taken : Order → Type 0
Taken (Load command edition) = IsCommand command × IsWord edition.0
Taken (Arm command edition due) = IsCommand command × IsWord edition.0 × IsDue due

-- and of one that was placed, but for the superframe
abbrev pub Placed : Order → Type 0
Placed order = IsCommand (command_of order) × IsWord (edition_ordered order).0

-- the edition fits four bytes
abbrev pub IsEdition : EditionNo → Type 0
IsEdition edition = IsWord edition.0

-- the Load for which bursts came fits four bytes
abbrev pub IsLoad : Command → Type 0
IsLoad load = IsWord load.0

abbrev pub IsHeld : Holding → Type 0
IsHeld one = IsWord one.load.0

-- what the satellite tells of orders that fit
last-fits : (taken : List Order) → All Taken taken → IsWord (last_command taken).0
last-fits [] fit = (omega arith, omega arith)
last-fits (Load command edition ∷ earlier) fit = let one = All-head Taken (Load command edition) earlier fit in (omega arith, one.0.1)
last-fits (Arm command edition due ∷ earlier) fit = let one = All-head Taken (Arm command edition due) earlier fit in (omega arith, one.0.1)

arm-fits : (taken : List Order) → All Taken taken → IfSome (last_arm taken) IsArmed
arm-fits [] fit = tt
arm-fits (Load command edition ∷ earlier) fit = arm-fits earlier (All-tail Taken (Load command edition) earlier fit)
arm-fits (Arm command edition due ∷ earlier) fit = let one = All-head Taken (Arm command edition due) earlier fit in record { edition = one.1; due = one.2 }

-- either of two editions that fit
either : (P : EditionNo → Type 0) (a b : EditionNo) (test : Bool) → P a → P b → P (if test then a else b)
either P a b true x y = x
either P a b false x y = y

pub front-fits : (taken : List Order) (now : ℕ) → All Taken taken → IsWord (fore_at taken now).0
front-fits [] now fit = (omega arith, omega arith)
front-fits (Load command edition ∷ earlier) now fit = front-fits earlier now (All-tail Taken (Load command edition) earlier fit)
front-fits (Arm command edition due ∷ earlier) now fit =
    let one = All-head Taken (Arm command edition due) earlier fit in
    either IsEdition edition (fore_at earlier now) (nat_le due.0 now) one.1 (front-fits earlier now (All-tail Taken (Arm command edition due) earlier fit))

come-if : (armed : Armed) (test : Bool) → IsArmed armed → IfSome (if test then None else Some armed) IsArmed
come-if armed true fits = tt
come-if armed false fits = fits

come-fits : (armed : Option Armed) (now : ℕ) → IfSome armed IsArmed → IfSome (to_come armed now) IsArmed
come-fits None now fits = tt
come-fits (Some armed) now fits = come-if armed (nat_le armed.due.0 now) fits

edition-fits : (armed : Option Armed) → IfSome armed IsArmed → IsWord (edition_of armed).0
edition-fits None fits = (omega arith, omega arith)
edition-fits (Some armed) fits = fits.edition

ready-fits : (taken : List Order) → All Taken taken → IsWord (ready_after taken).0
ready-fits [] fit = (omega arith, omega arith)
ready-fits (Load command edition ∷ earlier) fit = let one = All-head Taken (Load command edition) earlier fit in one.1
ready-fits (Arm command edition due ∷ earlier) fit = edition-fits (last_arm earlier) (arm-fits earlier (All-tail Taken (Arm command edition due) earlier fit))

back-fits : (armed : Option Armed) (taken : List Order) → IfSome armed IsArmed → All Taken taken → IsWord (back_with armed taken).0
back-fits None taken fits fit = ready-fits taken fit
back-fits (Some armed) taken fits fit = fits.edition

telling-fits : (taken : List Order) (now : ℕ) → now ≤ 4000000000 → All Taken taken → IsStatus (telling taken now)
telling-fits taken now begun fit =
    let coming = come-fits (last_arm taken) now (arm-fits taken fit) in
    record {
      mark = (omega arith, begun);
      fore = front-fits taken now fit;
      back = back-fits (to_come (last_arm taken) now) taken coming fit;
      armed = coming;
      last = last-fits taken fit;
    }

-- what the centre knows by a status that fits
told-fits : (armed : Option Armed) (fore : EditionNo) (now : ℕ) → IfSome armed IsArmed → IsWord fore.0 → IsWord (told_fore armed fore now).0
told-fits None fore now fits word = word
told-fits (Some armed) fore now fits word = either IsEdition armed.edition fore (nat_le armed.due.0 now) fits.edition word

known-if : (edition : EditionNo) (test : Bool) → IsWord edition.0 → IfSome (if test then None else Some edition) IsEdition
known-if edition true word = tt
known-if edition false word = word

pub known-fits : (status : Option Status) (placed : List Order) (now : ℕ) → IfSome status IsStatus → IfSome (known status placed now) IsEdition
known-fits None placed now fits = tt
known-fits (Some status) placed now fits =
    known-if (told_fore status.armed status.fore now) (list_any (is_unseen status now) placed) (told-fits status.armed status.fore now fits.armed fits.fore)

later-if : (old new : Status) (test : Bool) → IsStatus old → IsStatus new → IsStatus (if test then new else old)
later-if old new true a b = b
later-if old new false a b = a

pub later-fits : (before : Option Status) (status : Status) → IfSome before IsStatus → IsStatus status → IsStatus (later_of before status)
later-fits None status keeps fits = fits
later-fits (Some old) status keeps fits = later-if old status (is_later status old) keeps fits

noted-fits : (before : Option Status) (one : Option Aired) → IfSome before IsStatus → IfSome one Fits → IfSome (noting before one) IsStatus
noted-fits before None keeps fits = keeps
noted-fits before (Some (sends.Status status)) keeps fits = later-fits before status keeps fits
noted-fits before (Some (sends.Load command edition)) keeps fits = keeps
noted-fits before (Some (sends.Arm command edition due)) keeps fits = keeps
noted-fits before (Some (sends.PlanFor to load edition)) keeps fits = keeps
noted-fits before (Some (sends.Confirm from load edition)) keeps fits = keeps
noted-fits before (Some (sends.Reference superframe in_force next)) keeps fits = keeps
noted-fits before (Some (sends.Lost from)) keeps fits = keeps

-- what the satellite takes of a message that fits
load-taken : (order : Order) (stale armed : Bool) → Taken order → All Taken (if stale then [] else (if armed then [] else order ∷ []))
load-taken order true armed fits = All-nil Taken
load-taken order false true fits = All-nil Taken
load-taken order false false fits = All-cons Taken order [] fits (All-nil Taken)

arm-taken : (order : Order) (stale armed missing late : Bool) → Taken order
    → All Taken (if stale then [] else (if armed then [] else (if missing then [] else (if late then [] else order ∷ []))))
arm-taken order true armed missing late fits = All-nil Taken
arm-taken order false true missing late fits = All-nil Taken
arm-taken order false false true late fits = All-nil Taken
arm-taken order false false false true fits = All-nil Taken
arm-taken order false false false false fits = All-cons Taken order [] fits (All-nil Taken)

joining-fits : (taken : List Order) (now : ℕ) (all : List Plan) (one : Option Aired) → IfSome one Fits → All Taken (joining_with taken now all one)
joining-fits taken now all None fits = All-nil Taken
joining-fits taken now all (Some (sends.Load command edition)) fits =
    load-taken (Load command edition) (nat_le command.0 (last_command taken).0) (is_armed (to_come (last_arm taken) now)) fits
joining-fits taken now all (Some (sends.Arm command edition due)) fits =
    arm-taken (Arm command edition due) (nat_le command.0 (last_command taken).0) (is_armed (to_come (last_arm taken) now))
    (not ((back_with (to_come (last_arm taken) now) taken).0 == edition.0)) (nat_le due.0 now) fits
joining-fits taken now all (Some (sends.Status status)) fits = All-nil Taken
joining-fits taken now all (Some (sends.PlanFor to load edition)) fits = All-nil Taken
joining-fits taken now all (Some (sends.Confirm from load edition)) fits = All-nil Taken
joining-fits taken now all (Some (sends.Reference superframe in_force next)) fits = All-nil Taken
joining-fits taken now all (Some (sends.Lost from)) fits = All-nil Taken

satellite-fits : (more before : List Order) (now : ℕ) → now ≤ 4000000000 → All Taken (more ++ before) → All Fits (sent_by_satellite more before now)
satellite-fits [] before now begun fit = All-nil Fits
satellite-fits (first ∷ rest) before now begun fit = All-cons Fits (sends.Status (telling (first ∷ rest ++ before) now)) [] (telling-fits (first ∷ rest ++ before) now begun fit) (All-nil Fits)

-- what a terminal holds
if-held : (test : Bool) (a b : Holding) → IsHeld a → IsHeld b → IsHeld (if test then a else b)
if-held true a b p q = p
if-held false a b p q = q

if-all : (test : Bool) (a b : List Holding) → All IsHeld a → All IsHeld b → All IsHeld (if test then a else b)
if-all true a b p q = p
if-all false a b p q = q

pair-held : (a b : Holding) → IsHeld a → IsHeld b → All IsHeld (a ∷ b ∷ [])
pair-held a b p q = All-cons IsHeld a (b ∷ []) p (All-cons IsHeld b [] q (All-nil IsHeld))

raised-held : (one : Holding) (load : Command) → IsHeld one → IsLoad load → IsHeld (raised one load)
raised-held one load held fits = if-held _ (for_load one load) one fits held

giving-held : (told : Option Reference) (now : ℕ) (a b new : Holding) → IsHeld a → IsHeld b → IsHeld new → All IsHeld (giving told now a b new)
giving-held told now a b new p q r =
    if-all (is_in_use told now a.edition && is_in_use told now b.edition) (a ∷ b ∷ []) (if second_gives told now a b then a ∷ in_place b new ∷ [] else in_place a new ∷ b ∷ []) (pair-held a b p q)
    (if-all (second_gives told now a b) (a ∷ in_place b new ∷ []) (in_place a new ∷ b ∷ []) (pair-held a (in_place b new) p (if-held _ b new q r)) (pair-held (in_place a new) b (if-held _ a new p r) q))

taking-held : (all : List Holding) (told : Option Reference) (now : ℕ) (new : Holding) → All IsHeld all → IsHeld new → All IsHeld (taking all told now new)
taking-held [] told now new held r = All-cons IsHeld new [] r (All-nil IsHeld)
taking-held (a ∷ []) told now new held r =
    let p = All-head IsHeld a [] held in
    if-all _ (raised a new.load ∷ []) (a ∷ new ∷ []) (All-cons IsHeld (raised a new.load) [] (raised-held a new.load p r) (All-nil IsHeld)) (pair-held a new p r)
taking-held (a ∷ b ∷ rest) told now new held r =
    let p = All-head IsHeld a (b ∷ rest) held in
    let others = All-tail IsHeld a (b ∷ rest) held in
    let q = All-head IsHeld b rest others in
    let last = All-tail IsHeld b rest others in
    if-all (a.edition.0 == new.edition.0) (raised a new.load ∷ b ∷ rest) (if b.edition.0 == new.edition.0 then a ∷ raised b new.load ∷ rest else giving told now a b new) (All-cons IsHeld (raised a new.load) (b ∷ rest) (raised-held a new.load p r) others)
    (if-all (b.edition.0 == new.edition.0) (a ∷ raised b new.load ∷ rest) (giving told now a b new) (All-cons IsHeld a (raised b new.load ∷ rest) p (All-cons IsHeld (raised b new.load) rest (raised-held b new.load q r) last))
    (giving-held told now a b new p q r))

held-by-fits : (before : List Holding) (told : Option Reference) (now : ℕ) (terminal : TermNo) (one : Option Aired) → All IsHeld before → IfSome one Fits → All IsHeld (held_by before told now terminal one)
held-by-fits before told now terminal None held fits = held
held-by-fits before told now terminal (Some (sends.PlanFor to load edition)) held fits =
    if-all _ (taking before told now (record { load = load; edition = edition })) before (taking-held before told now (record { load = load; edition = edition }) held fits.1) held
held-by-fits before told now terminal (Some (sends.Status status)) held fits = held
held-by-fits before told now terminal (Some (sends.Load command edition)) held fits = held
held-by-fits before told now terminal (Some (sends.Arm command edition due)) held fits = held
held-by-fits before told now terminal (Some (sends.Confirm from load edition)) held fits = held
held-by-fits before told now terminal (Some (sends.Reference superframe in_force next)) held fits = held
held-by-fits before told now terminal (Some (sends.Lost from)) held fits = held

load-if : (load : Command) (rest : Option Command) (test : Bool) → IsLoad load → IfSome rest IsLoad → IfSome (if test then Some load else rest) IsLoad
load-if load rest true p q = p
load-if load rest false p q = q

load-fits : (all : List Holding) (edition : EditionNo) → All IsHeld all → IfSome (load_in all edition) IsLoad
load-fits [] edition held = tt
load-fits (one ∷ rest) edition held =
    load-if one.load (load_in rest edition) (one.edition.0 == edition.0) (All-head IsHeld one rest held) (load-fits rest edition (All-tail IsHeld one rest held))

-- what a terminal confirms
confirms-fit : (to : TermNo) (edition : EditionNo) (load : Option Command) → IsTerminalNumber to → IfSome load IsLoad → IsWord edition.0 → All Fits (confirms to edition load)
confirms-fit to edition None number fits word = All-nil Fits
confirms-fit to edition (Some load) number fits word = All-cons Fits (sends.Confirm to load edition) [] (number, fits, word) (All-nil Fits)

confirm-if : (to : TermNo) (edition : EditionNo) (load : Option Command) (test : Bool) → IsTerminalNumber to → IfSome load IsLoad → IsWord edition.0
    → All Fits (if test then confirms to edition load else [])
confirm-if to edition load true number fits word = confirms-fit to edition load number fits word
confirm-if to edition load false number fits word = All-nil Fits

terminal-fits : (after : List Holding) (to : TermNo) (one : Option Aired) → IsTerminalNumber to → All IsHeld after → IfSome one Fits → All Fits (sent_by_terminal after to one)
terminal-fits after to None number held fits = All-nil Fits
terminal-fits after to (Some (sends.PlanFor other load edition)) number held fits = confirm-if to edition (load_in after edition) _ number (load-fits after edition held) fits.2
terminal-fits after to (Some (sends.Status status)) number held fits = All-nil Fits
terminal-fits after to (Some (sends.Load command edition)) number held fits = All-nil Fits
terminal-fits after to (Some (sends.Arm command edition due)) number held fits = All-nil Fits
terminal-fits after to (Some (sends.Confirm from load edition)) number held fits = All-nil Fits
terminal-fits after to (Some (sends.Reference superframe in_force next)) number held fits = All-nil Fits
terminal-fits after to (Some (sends.Lost from)) number held fits = All-nil Fits

-- the terminals of a network
terminals-fit : (o : Opening) → length o.net.terminals ≤ 64 → All IsTerminalNumber (terminals o)
terminals-fit o few = All-map IsTerminalNumber (λ (n : ℕ). record { 0 = n }) (range_with_len 0 (length o.net.terminals)) (λ k d within.
    let below : k < length o.net.terminals = omega (arith, length-range_with_len 0 (length o.net.terminals)) in
    let at = get_or-range_with_len 0 (length o.net.terminals) k d below in
    (omega arith, omega (arith, at)))

plans-fit : (to : List TermNo) (load : Command) (edition : EditionNo) → All IsTerminalNumber to → IsLoad load → IsWord edition.0 → All Fits (plans_for to load edition)
plans-fit to load edition numbers fits word = All-map Fits (λ (terminal : TermNo). sends.PlanFor terminal load edition) to (λ k d h. (numbers k d h, fits, word))

-- what the centre sends again is a Load, or an Arm that is not of the first superframe
abbrev pub MayRepeat : List Order → Type 0
MayRepeat (Arm command edition due ∷ earlier) = 1 ≤ due.0
MayRepeat _ = Unit {0}

abbrev pub Acts : List Order → Act → Type 0
Acts placed (RepeatLoad load) = MayRepeat placed
Acts placed RepeatArm = MayRepeat placed
Acts placed _ = Unit {0}

any-acts : (placed : List Order) (act : Act) → MayRepeat placed → Acts placed act
any-acts placed Quiet may = tt
any-acts placed (RepeatLoad load) may = may
any-acts placed RepeatArm may = may
any-acts placed (Want order) may = tt

attempt-if : (placed : List Order) (order : Order) (test : Bool) → Acts placed (if test then Quiet else Want order)
attempt-if placed order true = tt
attempt-if placed order false = tt

attempt-acts : (placed : List Order) (found : Option EditionNo) (target : EditionNo) (last : ℕ) → Acts placed (attempt found target last)
attempt-acts placed None target last = tt
attempt-acts placed (Some fore) target last = attempt-if placed _ (target.0 == fore.0)

later-due : (a : Bool) (now due : ℕ) → (a && nat_lt now due) ≡ true → 1 ≤ due
later-due true now due e = grind (arith, nat_tests)
later-due false now due e = cc

wait-acts : (status : Status) (now : ℕ) (command : Command) (edition : EditionNo) (due : Mark) (earlier : List Order) (found : Option EditionNo) (target : EditionNo) (repeats waits : Bool)
    → (is_before status due.0 && nat_lt now due.0) ≡ repeats
    → Acts (Arm command edition due ∷ earlier) (if repeats then RepeatArm else (if waits then Quiet else attempt found target command.0))
wait-acts status now command edition due earlier found target true waits e = later-due (is_before status due.0) now due.0 e
wait-acts status now command edition due earlier found target false true e = tt
wait-acts status now command edition due earlier found target false false e = attempt-acts (Arm command edition due ∷ earlier) found target command.0

pub act-acts : (turn : Sight) (next : Option Order) (status : Option Status) (placed : List Order) → Acts placed (act_of turn next status (last_order placed))
act-acts turn (Some order) status placed = tt
act-acts turn None None placed = tt
act-acts turn None (Some status) [] = any-acts [] (act_of turn None (Some status) None) tt
act-acts turn None (Some status) (Load command edition ∷ earlier) =
    any-acts (Load command edition ∷ earlier) (act_of turn None (Some status) (Some (Load command edition))) tt
act-acts turn None (Some status) (Arm command edition due ∷ earlier) = wait-acts status turn.mark.0 command edition due earlier turn.in_force turn.target _ (is_before status due.0) refl

-- a command fits four bytes
pub command-word : (command : Command) → IsCommand command → IsLoad command
command-word command is = (omega arith, is.1)

greater-word : (a b : Command) (test : Bool) → IsLoad a → IsLoad b → IsLoad (if test then b else a)
greater-word a b true p q = q
greater-word a b false p q = p

with-word : (a b : Command) (test : Bool) → IsLoad a → IsLoad b → IsLoad (if test then greater_of a b else b)
with-word a b true p q = greater-word a b _ p q
with-word a b false p q = q

pub load_of-word : (placed : List Order) (edition : EditionNo) → All Placed placed → IsLoad (load_of placed edition)
load_of-word [] edition fit = (omega arith, omega arith)
load_of-word (Load command loaded ∷ earlier) edition fit =
    let one = All-head Placed (Load command loaded) earlier fit in
    with-word command (load_of earlier edition) (loaded.0 == edition.0) (command-word command one.0) (load_of-word earlier edition (All-tail Placed (Load command loaded) earlier fit))
load_of-word (Arm command loaded due ∷ earlier) edition fit = load_of-word earlier edition (All-tail Placed (Arm command loaded due) earlier fit)

-- what is announced
next-if : (now : ℕ) (edition : EditionNo) (due : Mark) (test : Bool) → nat_lt now due.0 ≡ test → IsWord edition.0 → due.0 ≤ 4000000000
    → IfSome (if test then Some (record { edition = edition; due = due }) else None) IsArmed
next-if now edition due true e word late = record { edition = word; due = (grind (arith, nat_tests), late) }
next-if now edition due false e word late = tt

pub next-fits : (placed : List Order) (now : ℕ) → All Placed placed → All IsInTime placed → IfSome (next_of (last_order placed) now) IsArmed
next-fits [] now fit in_time = tt
next-fits (Load command edition ∷ earlier) now fit in_time = tt
next-fits (Arm command edition due ∷ earlier) now fit in_time =
    let one = All-head Placed (Arm command edition due) earlier fit in
    next-if now edition due _ refl one.1 (All-head IsInTime (Arm command edition due) earlier in_time)

-- what a Status told
told-if : (all : List Aired) (now : ℕ) (edition : EditionNo) (test : Bool) → is_told all now edition ≡ test → All Fits all → IfSome (if test then Some edition else None) IsEdition
told-if all now edition true e each = let found = told Fits now edition all e each in subst IsEdition found.fore found.holds.fore
told-if all now edition false e each = tt

told-fit : (all : List Aired) (now : ℕ) (in_force : Option EditionNo) → All Fits all → IfSome (where_told all now in_force) IsEdition
told-fit all now None each = tt
told-fit all now (Some edition) each = told-if all now edition _ refl each

-- what an act sends
again-fits : (placed : List Order) → MayRepeat placed → All Placed placed → All IsInTime placed → All Fits (order_again placed)
again-fits [] may placed in_time = All-nil Fits
again-fits (Load command edition ∷ earlier) may placed in_time =
    let one = All-head Placed (Load command edition) earlier placed in All-cons Fits (sends.Load command edition) [] one (All-nil Fits)
again-fits (Arm command edition due ∷ earlier) may placed in_time =
    let one = All-head Placed (Arm command edition due) earlier placed in
    let late = All-head IsInTime (Arm command edition due) earlier in_time in
    All-cons Fits (sends.Arm command edition due) [] (one.0, one.1, (may, late)) (All-nil Fits)

last-plans-fit : (placed : List Order) (to : List TermNo) → All IsTerminalNumber to → All Placed placed → All Fits (last_plans placed to)
last-plans-fit [] to numbers placed = All-nil Fits
last-plans-fit (Load command edition ∷ earlier) to numbers placed = let one = All-head Placed (Load command edition) earlier placed in plans-fit to command edition numbers (command-word command one.0) one.1
last-plans-fit (Arm command edition due ∷ earlier) to numbers placed = All-nil Fits

act-fits : (placed : List Order) (missing : List TermNo) (act : Act) → Acts placed act → All IsTerminalNumber missing → All Placed placed → All IsInTime placed
    → All Fits (sent_by_act placed missing act)
act-fits placed missing Quiet may numbers fit in_time = All-nil Fits
act-fits placed missing (RepeatLoad true) may numbers fit in_time =
    All-append Fits (order_again placed) (last_plans placed missing) (again-fits placed may fit in_time) (last-plans-fit placed missing numbers fit)
act-fits placed missing (RepeatLoad false) may numbers fit in_time = last-plans-fit placed missing numbers fit
act-fits placed missing RepeatArm may numbers fit in_time = again-fits placed may fit in_time
act-fits placed missing (Want order) may numbers fit in_time = All-nil Fits

asking-fits : (found : Option EditionNo) (placed : List Order) (all : List Plan) (asking : List TermNo) → IfSome found IsEdition → All Placed placed → All IsTerminalNumber asking
    → All Fits (sent_to_asking found placed all asking)
asking-fits None placed all asking word fit numbers = All-nil Fits
asking-fits (Some edition) placed all asking word fit numbers =
    let test = has_burst (plan_of all edition) in
    plans-fit (filter test asking) (load_of placed edition) edition (All-filter test IsTerminalNumber asking numbers) (load_of-word placed edition fit) word

-- what is sent with an order that joins
order-fits : (all : List Plan) (everyone : List TermNo) (order : Option Order) → All IsTerminalNumber everyone → IfSome order Taken → All Fits (sent_by_order all everyone order)
order-fits all everyone None numbers fits = All-nil Fits
order-fits all everyone (Some (Load command edition)) numbers fits =
    let test = has_burst (plan_of all edition) in
    All-cons Fits (sends.Load command edition) _ fits (plans-fit (filter test everyone) command edition (All-filter test IsTerminalNumber everyone numbers) (command-word command fits.0) fits.1)
order-fits all everyone (Some (Arm command edition due)) numbers fits = All-cons Fits (sends.Arm command edition due) [] fits (All-nil Fits)

-- the orders that were placed fit where there are few of them, each for an edition of a stored plan
pub numbered-fits : (all : List Plan) (placed : List Order) → All IsStored all → AreNumbered placed → All (HasPlan all) placed → length placed ≤ 4294967295 → All Placed placed
numbered-fits all [] stored numbered planned few = All-nil Placed
numbered-fits all (order ∷ earlier) stored numbered planned few =
    let plan = All-head (HasPlan all) order earlier planned in
    let more : suc (length earlier) ≤ 4294967295 = few in
    All-cons Placed order earlier ((omega (arith, numbered.0), omega (arith, numbered.0, more)), planned-word all (edition_ordered order) stored plan)
    (numbered-fits all earlier stored numbered.1 (All-tail (HasPlan all) order earlier planned) (omega (arith, more)))

pub wanted-fits : (all : List Plan) (placed : List Order) (order : Option Order) → All IsStored all → IfSome order (IsNumbered placed) → IfSome order (HasPlan all)
    → length (with_wanted order placed) ≤ 4294967295 → IfSome order Taken
wanted-fits all placed None stored next planned few = tt
wanted-fits all placed (Some (Load command edition)) stored next planned few =
    let more : suc (length placed) ≤ 4294967295 = few in ((omega (arith, next.0), omega (arith, next.0, more)), planned-word all edition stored planned)
wanted-fits all placed (Some (Arm command edition due)) stored next planned few =
    let more : suc (length placed) ≤ 4294967295 = few in ((omega (arith, next.0), omega (arith, next.0, more)), planned-word all edition stored planned, next.1)

-- all that fits
pub record AllFit (taken : List Order) (all : List Aired) (status : Option Status) (holds : TermNo → List Holding) : Type 0 where
  pub each : All Fits all
  pub accepted : All Taken taken
  pub keeps : IfSome status IsStatus
  pub held : (terminal : TermNo) → All IsHeld (holds terminal)

-- further messages that fit
more-fit : (taken : List Order) (all more : List Aired) (status : Option Status) (holds : TermNo → List Holding) → AllFit taken all status holds → All Fits more → AllFit taken (all ++ more) status holds
more-fit taken all more status holds fit good = record { each = All-append Fits all more fit.each good; accepted = fit.accepted; keeps = fit.keeps; held = fit.held }

restarted-fit : (taken : List Order) (all : List Aired) (status : Option Status) (holds : TermNo → List Holding) → AllFit taken all status holds → AllFit taken (all ++ []) None holds
restarted-fit taken all status holds fit = record { each = All-append Fits all [] fit.each (All-nil Fits); accepted = fit.accepted; keeps = tt; held = fit.held }

-- what was sent fits, wherever it is looked up
pub found-fits : (all : List Aired) (number : ℕ) → All Fits all → IfSome (slice_get all number) Fits
found-fits [] number each = tt
found-fits (first ∷ rest) zero each = All-head Fits first rest each
found-fits (first ∷ rest) (suc number) each = found-fits rest number (All-tail Fits first rest each)

-- an order that joins makes the orders no fewer
fewer : (order : Option Order) (placed : List Order) → length (with_wanted order placed) ≤ 4294967295 → length placed ≤ 4294967295
fewer None placed few = few
fewer (Some order) placed few = let more : suc (length placed) ≤ 4294967295 = few in omega arith

-- what was so before an event
pub stored-before : (o : Opening) (past : List Happening) (event : Event) → AreStored o (comes_to o past event ∷ past) → AreStored o past
stored-before o past Tick stored = record { plans = stored.plans; orders = stored.orders }
stored-before o past (Turn target) stored = record { plans = stored.plans; orders = stored.orders }
stored-before o past (Second in_force) stored = record { plans = stored.plans; orders = stored.orders }
stored-before o past Ordered stored = record { plans = stored.plans; orders = (omega arith, fewer (wanted past) (orders o past) stored.orders.1) }
stored-before o past (Deliver number place) stored = record { plans = stored.plans; orders = stored.orders }
stored-before o past Frame stored = record { plans = stored.plans; orders = stored.orders }
stored-before o past (ResetTerminal terminal) stored = record { plans = stored.plans; orders = stored.orders }
stored-before o past (RestartCentre true) stored = record { plans = stored.plans; orders = (omega arith, fewer (wanted past) (orders o past) stored.orders.1) }
stored-before o past (RestartCentre false) stored = record { plans = stored.plans; orders = stored.orders }
stored-before o past (Install plan) stored = record { plans = All-tail IsStored plan (plans o past) stored.plans; orders = stored.orders }

-- a message is heard
hears-fit : (o : Opening) (past : List Happening) (one : Option Aired) (place : Place) → mark o past ≤ 4000000000 → length o.net.terminals ≤ 64 → IsPlace o place → IfSome one Fits
    → AllFit (accepted o past) (sent o past) (kept past) (held o past)
    → AllFit (accepted o (Hears one place ∷ past)) (sent o (Hears one place ∷ past)) (kept (Hears one place ∷ past)) (held o (Hears one place ∷ past))
hears-fit o past one Satellite begun few is fits fit =
    let more = joining_with (accepted o past) (mark o past) (plans o past) one in
    let good = All-append Taken more (accepted o past) (joining-fits (accepted o past) (mark o past) (plans o past) one fits) fit.accepted in
    record {
      each = All-append Fits (sent o past) (sent_by_satellite more (accepted o past) (mark o past)) fit.each (satellite-fits more (accepted o past) (mark o past) begun good);
      accepted = good;
      keeps = fit.keeps;
      held = fit.held;
    }
hears-fit o past one Centre begun few is fits fit =
    record { each = All-append Fits (sent o past) [] fit.each (All-nil Fits); accepted = fit.accepted; keeps = noted-fits (kept past) one fit.keeps fits; held = fit.held }
hears-fit o past one (Terminal to) begun few is fits fit =
    let after = λ (number : TermNo). held_by (held o past number) (last_heard o past number) (mark o past) number one in
    let good : (number : TermNo) → All IsHeld (after number) = λ number. held-by-fits (held o past number) (last_heard o past number) (mark o past) number one (fit.held number) fits in
    record {
      each = All-append Fits (sent o past) (sent_with o past (Hears one (Terminal to))) fit.each
          (terminal-fits (after to) to one (omega arith, omega (arith, is, few)) (good to) fits);
      accepted = fit.accepted;
      keeps = fit.keeps;
      held = λ number. if-all (to.0 == number.0) (after number) (held o past number) (good number) (fit.held number);
    }

-- a turn
turn-fits : (o : Opening) (past : List Happening) (target : EditionNo) → mark o past ≤ 4000000000 → length o.net.terminals ≤ 64 → All Placed (orders o past) → All IsInTime (orders o past)
    → AllFit (accepted o past) (sent o past) (kept past) (held o past) → All Fits (sent_with o past (Turns target (act o past target)))
turn-fits o past target begun few placed in_time fit =
    let all = terminals-fit o few in
    let known = known-fits (kept past) (orders o past) (mark o past) fit.keeps in
    let missing = filter (is_missing o past) (terminals o) in
    let asking = filter (is_asking o past) (terminals o) in
    All-cons Fits (sends.Reference (record { 0 = mark o past }) (known_now o past) (announced o past)) (sent_by_act (orders o past) missing (act o past target) ++ sent_to_asking (known_now o past) (orders o past) (plans o past) asking)
    ((omega arith, begun), known, next-fits (orders o past) (mark o past) placed in_time)
    (All-append Fits (sent_by_act (orders o past) missing (act o past target)) (sent_to_asking (known_now o past) (orders o past) (plans o past) asking)
    (act-fits (orders o past) missing (act o past target) (act-acts (sight o past target) (wanted past) (kept past) (orders o past)) (All-filter (is_missing o past) IsTerminalNumber (terminals o) all) placed in_time)
    (asking-fits (known_now o past) (orders o past) (plans o past) asking known placed (All-filter (is_asking o past) IsTerminalNumber (terminals o) all)))

-- whatever happens
event-fits : (o : Opening) (earlier : List Event) (event : Event) → IsSound o.net → IsWorld o (event ∷ earlier) → AreStored o (log o (event ∷ earlier))
    → AllFit (accepted o (log o earlier)) (sent o (log o earlier)) (kept (log o earlier)) (held o (log o earlier))
    → AllFit (accepted o (log o (event ∷ earlier))) (sent o (log o (event ∷ earlier))) (kept (log o (event ∷ earlier))) (held o (log o (event ∷ earlier)))
event-fits o earlier Tick sound world stored fit =
    let past = log o earlier in
    let status = telling (accepted o past) (mark o past + 1) in
    more-fit (accepted o past) (sent o past) (sends.Status status ∷ []) (kept past) (held o past) fit
    (All-cons Fits (sends.Status status) [] (telling-fits (accepted o past) (mark o past + 1) (omega (arith, world.0)) fit.accepted) (All-nil Fits))
event-fits o earlier (Turn target) sound world stored fit =
    let past = log o earlier in
    let counted = world-counted o earlier sound world.1 in
    let placed = numbered-fits (plans o past) (orders o past) stored.plans counted.numbered (world-planned o earlier world.1).placed stored.orders.1 in
    more-fit (accepted o past) (sent o past) (sent_with o past (Turns target (act o past target))) (kept past) (held o past) fit
    (turn-fits o past target counted.begun sound.terminals.count.1 placed counted.in_time fit)
event-fits o earlier (Second in_force) sound world stored fit =
    let past = log o earlier in
    let named = where_told (sent o past) (mark o past) in_force in
    more-fit (accepted o past) (sent o past) (sends.Reference (record { 0 = mark o past }) named None ∷ []) (kept past) (held o past) fit
    (All-cons Fits (sends.Reference (record { 0 = mark o past }) named None) []
    ((omega arith, (world-counted o earlier sound world.1).begun), told-fit (sent o past) (mark o past) in_force fit.each, tt) (All-nil Fits))
event-fits o earlier Ordered sound world stored fit =
    let past = log o earlier in
    let counted = world-counted o earlier sound world.1 in
    more-fit (accepted o past) (sent o past) (sent_by_order (plans o past) (terminals o) (wanted past)) (kept past) (held o past) fit
    (order-fits (plans o past) (terminals o) (wanted past) (terminals-fit o sound.terminals.count.1)
    (wanted-fits (plans o past) (orders o past) (wanted past) stored.plans counted.next (world-planned o earlier world.1).next stored.orders.1))
event-fits o earlier (Deliver number place) sound world stored fit =
    let past = log o earlier in
    hears-fit o past (slice_get (sent o past) number) place (world-counted o earlier sound world.1).begun sound.terminals.count.1 world.0.1 (found-fits (sent o past) number fit.each) fit
event-fits o earlier Frame sound world stored fit =
    let past = log o earlier in more-fit (accepted o past) (sent o past) [] (kept past) (held o past) fit (All-nil Fits)
event-fits o earlier (ResetTerminal terminal) sound world stored fit =
    let past = log o earlier in
    let number : IsTerminalNumber terminal = (omega arith, omega (arith, world.0, sound.terminals.count.1)) in
    record {
      each = All-append Fits (sent o past) (sends.Lost terminal ∷ []) fit.each (All-cons Fits (sends.Lost terminal) [] number (All-nil Fits));
      accepted = fit.accepted;
      keeps = fit.keeps;
      held = λ one. if-all (terminal.0 == one.0) [] (held o past one) (All-nil IsHeld) (fit.held one);
    }
event-fits o earlier (RestartCentre true) sound world stored fit =
    let past = log o earlier in restarted-fit (accepted o past) (sent o past) (kept past) (held o past) fit
event-fits o earlier (RestartCentre false) sound world stored fit =
    let past = log o earlier in restarted-fit (accepted o past) (sent o past) (kept past) (held o past) fit
event-fits o earlier (Install plan) sound world stored fit =
    let past = log o earlier in more-fit (accepted o past) (sent o past) [] (kept past) (held o past) fit (All-nil Fits)

-- every world
pub world-fits : (o : Opening) (events : List Event) → IsSound o.net → IsWorld o events → AreStored o (log o events)
    → AllFit (accepted o (log o events)) (sent o (log o events)) (kept (log o events)) (held o (log o events))
world-fits o [] sound opening stored = record { each = All-nil Fits; accepted = All-nil Taken; keeps = tt; held = λ terminal. All-nil IsHeld }
world-fits o (event ∷ earlier) sound world stored =
    event-fits o earlier event sound world stored (world-fits o earlier sound world.1 (stored-before o (log o earlier) event stored))

-- a message is in range where its fields are, and its modes and bursts
in-range : (all : List Plan) → ((edition : EditionNo) → AreModes (modes_of (plan_of all edition)))
    → ((edition : EditionNo) (terminal : TermNo) → AreBurstsOf terminal (bursts_for terminal (plan_of all edition))) → (one : Aired) → Fits one → IsInRange (carried all one)
in-range all modes bursts (sends.Load command edition) fits = (fits.0, fits.1, modes edition)
in-range all modes bursts (sends.Arm command edition due) fits = fits
in-range all modes bursts (sends.Status status) fits = fits
in-range all modes bursts (sends.PlanFor to load edition) fits = (fits.0, fits.1, fits.2, bursts edition to)
in-range all modes bursts (sends.Confirm from load edition) fits = fits
in-range all modes bursts (sends.Reference superframe in_force next) fits = fits
in-range all modes bursts (sends.Lost from) fits = fits

-- by what is known of small plans
module _ (small_modes : (net : Net) (plan : Plan) → IsFlyable net plan → All (λ mode. IsWithin 1 4096 mode.duration) plan.schedule.modes)
    (few_modes : (net : Net) (plan : Plan) → IsFlyable net plan → length plan.schedule.modes ≤ 4096)
    (small_bursts : (net : Net) (plan : Plan) (terminal : TermNo) → IsFlyable net plan → All (IsSentBy net terminal) (bursts_from terminal plan.bursts))
    (few_bursts : (net : Net) (plan : Plan) (terminal : TermNo) → IsFlyable net plan → length (bursts_from terminal plan.bursts) ≤ 4096)
    (in_order : (bursts : List Burst) (terminal : TermNo) → AllPairs IsNotAfter bursts → AllPairs IsNotAfter (bursts_from terminal bursts)) where
  pub messages-in-range : (o : Opening) (events : List Event) → IsSound o.net → IsWorld o events → AreStored o (log o events)
      → All (λ (one : Aired). IsInRange (carried (plans o (log o events)) one)) (sent o (log o events))
  messages-in-range o events sound world stored =
      let past = log o events in
      let all = plans o past in
      let flyable = plans-flyable o events (flies-each o events world) in
      All-weaker Fits (λ (one : Aired). IsInRange (carried all one))
      (in-range all (λ edition. modes-carried small_modes few_modes small_bursts few_bursts in_order o.net all edition sound flyable)
      (λ edition terminal. bursts-carried small_modes few_modes small_bursts few_bursts in_order o.net all edition terminal sound flyable stored.plans))
      (sent o past) (world-fits o events sound world stored).each

-- What holds of every world: its messages are sound, and so is the status that the centre keeps.
use Rattle.std.proofs.Common.{◌≡◌, ◌⊎◌, inl, inr, ℕ, ◌+◌, ◌<◌, if◌then◌else◌, Bool, true, false, List, [], ◌∷◌, ◌++◌, All, Option, Some, None, filter, slice_get, refl, sym, ◌∙◌, ap, nat_lt, arith, zero, suc}
use Rattle.std.proofs.lemmas.List.Elements.{All-nil, All-cons, All-append, All-weaker, All-map, All-head, All-tail}
use Rattle.bt_frame.specs.declared.numbers.EditionNo.{EditionNo}
use Rattle.bt_frame.specs.declared.numbers.TermNo.{TermNo}
use Rattle.bt_demand.specs.declared.plan.Plan.{Plan}
use Rattle.bt_air.specs.declared.order.Order.{Order}
use Rattle.bt_air.specs.declared.order.Order.TheVariants.{Load, Arm}
use Rattle.bt_air.specs.declared.order.Status.{Status}
use Rattle.bt_air.specs.declared.sent.Act.{Act}
use Rattle.bt_air.specs.declared.sent.Act.TheVariants.{Quiet, RepeatLoad, RepeatArm, Want}
use Rattle.bt_air.specs.declared.sent.Place.{Place}
use Rattle.bt_air.specs.declared.sent.Place.TheVariants.{Satellite, Centre, Terminal}
use Rattle.bt_air.specs.declared.sent.Aired.{Aired}
use Rattle.bt_air.specs.declared.sent.Aired.TheVariants as sends
use Rattle.bt_air.specs.Orders.{fore_at, last_command, command_of}
use Rattle.bt_site.specs.Event.{Opening, Event, Tick, Turn, Second, Ordered, Deliver, Frame, ResetTerminal, RestartCentre, Install, Happening, Ticks, Turns, Seconds, Orders, Hears, Shows, Resets, Restarts, Installs}
use Rattle.bt_machines.specs.Orders.{telling}
use Rattle.bt_machines.specs.Known.{known, is_later, later_of}
use Rattle.bt_machines.specs.CentreSteps.{with_wanted}
use Rattle.bt_site.specs.World.{mark, plans, accepted, wanted, orders, kept, noting, known_now, terminals, is_missing, is_asking, sent_by_satellite, announced, is_told, where_told, sent_by_terminal, sent_with, sent, comes_to, log, joining_with, heard}
use Rattle.bt_machines.specs.Plans.{has_burst, plan_of}
use Rattle.bt_machines.specs.Says.{plans_for, order_again, last_plans, sent_by_act, sent_to_asking, sent_by_order, confirms}
use Rattle.std.specs.Prelude.{IfSome}
use Rattle.std.proofs.lemmas.Bool.Decides.{nat_tests}
use Rattle.bt_frame.specs.declared.numbers.Command.{Command}
use Rattle.bt_frame.specs.declared.numbers.Mark.{Mark}
use Rattle.bt_machines.specs.Last.{last_order, load_of, next_of}
use Rattle.bt_machines.specs.declared.burst_bank.Holding.{Holding}
use Rattle.bt_machines.specs.Said.{load_in}
use Rattle.bt_site.specs.Laws.{AnnouncesRight, IsAnnounced, IsRight, IsOrdered, ShowsFront, TellsFront, AreAmong, Ascend, IsAmong, IsNoneOr}
use Rattle.bt_site.proofs.Orders.{Settled, settled-later, free-past}
use Rattle.bt_site.proofs.Tells.{Tells, IsSound, NamesFront, MayJoin, tells-placed, sound-placed, tells-begun, sound-begun, tells-joined, sound-joined, tells-new}
use Rattle.bt_site.proofs.Told.{told}
use Rattle.bt_site.proofs.Joins.{Nothing, One, IsSoundIfAny, joined}

-- the status that is kept, if one is
abbrev pub KeepsSound : List Order → List Order → ℕ → Option Status → Type 0
KeepsSound placed taken now None = Unit {0}
KeepsSound placed taken now (Some status) = Tells placed taken now status

among-more : (order : Order) (placed taken : List Order) → AreAmong placed taken → AreAmong (order ∷ placed) taken
among-more order placed taken among = All-weaker (λ (one : Order). IsAmong one placed) (λ (one : Order). IsAmong one (order ∷ placed)) (λ (one : Order) h. inr h) taken among

may-among : (placed taken : List Order) (now : ℕ) (order : Order) → MayJoin placed taken now order → IsAmong order placed
may-among placed taken now (Load command edition) may = may.1
may-among placed taken now (Arm command edition due) may = may.2

may-later : (placed taken : List Order) (now : ℕ) (order : Order) → MayJoin placed taken now order → (last_command taken).0 < (command_of order).0
may-later placed taken now (Load command edition) may = may.0
may-later placed taken now (Arm command edition due) may = may.0

-- all that holds
pub record Stands (placed taken : List Order) (now : ℕ) (all : List Aired) (status : Option Status) : Type 0 where
  pub each : All (IsSound placed taken now) all
  pub keeps : KeepsSound placed taken now status
  pub settled : Settled taken now
  pub own : AreAmong placed taken
  pub ascend : Ascend taken

abbrev pub Holds : Opening → List Happening → Type 0
Holds o past = Stands (orders o past) (accepted o past) (mark o past) (sent o past) (kept past)

-- messages that are sound whatever happened
plans-sound : (placed taken : List Order) (now : ℕ) (to : List TermNo) (load : Command) (edition : EditionNo) → All (IsSound placed taken now) (plans_for to load edition)
plans-sound placed taken now to load edition = All-map (IsSound placed taken now) (λ (terminal : TermNo). sends.PlanFor terminal load edition) to (λ k d h. tt)

-- a superframe more
keeps-begun : (placed taken : List Order) (now : ℕ) (status : Option Status) → KeepsSound placed taken now status → KeepsSound placed taken (now + 1) status
keeps-begun placed taken now None keeps = tt
keeps-begun placed taken now (Some status) keeps = tells-begun placed taken now status keeps

begun : (placed taken : List Order) (now : ℕ) (all : List Aired) (status : Option Status) → Stands placed taken now all status
    → Stands placed taken (now + 1) (all ++ sends.Status (telling taken (now + 1)) ∷ []) status
begun placed taken now all status stands =
    let settled = settled-later taken now (now + 1) (omega arith) stands.settled in record {
      each = All-append (IsSound placed taken (now + 1)) all (sends.Status (telling taken (now + 1)) ∷ [])
          (All-weaker (IsSound placed taken now) (IsSound placed taken (now + 1)) (sound-begun placed taken now) all stands.each)
          (All-cons (IsSound placed taken (now + 1)) (sends.Status (telling taken (now + 1))) [] (tells-new placed taken (now + 1) settled) (All-nil (IsSound placed taken (now + 1))));
      keeps = keeps-begun placed taken now status stands.keeps;
      settled = settled;
      own = stands.own;
      ascend = stands.ascend;
    }

-- further messages that are sound
said : (placed taken : List Order) (now : ℕ) (all more : List Aired) (status : Option Status) → Stands placed taken now all status
    → All (IsSound placed taken now) more → Stands placed taken now (all ++ more) status
said placed taken now all more status stands good = record {
  each = All-append (IsSound placed taken now) all more stands.each good;
  keeps = stands.keeps;
  settled = stands.settled;
  own = stands.own;
  ascend = stands.ascend;
}

-- the last order, once more
last-sound : (placed taken : List Order) (now : ℕ) → All (IsSound placed taken now) (order_again placed)
last-sound [] taken now = All-nil (IsSound [] taken now)
last-sound (Load command edition ∷ earlier) taken now =
    let P = IsSound (Load command edition ∷ earlier) taken now in All-cons P (sends.Load command edition) [] (inl refl) (All-nil P)
last-sound (Arm command edition due ∷ earlier) taken now =
    let P = IsSound (Arm command edition due ∷ earlier) taken now in All-cons P (sends.Arm command edition due) [] (inl refl) (All-nil P)

last-plans-sound : (placed taken : List Order) (now : ℕ) (to : List TermNo) → (all : List Order) → All (IsSound placed taken now) (last_plans all to)
last-plans-sound placed taken now to [] = All-nil (IsSound placed taken now)
last-plans-sound placed taken now to (Load command edition ∷ earlier) = plans-sound placed taken now to command edition
last-plans-sound placed taken now to (Arm command edition due ∷ earlier) = All-nil (IsSound placed taken now)

act-sound : (placed taken : List Order) (now : ℕ) (missing : List TermNo) (act : Act) → All (IsSound placed taken now) (sent_by_act placed missing act)
act-sound placed taken now missing Quiet = All-nil (IsSound placed taken now)
act-sound placed taken now missing (RepeatLoad true) =
    All-append (IsSound placed taken now) (order_again placed) (last_plans placed missing) (last-sound placed taken now) (last-plans-sound placed taken now missing placed)
act-sound placed taken now missing (RepeatLoad false) = last-plans-sound placed taken now missing placed
act-sound placed taken now missing RepeatArm = last-sound placed taken now
act-sound placed taken now missing (Want order) = All-nil (IsSound placed taken now)

asking-sound : (placed taken : List Order) (now : ℕ) (in_force : Option EditionNo) (all : List Plan) (asking : List TermNo) → All (IsSound placed taken now) (sent_to_asking in_force placed all asking)
asking-sound placed taken now None all asking = All-nil (IsSound placed taken now)
asking-sound placed taken now (Some edition) all asking = plans-sound placed taken now (filter (has_burst (plan_of all edition)) asking) (load_of placed edition) edition

-- the reference burst of a turn
names-sound : (taken : List Order) (now : ℕ) (found : Option EditionNo) → IsNoneOr found (fore_at taken now) → NamesFront taken now (record { 0 = now }) found
names-sound taken now found (inl none) = rw none tt
names-sound taken now found (inr some) = rw some (record { begun = omega arith; front = refl })

-- what is announced is the last Arm, where it is due later
next-if : (earlier : List Order) (now : ℕ) (command : Command) (edition : EditionNo) (due : Mark) (test : Bool) → nat_lt now due.0 ≡ test
    → IfSome (if test then Some (record { edition = edition; due = due }) else None) (IsAnnounced (Arm command edition due ∷ earlier) now)
next-if earlier now command edition due true e = record { command = command; arms = inl refl; later = grind (arith, nat_tests) }
next-if earlier now command edition due false e = tt

next-sound : (placed : List Order) (now : ℕ) → IfSome (next_of (last_order placed) now) (IsAnnounced placed now)
next-sound [] now = tt
next-sound (Load command edition ∷ earlier) now = tt
next-sound (Arm command edition due ∷ earlier) now = next-if earlier now command edition due _ refl

reference-sound : (placed taken : List Order) (now : ℕ) (found : Option EditionNo) → IsNoneOr found (fore_at taken now)
    → IsSound placed taken now (sends.Reference (record { 0 = now }) found (next_of (last_order placed) now))
reference-sound placed taken now found right = record { names = names-sound taken now found right; announces = next-sound placed now }

-- an edition that a Status of this superframe told is in front
told-front : (placed taken : List Order) (now : ℕ) (edition : EditionNo) (all : List Aired) → is_told all now edition ≡ true → All (IsSound placed taken now) all → edition ≡ fore_at taken now
told-front placed taken now edition all e each =
    let found = told (IsSound placed taken now) now edition all e each in
    sym found.fore ∙ found.holds.shows.front ∙ ap (fore_at taken) found.mark

told-if : (placed taken : List Order) (now : ℕ) (edition : EditionNo) (all : List Aired) (test : Bool) → is_told all now edition ≡ test → All (IsSound placed taken now) all
    → IsNoneOr (if test then Some edition else None) (fore_at taken now)
told-if placed taken now edition all true e each = inr (ap (λ (x : EditionNo). Some x) (told-front placed taken now edition all e each))
told-if placed taken now edition all false e each = inl refl

told-right : (placed taken : List Order) (now : ℕ) (in_force : Option EditionNo) (all : List Aired) → All (IsSound placed taken now) all → IsNoneOr (where_told all now in_force) (fore_at taken now)
told-right placed taken now None all each = inl refl
told-right placed taken now (Some edition) all each = told-if placed taken now edition all _ refl each

known-right : (placed taken : List Order) (now : ℕ) (status : Option Status) → KeepsSound placed taken now status → IsNoneOr (known status placed now) (fore_at taken now)
known-right placed taken now None keeps = inl refl
known-right placed taken now (Some status) keeps = keeps.right now keeps.shows.begun

-- an order is placed
keeps-placed : (order : Order) (placed taken : List Order) (now : ℕ) (status : Option Status) → KeepsSound placed taken now status → KeepsSound (order ∷ placed) taken now status
keeps-placed order placed taken now None keeps = tt
keeps-placed order placed taken now (Some status) keeps = tells-placed order placed taken now status keeps

placed-one : (order : Order) (placed taken : List Order) (now : ℕ) (all : List Aired) (status : Option Status) → Stands placed taken now all status
    → Stands (order ∷ placed) taken now all status
placed-one order placed taken now all status stands = record {
  each = All-weaker (IsSound placed taken now) (IsSound (order ∷ placed) taken now) (sound-placed order placed taken now) all stands.each;
  keeps = keeps-placed order placed taken now status stands.keeps;
  settled = stands.settled;
  own = among-more order placed taken stands.own;
  ascend = stands.ascend;
}

placed-wanted : (order : Option Order) (placed taken : List Order) (now : ℕ) (all : List Aired) (status : Option Status) → Stands placed taken now all status
    → Stands (with_wanted order placed) taken now all status
placed-wanted None placed taken now all status stands = stands
placed-wanted (Some order) placed taken now all status stands = placed-one order placed taken now all status stands

order-sound : (order : Option Order) (placed taken : List Order) (now : ℕ) (all : List Plan) (everyone : List TermNo)
    → All (IsSound (with_wanted order placed) taken now) (sent_by_order all everyone order)
order-sound None placed taken now all everyone = All-nil (IsSound placed taken now)
order-sound (Some (Load command edition)) placed taken now all everyone =
    let P = IsSound (Load command edition ∷ placed) taken now in
    let to = filter (has_burst (plan_of all edition)) everyone in
    All-cons P (sends.Load command edition) (plans_for to command edition) (inl refl) (plans-sound (Load command edition ∷ placed) taken now to command edition)
order-sound (Some (Arm command edition due)) placed taken now all everyone =
    let P = IsSound (Arm command edition due ∷ placed) taken now in All-cons P (sends.Arm command edition due) [] (inl refl) (All-nil P)

-- the centre starts anew
restarted : (placed taken : List Order) (now : ℕ) (all : List Aired) (status : Option Status) → Stands placed taken now all status → Stands placed taken now all None
restarted placed taken now all status stands = record { each = stands.each; keeps = tt; settled = stands.settled; own = stands.own; ascend = stands.ascend }

-- the centre hears
either-tells : (placed taken : List Order) (now : ℕ) (old new : Status) (later : Bool) → Tells placed taken now old → Tells placed taken now new
    → Tells placed taken now (if later then new else old)
either-tells placed taken now old new true a b = b
either-tells placed taken now old new false a b = a

later-keeps : (placed taken : List Order) (now : ℕ) (before : Option Status) (status : Status) → KeepsSound placed taken now before → Tells placed taken now status
    → Tells placed taken now (later_of before status)
later-keeps placed taken now None status keeps tells = tells
later-keeps placed taken now (Some old) status keeps tells = either-tells placed taken now old status (is_later status old) keeps tells

noted : (placed taken : List Order) (now : ℕ) (before : Option Status) (heard : Option Aired) → KeepsSound placed taken now before → IsSoundIfAny placed taken now heard
    → KeepsSound placed taken now (noting before heard)
noted placed taken now before None keeps sound = keeps
noted placed taken now before (Some (sends.Status status)) keeps tells = later-keeps placed taken now before status keeps tells
noted placed taken now before (Some (sends.Load command edition)) keeps sound = keeps
noted placed taken now before (Some (sends.Arm command edition due)) keeps sound = keeps
noted placed taken now before (Some (sends.PlanFor to load edition)) keeps sound = keeps
noted placed taken now before (Some (sends.Confirm from load edition)) keeps sound = keeps
noted placed taken now before (Some (sends.Reference superframe in_force next)) keeps sound = keeps
noted placed taken now before (Some (sends.Lost from)) keeps sound = keeps

centre-hears : (placed taken : List Order) (now : ℕ) (all : List Aired) (before : Option Status) (heard : Option Aired) → Stands placed taken now all before
    → IsSoundIfAny placed taken now heard → Stands placed taken now (all ++ []) (noting before heard)
centre-hears placed taken now all before heard stands sound = record {
  each = All-append (IsSound placed taken now) all [] stands.each (All-nil (IsSound placed taken now));
  keeps = noted placed taken now before heard stands.keeps sound;
  settled = stands.settled;
  own = stands.own;
  ascend = stands.ascend;
}

-- the satellite hears
keeps-joined : (placed taken : List Order) (now : ℕ) (order : Order) (status : Option Status) → MayJoin placed taken now order → KeepsSound placed taken now status
    → KeepsSound placed (order ∷ taken) now status
keeps-joined placed taken now order None may keeps = tt
keeps-joined placed taken now order (Some status) may keeps = tells-joined placed taken now order status may keeps

joined-stands : (placed taken : List Order) (now : ℕ) (all : List Aired) (status : Option Status) (more : List Order) → Stands placed taken now all status
    → (more ≡ []) ⊎ ((order : Order) × (more ≡ order ∷ []) × MayJoin placed taken now order × Settled (order ∷ taken) now)
    → Stands placed (more ++ taken) now (all ++ sent_by_satellite more taken now) status
joined-stands placed taken now all status more stands (inl none) = rw none (said placed taken now all [] status stands (All-nil (IsSound placed taken now)))
joined-stands placed taken now all status more stands (inr one) =
    let order = one.0 in
    let P = IsSound placed (order ∷ taken) now in
    rw one.1 (record {
      each = All-append P all (sends.Status (telling (order ∷ taken) now) ∷ [])
          (All-weaker (IsSound placed taken now) P (λ (sent : Aired). sound-joined placed taken now order sent one.2) all stands.each)
          (All-cons P (sends.Status (telling (order ∷ taken) now)) [] (tells-new placed (order ∷ taken) now one.3) (All-nil P));
      keeps = keeps-joined placed taken now order status one.2 stands.keeps;
      settled = one.3;
      own = All-cons (λ (o : Order). IsAmong o placed) order taken (may-among placed taken now order one.2) stands.own;
      ascend = (may-later placed taken now order one.2, stands.ascend);
    })

satellite-hears : (placed taken : List Order) (now : ℕ) (all : List Aired) (status : Option Status) (some : List Plan) (heard : Option Aired) → Stands placed taken now all status
    → IsSoundIfAny placed taken now heard
    → Stands placed (joining_with taken now some heard ++ taken) now (all ++ sent_by_satellite (joining_with taken now some heard) taken now) status
satellite-hears placed taken now all status some heard stands sound =
    joined-stands placed taken now all status (joining_with taken now some heard) stands (elim (joined placed taken now some heard sound) [
      | Nothing none ↦ inl none
      | One order one free may ↦ inr (order, one, may, free-past taken now stands.settled free)
    ])

-- a terminal hears
confirms-sound : (placed taken : List Order) (now : ℕ) (terminal : TermNo) (edition : EditionNo) (load : Option Command) → All (IsSound placed taken now) (confirms terminal edition load)
confirms-sound placed taken now terminal edition None = All-nil (IsSound placed taken now)
confirms-sound placed taken now terminal edition (Some load) = All-cons (IsSound placed taken now) (sends.Confirm terminal load edition) [] tt (All-nil (IsSound placed taken now))

confirm-sound : (placed taken : List Order) (now : ℕ) (terminal : TermNo) (edition : EditionNo) (load : Option Command) (test : Bool)
    → All (IsSound placed taken now) (if test then confirms terminal edition load else [])
confirm-sound placed taken now terminal edition load true = confirms-sound placed taken now terminal edition load
confirm-sound placed taken now terminal edition load false = All-nil (IsSound placed taken now)

terminal-sound : (placed taken : List Order) (now : ℕ) (after : List Holding) (terminal : TermNo) (heard : Option Aired) → All (IsSound placed taken now) (sent_by_terminal after terminal heard)
terminal-sound placed taken now after terminal None = All-nil (IsSound placed taken now)
terminal-sound placed taken now after terminal (Some (sends.PlanFor to load edition)) = confirm-sound placed taken now terminal edition (load_in after edition) _
terminal-sound placed taken now after terminal (Some (sends.Status status)) = All-nil (IsSound placed taken now)
terminal-sound placed taken now after terminal (Some (sends.Load command edition)) = All-nil (IsSound placed taken now)
terminal-sound placed taken now after terminal (Some (sends.Arm command edition due)) = All-nil (IsSound placed taken now)
terminal-sound placed taken now after terminal (Some (sends.Confirm from load edition)) = All-nil (IsSound placed taken now)
terminal-sound placed taken now after terminal (Some (sends.Reference superframe in_force next)) = All-nil (IsSound placed taken now)
terminal-sound placed taken now after terminal (Some (sends.Lost from)) = All-nil (IsSound placed taken now)

-- what was sent is sound, wherever it is looked up
found-sound : (placed taken : List Order) (now : ℕ) (all : List Aired) (number : ℕ) → All (IsSound placed taken now) all → IsSoundIfAny placed taken now (slice_get all number)
found-sound placed taken now [] number each = tt
found-sound placed taken now (first ∷ rest) zero each = All-head (IsSound placed taken now) first rest each
found-sound placed taken now (first ∷ rest) (suc number) each = found-sound placed taken now rest number (All-tail (IsSound placed taken now) first rest each)

-- what is delivered was sent
abbrev pub Comes : Opening → List Happening → Happening → Type 0
Comes o past (Hears heard place) = IsSoundIfAny (orders o past) (accepted o past) (mark o past) heard
Comes o past (Seconds in_force) = IsNoneOr in_force (fore_at (accepted o past) (mark o past))
Comes o past _ = Unit {0}

-- whatever happens
hears-holds : (o : Opening) (past : List Happening) (heard : Option Aired) (place : Place) → Holds o past → Comes o past (Hears heard place) → Holds o (Hears heard place ∷ past)
hears-holds o past heard Satellite holds sound = satellite-hears (orders o past) (accepted o past) (mark o past) (sent o past) (kept past) (plans o past) heard holds sound
hears-holds o past heard Centre holds sound = centre-hears (orders o past) (accepted o past) (mark o past) (sent o past) (kept past) heard holds sound
hears-holds o past heard (Terminal to) holds sound =
    said (orders o past) (accepted o past) (mark o past) (sent o past) (sent_with o past (Hears heard (Terminal to))) (kept past) holds
    (terminal-sound (orders o past) (accepted o past) (mark o past) _ to heard)

turn-holds : (o : Opening) (past : List Happening) (target : EditionNo) (act : Act) → Holds o past → Holds o (Turns target act ∷ past)
turn-holds o past target act holds =
    let P = IsSound (orders o past) (accepted o past) (mark o past) in
    let acted = sent_by_act (orders o past) (filter (is_missing o past) (terminals o)) act in
    let asked = sent_to_asking (known_now o past) (orders o past) (plans o past) (filter (is_asking o past) (terminals o)) in
    said (orders o past) (accepted o past) (mark o past) (sent o past) (sent_with o past (Turns target act)) (kept past) holds
    (All-cons P (sends.Reference (record { 0 = mark o past }) (known_now o past) (announced o past)) (acted ++ asked)
    (reference-sound (orders o past) (accepted o past) (mark o past) (known_now o past) (known-right (orders o past) (accepted o past) (mark o past) (kept past) holds.keeps))
    (All-append P acted asked
    (act-sound (orders o past) (accepted o past) (mark o past) (filter (is_missing o past) (terminals o)) act)
    (asking-sound (orders o past) (accepted o past) (mark o past) (known_now o past) (plans o past) (filter (is_asking o past) (terminals o)))))

nothing-said : (placed taken : List Order) (now : ℕ) (all : List Aired) (status : Option Status) → Stands placed taken now all status → Stands placed taken now (all ++ []) status
nothing-said placed taken now all status stands = said placed taken now all [] status stands (All-nil (IsSound placed taken now))

pub happening-holds : (o : Opening) (past : List Happening) (happening : Happening) → Holds o past → Comes o past happening → Holds o (happening ∷ past)
happening-holds o past Ticks holds comes = begun (orders o past) (accepted o past) (mark o past) (sent o past) (kept past) holds
happening-holds o past (Turns target act) holds comes = turn-holds o past target act holds
happening-holds o past (Seconds in_force) holds comes =
    let P = IsSound (orders o past) (accepted o past) (mark o past) in
    said (orders o past) (accepted o past) (mark o past) (sent o past) (sends.Reference (record { 0 = mark o past }) in_force None ∷ []) (kept past) holds
    (All-cons P (sends.Reference (record { 0 = mark o past }) in_force None) [] (record { names = names-sound (accepted o past) (mark o past) in_force comes; announces = tt }) (All-nil P))
happening-holds o past Orders holds comes =
    let placed = with_wanted (wanted past) (orders o past) in
    said placed (accepted o past) (mark o past) (sent o past) (sent_by_order (plans o past) (terminals o) (wanted past)) (kept past)
    (placed-wanted (wanted past) (orders o past) (accepted o past) (mark o past) (sent o past) (kept past) holds)
    (order-sound (wanted past) (orders o past) (accepted o past) (mark o past) (plans o past) (terminals o))
happening-holds o past (Hears heard place) holds comes = hears-holds o past heard place holds comes
happening-holds o past Shows holds comes = nothing-said (orders o past) (accepted o past) (mark o past) (sent o past) (kept past) holds
happening-holds o past (Resets terminal) holds comes =
    let P = IsSound (orders o past) (accepted o past) (mark o past) in
    said (orders o past) (accepted o past) (mark o past) (sent o past) (sends.Lost terminal ∷ []) (kept past) holds (All-cons P (sends.Lost terminal) [] tt (All-nil P))
happening-holds o past (Restarts true) holds comes =
    let placed = with_wanted (wanted past) (orders o past) in
    nothing-said placed (accepted o past) (mark o past) (sent o past) None
    (restarted placed (accepted o past) (mark o past) (sent o past) (kept past)
    (placed-wanted (wanted past) (orders o past) (accepted o past) (mark o past) (sent o past) (kept past) holds))
happening-holds o past (Restarts false) holds comes =
    nothing-said (orders o past) (accepted o past) (mark o past) (sent o past) None
    (restarted (orders o past) (accepted o past) (mark o past) (sent o past) (kept past) holds)
happening-holds o past (Installs plan) holds comes = nothing-said (orders o past) (accepted o past) (mark o past) (sent o past) (kept past) holds

-- what an event comes to is one of these
pub comes : (o : Opening) (past : List Happening) (event : Event) → Holds o past → Comes o past (comes_to o past event)
comes o past Tick holds = tt
comes o past (Turn target) holds = tt
comes o past (Second in_force) holds = told-right (orders o past) (accepted o past) (mark o past) in_force (sent o past) holds.each
comes o past Ordered holds = tt
comes o past (Deliver number place) holds = found-sound (orders o past) (accepted o past) (mark o past) (sent o past) number holds.each
comes o past Frame holds = tt
comes o past (ResetTerminal terminal) holds = tt
comes o past (RestartCentre kept) holds = tt
comes o past (Install plan) holds = tt

-- every world
pub world-holds : (o : Opening) (events : List Event) → Holds o (log o events)
world-holds o [] = record { each = All-nil (IsSound o.orders [] (mark o [])); keeps = tt; settled = tt; own = All-nil (λ (one : Order). IsAmong one o.orders); ascend = tt }
world-holds o (event ∷ earlier) =
    let past = log o earlier in let holds = world-holds o earlier in
    happening-holds o past (comes_to o past event) holds (comes o past event holds)

-- each Reference is right
is-right : (placed taken : List Order) (now : ℕ) (one : Aired) → IsSound placed taken now one → IsRight taken one
is-right placed taken now (sends.Load command edition) sound = tt
is-right placed taken now (sends.Arm command edition due) sound = tt
is-right placed taken now (sends.Status status) sound = tt
is-right placed taken now (sends.PlanFor to load edition) sound = tt
is-right placed taken now (sends.Confirm from load edition) sound = tt
is-right placed taken now (sends.Reference superframe None next) sound = tt
is-right placed taken now (sends.Reference superframe (Some edition) next) sound = sound.names.front
is-right placed taken now (sends.Lost from) sound = tt

pub references-right : (o : Opening) (events : List Event) → All (IsRight (accepted o (log o events))) (sent o (log o events))
references-right o events =
    let past = log o events in
    All-weaker (IsSound (orders o past) (accepted o past) (mark o past)) (IsRight (accepted o past)) (is-right (orders o past) (accepted o past) (mark o past)) (sent o past) (world-holds o events).each

-- what each Reference announces is to come
announces-right : (placed taken : List Order) (now : ℕ) (one : Aired) → IsSound placed taken now one → AnnouncesRight placed one
announces-right placed taken now (sends.Load command edition) sound = tt
announces-right placed taken now (sends.Arm command edition due) sound = tt
announces-right placed taken now (sends.Status status) sound = tt
announces-right placed taken now (sends.PlanFor to load edition) sound = tt
announces-right placed taken now (sends.Confirm from load edition) sound = tt
announces-right placed taken now (sends.Reference superframe in_force next) sound = sound.announces
announces-right placed taken now (sends.Lost from) sound = tt

pub references-announce : (o : Opening) (events : List Event) → All (AnnouncesRight (orders o (log o events))) (sent o (log o events))
references-announce o events =
    let past = log o events in
    All-weaker (IsSound (orders o past) (accepted o past) (mark o past)) (AnnouncesRight (orders o past)) (announces-right (orders o past) (accepted o past) (mark o past)) (sent o past) (world-holds o events).each

-- each Status shows the edition in front in its superframe
shows-front : (placed taken : List Order) (now : ℕ) (one : Aired) → IsSound placed taken now one → ShowsFront taken one
shows-front placed taken now (sends.Load command edition) sound = tt
shows-front placed taken now (sends.Arm command edition due) sound = tt
shows-front placed taken now (sends.Status status) tells = tells.shows.front
shows-front placed taken now (sends.PlanFor to load edition) sound = tt
shows-front placed taken now (sends.Confirm from load edition) sound = tt
shows-front placed taken now (sends.Reference superframe in_force next) sound = tt
shows-front placed taken now (sends.Lost from) sound = tt

pub statuses-show : (o : Opening) (events : List Event) → All (ShowsFront (accepted o (log o events))) (sent o (log o events))
statuses-show o events =
    let past = log o events in
    All-weaker (IsSound (orders o past) (accepted o past) (mark o past)) (ShowsFront (accepted o past)) (shows-front (orders o past) (accepted o past) (mark o past)) (sent o past) (world-holds o events).each

-- each Load and Arm is one of the orders
is-ordered : (placed taken : List Order) (now : ℕ) (one : Aired) → IsSound placed taken now one → IsOrdered placed one
is-ordered placed taken now (sends.Load command edition) sound = sound
is-ordered placed taken now (sends.Arm command edition due) sound = sound
is-ordered placed taken now (sends.Status status) sound = tt
is-ordered placed taken now (sends.PlanFor to load edition) sound = tt
is-ordered placed taken now (sends.Confirm from load edition) sound = tt
is-ordered placed taken now (sends.Reference superframe in_force next) sound = tt
is-ordered placed taken now (sends.Lost from) sound = tt

pub messages-ordered : (o : Opening) (events : List Event) → All (IsOrdered (orders o (log o events))) (sent o (log o events))
messages-ordered o events =
    let past = log o events in
    All-weaker (IsSound (orders o past) (accepted o past) (mark o past)) (IsOrdered (orders o past)) (is-ordered (orders o past) (accepted o past) (mark o past)) (sent o past) (world-holds o events).each

-- each Status tells the edition in front
tells-front : (placed taken : List Order) (now : ℕ) (one : Aired) → IsSound placed taken now one → TellsFront placed taken one
tells-front placed taken now (sends.Load command edition) sound = tt
tells-front placed taken now (sends.Arm command edition due) sound = tt
tells-front placed taken now (sends.Status status) tells = tells.right
tells-front placed taken now (sends.PlanFor to load edition) sound = tt
tells-front placed taken now (sends.Confirm from load edition) sound = tt
tells-front placed taken now (sends.Reference superframe in_force next) sound = tt
tells-front placed taken now (sends.Lost from) sound = tt

pub statuses-tell : (o : Opening) (events : List Event) → All (TellsFront (orders o (log o events)) (accepted o (log o events))) (sent o (log o events))
statuses-tell o events =
    let past = log o events in
    All-weaker (IsSound (orders o past) (accepted o past) (mark o past)) (TellsFront (orders o past) (accepted o past)) (tells-front (orders o past) (accepted o past) (mark o past)) (sent o past) (world-holds o events).each
